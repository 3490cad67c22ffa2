-- By the number of digits, each of one to five in its own branch.
use Rattle.std.proofs.Common.{[], ◌∷◌}
use Rattle.lines.proofs.TextLaws.{short_put, two_digits, three_digits, four_digits, five_digits}
use Rattle.lines.proofs.text.put_number.Goals as goal

pub returns-then-n-lt100-clause-puts_number : goal.returns-then-n-lt100-clause-puts_number
returns-then-n-lt100-clause-puts_number c =
    let a = c.args in
    let s = two_digits a.n a.behind c.digit-then-n-lt100.result c.digit-then-n-lt100-2.result
    c.if-n-lt10.false c.if-n-lt100.true
    c.digit-then-n-lt100.ensures c.digit-then-n-lt100-2.ensures in
    (short_put a.n a.behind a.at 2
    (c.digit-then-n-lt100.result ∷ c.digit-then-n-lt100-2.result ∷ a.behind ∷ [])
    a.text.now c.put-then-n-lt100.new.out c.put-then-n-lt100.result s c.put-then-n-lt100.ensures).0

pub returns-then-n-lt1000-clause-puts_number : goal.returns-then-n-lt1000-clause-puts_number
returns-then-n-lt1000-clause-puts_number c =
    let a = c.args in
    let s = three_digits a.n a.behind c.digit-then-n-lt1000.result c.digit-then-n-lt1000-2.result c.digit-then-n-lt1000-3.result
    c.if-n-lt100.false c.if-n-lt1000.true
    c.digit-then-n-lt1000.ensures c.digit-then-n-lt1000-2.ensures c.digit-then-n-lt1000-3.ensures in
    (short_put a.n a.behind a.at 3
    (c.digit-then-n-lt1000.result ∷ c.digit-then-n-lt1000-2.result ∷ c.digit-then-n-lt1000-3.result ∷ a.behind ∷ [])
    a.text.now c.put-then-n-lt1000.new.out c.put-then-n-lt1000.result s c.put-then-n-lt1000.ensures).0

pub returns-then-n-lt10000-clause-puts_number : goal.returns-then-n-lt10000-clause-puts_number
returns-then-n-lt10000-clause-puts_number c =
    let a = c.args in
    let s = four_digits a.n a.behind c.digit-then-n-lt10000.result c.digit-then-n-lt10000-2.result
    c.digit-then-n-lt10000-3.result c.digit-then-n-lt10000-4.result
    c.if-n-lt1000.false c.if-n-lt10000.true
    c.digit-then-n-lt10000.ensures c.digit-then-n-lt10000-2.ensures c.digit-then-n-lt10000-3.ensures c.digit-then-n-lt10000-4.ensures in
    (short_put a.n a.behind a.at 4
    (c.digit-then-n-lt10000.result ∷ c.digit-then-n-lt10000-2.result ∷ c.digit-then-n-lt10000-3.result ∷ c.digit-then-n-lt10000-4.result ∷ a.behind ∷ [])
    a.text.now c.put-then-n-lt10000.new.out c.put-then-n-lt10000.result s c.put-then-n-lt10000.ensures).0

pub returns-then-n-lt100000-clause-puts_number : goal.returns-then-n-lt100000-clause-puts_number
returns-then-n-lt100000-clause-puts_number c =
    let a = c.args in
    let s = five_digits a.n a.behind c.digit-then-n-lt100000.result c.digit-then-n-lt100000-2.result
    c.digit-then-n-lt100000-3.result c.digit-then-n-lt100000-4.result c.digit-then-n-lt100000-5.result
    c.if-n-lt10000.false c.if-n-lt100000.true
    c.digit-then-n-lt100000.ensures c.digit-then-n-lt100000-2.ensures c.digit-then-n-lt100000-3.ensures
    c.digit-then-n-lt100000-4.ensures c.digit-then-n-lt100000-5.ensures in
    (short_put a.n a.behind a.at 5
    (c.digit-then-n-lt100000.result ∷ c.digit-then-n-lt100000-2.result ∷ c.digit-then-n-lt100000-3.result ∷
    c.digit-then-n-lt100000-4.result ∷ c.digit-then-n-lt100000-5.result ∷ a.behind ∷ [])
    a.text.now c.put-then-n-lt100000.new.out c.put-then-n-lt100000.result s c.put-then-n-lt100000.ensures).0
