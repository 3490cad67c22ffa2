-- There are at most 20 digits, so they and the octet behind them fit.
use Rattle.std.proofs.Common.{◌≤◌, length, take, arith}
use Rattle.lines.proofs.TextLaws.{few_digits, number_put}
use Rattle.lines.proofs.text.put_long.Goals as goal

pub returns-clause-puts_number : goal.returns-clause-puts_number
returns-clause-puts_number c =
    let a = c.args in
    let d = c.decimal-k in
    let few : length (take d.result d.new.out) ≤ 20 = omega (arith, few_digits a.n d.result (omega arith) d.ensures.len, d.ensures.in_bounds) in
    (number_put a.n a.behind a.at d.result (take d.result d.new.out) a.text.now c.put-end.new.out c.put-end.result
    c.requires few d.ensures.len d.ensures.digits c.put-end.ensures).0
