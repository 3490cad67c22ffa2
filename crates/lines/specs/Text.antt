-- Document 01, 'The replay program': a line as text, its numbers in decimal with a space between them, and a line end; or `cut`.
-- Assumes nothing.
use Rattle.std.specs.Prelude.{◌≡◌, ℕ, ◌%◌, List, [], ◌∷◌, ◌++◌}
use Rattle.laws.specs.Puts.{Put}
use Rattle.rules.specs.Replay.{Line}
use Rattle.io.specs.Digits.{last_digits, IsDigitCount}

-- a number in decimal, with no zeros before it, and an octet behind it
pub record NumberText (n behind : ℕ) (t : List ℕ) : Type 0 where
  pub places : ℕ
  pub fewest : IsDigitCount 10 1 n places
  pub text : t ≡ last_digits 10 places n ++ (behind ∷ [])

pub record PutsNumber (n behind at : ℕ) (before after : List ℕ) (r : ℕ) : Type 0 where
  pub octets : List ℕ
  pub means : NumberText n behind octets
  pub put : Put octets at before after r

-- some numbers, a space behind each but the last, which has a line end
abbrev pub NumbersText : List ℕ → List ℕ → Type 0
NumbersText [] t = t ≡ []
NumbersText (n ∷ []) t = NumberText n 10 t
NumbersText (n ∷ m ∷ ns) t = (a : List ℕ) × (b : List ℕ) × NumberText n 32 a × NumbersText (m ∷ ns) b × (t ≡ a ++ b)

pub record PutsNumbers (ns : List ℕ) (at : ℕ) (before after : List ℕ) (r : ℕ) : Type 0 where
  pub octets : List ℕ
  pub means : NumbersText ns octets
  pub put : Put octets at before after r

-- event numbers have 64 bits and go round
abbrev pub numbers_most : ℕ
numbers_most = 18446744073709551616

-- `cut` and a line end
abbrev pub cut_text : List ℕ
cut_text = 99 ∷ 117 ∷ 116 ∷ 10 ∷ []

-- the text of a line
abbrev pub LineText : List ℕ → List ℕ → Type 0
LineText [] t = t ≡ cut_text
LineText (n ∷ ns) t = NumbersText (n % numbers_most ∷ ns) t

-- of several
abbrev pub LinesText : List Line → List ℕ → Type 0
LinesText [] t = t ≡ []
LinesText (l ∷ ls) t = (a : List ℕ) × (b : List ℕ) × LineText l.numbers a × LinesText ls b × (t ≡ a ++ b)

-- their text is put at a place; `lines` has them for each event number that the 64 bits `number` stand for
pub record Prints (number : ℕ) (lines : ℕ → List Line) (at : ℕ) (before after : List ℕ) (r : ℕ) : Type 0 where
  pub octets : List ℕ
  pub means : (k : ℕ) → number ≡ k % numbers_most → LinesText (lines k) octets
  pub put : Put octets at before after r
