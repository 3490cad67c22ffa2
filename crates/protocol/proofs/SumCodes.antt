-- 02, L4, of packets that are read: code 8 is given where the field is not right, and a message has a right field. Of any octets.
-- Assumes nothing.
use Prim.Native.Nat.{ℕ, ◌≤◌}
use mathlib.Core.Path.{◌≡◌, sym, ◌∙◌}
use mathlib.Core.Bool.{true, false}
use mathlib.Core.List.{List}
use mathlib.Core.Logic.{◌↔◌}
use native.Mathlib.Omega.{arith}
use Rattle.protocol.specs.Checksum.{good_sum, right_field}
use Rattle.protocol.specs.Messages.{Message}
use Rattle.protocol.specs.Answers.{length_good, version_good, type_good}
use Rattle.protocol.specs.Reading.{message, read_packet, refusal_of}
use Rattle.protocol.specs.WellFormed.{Octets}
use Rattle.protocol.proofs.Codes.{code_8, read_as}
use Rattle.protocol.proofs.Exact.{length_told}
use Rattle.protocol.proofs.SumField.{good_field}

module _ (w : ℕ) (p : List ℕ) (narrow : w ≤ 20) (o : Octets p) where
  -- a packet of a good length
  told : length_good w p ≡ true → good_sum p ≡ right_field p
  told h = let n = length_told w p h in good_field p o (omega (arith, n.1))

  pub code_8_field : (refusal_of (read_packet w p) ≡ 8)
      ↔ ((length_good w p ≡ true) × (version_good p ≡ true) × (type_good p ≡ true) × (right_field p ≡ false))
  code_8_field = (
    λ e. let f = (code_8 w p).0 e in (f.0, f.1, f.2, sym (told f.0) ∙ f.3),
    λ f. (code_8 w p).1 (f.0, f.1, f.2, told f.0 ∙ f.3),
  )

  pub exact_field : (m : Message) → read_packet w p ≡ message m → right_field p ≡ true
  exact_field m e = let f = (read_as w p m e).0 in sym (told f.0) ∙ f.3
