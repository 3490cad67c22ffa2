-- Records and receivers that a check found fine have the layout of what is read of them.
-- Assumes nothing.
use Prim.Native.Nat.{ℕ, zero, suc, ◌+◌, ◌*◌, ◌%◌, ◌≤◌, ◌<◌}
use mathlib.Core.Path.{◌≡◌, refl, sym, ap, ◌∙◌}
use mathlib.Core.Bool.{Bool, true, false}
use mathlib.Core.List.{List, [], ◌∷◌, ◌++◌, append_assoc}
use native.Mathlib.Omega.{arith}
use lib.ListN.{length, drop}
use lib.Seq.{drop-length}
use lib.Dec.{leb}
use borrow.Author.Tests.{leb-true, leb-false}
use mir.Syntax.{w32}
use mir.ValLaws.{of_z-to_z}
use Rattle.laws.specs.Lists.{part}
use Rattle.laws.proofs.Lists.{peel1, peel_part, part_length}
use Rattle.protocol.specs.declared.Kind.{Kind}
use Rattle.protocol.specs.declared.Kind.TheVariants.{Hello}
use Rattle.protocol.specs.Checks.{Fine}
use Rattle.protocol.specs.Sizes.{record_size}
use Rattle.protocol.specs.Fields.{octet, field2, field4, put2, put4}
use Rattle.protocol.specs.Numbers as numbers
use Rattle.protocol.specs.Layouts.{bit, record_octets, records_octets, receivers_octets}
use Rattle.protocol.specs.Checks.{is_hello_kind, null_at, summary_size, payload_size, elements_check}
use Rattle.protocol.specs.Reading.{record_at, records_at, receivers_at}
use Rattle.protocol.specs.WellFormed.{Octets}
use Rattle.protocol.specs.Unread.{beside_at}
use Rattle.protocol.proofs.Peel.{peel2, peel4, bits_fit}
use Rattle.protocol.proofs.Told.{RecordTold, end_told, next_record, next_receiver}

-- the N bit and the 15 beside it
null_bits : (a b : ℕ) (t : Bool) → leb 128 a ≡ t → a < 256 → b < 256 → bit t * 32768 + (a * 256 + b) % 32768 ≡ a * 256 + b
null_bits a b true e h g = let f = leb-true 128 a e in omega arith
null_bits a b false e h g = let f = leb-false 128 a e in omega arith

-- a record's fields, before the octets that follow
abbrev record_form : ℕ → ℕ → ℕ → ℕ → ℕ → ℕ → List ℕ → List ℕ → List ℕ → List ℕ → List ℕ
record_form hops len key orig flags bits a b c rest =
    put2 hops (put2 len (key ∷ orig ∷ put2 flags (put4 bits (a ++ (b ++ (c ++ rest))))))

module _ (w : ℕ) (k : Kind) (p : List ℕ) (r : ℕ) (t : RecordTold w k p r) where
  abbrev len : ℕ
  len = field2 p (r + 2)

  abbrev key : List ℕ
  key = part p (r + record_size) (octet p (r + 4))

  abbrev orig : List ℕ
  orig = part p (r + record_size + octet p (r + 4)) w

  abbrev pay : List ℕ
  pay = part p (r + summary_size w p r) (payload_size w p r)

  pub key_length : length key ≡ octet p (r + 4)
  key_length = let e = t.ends in let g = t.covers in part_length p (r + record_size) (octet p (r + 4)) (omega arith)

  pub originator_length : length orig ≡ w
  originator_length = let e = t.ends in let g = t.covers in part_length p (r + record_size + octet p (r + 4)) w (omega arith)

  pub payload_length_lem : length pay ≡ payload_size w p r
  payload_length_lem = let e = t.ends in let g = t.covers in part_length p (r + summary_size w p r) (payload_size w p r) (omega arith)

  module _ (o : Octets p) where
    peeled : drop r p ≡ record_form (field2 p r) len (octet p (r + 4)) (octet p (r + 5)) (field2 p (r + 6)) (field4 p (r + 8)) key orig pay (drop (r + len) p)
    peeled =
        let e = t.ends in
        let g = t.covers in
        let n : ℕ = octet p (r + 4) in
        peel2 p o r (r + 2) refl (omega arith)
        ∙ ap (put2 (field2 p r)) (peel2 p o (r + 2) (r + 4) (omega arith) (omega arith)
        ∙ ap (put2 len) (peel1 p (r + 4) (r + 5) (omega arith) (omega arith)
        ∙ ap (λ (l : List ℕ). n ∷ l) (peel1 p (r + 5) (r + 6) (omega arith) (omega arith)
        ∙ ap (λ (l : List ℕ). octet p (r + 5) ∷ l) (peel2 p o (r + 6) (r + 8) (omega arith) (omega arith)
        ∙ ap (put2 (field2 p (r + 6))) (peel4 p o (r + 8) (r + record_size) (omega arith) (omega arith)
        ∙ ap (put4 (field4 p (r + 8))) (peel_part p (r + record_size) n (r + record_size + n) refl
        ∙ ap (λ (l : List ℕ). key ++ l) (peel_part p (r + record_size + n) w (r + summary_size w p r) (omega arith)
        ∙ ap (λ (l : List ℕ). orig ++ l) (peel_part p (r + summary_size w p r) (payload_size w p r) (r + len) (omega arith)))))))))

    pub record_exact : drop r p ≡ record_octets (field2 p (r + 6) % 32768) (record_at w p r) ++ drop (r + len) p
    unfolding record_octets record_at
    record_exact =
        let rest : List ℕ = drop (r + len) p in
        let size : len ≡ record_size + length key + length orig + length pay =
        let a = key_length in let b = originator_length in let c = payload_length_lem in let g = t.covers in omega arith in
        let flags : field2 p (r + 6) ≡ bit (null_at p r) * 32768 + field2 p (r + 6) % 32768 =
        sym (null_bits (octet p (r + 6)) (octet p (r + 6 + 1)) (null_at p r) refl (o (r + 6)) (o (r + 6 + 1))) in
        let bits : field4 p (r + 8) ≡ numbers.bits_of (numbers.csa_of (field4 p (r + 8))) =
        sym (of_z-to_z w32 (field4 p (r + 8)) (bits_fit p o (r + 8))) in
        let orig-length : octet p (r + 5) ≡ length orig = t.originator ∙ sym originator_length in
        peeled
        ∙ (λ i. record_form (field2 p r) (size i) (sym key_length i) (orig-length i) (flags i) (bits i) key orig pay rest)
        ∙ ap (λ (l : List ℕ). record_form (field2 p r) (record_size + length key + length orig + length pay) (length key) (length orig)
        (bit (null_at p r) * 32768 + field2 p (r + 6) % 32768) (numbers.bits_of (numbers.csa_of (field4 p (r + 8)))) [] [] [] l) joined
      where
        joined : key ++ (orig ++ (pay ++ drop (r + len) p)) ≡ (key ++ (orig ++ pay)) ++ drop (r + len) p
        joined = ap (λ (l : List ℕ). key ++ l) (sym (append_assoc orig pay (drop (r + len) p))) ∙ sym (append_assoc key (orig ++ pay) (drop (r + len) p))

pub end_exact : (w : ℕ) (k : Kind) (p : List ℕ) (at : ℕ) → elements_check w k p zero at ≡ Fine → drop at p ≡ []
end_exact w k p at h = ap (λ (n : ℕ). drop n p) (end_told w k p at h) ∙ drop-length p

module _ (w : ℕ) (p : List ℕ) (o : Octets p) where
  pub records_exact : (k : Kind) → is_hello_kind k ≡ false → (n at : ℕ) → elements_check w k p n at ≡ Fine
      → drop at p ≡ records_octets (beside_at p n at) (records_at w p n at)
  unfolding records_octets beside_at records_at
  records_exact k e zero at h = end_exact w k p at h
  records_exact k e (suc n) at h =
      let f = next_record w k p n at e h in
      record_exact w k p at f.0 o
      ∙ ap (λ (l : List ℕ). record_octets (field2 p (at + 6) % 32768) (record_at w p at) ++ l) (records_exact k e n (at + field2 p (at + 2)) f.1)

  pub receivers_exact : (n at : ℕ) → elements_check w Hello p n at ≡ Fine → drop at p ≡ receivers_octets (receivers_at w p n at)
  unfolding receivers_octets receivers_at
  receivers_exact zero at h = end_exact w Hello p at h
  receivers_exact (suc n) at h =
      let f = next_receiver w p n at h in
      let room : (at + 1) + w ≤ length p = f.0.1 in
      let size : octet p at ≡ length (part p (at + 1) w) = f.0.0 ∙ sym (part_length p (at + 1) w room) in
      peel1 p at (at + 1) refl (omega arith)
      ∙ (λ i. size i ∷ peel_part p (at + 1) w (at + (1 + w)) (omega arith) i)
      ∙ ap (λ (l : List ℕ). length (part p (at + 1) w) ∷ (part p (at + 1) w ++ l)) (receivers_exact n (at + (1 + w)) f.1)
