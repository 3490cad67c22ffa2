-- The refusals of the fixed part.
-- Assumes nothing.
use Rattle.std.proofs.Common.{ℕ, ◌≡◌, Bool, true, false, not, List, [], ◌∷◌, ap, arith}
use Rattle.std.specs.Prelude.{Err}
use Rattle.protocol.specs.Sizes.{id_length}
use Rattle.protocol.specs.Fields.{octet}
use Rattle.protocol.specs.Checksum.{good_sum}
use Rattle.protocol.specs.Answers.{refuse, first_code, length_good, version_good, type_good, no_extensions, fixed_code}
use Rattle.protocol.specs.Reading as protocol
use Rattle.protocol.specs.Reading.{kind_of, by_code, read_packet}
use Rattle.wire.specs.declared.read.Refusal.{Refusal}
use Rattle.wire.specs.declared.read.Refusal.TheVariants.{Length, Version, «Type» as Wrong-type, Checksum, Extensions, Malformed}
use Rattle.wire.specs.Views.{refused_as, Reads}

-- the codes are 5 to 9: none is that of a malformed packet
not_ten : (p : List ℕ) → 10 ≡ fixed_code id_length p → ⊥
unfolding fixed_code
not_ten p = go (length_good id_length p) (version_good p) (type_good p) (good_sum p) (no_extensions p)
  where
    go : (a b c d e : Bool)
        → 10 ≡ first_code (refuse (not a) 5 ∷ refuse (not b) 6 ∷ refuse (not c) 7 ∷ refuse (not d) 8 ∷ refuse (not e) 9 ∷ [])
        → ⊥
    go false b c d e h = omega arith
    go true false c d e h = omega arith
    go true true false d e h = omega arith
    go true true true false e h = omega arith
    go true true true true false h = omega arith
    go true true true true true h = omega arith

pub refused : (p : List ℕ) (r : Refusal) → protocol.refusal_of (refused_as r) ≡ fixed_code id_length p → Reads p (Err r)
unfolding read_packet
refused p r h = record { means = go r h; near = omega arith }
  where
    go : (r : Refusal) → protocol.refusal_of (refused_as r) ≡ fixed_code id_length p
        → refused_as r ≡ by_code (fixed_code id_length p) id_length (kind_of (octet p 1)) p
    go Length h = ap (λ (x : ℕ). by_code x id_length (kind_of (octet p 1)) p) h
    go Version h = ap (λ (x : ℕ). by_code x id_length (kind_of (octet p 1)) p) h
    go Wrong-type h = ap (λ (x : ℕ). by_code x id_length (kind_of (octet p 1)) p) h
    go Checksum h = ap (λ (x : ℕ). by_code x id_length (kind_of (octet p 1)) p) h
    go Extensions h = ap (λ (x : ℕ). by_code x id_length (kind_of (octet p 1)) p) h
    go (Malformed at) h = absurd (not_ten p h)
