-- A walk over the records or receivers of a packet.
-- Assumes nothing.
use Rattle.std.proofs.Common.{ℕ, zero, suc, ◌+◌, ◌-◌, ◌<◌, ◌≡◌, List, [], ◌∷◌, sym, ap, arith}
use Rattle.laws.specs.Lists.{part}
use Rattle.protocol.specs.Sizes.{id_length}
use Rattle.protocol.specs.Fields.{field2}
use Rattle.protocol.specs.Reading.{record_at, records_at, receivers_at}

module _ (p : List ℕ) where
  -- `left` of them from `at` on
  module _ (left at : ℕ) where
    pub no_records : left ≡ 0 → records_at id_length p left at ≡ []
    unfolding records_at
    no_records e = ap (λ (n : ℕ). records_at id_length p n at) e

    pub no_receivers : left ≡ 0 → receivers_at id_length p left at ≡ []
    unfolding receivers_at
    no_receivers e = ap (λ (n : ℕ). receivers_at id_length p n at) e

  -- n is the length of the record at `at`
  pub next_record : (left at : ℕ) {n : ℕ} → 0 < left → n ≡ field2 p (at + 2)
      → records_at id_length p left at ≡ record_at id_length p at ∷ records_at id_length p (left - 1) (at + n)
  unfolding records_at
  next_record zero at h e = absurd (omega arith)
  next_record (suc m) at h e =
      let f : m ≡ suc m - 1 = omega arith in
      λ i. record_at id_length p at ∷ records_at id_length p (f i) (at + sym e i)

  pub next_receiver : (left at : ℕ) → 0 < left → receivers_at id_length p left at ≡ part p (at + 1) id_length ∷ receivers_at id_length p (left - 1) (at + 5)
  unfolding receivers_at
  next_receiver zero at h = absurd (omega arith)
  next_receiver (suc m) at h =
      let f : m ≡ suc m - 1 = omega arith in
      λ i. part p (at + 1) id_length ∷ receivers_at id_length p (f i) (at + 5)
