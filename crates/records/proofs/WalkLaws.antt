-- The records of a packet one by one: the first, and those behind it.
-- Assumes nothing.
use Prim.Native.Nat.{ℕ, zero, suc, ◌+◌, ◌-◌, ◌≤◌, ◌<◌}
use mathlib.Core.Bool.{Bool}
use mathlib.Core.Path.{◌≡◌, refl, sym, ap, subst}
use mathlib.Core.List.{List, ◌∷◌, ◌++◌}
use native.Mathlib.Omega.{arith}
use lib.ListN.{length, length-append}
use Rattle.laws.specs.Lists.{All}
use Rattle.protocol.specs.declared.CsaNumber.{CsaNumber}
use Rattle.protocol.specs.Fields.{field2}
use Rattle.protocol.specs.Messages.{CsaRecord}
use Rattle.protocol.specs.Sizes.{id_length, payload_most}
use Rattle.protocol.specs.Reading.{records_at, record_at}
use Rattle.memory.specs.Memory.{entry_named}
use Rattle.memory.specs.Search.{FitsName}
use Rattle.memory.proofs.NameLaws.{named_entry}
use Rattle.wire.specs.declared.record.Cursor.{Cursor}
use Rattle.wire.specs.Views.{records_of}
use Rattle.wire.proofs.Records.{next_record}
use Rattle.records.specs.declared.packet.Records.{Records}
use Rattle.records.specs.Places.{entry_record}
use Rattle.records.specs.Views.{records_left}
use Rattle.records.specs.Walks.{Fits, Walks}

-- ---- as many records as are left
records_length : (w : ℕ) (p : List ℕ) (n at : ℕ) → length (records_at w p n at) ≡ n
unfolding records_at
records_length w p zero at = refl
records_length w p (suc n) at = ap suc (records_length w p n _)

pub left_records : (p : List ℕ) (c : Cursor) → length (records_of p c) ≡ c.left
left_records p c = records_length id_length p c.left c.at

pub few_records : (r : Records) → length (records_left r) ≤ 4
few_records r = let e = left_records r.packet.now r.cursor in let f = r.walks.few in omega arith

-- ---- a step
module _ (p : List ℕ) (at left : ℕ) (w : Walks p (record { at = at; left = left })) (some : 0 < left) where
  abbrev first : CsaRecord
  first = record_at id_length p at

  pub first_fits : (at ≤ 1048576) × Fits first
  first_fits = let r = w.reach in (omega arith, (subst (All Fits) (next_record p left at some refl) w.fits).0)

  -- what is read of it
  module _ (name payload : List ℕ) (n : name ≡ first.key ++ first.originator) (e : payload ≡ first.payload) where
    pub first_named : FitsName name × (length payload ≤ payload_most)
    first_named =
        let f = first_fits.1 in
        let key = f.key_fits in
        let some_key = f.some_key in
        let originator = f.originator_fits in
        let fits = f.payload_fits in
        let both = length-append first.key first.originator in
        let names : length name ≡ length (first.key ++ first.originator) = ap length n in
        let payloads : length payload ≡ length first.payload = ap length e in
        ((omega arith, omega arith), omega arith)

    pub first_is : (hops : ℕ) (null : Bool) (number : CsaNumber) → hops ≡ first.hops → null ≡ first.null → number ≡ first.number
        → first ≡ entry_record hops null number (entry_named name) payload
    first_is hops null number h b m =
        let q = named_entry first.key first.originator name first_fits.1.originator_fits n in
        sym (λ i. entry_record (h i) (b i) (m i) (q i) (e i))

  module _ (size : ℕ) (e : (size ≡ field2 p (at + 2)) × (size ≤ 65535)) where
    abbrev rest : Cursor
    rest = record { at = at + size; left = left - 1 }

    pub first_then : records_of p (record { at = at; left = left }) ≡ first ∷ records_of p rest
    first_then = next_record p left at some e.0

    pub rest_walks : Walks p rest
    rest_walks =
        let few = w.few in
        let reach = w.reach in
        let small = e.1 in
        record { few = omega arith; reach = omega arith; fits = (subst (All Fits) first_then w.fits).1 }
