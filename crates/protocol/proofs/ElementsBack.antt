-- The records, or receivers, that are written are read back, and nothing is left over behind them.
-- Assumes nothing.
use Prim.Native.Nat.{ℕ, suc, ◌+◌, ◌-◌, ◌≤◌, ◌<◌}
use mathlib.Core.Path.{◌≡◌, refl, sym, ap, ◌∙◌}
use mathlib.Core.Bool.{true, false}
use mathlib.Core.List.{List, [], ◌∷◌, ◌++◌}
use native.Mathlib.Omega.{arith}
use lib.ListN.{length, get_or, drop, length-drop}
use lib.Seq.{get_or-drop}
use borrow.Author.Tests.{eq-eqb}
use Rattle.laws.specs.Lists.{All}
use Rattle.laws.proofs.Lists.{octet_in_lem, drop_in, room_in, part_in, behind, room_behind}
use Rattle.protocol.specs.declared.Kind.{Kind}
use Rattle.protocol.specs.declared.Kind.TheVariants.{Hello}
use Rattle.protocol.specs.Checks.{Fine}
use Rattle.protocol.specs.Fields.{octet, field2}
use Rattle.protocol.specs.Messages.{CsaRecord}
use Rattle.protocol.specs.Layouts.{records_octets, receivers_octets}
use Rattle.protocol.specs.Checks.{is_hello_kind, element_check, element_size, elements_check}
use Rattle.protocol.specs.Reading.{records_at, receivers_at}
use Rattle.protocol.specs.WellFormed.{Id, GoodRecord}
use Rattle.protocol.proofs.Places.{done, ◌also◌, all_fine, field_fine}
use Rattle.protocol.proofs.RecordBack.{Shown, shown, record_read, record_fine}
use Rattle.protocol.proofs.Told.{record_check, record_size_lem}

-- the 15 bits beside N, as the ignored fields of a layout hold them
abbrev pub SmallBeside : List ℕ → Type 0
SmallBeside beside = (i : ℕ) → get_or beside i 0 < 32768

pub small_next : (beside : List ℕ) → SmallBeside beside → SmallBeside (drop 1 beside)
small_next beside small i = rw get_or-drop (small (1 + i))

-- the end of the packet
end_fine : (w : ℕ) (k : Kind) (p : List ℕ) (at : ℕ) → drop at p ≡ [] → at ≤ length p → elements_check w k p 0 at ≡ Fine
unfolding elements_check
end_fine w k p at e h =
    let n : length p - at ≡ 0 = sym (length-drop at p) ∙ ap length e in
    rw (eq-eqb at (length p) (omega arith))

-- an element that is fine, before others that are
element_fine : (w : ℕ) (k : Kind) (p : List ℕ) (n at : ℕ) → element_check w k p at ≡ Fine → elements_check w k p n (at + element_size w k p at) ≡ Fine
    → elements_check w k p (suc n) at ≡ Fine
unfolding elements_check
element_fine w k p n at h g = rw h g

-- ---- records
pub record RecordsBack (w : ℕ) (k : Kind) (p : List ℕ) (at : ℕ) (rs : List CsaRecord) : Type 0 where
  pub fine : elements_check w k p (length rs) at ≡ Fine
  pub read : records_at w p (length rs) at ≡ rs

module _ (w : ℕ) (k : Kind) (p : List ℕ) (plain : is_hello_kind k ≡ false) where
  pub records_back : (rs : List CsaRecord) (beside : List ℕ) (at : ℕ) → drop at p ≡ records_octets beside rs → at ≤ length p → SmallBeside beside
      → All (GoodRecord w k) rs → RecordsBack w k p at rs
  unfolding records_octets records_at
  records_back [] beside at e h small good = record { fine = end_fine w k p at e h; read = refl }
  records_back (r ∷ rs) beside at e h small good =
      let s : Shown w p at r (records_octets (drop 1 beside) rs) = shown w p at (get_or beside 0 0) r _ e h (small 0) good.0.originator.size in
      let next : RecordsBack w k p (at + field2 p (at + 2)) rs =
      records_back rs (drop 1 beside) (at + field2 p (at + 2)) s.rest_at s.room (small_next beside small) good.1 in
      record {
        fine = element_fine w k p (length rs) at (record_check w k p at plain ∙ record_fine w k p at r _ s good.0)
            (ap (λ (n : ℕ). elements_check w k p (length rs) (at + n)) (record_size_lem w k p at plain) ∙ next.fine);
        read = λ i. record_read w p at r _ s good.0.number_fits i ∷ next.read i;
      }

-- ---- the receivers of a Hello
pub record ReceiversBack (w : ℕ) (p : List ℕ) (at : ℕ) (ids : List (List ℕ)) : Type 0 where
  pub fine : elements_check w Hello p (length ids) at ≡ Fine
  pub read : receivers_at w p (length ids) at ≡ ids

pub receivers_back : (w : ℕ) (p : List ℕ) (ids : List (List ℕ)) (at : ℕ) → drop at p ≡ receivers_octets ids → at ≤ length p → All (Id w) ids
    → ReceiversBack w p at ids
unfolding receivers_octets receivers_at element_check
receivers_back w p [] at e h good = record { fine = end_fine w Hello p at e h; read = refl }
receivers_back w p (id ∷ ids) at e h good =
    let width : length id ≡ w = good.0.size in
    let n : octet p at ≡ length id = octet_in_lem p at _ e at 0 (omega arith) in
    let i : at + 1 ≤ length p = room_in p at _ e (at + 1) 1 refl (omega arith) h in
    let d : drop (at + 1) p ≡ id ++ receivers_octets ids = drop_in p at _ e (at + 1) 1 refl in
    let j : at + 1 + length id ≤ length p = room_behind p (at + 1) id _ d i in
    let next : ReceiversBack w p (at + (1 + w)) ids =
    receivers_back w p ids (at + (1 + w)) (behind p (at + 1) id _ d (at + (1 + w)) (omega arith)) (omega arith) good.1 in
    record {
      fine = element_fine w Hello p (length ids) at
          (all_fine (field_fine p at 1 _ i (eq-eqb (octet p at) w (n ∙ width)) also field_fine p (at + 1) w true (omega arith) refl also done))
          next.fine;
      read = λ k. part_in p (at + 1) id _ d (at + 1) w refl (sym width) k ∷ next.read k;
    }
