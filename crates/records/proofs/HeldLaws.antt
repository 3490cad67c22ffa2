-- Rows put as records: one row, and those that were picked.
-- Assumes nothing.
use Prim.Native.Nat.{ℕ, suc, ◌+◌, ◌*◌, ◌%◌, ◌≤◌, ◌<◌}
use mathlib.Core.Path.{◌≡◌, refl, sym, ap, ◌∙◌, subst}
use mathlib.Core.Bool.{Bool, true, false}
use mathlib.Core.List.{List, [], ◌∷◌, ◌++◌, append-nil, append_assoc}
use native.Mathlib.Numerals.{add-one}
use native.Mathlib.Omega.{arith}
use lib.ListN.{length, drop, get_or, drop_of_length-le, length-append}
use lib.Seq.{drop-cons}
use Rattle.protocol.specs.declared.CsaNumber.{CsaNumber}
use Rattle.protocol.specs.Messages.{CsaRecord}
use Rattle.rules.specs.Server.{rows_most, Entry, Value, Row, free, used, is_used}
use Rattle.rules.specs.Rows.{used1, rows_of}
use Rattle.rules.specs.Updates.{record_of}
use Rattle.rules.specs.Alignment.{summary_record}
use Rattle.memory.specs.Layout.{memory_size}
use Rattle.memory.specs.Memory.{entry_named, row_entry, value_at, row_in, rows_in}
use Rattle.memory.proofs.NameLaws.{named_entry}
use Rattle.memory.proofs.RowPlaces.{row_get, used_row_lem, free_row, originator_long}
use Rattle.records.specs.declared.put.Placed.{Placed}
use Rattle.records.specs.declared.held.Shape.{Shape}
use Rattle.records.specs.declared.held.Shape.TheVariants.{Summary, Whole}
use Rattle.records.specs.Places.{entry_record, Puts, Adds, Places, shape_of, most_of}
use Rattle.records.proofs.PutLaws.{places_none, places_then, places_as, adds_one, adds_none, adds_as}

-- ---- one row
module _ (s : List ℕ) (i : ℕ) (long : length s ≡ memory_size) (below : i < rows_most) (name : List ℕ)
    (e : name ≡ (row_entry s i).key ++ (row_entry s i).originator) where
  row_named : entry_named name ≡ row_entry s i
  row_named = named_entry (row_entry s i).key (row_entry s i).originator name (originator_long s i long below) e

  module _ (number : CsaNumber) (n : number ≡ (value_at s i).number) where
    pub row_record : (hops : ℕ) (payload : List ℕ) → payload ≡ (value_at s i).payload
        → entry_record hops false number (entry_named name) payload ≡ record_of hops (row_entry s i) (value_at s i)
    row_record hops payload q = λ j. entry_record hops false (n j) (row_named j) (q j)

    pub row_summary : entry_record 1 false number (entry_named name) [] ≡ summary_record (row_entry s i) (value_at s i)
    row_summary = λ j. entry_record 1 false (n j) (row_named j) []

pub as_summary : (shape : Shape) (s : List ℕ) (i at : ℕ) (out after : List ℕ) (n : ℕ) (v : CsaRecord) → shape ≡ Summary
    → v ≡ summary_record (row_entry s i) (value_at s i) → Puts 32 (v ∷ []) at out after n
    → Puts (most_of shape) (shape_of shape (row_entry s i) (value_at s i) ∷ []) at out after n
as_summary shape s i at out after n v t h p = rw t (subst (λ (x : CsaRecord). Puts 32 (x ∷ []) at out after n) h p)

-- one record more, or none
module _ (shape : Shape) (s : List ℕ) (i : ℕ) (to : Placed) (out : List ℕ) (u : Bool) (is : u ≡ is_used (row_in s i)) where
  pub row_put_lem : (after : List ℕ) (n : ℕ) (few : to.count + 1 ≤ 4) → u ≡ true → Puts (most_of shape) (shape_of shape (row_entry s i) (value_at s i) ∷ []) to.next out after n
      → Adds (most_of shape) (used1 (shape_of shape) (row_in s i) []) to out after (record { count = to.count + 1; next = n; few = few })
  row_put_lem after n few t p =
      adds_as (most_of shape) to out after (record { count = to.count + 1; next = n; few = few })
      (ap (λ (r : Row). used1 (shape_of shape) r []) (sym (used_row_lem s i (sym is ∙ t))))
      (adds_one (most_of shape) to out (shape_of shape (row_entry s i) (value_at s i)) after n few p)

  pub row_passed : u ≡ false → Adds (most_of shape) (used1 (shape_of shape) (row_in s i) []) to out out to
  row_passed t =
      adds_as (most_of shape) to out out to (ap (λ (r : Row). used1 (shape_of shape) r []) (sym (free_row s i (sym is ∙ t))))
      (adds_none (most_of shape) to out)

-- ---- the loop over what was picked
used1_first : {A : Type 0} (f : Entry → Value → A) (r : Row) (xs : List A) → used1 f r xs ≡ used1 f r [] ++ xs
used1_first f free xs = refl
used1_first f (used e v m) xs = refl

used1_few : {A : Type 0} (f : Entry → Value → A) (r : Row) → length (used1 f r []) ≤ 1
used1_few f free = omega arith
used1_few f (used e v m) = omega arith

most_room : (shape : Shape) (at n done : ℕ) (out : List ℕ) → at + (3 * most_of shape + 64) ≤ length out → n ≤ at + done * most_of shape → done ≤ 3
    → n + 64 ≤ length out
most_room Whole at n done out h e f = omega arith
most_room Summary at n done out h e f = omega arith

module _ (s places : List ℕ) (shape : Shape) (at : ℕ) (out₀ : List ℕ) where
  abbrev row_as : Entry → Value → CsaRecord
  row_as = shape_of shape

  -- of the places those from i on are left
  pub record Holding (out : List ℕ) (to : Placed) (i : ℕ) : Type 0 where
    pub long : length out ≡ length out₀
    pub done : List CsaRecord
    pub within : i ≤ length places
    pub few : length done ≤ i
    pub going : rows_of row_as (rows_in s) places ≡ done ++ rows_of row_as (rows_in s) (drop i places)
    pub placed : Places (most_of shape) done at out₀ out to

  pub holding_none : (x : Placed) → (x.count ≡ 0) × (x.next ≡ at) → Holding out₀ x 0
  holding_none x h = record { long = refl; done = []; within = omega arith; few = omega arith; going = refl; placed = places_none (most_of shape) at out₀ x h }

  module _ (out : List ℕ) (to : Placed) (i : ℕ) (a : Holding out to i) (four : length places ≤ 4) where
    pub holding_all : length places ≤ i → Places (most_of shape) (rows_of row_as (rows_in s) places) at out₀ out to
    holding_all h =
        let e : rows_of row_as (rows_in s) places ≡ a.done =
        a.going ∙ ap (λ (z : List ℕ). a.done ++ rows_of row_as (rows_in s) z) (drop_of_length-le places h) ∙ append-nil a.done in
        places_as (most_of shape) at out₀ out to (sym e) a.placed

    module _ (h : i < length places) (room : at + (3 * most_of shape + 64) ≤ length out₀) where
      pub holding_room : (to.next + 64 ≤ length out) × (to.count < 4)
      holding_room =
          let f = a.few in
          let g = a.long in
          let n = a.placed.count in
          let m = most_room shape at to.next (length a.done) out₀ room a.placed.puts.near (omega arith) in
          (omega arith, omega arith)

      pub holding_more : (out' : List ℕ) (x : Placed) → length out' ≡ length out
          → Adds (most_of shape) (used1 row_as (row_in s (get_or places i 0 % 64)) []) to out out' x → Holding out' x (i + 1)
      holding_more out' x kept e =
          let j : ℕ = get_or places i 0 % 64 in
          let one : List CsaRecord = used1 row_as (row_in s j) [] in
          let rest : List CsaRecord = rows_of row_as (rows_in s) (drop (suc i) places) in
          let g = a.long in
          let f = a.few in
          let near = holding_room.0 in
          let more : length (a.done ++ one) ≡ length a.done + length one = length-append a.done one in
          let few = used1_few row_as (row_in s j) in
          record {
            long = kept ∙ g;
            done = a.done ++ one;
            within = omega arith;
            few = omega arith;
            going =
                a.going
                ∙ ap (λ (z : List ℕ). a.done ++ rows_of row_as (rows_in s) z) (drop-cons places i 0 h)
                ∙ ap (λ (r : Row). a.done ++ used1 row_as r rest) (row_get s j (omega arith))
                ∙ ap (λ (z : List CsaRecord). a.done ++ z) (used1_first row_as (row_in s j) rest)
                ∙ sym (append_assoc a.done one rest)
                ∙ ap (λ (n : ℕ). (a.done ++ one) ++ rows_of row_as (rows_in s) (drop n places)) (sym (add-one i));
            placed = places_then (most_of shape) at out₀ a.done one out out' to x (omega arith) a.placed e;
          }
