-- The answer to a CSUS: of one record, and of all.
-- Assumes nothing.
use Prim.Native.Nat.{ℕ, suc, ◌+◌, ◌≤◌}
use mathlib.Core.Path.{◌≡◌, refl, sym, ap, ◌∙◌}
use mathlib.Core.List.{List, [], ◌∷◌, ◌++◌, append-nil, append_assoc}
use native.Mathlib.Omega.{arith}
use lib.ListN.{length, length-append}
use Rattle.laws.specs.Tables.{change}
use Rattle.laws.proofs.Cells.{found_same}
use Rattle.protocol.specs.Messages.{CsaRecord}
use Rattle.protocol.specs.declared.CsaNumber.{CsaNumber}
use Rattle.rules.specs.Server.{Row, free, used, holds}
use Rattle.rules.specs.Requests.{entry_of}
use Rattle.rules.specs.Updates.{null_record, solicited_of, solicited, all_solicited, answer_waits, all_answers_wait}
use Rattle.rules.proofs.Entries.{alike_answer_waits}
use Rattle.std.specs.Prelude.{Some, None}
use Rattle.memory.specs.Memory.{rows_in, memory_of}
use Rattle.memory.specs.Search.{first_from}
use Rattle.memory.specs.Entries.{rows_as}
use Rattle.memory.proofs.EntryLaws.{found_entry, none_entry}
use Rattle.records.specs.Walks.{answer_by, Solicits}
use Rattle.records.specs.Places.{Puts}
use Rattle.records.proofs.PutLaws.{puts_none, puts_then, puts_as}
use Rattle.records.proofs.StepLaws.{each_end, each_rows, each_then}

-- ---- one record
module _ (s : List ℕ) (v : CsaRecord) where
  pub solicited_held : (i : ℕ) → first_from (holds (entry_of v)) 0 (rows_in s) ≡ Some i → answer_by v s i ≡ solicited (rows_in s) v
  solicited_held i at = sym (ap (solicited_of v) (found_entry (entry_of v) s i at))

  pub solicited_null : first_from (holds (entry_of v)) 0 (rows_in s) ≡ None → null_record v ≡ solicited (rows_in s) v
  solicited_null none = sym (ap (solicited_of v) (none_entry (entry_of v) s none))

-- ---- a row that waits is answered as it was
same_answer : (k : ℕ) (n : CsaNumber) (r : CsaRecord) (x : Row) → solicited_of r (answer_waits k n x) ≡ solicited_of r x
same_answer k n r free = refl
same_answer k n r (used e v m) = refl

solicited_same : (k : ℕ) (w : CsaRecord) (rows : List Row) (v : CsaRecord)
    → solicited (change (holds (entry_of w)) (answer_waits k w.number) rows) v ≡ solicited rows v
solicited_same k w rows v =
    found_same free (holds (entry_of v)) (holds (entry_of w)) (answer_waits k w.number) (solicited_of v)
    (λ x. (alike_answer_waits k w.number x).holders (entry_of v)) (same_answer k w.number v) rows

-- ---- record after record
module _ (k : ℕ) (s₀ : List ℕ) (rs : List CsaRecord) (out₀ : List ℕ) where
  abbrev all : List CsaRecord
  all = all_solicited (rows_in s₀) rs

  -- all answers are those put and those to the records that are left; what those leave of the memory, all do
  pub record Soliciting (s out : List ℕ) (left : List CsaRecord) (to : ℕ) : Type 0 where
    pub long : length out ≡ length out₀
    pub done : List CsaRecord
    pub few : length done + length left ≤ 4
    pub going : all ≡ done ++ all_solicited (rows_in s₀) left
    pub same : (v : CsaRecord) → solicited (rows_in s) v ≡ solicited (rows_in s₀) v
    pub waits : (u : List ℕ) → memory_of u ≡ rows_as (all_answers_wait k left) s → memory_of u ≡ rows_as (all_answers_wait k rs) s₀
    pub puts : Puts 64 done 28 out₀ out to

  pub soliciting_none : length rs ≤ 4 → Soliciting s₀ out₀ rs 28
  soliciting_none f = record {
    long = refl;
    done = [];
    few = omega arith;
    going = refl;
    same = λ v. refl;
    waits = λ u h. h;
    puts = puts_none 64 28 out₀;
  }

  module _ (s out : List ℕ) (left : List CsaRecord) (to : ℕ) (x : Soliciting s out left to) where
    pub soliciting_all : left ≡ [] → Puts 64 (all_solicited (rows_in s₀) rs) 28 out₀ out to
    soliciting_all h =
        let e : all ≡ x.done = x.going ∙ ap (λ (l : List CsaRecord). x.done ++ all_solicited (rows_in s₀) l) h ∙ append-nil x.done in
        puts_as 64 28 out₀ out to (sym e) x.puts

    pub soliciting_waits : left ≡ [] → memory_of s ≡ rows_as (all_answers_wait k rs) s₀
    soliciting_waits h = x.waits s (each_end (answer_waits k) s left h)

    module _ (w : CsaRecord) (rest : List CsaRecord) (step : left ≡ w ∷ rest) (room : 284 ≤ length out₀) where
      pub soliciting_room : to + 64 ≤ length out
      soliciting_room =
          let n = x.puts.near in
          let f = x.few in
          let l = x.long in
          let e : length left ≡ suc (length rest) = ap length step in omega arith

      pub soliciting_more : (s' out' : List ℕ) (n : ℕ) → length out' ≡ length out → Solicits k w s s' to out out' n
          → Soliciting s' out' rest n
      soliciting_more s' out' n kept one =
          let v : CsaRecord = solicited (rows_in s₀) w in
          let f = x.few in
          let near = soliciting_room in
          let l = x.long in
          let e : length left ≡ suc (length rest) = ap length step in
          let more : length (x.done ++ (v ∷ [])) ≡ length x.done + 1 = length-append x.done (v ∷ []) in
          record {
            long = kept ∙ l;
            done = x.done ++ (v ∷ []);
            few = omega arith;
            going =
                x.going
                ∙ ap (λ (l : List CsaRecord). x.done ++ all_solicited (rows_in s₀) l) step
                ∙ sym (append_assoc x.done (v ∷ []) (all_solicited (rows_in s₀) rest));
            same = λ y.
                ap (λ (rows : List Row). solicited rows y) (each_rows (answer_waits k) w s s' one.waits) ∙ solicited_same k w (rows_in s) y ∙ x.same y;
            waits = λ u h. x.waits u (each_then (answer_waits k) w s s' one.waits left rest step u h);
            puts = puts_then 64 28 out₀ x.done (v ∷ []) out out' to n (omega arith) x.puts
                (puts_as 64 to out out' n (ap (λ (y : CsaRecord). y ∷ []) (x.same w)) one.answer);
          }
