-- Record after record: what one leaves and then the rest is what all leave. Summaries, and records that change the row of their entry.
-- Assumes nothing.
use Prim.Native.Nat.{ℕ, ◌<◌}
use mathlib.Core.Path.{◌≡◌, refl, sym, ap, ◌∙◌}
use mathlib.Core.List.{List, [], ◌∷◌}
use Rattle.laws.specs.Tables.{change}
use Rattle.protocol.specs.Messages.{CsaRecord}
use Rattle.rules.specs.Server.{Row, holds}
use Rattle.rules.specs.Requests.{entry_of, Wanted, taken_in, all_taken_in}
use Rattle.rules.specs.Updates.{each_row}
use Rattle.memory.specs.Memory.{rows_in, memory_of, with_rows, requests_put}
use Rattle.memory.specs.Lists.{wanted_now}
use Rattle.memory.specs.Entries.{rows_as}
use Rattle.protocol.specs.declared.CsaNumber.{CsaNumber}
use Rattle.records.specs.Walks.{wanted_by, TakesAll, TakesOne}
use Rattle.records.proofs.MemoryLaws.{memory_rows, requests_same, requests_twice, rows_stay, requests_after, rows_are}

-- ---- summaries
module _ (k : ℕ) where
  takes_none : (s : List ℕ) (n : ℕ) → TakesAll k [] n s s n
  takes_none s n = record { list = sym (requests_same (memory_of s) k); count = refl }

  pub takes_end : (s : List ℕ) (n : ℕ) (rs : List CsaRecord) → rs ≡ [] → TakesAll k rs n s s n
  takes_end s n rs e = rw e (takes_none s n)

  module _ (v : CsaRecord) (n : ℕ) (s t : List ℕ) (m : ℕ) where
    module _ (h : k < 8) (one : TakesOne k v n s t m) where
      now_wanted : wanted_now k m t ≡ taken_in (rows_in s) v (wanted_now k n s)
      now_wanted =
          let q = requests_after s t k (taken_in (rows_in s) v (wanted_now k n s)).requests one.list h in
          λ i. record { requests = q i; missed = one.count i }

      all_wanted : (rs : List CsaRecord) → wanted_by k rs m t ≡ wanted_by k (v ∷ rs) n s
      all_wanted rs =
          let r = rows_stay s t k (taken_in (rows_in s) v (wanted_now k n s)).requests one.list in
          λ i. all_taken_in (r i) rs (now_wanted i)

      takes_both : (rs : List CsaRecord) (u : List ℕ) (r : ℕ) → TakesAll k rs m t u r → TakesAll k (v ∷ rs) n s u r
      takes_both rs u r rest = record {
        list =
            rest.list ∙ (λ i. requests_put k (all_wanted rs i).requests (one.list i))
            ∙ requests_twice (memory_of s) k (wanted_by k (v ∷ rs) n s).requests (taken_in (rows_in s) v (wanted_now k n s)).requests;
        count = rest.count ∙ ap (λ (w : Wanted). w.missed) (all_wanted rs);
      }

      pub takes_then : (all rs : List CsaRecord) → all ≡ v ∷ rs → (u : List ℕ) (r : ℕ) → TakesAll k rs m t u r → TakesAll k all n s u r
      takes_then all rs e u r rest = rw e (takes_both rs u r rest)

-- ---- records that each change the row of their entry, by their number
module _ (f : CsaNumber → Row → Row) where
  pub each_end : (s : List ℕ) (rs : List CsaRecord) → rs ≡ [] → memory_of s ≡ rows_as (each_row f rs) s
  each_end s rs e = rw e (ap (λ (rows : List Row). with_rows rows (memory_of s)) (memory_rows s))

  module _ (v : CsaRecord) (s t : List ℕ) where
    module _ (one : memory_of t ≡ rows_as (change (holds (entry_of v)) (f v.number)) s) where
      pub each_rows : rows_in t ≡ change (holds (entry_of v)) (f v.number) (rows_in s)
      each_rows = rows_are s t (change (holds (entry_of v)) (f v.number) (rows_in s)) one

      pub each_then : (all rs : List CsaRecord) → all ≡ v ∷ rs → (u : List ℕ) → memory_of u ≡ rows_as (each_row f rs) t
          → memory_of u ≡ rows_as (each_row f all) s
      each_then all rs e u rest =
          rest ∙ (λ i. with_rows (each_row f rs (each_rows i)) (one i)) ∙ ap (λ (l : List CsaRecord). rows_as (each_row f l) s) (sym e)
