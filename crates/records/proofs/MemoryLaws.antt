-- The parts of a memory put and read: what is put is read, a part put twice is the second, and the other parts stay.
-- Assumes nothing.
use Prim.Native.Nat.{ℕ, ◌<◌}
use mathlib.Core.Path.{◌≡◌, refl, sym, ap, ◌∙◌}
use mathlib.Core.List.{List, []}
use native.Mathlib.Omega.{arith}
use lib.ListN.{length}
use lib.Seq.{set-get_or, get_or-set_same, set-set}
use Rattle.laws.proofs.TableLaws.{table_length}
use Rattle.rules.specs.Server.{Row, Request}
use Rattle.memory.specs.Memory.{rows_in, requests_in, Memory, memory_of, with_rows, requests_put, requests_of}

-- a memory has eight request lists, and its rows are those of its octets
pub lists_eight : (s : List ℕ) → length (memory_of s).requests ≡ 8
unfolding memory_of
lists_eight s = table_length (requests_in s) 8 0

pub memory_rows : (s : List ℕ) → (memory_of s).rows ≡ rows_in s
unfolding memory_of
memory_rows s = refl

-- ---- a list of requests
module _ (m : Memory) (k : ℕ) where
  pub requests_put_lem : (qs : List Request) → length m.requests ≡ 8 → k < 8 → requests_of (requests_put k qs m) k ≡ qs
  requests_put_lem qs n h = get_or-set_same m.requests k qs [] (omega arith)

  pub requests_same : requests_put k (requests_of m k) m ≡ m
  requests_same = ap (λ (l : List (List Request)). record { rows = m.rows; requests = l; kept = m.kept }) (set-get_or m.requests k [])

  pub requests_twice : (a b : List Request) → requests_put k a (requests_put k b m) ≡ requests_put k a m
  requests_twice a b =
      ap (λ (l : List (List Request)). record { rows = m.rows; requests = l; kept = m.kept }) (set-set m.requests k b a)

-- ---- the octets of a memory that is another's with a part put
module _ (s t : List ℕ) where
  pub rows_after : (m : Memory) → memory_of t ≡ m → rows_in t ≡ m.rows
  rows_after m e = sym (memory_rows t) ∙ ap (λ (x : Memory). x.rows) e

  module _ (k : ℕ) (qs : List Request) (e : memory_of t ≡ requests_put k qs (memory_of s)) where
    pub rows_stay : rows_in t ≡ rows_in s
    rows_stay = rows_after (requests_put k qs (memory_of s)) e ∙ memory_rows s

    pub requests_after : k < 8 → requests_of (memory_of t) k ≡ qs
    requests_after h = ap (λ (x : Memory). requests_of x k) e ∙ requests_put_lem (memory_of s) k qs (lists_eight s) h

  module _ (rows : List Row) (e : memory_of t ≡ with_rows rows (memory_of s)) where
    pub rows_are : rows_in t ≡ rows
    rows_are = rows_after (with_rows rows (memory_of s)) e

  module _ (k : ℕ) (rows : List Row) (qs : List Request) (e : memory_of t ≡ with_rows rows (requests_put k qs (memory_of s))) where
    pub both_rows : rows_in t ≡ rows
    both_rows = rows_after (with_rows rows (requests_put k qs (memory_of s))) e

    pub both_requests : k < 8 → requests_of (memory_of t) k ≡ qs
    both_requests h = ap (λ (x : Memory). requests_of x k) e ∙ requests_put_lem (memory_of s) k qs (lists_eight s) h

    -- and once more
    pub both_twice : (rows' : List Row) (qs' : List Request)
        → with_rows rows' (requests_put k qs' (memory_of t)) ≡ with_rows rows' (requests_put k qs' (memory_of s))
    both_twice rows' qs' =
        ap (λ (x : Memory). with_rows rows' (requests_put k qs' x)) e ∙ ap (with_rows rows') (requests_twice (memory_of s) k qs' qs)
