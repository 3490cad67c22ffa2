-- A list with a part of it replaced: what a function that writes into a lent slice leaves there.
-- Assumes nothing.
use Rattle.std.specs.Prelude.{ℕ, ◌+◌, ◌≡◌, List, ◌++◌, length, take, drop}

-- d with v in its place from `at` on
unfoldable pub put_at : List ℕ → ℕ → List ℕ → List ℕ
put_at d at v = take at d ++ (v ++ drop (at + length v) d)

-- p at the start of d, the rest as it was
unfoldable pub written : List ℕ → List ℕ → List ℕ
written p d = p ++ drop (length p) d

-- what a function ensures that puts v at `at` and answers the next place
pub record Put (v : List ℕ) (at : ℕ) (before after : List ℕ) (n : ℕ) : Type 0 where
  pub next : n ≡ at + length v
  pub octets : after ≡ put_at before at v
