-- The first of some octets that is t, over those looked at so far.
-- Assumes nothing.
use Rattle.std.proofs.Common.{ℕ, ◌<◌, ◌≤◌}

-- a test on the places below n: r is the first that passes, or 255
pub record FirstTo (P : ℕ → Type 0) (n r : ℕ) : Type 0 where
  pub there : r < 64 → (r < n) × P r
  pub none_before : (j : ℕ) → j < n → P j → r ≤ j
