-- Document 01, 'Hello': when the last taken Hello is too long ago.
-- Assumes nothing.
use Rattle.std.specs.Prelude.{ℕ, ◌*◌, ◌-◌, Bool, ltb}

-- 'more than interval times factor seconds since the last taken Hello'
abbrev pub stale : ℕ → ℕ → ℕ → ℕ → Bool
stale interval factor last now = ltb (interval * factor) (now - last)
