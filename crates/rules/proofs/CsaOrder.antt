-- CSA numbers: one stepped to is of 32 bits and not less, and until the number is spent it is newer.
-- Assumes nothing.
use mathlib.Core.Path.{◌≡◌, refl}
use mathlib.Core.Bool.{Bool, true, false}
use lib.IntN.{pos, ◌+ℤ◌, +ℤ_one}
use lib.Signed.{◌≤ℤ◌, ≤ℤ_refl}
use mir.Syntax.{w32}
use mir.Val.{SFits}
use Rattle.laws.specs.Choice.{pick}
use Rattle.laws.proofs.Integers.{not_le, lt_suc, le_suc, suc_fits}
use Rattle.protocol.specs.declared.CsaNumber.{CsaNumber}
use Rattle.std.specs.Prelude.{Some, None}
use Rattle.protocol.specs.Numbers.{csa_number, newer, spent, next_csa, purged}
use Rattle.rules.specs.Rows.{is_purged}
use Rattle.rules.specs.Updates.{stepped}

-- one more, unless the number is spent
stepped_by : (n : CsaNumber) (b : Bool) → spent n ≡ b → SFits w32 n.0
    → SFits w32 (stepped n (pick b None (Some (csa_number (n.0 +ℤ pos 1))))).0 × (n.0 ≤ℤ (stepped n (pick b None (Some (csa_number (n.0 +ℤ pos 1))))).0)
stepped_by n true e h = (h, ≤ℤ_refl n.0)
stepped_by n false e h = rw (+ℤ_one n.0) (suc_fits n.0 h e, le_suc n.0)

pub stepped_good : (n : CsaNumber) → SFits w32 n.0 → SFits w32 (stepped n (next_csa n)).0 × (n.0 ≤ℤ (stepped n (next_csa n)).0)
stepped_good n h = stepped_by n (spent n) refl h

steps_by : (n : CsaNumber) (b : Bool) → b ≡ false → newer (stepped n (pick b None (Some (csa_number (n.0 +ℤ pos 1))))) n ≡ true
steps_by n b h = rw (h, +ℤ_one n.0) (lt_suc n.0)

-- a change of ours is newer, until the number is spent
pub steps_up : (n : CsaNumber) → spent n ≡ false → newer (stepped n (next_csa n)) n ≡ true
steps_up n h = steps_by n (spent n) h

pub purges_up : (n : CsaNumber) → is_purged n ≡ false → newer purged n ≡ true
purges_up n h = not_le purged.0 n.0 h
