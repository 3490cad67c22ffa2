-- The rule in a link's state, and codes.
-- Assumes nothing.
use Prim.Native.Nat.{ℕ}
use mathlib.Core.Path.{◌≡◌, refl, sym, ap, ◌∙◌}
use mathlib.Core.Bool.{Bool, false}
use mathlib.Core.List.{List}
use lib.Dec.{eqb}
use Rattle.protocol.specs.declared.Alignment.{Alignment}
use Rattle.protocol.specs.declared.Link.{Link}
use Rattle.rules.specs.Links.{CaIn, CaRule, rule_in, ca_rule}
use Rattle.slots.specs.Codes.{failure_number, code_number}
use Rattle.slots.specs.declared.answers.Failure.{Failure}
use Rattle.slots.specs.declared.answers.Failure.TheVariants as failure
use Rattle.std.specs.Prelude.{Result, Err}

-- ---- the rule
-- in the state that the link has
pub rule_is : (id : List ℕ) (c : CaIn) (kept : Bool) (l : Link) {a : Alignment} {r : CaRule} → l.alignment ≡ a → r ≡ rule_in id c kept l a
    → r ≡ ca_rule id c kept l
rule_is id c kept l e h = h ∙ ap (rule_in id c kept l) (sym e)

-- ---- codes
not_taken : (f : Failure) → false ≡ eqb (failure_number f) 0
not_taken failure.NoPeer = refl
not_taken failure.TimeBefore = refl
not_taken failure.ShortOut = refl
not_taken failure.LinkDown = refl
not_taken failure.Length = refl
not_taken failure.Version = refl
not_taken failure.Type = refl
not_taken failure.Checksum = refl
not_taken failure.Extensions = refl
not_taken failure.Malformed = refl
not_taken failure.Group = refl
not_taken failure.Receiver = refl
not_taken failure.Sender = refl
not_taken failure.State = refl
not_taken failure.NoFreeRow = refl
not_taken failure.NumberSpent = refl
not_taken failure.Size = refl
not_taken failure.NoEntry = refl

pub refused_code : {A : Type 0} (o : Result A Failure) {f : Failure} → o ≡ Err f → false ≡ eqb (code_number o) 0
refused_code o {f} e = rw e (not_taken f)
