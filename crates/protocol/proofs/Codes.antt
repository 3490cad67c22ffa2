-- Each code is given in its stated case and in no other (document 01, 'Answers to an event').
-- Assumes nothing.
use Prim.Native.Nat.{ℕ, zero, suc}
use mathlib.Core.Path.{◌≡◌, refl, sym, ap, ◌∙◌, subst}
use mathlib.Core.Bool.{Bool, true, false, not}
use mathlib.Core.List.{List, [], ◌∷◌}
use mathlib.Core.Logic.{◌↔◌, ◌⊎◌, inl, inr}
use lib.Dec.{eqb}
use Rattle.laws.specs.Choice.{pick}
use Rattle.protocol.specs.declared.Kind.{Kind}
use Rattle.std.specs.Prelude.{Ok, Err}
use Rattle.protocol.specs.Checks.{Checked}
use Rattle.protocol.specs.Checks.{Fine, Breaks}
use Rattle.protocol.specs.Fields.{octet}
use Rattle.protocol.specs.Checksum.{good_sum}
use Rattle.protocol.specs.Messages.{Message}
use Rattle.protocol.specs.Checks.{mandatory_check}
use Rattle.protocol.specs.Answers.{refuse, first_code, length_good, version_good, type_good, no_extensions, fixed_code}
use Rattle.protocol.specs.Reading.{kind_of, message_at, malformed, message, by_check, by_code, read_packet, refusal_of}

-- ---- over five tests and a check
abbrev check_code : Checked → ℕ
check_code (Ok _) = 0
check_code (Err at) = 10

abbrev code_by : Bool → Bool → Bool → Bool → Bool → Checked → ℕ
code_by l v t s x c = pick l (pick v (pick t (pick s (pick x (check_code c) 9) 8) 7) 6) 5

abbrev or_else : Bool → Type 0 → Type 0 → Type 0
or_else true A B = A
or_else false A B = B

abbrev pub AllTrue : Bool → Bool → Bool → Bool → Bool → Type 0
AllTrue l v t s x = (l ≡ true) × (v ≡ true) × (t ≡ true) × (s ≡ true) × (x ≡ true)

-- the case of a code
abbrev Case : ℕ → Bool → Bool → Bool → Bool → Bool → Checked → Type 0
Case n l v t s x c =
    or_else (eqb n 5) (l ≡ false)
    (or_else (eqb n 6) ((l ≡ true) × (v ≡ false))
    (or_else (eqb n 7) ((l ≡ true) × (v ≡ true) × (t ≡ false))
    (or_else (eqb n 8) ((l ≡ true) × (v ≡ true) × (t ≡ true) × (s ≡ false))
    (or_else (eqb n 9) ((l ≡ true) × (v ≡ true) × (t ≡ true) × (s ≡ true) × (x ≡ false))
    (or_else (eqb n 10) (AllTrue l v t s x × ((at : ℕ) × (c ≡ Breaks at)))
    (AllTrue l v t s x × (c ≡ Fine)))))))

case_of : (l v t s x : Bool) (c : Checked) → Case (code_by l v t s x c) l v t s x c
case_of false v t s x c = refl
case_of true false t s x c = (refl, refl)
case_of true true false s x c = (refl, refl, refl)
case_of true true true false x c = (refl, refl, refl, refl)
case_of true true true true false c = (refl, refl, refl, refl, refl)
case_of true true true true true (Ok _) = ((refl, refl, refl, refl, refl), refl)
case_of true true true true true (Err at) = ((refl, refl, refl, refl, refl), (at, refl))

abbrev pub AnyCode : ℕ → Type 0
AnyCode n = (n ≡ 0) ⊎ ((n ≡ 5) ⊎ ((n ≡ 6) ⊎ ((n ≡ 7) ⊎ ((n ≡ 8) ⊎ ((n ≡ 9) ⊎ (n ≡ 10))))))

any_code : (l v t s x : Bool) (c : Checked) → AnyCode (code_by l v t s x c)
any_code false v t s x c = inr (inl refl)
any_code true false t s x c = inr (inr (inl refl))
any_code true true false s x c = inr (inr (inr (inl refl)))
any_code true true true false x c = inr (inr (inr (inr (inl refl))))
any_code true true true true false c = inr (inr (inr (inr (inr (inl refl)))))
any_code true true true true true (Ok _) = inl refl
any_code true true true true true (Err at) = inr (inr (inr (inr (inr (inr refl)))))

code_by_lem : (w : ℕ) (k : Kind) (p : List ℕ) (l v t s x : Bool) (c : Checked) → mandatory_check w k p ≡ c
    → refusal_of (by_code (first_code (refuse (not l) 5 ∷ refuse (not v) 6 ∷ refuse (not t) 7 ∷ refuse (not s) 8 ∷ refuse (not x) 9 ∷ [])) w k p)
    ≡ code_by l v t s x c
code_by_lem w k p false v t s x c e = refl
code_by_lem w k p true false t s x c e = refl
code_by_lem w k p true true false s x c e = refl
code_by_lem w k p true true true false x c e = refl
code_by_lem w k p true true true true false c e = refl
code_by_lem w k p true true true true true (Ok _) e = rw e
code_by_lem w k p true true true true true (Err at) e = rw e

-- ---- over a packet
-- the fixed part is good
abbrev pub FixedGood : ℕ → List ℕ → Type 0
FixedGood w p = AllTrue (length_good w p) (version_good p) (type_good p) (good_sum p) (no_extensions p)

module _ (w : ℕ) (p : List ℕ) where
  abbrev check : Checked
  check = mandatory_check w (kind_of (octet p 1)) p

  abbrev code : ℕ
  code = code_by (length_good w p) (version_good p) (type_good p) (good_sum p) (no_extensions p) check

  code_is : refusal_of (read_packet w p) ≡ code
  unfolding read_packet fixed_code
  code_is = code_by_lem w (kind_of (octet p 1)) p (length_good w p) (version_good p) (type_good p) (good_sum p) (no_extensions p) check refl

  tells : (n : ℕ) → refusal_of (read_packet w p) ≡ n → Case n (length_good w p) (version_good p) (type_good p) (good_sum p) (no_extensions p) check
  tells n e =
      subst (λ (i : ℕ). Case i (length_good w p) (version_good p) (type_good p) (good_sum p) (no_extensions p) check) (sym code_is ∙ e)
      (case_of (length_good w p) (version_good p) (type_good p) (good_sum p) (no_extensions p) check)

  pub code_5 : (refusal_of (read_packet w p) ≡ 5) ↔ (length_good w p ≡ false)
  code_5 = (tells 5, λ f. code_is ∙ rw f)

  pub code_6 : (refusal_of (read_packet w p) ≡ 6) ↔ ((length_good w p ≡ true) × (version_good p ≡ false))
  code_6 = (tells 6, λ f. code_is ∙ rw (f.0, f.1))

  pub code_7 : (refusal_of (read_packet w p) ≡ 7) ↔ ((length_good w p ≡ true) × (version_good p ≡ true) × (type_good p ≡ false))
  code_7 = (tells 7, λ f. code_is ∙ rw (f.0, f.1, f.2))

  pub code_8 : (refusal_of (read_packet w p) ≡ 8) ↔ ((length_good w p ≡ true) × (version_good p ≡ true) × (type_good p ≡ true) × (good_sum p ≡ false))
  code_8 = (tells 8, λ f. code_is ∙ rw (f.0, f.1, f.2, f.3))

  pub code_9 : (refusal_of (read_packet w p) ≡ 9)
      ↔ ((length_good w p ≡ true) × (version_good p ≡ true) × (type_good p ≡ true) × (good_sum p ≡ true) × (no_extensions p ≡ false))
  code_9 = (tells 9, λ f. code_is ∙ rw (f.0, f.1, f.2, f.3, f.4))

  pub code_10 : (refusal_of (read_packet w p) ≡ 10) ↔ (FixedGood w p × ((at : ℕ) × (mandatory_check w (kind_of (octet p 1)) p ≡ Breaks at)))
  code_10 = (tells 10, λ f. code_is ∙ rw (f.0.0, f.0.1, f.0.2, f.0.3, f.0.4, f.1.1))

  pub code_0 : (refusal_of (read_packet w p) ≡ 0) ↔ (FixedGood w p × (mandatory_check w (kind_of (octet p 1)) p ≡ Fine))
  code_0 = (tells 0, λ f. code_is ∙ rw (f.0.0, f.0.1, f.0.2, f.0.3, f.0.4, f.1))

  pub no_other : AnyCode (refusal_of (read_packet w p))
  no_other = subst AnyCode (sym code_is) (any_code (length_good w p) (version_good p) (type_good p) (good_sum p) (no_extensions p) check)

  -- the position that comes with code 10
  pub position : (at : ℕ) → read_packet w p ≡ malformed at → mandatory_check w (kind_of (octet p 1)) p ≡ Breaks at
  unfolding read_packet
  position at e = by_code_lem (fixed_code w p) e where
    by_check_lem : (c : Checked) → by_check c w (kind_of (octet p 1)) p ≡ malformed at → c ≡ Breaks at
    by_check_lem (Ok _) h = cc
    by_check_lem (Err b) h = cc

    by_code_lem : (n : ℕ) → by_code n w (kind_of (octet p 1)) p ≡ malformed at → check ≡ Breaks at
    by_code_lem zero h = by_check_lem check h
    by_code_lem (suc n) h = cc

  -- what it takes to be read as a message, and which
  pub read_as : (m : Message) → read_packet w p ≡ message m
      → FixedGood w p × (mandatory_check w (kind_of (octet p 1)) p ≡ Fine) × (message_at w (kind_of (octet p 1)) p ≡ m)
  unfolding read_packet
  read_as m e =
      let g : FixedGood w p × (check ≡ Fine) = code_0.0 (ap refusal_of e) in
      (g.0, g.1, by_code_lem (fixed_code w p) e)
    where
      by_check_lem : (c : Checked) → by_check c w (kind_of (octet p 1)) p ≡ message m → message_at w (kind_of (octet p 1)) p ≡ m
      by_check_lem (Ok _) h = cc
      by_check_lem (Err b) h = cc

      by_code_lem : (n : ℕ) → by_code n w (kind_of (octet p 1)) p ≡ message m → message_at w (kind_of (octet p 1)) p ≡ m
      by_code_lem zero h = by_check_lem check h
      by_code_lem (suc n) h = cc

-- ---- where it is malformed
by_check_lem : (w : ℕ) (k : Kind) (p : List ℕ) (l v t s x : Bool) → AllTrue l v t s x
    → by_code (first_code (refuse (not l) 5 ∷ refuse (not v) 6 ∷ refuse (not t) 7 ∷ refuse (not s) 8 ∷ refuse (not x) 9 ∷ [])) w k p
    ≡ by_check (mandatory_check w k p) w k p
by_check_lem w k p l v t s x f = rw (f.0, f.1, f.2, f.3, f.4)

pub reads_malformed : (w : ℕ) (p : List ℕ) (at : ℕ) → FixedGood w p → mandatory_check w (kind_of (octet p 1)) p ≡ Breaks at → read_packet w p ≡ malformed at
unfolding read_packet fixed_code
reads_malformed w p at f e =
    by_check_lem w (kind_of (octet p 1)) p (length_good w p) (version_good p) (type_good p) (good_sum p) (no_extensions p) f
    ∙ ap (λ c. by_check c w (kind_of (octet p 1)) p) e
