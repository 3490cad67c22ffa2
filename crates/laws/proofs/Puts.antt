-- Laws of octets put into a list.
-- Assumes nothing.
use Prim.Native.Nat.{ℕ, ◌+◌, ◌-◌, ◌≤◌, ◌<◌}
use mathlib.Core.Path.{◌≡◌, refl, sym, ap, ◌∙◌, subst}
use mathlib.Core.List.{List, [], append-nil, append_assoc, ◌++◌}
use native.Mathlib.Omega.{arith}
use lib.ListN.{length, take, drop, set, drop_of_length-le, length-drop, length-append, length-set, take-append-drop}
use lib.Seq.{take_all, take_at, drop_at, drop-drop, length-take-le, set-append_left}
use borrow.Rule.Slice.PartMut.{mid_of, post_of, put_mid, mid_len, Post-is}
use Rattle.laws.specs.Puts.{put_at, written, Put}

-- v put over the part of b from `at` up to e
pub put_part : (b v l : List ℕ) (at e : ℕ) → at ≤ e → e ≤ length b → l ≡ v → put_mid at (e - at) b l ≡ take at b ++ (v ++ drop e b)
put_part b v l at e h g eq =
    ap (λ (z : List ℕ). take at b ++ (z ++ post_of at (e - at) b)) eq ∙ ap (λ (z : List ℕ). take at b ++ (v ++ z)) (Post-is at e b h)

-- nothing put
pub put_none : (out : List ℕ) (at : ℕ) → Put [] at out out at
unfolding put_at
put_none out at =
    let e : at + 0 ≡ at = omega arith in
    record { next = sym e; octets = sym (ap (λ (n : ℕ). take at out ++ drop n out) e ∙ take-append-drop at out) }

module _ (out : List ℕ) (at : ℕ) (v w : List ℕ) where
  -- two puts, the second behind the first, are one
  pub put_put : at + length v ≤ length out → put_at (put_at out at v) (at + length v) w ≡ put_at out at (v ++ w)
  unfolding put_at
  put_put h =
      let n : ℕ = at + length v in
      let a : length (take at out) ≡ at = length-take-le at out (omega arith) in
      let front : List ℕ = take at out ++ v in
      let e : length front ≡ n = length-append (take at out) v ∙ ap (λ (k : ℕ). k + length v) a in
      let whole : take at out ++ (v ++ drop n out) ≡ front ++ drop n out = sym (append_assoc (take at out) v (drop n out)) in
      let long : n + length w ≡ at + length (v ++ w) = simp length-append (omega arith) in
      let d : drop (n + length w) (front ++ drop n out) ≡ drop (at + length (v ++ w)) out =
      sym (drop-drop (length w) n (front ++ drop n out)) ∙ ap (drop (length w)) (drop_at front (drop n out) n e)
      ∙ drop-drop (length w) n out ∙ ap (λ (k : ℕ). drop k out) long in
      ap (λ (z : List ℕ). take n z ++ (w ++ drop (n + length w) z)) whole
      ∙ (λ k. take_at front (drop n out) n e k ++ (w ++ d k))
      ∙ append_assoc (take at out) v (w ++ drop (at + length (v ++ w)) out)
      ∙ ap (λ (z : List ℕ). take at out ++ z) (sym (append_assoc v w (drop (at + length (v ++ w)) out)))

  -- the same, of contracts
  pub then_put : {mid after : List ℕ} {m n : ℕ} → at + length v ≤ length out → Put v at out mid m → Put w m mid after n → Put (v ++ w) at out after n
  then_put {mid} {after} {m} {n} h p q = record {
    next = let a : m ≡ at + length v = p.next in let b : n ≡ m + length w = q.next in simp length-append (omega arith);
    octets = q.octets ∙ (λ k. put_at (p.octets k) (p.next k) w) ∙ put_put h;
  }

  -- a put behind a place that is filled afterwards
  pub put_before : length v ≡ at → at ≤ length out → put_at (put_at out at w) 0 v ≡ put_at out 0 (v ++ w)
  unfolding put_at
  put_before e h =
      let a : length (take at out) ≡ at = length-take-le at out h in
      let f : 0 + length v ≡ at = omega arith in
      let g : 0 + length (v ++ w) ≡ at + length w = simp length-append (omega arith) in
      ap (λ (n : ℕ). v ++ drop n (take at out ++ (w ++ drop (at + length w) out))) f
      ∙ ap (λ (z : List ℕ). v ++ z) (drop_at (take at out) (w ++ drop (at + length w) out) at a)
      ∙ sym (append_assoc v w (drop (at + length w) out))
      ∙ ap (λ (n : ℕ). (v ++ w) ++ drop n out) (sym g)

-- the length after a put
pub put_length : (out : List ℕ) (at : ℕ) (v : List ℕ) → at + length v ≤ length out → length (put_at out at v) ≡ length out
unfolding put_at
put_length out at v h = simp (length-append, length-drop, length-take-le at out (omega arith)) (omega arith)

-- a put at the start
pub put_zero : (out v : List ℕ) → put_at out 0 v ≡ written v out
unfolding put_at written
put_zero out v = let e : 0 + length v ≡ length v = omega arith in ap (λ (n : ℕ). v ++ drop n out) e

pub take_written : (p out : List ℕ) (n : ℕ) → n ≡ length p → take n (written p out) ≡ p
unfolding written
take_written p out n e = take_at p (drop (length p) out) n (sym e)

pub written_again : (p q out : List ℕ) → length p ≡ length q → written p (written q out) ≡ written p out
unfolding written
written_again p q out e =
    ap (λ (z : List ℕ). p ++ z) (drop_at q (drop (length q) out) (length p) (sym e) ∙ ap (λ (n : ℕ). drop n out) (sym e))

-- three and four puts, each behind the one before
module _ (out : List ℕ) (at : ℕ) (x y z : List ℕ) where
  pub three_puts : {a b after : List ℕ} {i j n : ℕ} → at + (length x + length y) ≤ length out → Put x at out a i → Put y i a b j → Put z j b after n
      → Put (x ++ (y ++ z)) at out after n
  three_puts {after = after} {n = n} h p q r =
      let two = then_put out at x y (omega arith) p q in
      subst (λ (v : List ℕ). Put v at out after n) (append_assoc x y z)
      (then_put out at (x ++ y) z (simp length-append (omega arith)) two r)

  pub four_puts : (w : List ℕ) {a b c after : List ℕ} {i j k n : ℕ} → at + (length x + (length y + length z)) ≤ length out
      → Put x at out a i → Put y i a b j → Put z j b c k → Put w k c after n → Put (x ++ (y ++ (z ++ w))) at out after n
  four_puts w {after = after} {n = n} h p q r s =
      let three = three_puts (omega arith) p q r in
      subst (λ (v : List ℕ). Put v at out after n) (append_assoc x (y ++ z) w ∙ ap (λ (v : List ℕ). x ++ v) (append_assoc y z w))
      (then_put out at (x ++ (y ++ z)) w (simp length-append (omega arith)) three s)

-- two stores in the first n
pub set_written : (out : List ℕ) (n i j x y : ℕ) → i < n → j < n → n ≤ length out → set (set out i x) j y ≡ written (set (set (take n out) i x) j y) out
unfolding written
set_written out n i j x y hi hj h =
    let p : List ℕ = take n out in
    let L : length p ≡ n = length-take-le n out h in
    let M : length (set p i x) ≡ n = length-set p i x ∙ L in
    let N : length (set (set p i x) j y) ≡ n = length-set (set p i x) j y ∙ M in
    ap (λ (z : List ℕ). set (set z i x) j y) (sym (take-append-drop n out))
    ∙ ap (λ (z : List ℕ). set z j y) (set-append_left p (drop n out) i x (omega arith))
    ∙ set-append_left (set p i x) (drop n out) j y (omega arith)
    ∙ ap (λ (k : ℕ). set (set p i x) j y ++ drop k out) (sym N)
