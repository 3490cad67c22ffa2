-- Records put one behind the other.
-- Assumes nothing.
use Prim.Native.Nat.{ℕ, ◌+◌, ◌*◌, ◌≤◌}
use mathlib.Core.Path.{◌≡◌, refl, sym, ap, ◌∙◌, subst}
use mathlib.Core.List.{List, [], ◌∷◌, ◌++◌, append-nil, append_assoc}
use native.Mathlib.Nat.{add-mul, add-zero}
use native.Mathlib.Omega.{arith}
use lib.ListN.{length, length-append}
use Rattle.laws.specs.Puts.{Put}
use Rattle.laws.proofs.Puts.{then_put}
use Rattle.protocol.specs.Messages.{CsaRecord}
use Rattle.protocol.specs.Layouts.{record_octets, records_octets}
use Rattle.writer.proofs.Heads.{no_records}
use Rattle.records.specs.declared.put.Placed.{Placed}
use Rattle.records.specs.Places.{Puts, Adds, Places}

-- ---- one record
one_octets : (v : CsaRecord) → records_octets [] (v ∷ []) ≡ record_octets 0 v
unfolding records_octets
one_octets v = append-nil (record_octets 0 v)

-- as `put_record` leaves it, of a name and a payload of these lengths
pub puts_one : (most : ℕ) (v : CsaRecord) (at name payload : ℕ) (out after : List ℕ) (n : ℕ)
    → Put (record_octets 0 v) at out after n × (n ≡ at + 12 + name + payload) → 12 + name + payload ≤ most → Puts most (v ∷ []) at out after n
puts_one most v at name payload out after n (p, e) h = record {
  octets = subst (λ (l : List ℕ). Put l at out after n) (sym (one_octets v)) p;
  near = let x : 1 * most ≡ most = omega arith in rw x (omega arith);
}

pub puts_as : (most : ℕ) {rs qs : List CsaRecord} (at : ℕ) (out after : List ℕ) (n : ℕ) → rs ≡ qs → Puts most rs at out after n → Puts most qs at out after n
puts_as most at out after n e p = subst (λ (l : List CsaRecord). Puts most l at out after n) e p

-- ---- records behind records
records_append : (rs qs : List CsaRecord) → records_octets [] (rs ++ qs) ≡ records_octets [] rs ++ records_octets [] qs
unfolding records_octets
records_append [] qs = refl
records_append (r ∷ rs) qs =
    ap (λ (l : List ℕ). record_octets 0 r ++ l) (records_append rs qs) ∙ sym (append_assoc (record_octets 0 r) (records_octets [] rs) (records_octets [] qs))

module _ (most at : ℕ) (out : List ℕ) where
  pub puts_none : Puts most [] at out out at
  puts_none = record { octets = no_records at out; near = omega arith }

  pub puts_then : (rs qs : List CsaRecord) (mid after : List ℕ) (m n : ℕ) → m ≤ length out → Puts most rs at out mid m → Puts most qs m mid after n
      → Puts most (rs ++ qs) at out after n
  puts_then rs qs mid after m n room p q =
      let a : m ≡ at + length (records_octets [] rs) = p.octets.next in
      let b : m ≤ at + length rs * most = p.near in
      let c : n ≤ m + length qs * most = q.near in
      let d : length (rs ++ qs) * most ≡ length rs * most + length qs * most =
      ap (λ (x : ℕ). x * most) (length-append rs qs) ∙ add-mul (length rs) (length qs) most in
      record {
        octets =
            subst (λ (l : List ℕ). Put l at out after n) (sym (records_append rs qs))
            (then_put out at (records_octets [] rs) (records_octets [] qs) (omega arith) p.octets q.octets);
        near = omega arith;
      }

-- ---- how many
module _ (most at : ℕ) (out : List ℕ) where
  pub places_none : (x : Placed) → (x.count ≡ 0) × (x.next ≡ at) → Places most [] at out out x
  places_none x (n, e) = record { count = n; puts = subst (λ (m : ℕ). Puts most [] at out out m) (sym e) (puts_none most at out) }

  pub places_then : (rs qs : List CsaRecord) (mid after : List ℕ) (to x : Placed) → to.next ≤ length out → Places most rs at out mid to
      → Adds most qs to mid after x → Places most (rs ++ qs) at out after x
  places_then rs qs mid after to x room p a = record {
    count = a.count ∙ ap (λ (n : ℕ). n + length qs) p.count ∙ sym (length-append rs qs);
    puts = puts_then most at out rs qs mid after to.next x.next room p.puts a.puts;
  }

  pub places_as : {rs qs : List CsaRecord} (after : List ℕ) (x : Placed) → rs ≡ qs → Places most rs at out after x → Places most qs at out after x
  places_as after x e p = subst (λ (l : List CsaRecord). Places most l at out after x) e p

module _ (most : ℕ) (to : Placed) (out : List ℕ) where
  pub adds_one : (v : CsaRecord) (after : List ℕ) (n : ℕ) (few : to.count + 1 ≤ 4) → Puts most (v ∷ []) to.next out after n
      → Adds most (v ∷ []) to out after (record { count = to.count + 1; next = n; few = few })
  adds_one v after n few p = record { count = refl; puts = p }

  pub adds_none : Adds most [] to out out to
  adds_none = record { count = sym (add-zero to.count); puts = puts_none most to.next out }

  pub adds_as : {rs qs : List CsaRecord} (after : List ℕ) (x : Placed) → rs ≡ qs → Adds most rs to out after x → Adds most qs to out after x
  adds_as after x e a = subst (λ (l : List CsaRecord). Adds most l to out after x) e a
