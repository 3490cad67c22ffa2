-- A packet whose records were put before its head.
-- Assumes nothing.
use Prim.Native.Nat.{ℕ, ◌+◌, ◌*◌, ◌≤◌}
use mathlib.Core.Path.{◌≡◌, refl, sym, ◌∙◌, subst}
use mathlib.Core.Bool.{Bool, true, false}
use mathlib.Core.List.{List, [], ◌∷◌}
use native.Mathlib.Nat.{mul-le-mul_right}
use native.Mathlib.Omega.{arith}
use lib.ListN.{length}
use Rattle.laws.specs.Choice.{pick}
use Rattle.laws.specs.Lists.{is_empty}
use Rattle.laws.specs.Puts.{Put}
use Rattle.laws.proofs.Puts.{put_none}
use Rattle.protocol.specs.Messages.{CsaRecord, Body, Message}
use Rattle.protocol.specs.Layouts.{records_octets, packet_of}
use Rattle.rules.specs.Sent.{nothing, new_packet, octets_of}
use Rattle.records.specs.declared.put.Placed.{Placed}
use Rattle.records.specs.Places.{Puts, Places}
use Rattle.writer.specs.declared.write.Common.{Common}
use Rattle.writer.specs.Write.{FinishesWith, Wrote}
use Rattle.actions.specs.Steps.{our_message, WritesSome}
use Rattle.actions.proofs.PartLaws.{wrote_none}

-- ---- four records at most are in the slice
pub puts_within : (most : ℕ) (rs : List CsaRecord) (at : ℕ) (out after : List ℕ) (n : ℕ) → Puts most rs at out after n → length rs ≤ 4 → at + 4 * most ≤ 284
    → (at ≤ n) × (n ≤ 284)
puts_within most rs at out after n p few room =
    let a = p.octets.next in
    let b = p.near in
    let c : length rs * most ≤ 4 * most = mul-le-mul_right most few in
    (omega arith, omega arith)

pub places_within : (most : ℕ) (rs : List CsaRecord) (at : ℕ) (out after : List ℕ) (x : Placed) → Places most rs at out after x × (x.count ≤ 4)
    → at + 4 * most ≤ 284
    → (at ≤ x.next) × (x.next ≤ 284)
places_within most rs at out after x (p, few) room =
    let e = p.count in
    puts_within most rs at out after x.next p.puts (omega arith) room

-- ---- a whole packet
pub finish_wrote : (body : List CsaRecord → Body) (c : Common) (most : ℕ) (rs : List CsaRecord) (at : ℕ) (out mid after : List ℕ) (x : Placed)
    → Places most rs at out mid x × (x.count ≤ 4) → at + 4 * most ≤ 284 → 284 ≤ length out → FinishesWith body c at x.count x.next mid after
    → Wrote (packet_of (our_message c (body rs))) out after x.next
finish_wrote body c most rs at out mid after x p room long f =
    let h = places_within most rs at out mid x p room in
    f rs out p.0.count (omega arith) p.0.puts.octets

-- ---- one only where there are records
none_put : (body : List CsaRecord → Body) (c : Common) (rs : List CsaRecord) (out after : List ℕ) (n : ℕ) → length rs ≡ 0
    → Put (records_octets [] rs) 28 out after n
    → Wrote (pick (is_empty rs) [] (packet_of (our_message c (body rs)))) out after 0
unfolding records_octets
none_put body c [] out after n e p =
    subst (λ (l : List ℕ). Wrote [] out l 0) ((put_none out 28).octets ∙ sym p.octets) (wrote_none out)
none_put body c (r ∷ rs) out after n e p = absurd (omega arith)

some_put : (body : List CsaRecord → Body) (c : Common) (rs : List CsaRecord) (out after : List ℕ) (n : ℕ) → (length rs ≡ 0 → ⊥)
    → Wrote (packet_of (our_message c (body rs))) out after n → Wrote (pick (is_empty rs) [] (packet_of (our_message c (body rs)))) out after n
some_put body c [] out after n e w = absurd (e refl)
some_put body c (r ∷ rs) out after n e w = w

module _ (body : List CsaRecord → Body) (c : Common) (count n : ℕ) where
  pub none_written : (out : List ℕ) → count ≡ 0 → WritesSome body c count n out out 0
  none_written out e = λ rs out₀ size room p. none_put body c rs out₀ out n (sym size ∙ e) p

  pub some_written : (mid after : List ℕ) → (count ≡ 0 → ⊥) → FinishesWith body c 28 count n mid after → WritesSome body c count n mid after n
  some_written mid after h f = λ rs out₀ size room p. some_put body c rs out₀ after n (λ e. h (size ∙ e)) (f rs out₀ size room p)

pub octets_unless : (b : Bool) (m : Message) → pick b [] (packet_of m) ≡ octets_of (pick b nothing (new_packet m))
octets_unless true m = refl
octets_unless false m = refl
