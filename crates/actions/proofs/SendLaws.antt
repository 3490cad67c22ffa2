-- What a poll writes: each packet by its writer, what is due with what follows for the memory, and the slot after it.
-- Assumes nothing.
use Prim.Native.Nat.{ℕ, ◌%◌, ◌<◌}
use mathlib.Core.Path.{◌≡◌, refl, sym, ap, subst, ◌∙◌}
use mathlib.Core.Bool.{Bool}
use mathlib.Core.Logic.{◌⊎◌, inl, inr}
use mathlib.Core.List.{List, [], map}
use lib.ListN.{length, take}
use Rattle.laws.specs.Puts.{written}
use Rattle.std.specs.Prelude.{Some}
use Rattle.protocol.specs.Messages.{ca, csu_request, csus}
use Rattle.protocol.specs.Layouts.{packet_of}
use Rattle.rules.specs.Server as rules
use Rattle.rules.specs.Server.{rows_most}
use Rattle.rules.specs.Links.{hears_peer}
use Rattle.rules.specs.Rows.{next_waiting, rows_of}
use Rattle.rules.specs.Requests.{rotated}
use Rattle.rules.specs.Alignment.{summary_record}
use Rattle.rules.specs.Slots.{hello_sent, ca_sent, csus_sent, update_sent, with_cursor, update_counted}
use Rattle.rules.specs.Sent.{octets_of}
use Rattle.rules.specs.Poll.{hello_of, first_flags, first_ca_of, request_record, csus_of, held_record, update_of, due_slot, due_sent}
use Rattle.memory.specs.declared.next.Picks.{Picks}
use Rattle.memory.specs.Memory.{rows_in, requests_in, kept_in, memory_of, requests_of, kept_of, requests_put, kept_put}
use Rattle.memory.specs.Marks.{picks_of, Picked}
use Rattle.memory.proofs.Rooms.{requests_of_lem}
use Rattle.records.proofs.MemoryLaws.{requests_same}
use Rattle.writer.specs.declared.write.Common.{Common}
use Rattle.writer.specs.Write.{hello_message, Wrote}
use Rattle.slots.specs.declared.state.Settings.{Settings}
use Rattle.slots.specs.declared.state.Slot.{Slot}
use Rattle.slots.specs.State.{settings_of, slot_of}
use Rattle.table.specs.Slots.{slot_in, Changes}
use Rattle.actions.specs.declared.due.Due.{Due}
use Rattle.actions.specs.declared.due.Due.TheVariants.{Hello, FirstCa, KeptCa, Csus, Update}
use Rattle.actions.specs.Parts.{slot_with, slot_now, ActsAt}
use Rattle.actions.specs.Steps.{common_of, our_message, SendsCa, SendsCsus, due_kind, GoodPicks, WritesDue, GoesOn, PutsDue}
use Rattle.actions.proofs.AlignmentLaws.{kept_of_lem}
use Rattle.actions.proofs.PartLaws.{kept_same, both_same, leaves_lists, leaves_same, wrote_none}

pub packet_as : (p q out out' : List ℕ) (r : ℕ) → Wrote p out out' r → p ≡ q → Wrote q out out' r
packet_as p q out out' r w f = subst (λ (l : List ℕ). Wrote l out out' r) f w

-- ---- each packet
module _ (s : Settings) (x : Slot) (k : ℕ) (m : List ℕ) (c : Common) (e : c ≡ common_of s x.peer) where
  pub hello_is : (named : Bool) → named ≡ hears_peer x.link.hello
      → packet_of (hello_message c s.interval s.factor named) ≡ packet_of (hello_of (settings_of s) (slot_with x k m))
  hello_is named f = λ i. packet_of (hello_message (e i) s.interval s.factor (f i))

  pub first_sent : (p : Picks) (m' out out' : List ℕ) (r : ℕ) → picks_of p ≡ []
      → SendsCa k (packet_of (our_message c (ca x.link.number first_flags (rows_of summary_record (rows_in m) (picks_of p))))) m m' out out' r
      → SendsCa k (packet_of (first_ca_of (settings_of s) (slot_with x k m))) m m' out out' r
  first_sent p m' out out' r f h =
      subst (λ (l : List ℕ). SendsCa k l m m' out out' r)
      (λ i. packet_of (our_message (e i) (ca x.link.number first_flags (rows_of summary_record (rows_in m) (f i))))) h

  pub csus_is : k < 8
      → packet_of (our_message c (csus (map request_record (take 4 (requests_in m k))))) ≡ packet_of (csus_of (settings_of s) (slot_with x k m))
  csus_is h = λ i. packet_of (our_message (e i) (csus (map request_record (take 4 (sym (requests_of_lem m k h) i)))))

  pub update_is : (p : Picks) → Picked x.cursor (next_waiting (rows_in m) k x.cursor) p
      → packet_of (our_message c (csu_request (rows_of held_record (rows_in m) (picks_of p))))
      ≡ packet_of (update_of (settings_of s) (rows_in m) k (slot_with x k m))
  update_is p h = λ i. packet_of (our_message (e i) (csu_request (rows_of held_record (rows_in m) (h.chosen i))))

module _ (d : Due) (k : ℕ) (s : rules.Settings) (x : Slot) (m m' out out' : List ℕ) (r : ℕ) where
  abbrev Writes-as : Due → Type 0
  Writes-as e = WritesDue (due_kind e) k s x m m' out out' r

  writes_as : (e : Due) → d ≡ e → Writes-as e → Writes-as d
  writes_as e q h = subst Writes-as (sym q) h

  pub writes_first : d ≡ FirstCa → SendsCa k (packet_of (first_ca_of s (slot_with x k m))) m m' out out' r → Writes-as d
  writes_first q h = writes_as FirstCa q (record {
    memory = λ now. h.memory ∙ sym (requests_kept (packet_of (first_ca_of s (slot_with x k m))));
    wrote =
        h.wrote;
  }) where
    requests_kept : (p : List ℕ) → kept_put k p (requests_put k (requests_of (memory_of m) k) (memory_of m)) ≡ kept_put k p (memory_of m)
    requests_kept p = ap (kept_put k p) (requests_same (memory_of m) k)

  pub writes_csus : d ≡ Csus → SendsCsus k (packet_of (csus_of s (slot_with x k m))) m m' out out' r → Writes-as d
  writes_csus q h = writes_as Csus q (record {
    memory = λ now. h.memory ∙ ap (requests_put k (rotated (requests_of (memory_of m) k))) (sym (kept_same (memory_of m) k));
    wrote = h.wrote;
  })

module _ (d : Due) (k : ℕ) (s : rules.Settings) (x : Slot) (m out out' : List ℕ) (r : ℕ) where
  pub writes_hello : d ≡ Hello → Wrote (packet_of (hello_of s (slot_with x k m))) out out' r → WritesDue (due_kind d) k s x m m out out' r
  writes_hello q h = writes_as d k s x m m out out' r Hello q (record { memory = λ now. sym (both_same (memory_of m) k); wrote = h })

  pub writes_kept : d ≡ KeptCa → k < 8 → r ≡ length (kept_in m k) → out' ≡ written (kept_in m k) out → WritesDue (due_kind d) k s x m m out out' r
  writes_kept q h e f =
      let w : Wrote (kept_in m k) out out' r = record { size = e; octets = f } in
      writes_as d k s x m m out out' r KeptCa q
      (record { memory = λ now. sym (both_same (memory_of m) k); wrote = subst (λ (p : List ℕ). Wrote p out out' r) (sym (kept_of_lem m k h)) w })

  pub writes_update : (p : Picks) → d ≡ Update p → Wrote (packet_of (update_of s (rows_in m) k (slot_with x k m))) out out' r
      → WritesDue (due_kind d) k s x m m out out' r
  writes_update p q h = writes_as d k s x m m out out' r (Update p) q (record { memory = λ now. sym (both_same (memory_of m) k); wrote = h })

-- ---- the slot after it
module _ (d : Due) (time k : ℕ) (t t' : List Slot) where
  put_as : (e : Due) → d ≡ e → PutsDue e time k t t' → PutsDue d time k t t'
  put_as e q h = subst (λ (due : Due). PutsDue due time k t t') (sym q) h

  pub put_hello : d ≡ Hello → Changes k (hello_sent (Some time)) t t' → PutsDue d time k t t'
  put_hello q h = put_as Hello q (record { slot = λ s rows j qs kept n. h.slot qs kept; others = h.others })

  pub put_ca : (d ≡ FirstCa) ⊎ (d ≡ KeptCa) → Changes k (ca_sent time) t t' → PutsDue d time k t t'
  put_ca (inl q) h = put_as FirstCa q (record {
    slot = λ s rows j qs kept n. h.slot qs (packet_of (first_ca_of s (slot_of (slot_in t k) qs kept)));
    others = h.others;
  })
  put_ca (inr q) h = put_as KeptCa q (record { slot = λ s rows j qs kept n. h.slot qs kept; others = h.others })

  pub put_csus : d ≡ Csus → Changes k (csus_sent time) t t' → PutsDue d time k t t'
  put_csus q h = put_as Csus q (record { slot = λ s rows j qs kept n. h.slot (rotated qs) kept; others = h.others })

  pub put_update : (p : Picks) → d ≡ Update p → Changes k (λ x. update_counted (update_sent time (with_cursor (p.next % rows_most) x))) t t'
      → PutsDue d time k t t'
  put_update p q h =
      put_as (Update p) q
      (record {
        slot =
            λ s rows j qs kept n. h.slot qs kept
            ∙ ap (λ (c : ℕ). update_counted (update_sent time (with_cursor (c % rows_most) (slot_of (slot_in t k) qs kept)))) n;
        others = h.others;
      })

-- ---- both
onward : (d : Due) (k : ℕ) (x : Slot) (m : List ℕ) → GoodPicks d k x m → GoesOn d x (rows_in m) k
onward Hello k x m g = tt
onward FirstCa k x m g = tt
onward KeptCa k x m g = tt
onward Csus k x m g = tt
onward (Update p) k x m g = g.onward

module _ (d : Due) (k time : ℕ) (s : rules.Settings) (t t' : List Slot) (m m' out out' : List ℕ) (n : ℕ) where
  pub sends : GoodPicks d k (slot_in t k) m → WritesDue (due_kind d) k s (slot_in t k) m m' out out' n → PutsDue d time k t t'
      → ActsAt k (due_slot (due_kind d) s time (rows_in m) k (slot_now t k m)) (rows_in m)
      (octets_of (due_sent (due_kind d) s (rows_in m) k (slot_now t k m))) t t' m m' out out' n
  sends g w h =
      let z : rules.Slot = due_slot (due_kind d) s time (rows_in m) k (slot_now t k m) in
      record {
        acts = record {
          left =
              leaves_lists k z m m' (slot_in t' k) z.requests z.kept (w.memory time)
              (h.slot s (rows_in m) k (requests_of (memory_of m) k) (kept_of (memory_of m) k) (onward d k (slot_in t k) m g));
          wrote = w.wrote;
        };
        others = h.others;
      }

-- nothing is due
pub sends_none : (k : ℕ) (t : List Slot) (m out : List ℕ) → ActsAt k (slot_now t k m) (rows_in m) [] t t m m out out 0
sends_none k t m out = record {
  acts = record { left = leaves_same k (slot_now t k m) m (slot_in t k) refl; wrote = wrote_none out };
  others = λ j q. refl;
}
