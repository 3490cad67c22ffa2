-- What the records of a CSU Request, a CSU Reply and a CSUS leave.
-- Assumes nothing.
use Prim.Native.Nat.{ℕ, ◌≤◌, ◌<◌}
use mathlib.Core.Path.{◌≡◌, refl, sym, ap, ◌∙◌, subst}
use mathlib.Core.Bool.{Bool}
use mathlib.Core.List.{List, [], ◌∷◌, ◌++◌, map}
use native.Mathlib.Omega.{arith}
use lib.ListN.{length, length-map}
use Rattle.laws.specs.Choice.{pick}
use Rattle.laws.specs.Lists.{is_empty}
use Rattle.protocol.specs.Messages.{CsaRecord, summary_of, csu_request, csu_reply}
use Rattle.protocol.specs.Layouts.{packet_of}
use Rattle.rules.specs.Server.{Row, Request}
use Rattle.rules.specs.Updates.{UpdateRule, update_rule, rows_by, requests_by, is_acknowledged, Updated}
use Rattle.rules.specs.Updates.{all_updated, solicited, all_solicited, all_answers_wait}
use Rattle.rules.specs.Links.{with_alignment}
use Rattle.rules.specs.Slots.{with_link, aligned_if, completed, with_kept}
use Rattle.rules.specs.Sent.{octets_of}
use Rattle.rules.specs.Packets.{updated_by, unless_empty}
use Rattle.memory.specs.Memory.{rows_in, Memory, memory_of, with_rows, requests_put, requests_of, kept_of, kept_put}
use Rattle.memory.specs.Entries.{rows_as}
use Rattle.records.specs.declared.put.Placed.{Placed}
use Rattle.records.specs.declared.packet.Records.{Records}
use Rattle.records.specs.Views.{records_left}
use Rattle.records.specs.Walks.{updated_now, UpdatesAll}
use Rattle.records.specs.Places.{Puts, Places}
use Rattle.records.proofs.MemoryLaws.{both_requests}
use Rattle.records.proofs.WalkLaws.{left_records}
use Rattle.writer.specs.declared.write.Common.{Common}
use Rattle.slots.specs.declared.state.Settings.{Settings}
use Rattle.slots.specs.declared.state.Slot.{Slot}
use Rattle.slots.specs.State.{settings_of, slot_of}
use Rattle.table.specs.Slots.{slot_in, Changes}
use Rattle.writer.specs.Write.{Wrote}
use Rattle.actions.specs.Parts.{slot_with}
use Rattle.actions.specs.Steps.{common_of, our_message, WritesSome, TakesRequest, TakesCsus}
use Rattle.actions.proofs.PartLaws.{leaves_both, leaves_rows_kept}
use Rattle.actions.proofs.FinishLaws.{puts_within, places_within, octets_unless}

-- ---- a CSU Request
-- neither rows nor replies depend on the requests
module _ (live : ℕ → Bool) (k : ℕ) where
  abbrev updated_from : List CsaRecord → List Row → List CsaRecord → List Request → Updated
  updated_from rs rows replies qs = all_updated live k rs (record { rows = rows; requests = qs; replies = replies })

  apart : (rs : List CsaRecord) (rows : List Row) (replies : List CsaRecord) (a b : List Request)
      → ((updated_from rs rows replies a).rows ≡ (updated_from rs rows replies b).rows)
      × ((updated_from rs rows replies a).replies ≡ (updated_from rs rows replies b).replies)
  apart [] rows replies a b = (refl, refl)
  apart (r ∷ rs) rows replies a b =
      let u : UpdateRule = update_rule r rows in
      apart rs (rows_by u live k r rows) (pick (is_acknowledged u) (replies ++ (r ∷ [])) replies) (requests_by u r a) (requests_by u r b)

module _ (live : ℕ → Bool) (k : ℕ) (rs : List CsaRecord) (before after : List ℕ) (u : UpdatesAll live k rs before after) where
  now_updated : Updated
  now_updated = all_updated live k rs (updated_now k [] before)

  same_parts : (now_updated.rows ≡ (updated_by live k rs (rows_in before) []).rows)
      × (now_updated.replies ≡ (updated_by live k rs (rows_in before) []).replies)
  unfolding now_updated
  same_parts = apart live k rs (rows_in before) [] (requests_of (memory_of before) k) []

  -- the reply, of what was put
  reply_wrote : (s : Settings) (x : Slot) (c : Common) (to : Placed) (out mid out' : List ℕ) (n : ℕ) → 284 ≤ length out → c ≡ common_of s x.peer
      → Places 32 (map summary_of (all_updated live k rs (updated_now k [] before)).replies) 28 out mid to × (to.count ≤ 4)
      → WritesSome csu_reply c to.count to.next mid out' n
      → Wrote (octets_of (unless_empty (settings_of s) (slot_with x k before) csu_reply
      (map summary_of (updated_by live k rs (rows_in before) []).replies))) out out' n
  unfolding now_updated
  reply_wrote s x c to out mid out' n long e p w =
      let old : List CsaRecord = map summary_of now_updated.replies in
      let h = places_within 32 old 28 out mid to p (omega arith) in
      let wrote = w old out p.0.count (omega arith) p.0.puts.octets in
      let new : List CsaRecord = map summary_of (updated_by live k rs (rows_in before) []).replies in
      let same : old ≡ new = ap (map summary_of) same_parts.1 in
      subst (λ (l : List ℕ). Wrote l out out' n)
      ((λ i. pick (is_empty (same i)) [] (packet_of (our_message (e i) (csu_reply (same i)))))
      ∙ octets_unless (is_empty new) (our_message (common_of s x.peer) (csu_reply new))) wrote

  pub request_taken : (s : Settings) (t t' : List Slot) (c : Common) (to : Placed) (out mid out' : List ℕ) (n : ℕ) → k < 8 → 284 ≤ length out
      → c ≡ common_of s (slot_in t k).peer
      → Places 32 (map summary_of (all_updated live k rs (updated_now k [] before)).replies) 28 out mid to × (to.count ≤ 4)
      → WritesSome csu_reply c to.count to.next mid out' n
      → Changes k (λ x. with_link (with_alignment (aligned_if (is_empty (requests_of (memory_of after) k)) x.link.alignment) x.link) x) t t'
      → TakesRequest live k (settings_of s) rs t t' before after out out' n
  unfolding now_updated
  request_taken s t t' c to out mid out' n below long peer p w done =
      let x : Slot = slot_in t k in
      let y : Slot = slot_in t' k in
      let e : slot_with y k after ≡ completed (slot_with x k after) = done.slot (requests_of (memory_of after) k) (kept_of (memory_of after) k) in
      let qs : requests_of (memory_of after) k ≡ now_updated.requests =
      both_requests before after k now_updated.rows now_updated.requests u below in
      let kept : kept_of (memory_of after) k ≡ kept_of (memory_of before) k = ap (λ (m : Memory). kept_of m k) u in
      record {
        acts = record {
          left =
              leaves_both k (completed (slot_of x now_updated.requests (kept_of (memory_of before) k))) before after y
              (updated_by live k rs (rows_in before) []).rows now_updated.requests
              (u ∙ ap (λ (rows : List Row). with_rows rows (requests_put k now_updated.requests (memory_of before))) same_parts.0)
              ((λ z. slot_of y (sym qs z) (sym kept z)) ∙ e ∙ (λ z. completed (slot_of x (qs z) (kept z))));
          wrote = reply_wrote s x c to out mid out' n long peer p w;
        };
        others = done.others;
      }

-- ---- a CSUS
-- an answer to each record
solicited_length : (rows : List Row) (r : Records) → length (all_solicited rows (records_left r)) ≡ r.cursor.left
solicited_length rows r = length-map (records_left r) (solicited rows) ∙ left_records r.packet.now r.cursor

pub solicited_within : (rows : List Row) (r : Records) (out mid : List ℕ) (next : ℕ)
    → Puts 64 (all_solicited rows (records_left r)) 28 out mid next → (28 ≤ next) × (next ≤ 284)
solicited_within rows r out mid next puts =
    let size = solicited_length rows r in
    let few = r.walks.few in
    puts_within 64 (all_solicited rows (records_left r)) 28 out mid next puts (omega arith) (omega arith)

pub csus_taken : (s : Settings) (k : ℕ) (r : Records) (before answered after : List ℕ) (t : List Slot) (c : Common) (out mid out' : List ℕ) (next n : ℕ)
    → 284 ≤ length out → c ≡ common_of s (slot_in t k).peer → Puts 64 (all_solicited (rows_in before) (records_left r)) 28 out mid next
    → WritesSome csu_request c r.cursor.left next mid out' n
    → memory_of answered ≡ rows_as (all_answers_wait k (records_left r)) before
    → memory_of after ≡ kept_put k [] (memory_of answered)
    → TakesCsus k (settings_of s) (records_left r) t before after out out' n
csus_taken s k r before answered after t c out mid out' next n long e puts w a m =
    let x : Slot = slot_in t k in
    let rs : List CsaRecord = all_solicited (rows_in before) (records_left r) in
    let size : length rs ≡ r.cursor.left = solicited_length (rows_in before) r in
    let h = solicited_within (rows_in before) r out mid next puts in
    let wrote = w rs out (sym size) (omega arith) puts.octets in
    record {
      acts = record {
        left =
            leaves_rows_kept k (with_kept [] (slot_with x k before)) before after x (all_answers_wait k (records_left r) (rows_in before)) []
            (m ∙ ap (kept_put k []) a) refl;
        wrote =
            subst (λ (l : List ℕ). Wrote l out out' n)
            (ap (λ (y : Common). pick (is_empty rs) [] (packet_of (our_message y (csu_request rs)))) e
            ∙ octets_unless (is_empty rs) (our_message (common_of s x.peer) (csu_request rs))) wrote;
      };
      others = λ j q. refl;
    }
