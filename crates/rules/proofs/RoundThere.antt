-- Where a request is due, a round is there: the poll writes the request, and the peer's full reply to it, a summary of each of its records, is a packet
-- that is read as that reply and taken. So the queue drain speaks of requests that can be written and answered until nothing waits.
-- Assumes nothing.
use Prim.Native.Nat.{ℕ}
use mathlib.Core.Path.{◌≡◌, refl, ap, ◌∙◌}
use mathlib.Core.Bool.{true, ◌&&◌}
use mathlib.Core.List.{List, [], ◌∷◌, map}
use native.Mathlib.Omega.{arith}
use borrow.Author.Tests.{eq-eqb, le-ltb}
use Rattle.laws.specs.Lists.{All}
use Rattle.laws.specs.Tables.{In, here, there}
use Rattle.laws.proofs.Bools.{pick_of}
use Rattle.laws.proofs.Tables.{same_refl, map_in}
use Rattle.protocol.specs.Sizes.{id_length}
use Rattle.protocol.specs.Messages.{CsaRecord, summary_of, Message, csu_reply}
use Rattle.protocol.specs.Layouts.{packet_of}
use Rattle.protocol.specs.Reading.{message, read_packet}
use Rattle.protocol.specs.WellFormed.{WellFormed}
use Rattle.protocol.proofs.PacketBack.{read_back}
use Rattle.rules.specs.Server.{Settings, settings_code, Slot, Server, slot_at, fresh}
use Rattle.rules.specs.Links.{is_past}
use Rattle.rules.specs.Rows.{next_waiting, rows_of}
use Rattle.rules.specs.Requests.{entry_of}
use Rattle.rules.specs.Slots.{with_kept, passed}
use Rattle.rules.specs.Poll.{ca_interval, held_record, an_update, due_slot, poll_slot}
use Rattle.rules.specs.Refusals.{early, no_peer, no_room, link_is_down, message_code, poll_code}
use Rattle.rules.specs.Events.{Event, packet, poll, code_of, acted, step, run}
use Rattle.rules.specs.Typed.{TypedSettings, TypedEvent}
use Rattle.rules.specs.Drain.{NamedIn, Round, Answers, RequestDue}
use Rattle.rules.proofs.Relation.{Inv}
use Rattle.rules.proofs.Entries.{entry_refl}
use Rattle.rules.proofs.Stated.{none_stated}
use Rattle.rules.proofs.CodeTold.{poll_in_use}
use Rattle.rules.proofs.Kept.{KeptCa, kept_fresh, kept_run}
use Rattle.rules.proofs.Invariant.{inv_fresh, inv_run}
use Rattle.rules.proofs.UpdateCounts.{used_here}
use Rattle.rules.proofs.Typed.{TypedServer}
use Rattle.rules.proofs.TypedRecords.{replies_good, waiting_good}
use Rattle.rules.proofs.TypedRun.{slot_typed, accepted_settings, typed_fresh, typed_run}
use Rattle.rules.proofs.Rounds.{step_acted, asked_counts, asked_records}
use Rattle.rules.proofs.Drained.{looked, due, request_written}

-- ---- a summary of each record is a full reply
named_among : (rs ss : List CsaRecord) → ((r : CsaRecord) → In r rs → In (summary_of r) ss) → All (NamedIn ss) rs
named_among [] ss h = tt
named_among (r ∷ rs) ss h =
    (record { answer = summary_of r; listed = h r here; entry = entry_refl (entry_of r); number = refl }, named_among rs ss (λ q i. h q (there i)))

module _ (s : Server) (v : Inv s) (kept : KeptCa s) (ts : TypedServer s) (k now room : ℕ) (a : RequestDue k now room s) where
  abbrev x : Slot
  x = slot_at s k

  abbrev asked : List CsaRecord
  asked = rows_of held_record s.rows (next_waiting s.rows k x.cursor)

  -- what the peer says
  abbrev reply : Message
  reply = record {
    protocol = s.settings.protocol;
    group = s.settings.group;
    sender = x.peer;
    receiver = s.settings.id;
    body = csu_reply (map summary_of asked);
  }

  in_use : x.used ≡ true
  in_use = poll_in_use s k now room (unfold code_of in a.taken)

  reply_good : WellFormed id_length reply
  reply_good =
      let g = waiting_good s.rows k x.cursor ts.rows in
      record {
        protocol_fits = ts.settings.protocol_fits;
        group_fits = ts.settings.group_fits;
        sender = (slot_typed s ts k).peer in_use;
        receiver = ts.settings.id;
        body = replies_good asked g.each g.few;
      }

  reads_back : read_packet id_length (packet_of reply) ≡ message reply
  reads_back = read_back id_length reply (omega arith) reply_good

  -- ---- the slot after the poll
  abbrev after : Server
  after = step s (poll k now room)

  -- the slot has its peer and its link
  abbrev Still : Slot → Type 0
  Still y = (y.used ≡ x.used) × (y.peer ≡ x.peer) × (y.link ≡ x.link)

  still_polled : Still (poll_slot s.settings now s.rows k x)
  still_polled =
      rw (due s k now room a)
      (rw (looked s k now room a)
      (pick_of (λ (y : Slot). Still (due_slot an_update s.settings now s.rows k y)) (is_past x.link.alignment && passed ca_interval x.timers.ca now)
      (with_kept [] x) x (refl, refl, refl) (refl, refl, refl)))

  counts_so : after ≡ acted s (poll k now room)
  counts_so = step_acted s (poll k now room) (asked_counts s v kept k now room (request_written s k now room a))

  still_after : Still (slot_at after k)
  still_after = rw (ap (λ (t : Server). slot_at t k) counts_so ∙ here_after) still_polled where
    here_after : slot_at (acted s (poll k now room)) k ≡ poll_slot s.settings now s.rows k x
    here_after = unfold acted in used_here (poll_slot s.settings now s.rows k x) s.slots k in_use

  time_after_lem : after.time ≡ now
  time_after_lem = ap (λ (t : Server). t.time) counts_so ∙ (unfold acted in refl)

  settings_after : after.settings ≡ s.settings
  settings_after = ap (λ (t : Server). t.settings) counts_so ∙ (unfold acted in refl)

  -- ---- the reply is taken
  poll_after : poll_code after k now 284 ≡ 0
  poll_after =
      let f = (none_stated (no_peer s k ∷ early s now ∷ no_room room ∷ link_is_down s k ∷ []) refl).0 (unfold code_of in a.taken) in
      (none_stated (no_peer after k ∷ early after now ∷ no_room 284 ∷ link_is_down after k ∷ []) refl).1
      (rw still_after.0 f.0, (rw time_after_lem (le-ltb now now (omega arith)), (refl, (rw still_after.2 f.1.1.1.0, tt))))

  message_after : message_code after.settings (slot_at after k) reply ≡ 0
  message_after =
      rw (
        settings_after,
        still_after.1,
        still_after.2,
        a.aligned,
        same_refl x.peer,
        same_refl s.settings.id,
        eq-eqb s.settings.protocol s.settings.protocol refl,
        eq-eqb s.settings.group s.settings.group refl,
      ) refl

  reply_taken : code_of after (packet k now (packet_of reply) 284) ≡ 0
  unfolding code_of
  reply_taken = rw (poll_after, reads_back) message_after

  pub round_there : (r : Round) × Answers k s r
  round_there = (
    record { poll_time = now; poll_room = room; reply_time = now; octets = packet_of reply; reply_room = 284 },
    record {
      writes = request_written s k now room a;
      taken = reply_taken;
      reply = reply;
      reads = reads_back;
      answers = map summary_of asked;
      is_reply = refl;
      full = rw (asked_records s v kept k now room (request_written s k now room a))
          (named_among asked (map summary_of asked) (λ q i. map_in summary_of q asked i));
    },
  )

-- of every server that a list of events leaves, its numbers and octets such as a program has
pub rounds_there : (c : Settings) → settings_code c ≡ 0 → TypedSettings c → (es : List Event) → All TypedEvent es → (k now room : ℕ)
    → RequestDue k now room (run (fresh c) es) → (r : Round) × Answers k (run (fresh c) es) r
rounds_there c accepted t es u k now room d =
    round_there (run (fresh c) es) (inv_run (fresh c) es (inv_fresh c accepted)) (kept_run (fresh c) es (kept_fresh c))
    (typed_run (fresh c) es u (typed_fresh c (accepted_settings c accepted t))) k now room d
