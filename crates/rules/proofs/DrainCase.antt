-- Document 02, L1, evaluated: nine entries wait, with the cursor in the middle of them, one of them purged; two requests and their replies leave one
-- waiting, three leave none, and the purged row is free. The count of requests is 4 then; link down leaves it, and Negotiate ends it.
-- Assumes nothing.
use Prim.Native.Nat.{ℕ}
use mathlib.Core.Path.{◌≡◌, refl}
use mathlib.Core.List.{List, [], ◌∷◌, ◌++◌, map}
use Rattle.protocol.specs.declared.Alignment.{Alignment}
use Rattle.protocol.specs.declared.Alignment.TheVariants.{Down, Negotiate, Aligned}
use Rattle.protocol.specs.Messages.{csu_reply, hello, summary_of}
use Rattle.protocol.specs.Checksum.{total}
use Rattle.protocol.specs.Layouts.{record_octets, records_octets, receivers_octets, mandatory, layout, packet_of}
use Rattle.protocol.specs.Checks.{head_check, element_check, elements_check, mandatory_check}
use Rattle.protocol.specs.Answers.{fixed_code}
use Rattle.protocol.specs.Reading.{record_at, records_at, receivers_at, message_at, read_packet}
use Rattle.rules.specs.Server.{Server, fresh, slot_at, rows_used}
use Rattle.rules.specs.Rows.{next}
use Rattle.rules.specs.Events.{Event, link_up, link_down, purge, code_of, acted, step, written_at, run}
use Rattle.rules.specs.Demand3.{request_records}
use Rattle.rules.specs.Drain.{waiting_for}
use Rattle.rules.proofs.CaseEvents.{settings, says, polled, begun, sets}

-- how many wait, the next row, the count, the rows in use, and the state
record Shown : Type 0 where
  waiting : ℕ
  cursor : ℕ
  updates : ℕ
  rows : ℕ
  alignment : Alignment

abbrev shown : Server → Shown
shown s = record {
  waiting = waiting_for 0 s;
  cursor = (slot_at s 0).cursor;
  updates = (slot_at s 0).updates;
  rows = rows_used s.rows;
  alignment = (slot_at s 0).link.alignment;
}

abbrev expect : ℕ → ℕ → ℕ → ℕ → Alignment → Shown
expect w c n r a = record { waiting = w; cursor = c; updates = n; rows = r; alignment = a }

-- events, a request written at a poll with its full reply, and a look at the server
data Action : Type 0 where
  does : List Event → Action
  round : ℕ → Action
  look : Action

abbrev play : List Action → Server → List Shown
play [] s = []
play (does es ∷ more) s = play more (run s es)
play (round now ∷ more) s =
    play more (step (step s (polled 0 now)) (says 0 now (csu_reply (map summary_of (request_records (written_at s (polled 0 now)))))))
play (look ∷ more) s = shown s ∷ play more s

-- A to D are sent; then they change, A is purged, and E to I are new
abbrev backlog : List Action
backlog =
    does begun ∷ does (sets 120 (65 ∷ 66 ∷ 67 ∷ 68 ∷ [])) ∷ round 3 ∷ does (sets 121 (65 ∷ 66 ∷ 67 ∷ 68 ∷ 69 ∷ 70 ∷ 71 ∷ 72 ∷ 73 ∷ []))
    ∷ does (purge (65 ∷ []) ∷ []) ∷ look ∷ []

abbrev drain : List Action
drain =
    round 4 ∷ round 5 ∷ look ∷ round 6 ∷ look ∷ does (link_down 0 8 ∷ []) ∷ look ∷ does (link_up 0 8 ∷ says 0 8 (hello 100 10 []) ∷ []) ∷ look ∷ []

drained : play (backlog ++ drain) (fresh settings)
    ≡ expect 9 4 1 9 Aligned ∷ expect 1 3 3 8 Aligned ∷ expect 0 4 4 8 Aligned ∷ expect 0 0 4 8 Down ∷ expect 0 0 0 8 Negotiate ∷ []
unfolding code_of acted step written_at next total record_octets records_octets receivers_octets mandatory layout packet_of head_check element_check elements_check
    mandatory_check fixed_code record_at records_at receivers_at message_at read_packet
drained = refl
