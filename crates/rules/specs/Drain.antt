-- Document 02, L1, the queue drain: 'with w entries waiting, no other event but polls at least a second apart that write CSU Requests, and each
-- request's full reply taken before the next poll, the list is empty after w/4 requests, rounded up, and no sooner'.
-- Assumes nothing.
use Rattle.std.specs.Prelude.{ℕ, ◌<◌, ◌≡◌, true, false, List, [], ◌∷◌}
use Rattle.laws.specs.Lists.{All}
use Rattle.laws.specs.Tables.{count, In}
use Rattle.protocol.specs.declared.Alignment.TheVariants.{Aligned}
use Rattle.protocol.specs.Sizes.{id_length}
use Rattle.protocol.specs.Messages.{CsaRecord, Message, csu_reply}
use Rattle.protocol.specs.Reading.{message, read_packet}
use Rattle.rules.specs.Server.{same_entry, waits_for, Server, slot_at}
use Rattle.rules.specs.Links.{check_move}
use Rattle.rules.specs.Requests.{entry_of}
use Rattle.rules.specs.Slots.{passed}
use Rattle.rules.specs.Poll.{update_interval}
use Rattle.rules.specs.Events.{Event, packet, poll, code_of, step, item_of}
use Rattle.rules.specs.Demand3.{request_records, is_update_to}

-- 'w entries waiting' for slot k
abbrev pub waiting_for : ℕ → Server → ℕ
waiting_for k s = count (waits_for k) s.rows

-- one of the reply's records names the record's entry, with its number
pub record NamedIn (answers : List CsaRecord) (r : CsaRecord) : Type 0 where
  pub answer : CsaRecord
  pub listed : In answer answers
  pub entry : same_entry (entry_of r) (entry_of answer) ≡ true
  pub number : answer.number ≡ r.number

-- ---- one request: a poll, and the packet that answers it
pub record Round : Type 0 where
  pub poll_time : ℕ
  pub poll_room : ℕ
  pub reply_time : ℕ
  pub octets : List ℕ
  pub reply_room : ℕ

abbrev pub poll_event : ℕ → Round → Event
poll_event k r = poll k r.poll_time r.poll_room

abbrev pub reply_event : ℕ → Round → Event
reply_event k r = packet k r.reply_time r.octets r.reply_room

-- the poll writes a CSU Request, and its 'full reply' is 'taken'
pub record Answers (k : ℕ) (s : Server) (r : Round) : Type 0 where
  pub writes : is_update_to k (item_of s (poll_event k r)) ≡ true
  pub taken : code_of (step s (poll_event k r)) (reply_event k r) ≡ 0
  pub reply : Message
  pub reads : read_packet id_length r.octets ≡ message reply
  pub answers : List CsaRecord
  pub is_reply : reply.body ≡ csu_reply answers
  pub full : All (NamedIn answers) (request_records (item_of s (poll_event k r)).written)

-- 'no other event'
abbrev pub round_events : ℕ → List Round → List Event
round_events k [] = []
round_events k (r ∷ rs) = poll_event k r ∷ reply_event k r ∷ round_events k rs

abbrev pub Drains : ℕ → Server → List Round → Type 0
Drains k s [] = Unit {0}
Drains k s (r ∷ rs) = Answers k s r × Drains k (step (step s (poll_event k r)) (reply_event k r)) rs

-- ---- a poll that writes such a request: it is taken, the slot is Aligned and its peer heard of, no Hello is due, the last request is a second ago,
-- and an entry waits
pub record RequestDue (k now room : ℕ) (s : Server) : Type 0 where
  pub taken : code_of s (poll k now room) ≡ 0
  pub aligned : (slot_at s k).link.alignment ≡ Aligned
  pub heard : check_move now (slot_at s k).link ≡ (slot_at s k).link
  pub no_hello : passed s.settings.interval (slot_at s k).timers.hello now ≡ false
  pub apart : passed update_interval (slot_at s k).timers.update now ≡ true
  pub waits : 0 < waiting_for k s
