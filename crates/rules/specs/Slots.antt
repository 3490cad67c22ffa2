-- What events do to a slot beside its link: what entering Down or Negotiate empties, what is kept and when it was sent.
-- Assumes nothing.
use Rattle.std.specs.Prelude.{ℕ, ◌-◌, Bool, true, List, [], leb}
use Rattle.laws.specs.Choice.{pick}
use Rattle.laws.specs.Lists.{is_empty}
use Rattle.protocol.specs.declared.Alignment.{Alignment}
use Rattle.protocol.specs.declared.Alignment.TheVariants.{Down, Negotiate, Summarize, Update, Aligned}
use Rattle.std.specs.Prelude.{Option}
use Rattle.std.specs.Prelude.{None, Some}
use Rattle.protocol.specs.declared.Link.{Link}
use Rattle.protocol.specs.declared.Timers.{Timers}
use Rattle.protocol.specs.Numbers.{one_more}
use Rattle.protocol.specs.Messages.{Body, Message}
use Rattle.rules.specs.Server.{Settings, Request, Slot}
use Rattle.rules.specs.Links.{with_alignment, enters}

-- '"Passed" means at least'; none yet counts as passed
abbrev pub passed : ℕ → Option ℕ → ℕ → Bool
passed n None now = true
passed n (Some then) now = leb n (now - then)

-- a packet of ours to the slot's peer, in our group
abbrev pub to_peer : Settings → Slot → Body → Message
to_peer s x b = record { protocol = s.protocol; group = s.group; sender = s.id; receiver = x.peer; body = b }

-- ---- parts of a slot replaced
abbrev pub with_link : Link → Slot → Slot
with_link l x = record {
  used = x.used;
  peer = x.peer;
  link = l;
  timers = x.timers;
  kept = x.kept;
  listed = x.listed;
  cursor = x.cursor;
  requests = x.requests;
  missed = x.missed;
  updates = x.updates;
}

abbrev pub with_timers : Timers → Slot → Slot
with_timers t x = record {
  used = x.used;
  peer = x.peer;
  link = x.link;
  timers = t;
  kept = x.kept;
  listed = x.listed;
  cursor = x.cursor;
  requests = x.requests;
  missed = x.missed;
  updates = x.updates;
}

abbrev pub with_kept : List ℕ → Slot → Slot
with_kept p x = record {
  used = x.used;
  peer = x.peer;
  link = x.link;
  timers = x.timers;
  kept = p;
  listed = x.listed;
  cursor = x.cursor;
  requests = x.requests;
  missed = x.missed;
  updates = x.updates;
}

abbrev pub with_listed : ℕ → Slot → Slot
with_listed n x = record {
  used = x.used;
  peer = x.peer;
  link = x.link;
  timers = x.timers;
  kept = x.kept;
  listed = n;
  cursor = x.cursor;
  requests = x.requests;
  missed = x.missed;
  updates = x.updates;
}

abbrev pub with_cursor : ℕ → Slot → Slot
with_cursor n x = record {
  used = x.used;
  peer = x.peer;
  link = x.link;
  timers = x.timers;
  kept = x.kept;
  listed = x.listed;
  cursor = n;
  requests = x.requests;
  missed = x.missed;
  updates = x.updates;
}

abbrev pub with_requests : List Request → ℕ → Slot → Slot
with_requests qs n x = record {
  used = x.used;
  peer = x.peer;
  link = x.link;
  timers = x.timers;
  kept = x.kept;
  listed = x.listed;
  cursor = x.cursor;
  requests = qs;
  missed = n;
  updates = x.updates;
}

abbrev pub with_updates : ℕ → Slot → Slot
with_updates n x = record {
  used = x.used;
  peer = x.peer;
  link = x.link;
  timers = x.timers;
  kept = x.kept;
  listed = x.listed;
  cursor = x.cursor;
  requests = x.requests;
  missed = x.missed;
  updates = n;
}

-- ---- when packets were sent
abbrev pub hello_sent : Option ℕ → Slot → Slot
hello_sent t x = with_timers (record { hello = t; ca = x.timers.ca; csus = x.timers.csus; update = x.timers.update }) x

abbrev pub ca_sent : ℕ → Slot → Slot
ca_sent now x = with_timers (record { hello = x.timers.hello; ca = Some now; csus = x.timers.csus; update = x.timers.update }) x

abbrev pub csus_sent : ℕ → Slot → Slot
csus_sent now x = with_timers (record { hello = x.timers.hello; ca = x.timers.ca; csus = Some now; update = x.timers.update }) x

abbrev pub update_sent : ℕ → Slot → Slot
update_sent now x = with_timers (record { hello = x.timers.hello; ca = x.timers.ca; csus = x.timers.csus; update = Some now }) x

-- one more update request written at a poll, 'up to 65535' (document 02, L1)
abbrev pub update_counted : Slot → Slot
update_counted x = with_updates (one_more x.updates) x

-- 'since it last entered Negotiate' (document 02, L1); entering Down leaves it
abbrev pub updates_in : Alignment → ℕ → ℕ
updates_in Down n = n
updates_in Negotiate n = 0
updates_in (Summarize r) n = n
updates_in Update n = n
updates_in Aligned n = n

-- ---- 'Entering Down or Negotiate empties the slot's request list, waiting list, kept CA and missed count'; the times of sending count
-- from Negotiate on, and so does the place of the next rows
abbrev pub emptied : Slot → Slot
emptied x = record {
  used = x.used;
  peer = x.peer;
  link = x.link;
  timers = record { hello = x.timers.hello; ca = None; csus = None; update = None };
  kept = [];
  listed = 0;
  cursor = 0;
  requests = [];
  missed = 0;
  updates = updates_in x.link.alignment x.updates;
}

-- the slot with its link moved
abbrev pub moved : Link → Slot → Slot
moved l x = pick (enters x.link.alignment l.alignment) (emptied (with_link l x)) (with_link l x)

-- 'Update with an empty request list becomes Aligned'
abbrev pub aligned_if : Bool → Alignment → Alignment
aligned_if none Down = Down
aligned_if none Negotiate = Negotiate
aligned_if none (Summarize r) = Summarize r
aligned_if none Update = pick none Aligned Update
aligned_if none Aligned = Aligned

abbrev pub completed : Slot → Slot
completed x = with_link (with_alignment (aligned_if (is_empty x.requests) x.link.alignment) x.link) x
