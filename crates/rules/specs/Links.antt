-- Document 01, 'Hello' and 'Alignment': how the two machines of a slot move. The history moves its slots by these definitions too.
-- Assumes nothing.
use Rattle.std.specs.Prelude.{ℕ, Bool, true, false, not, ◌&&◌, ◌||◌, List, eqb}
use Rattle.laws.specs.Choice.{pick}
use Rattle.laws.specs.Tables.{greater}
use Rattle.protocol.specs.declared.CaNumber.{CaNumber}
use Rattle.protocol.specs.declared.CaHead.{CaHead}
use Rattle.protocol.specs.declared.Role.{Role}
use Rattle.protocol.specs.declared.Role.TheVariants.{Master, Slave}
use Rattle.protocol.specs.declared.HelloState.{HelloState}
use Rattle.protocol.specs.declared.HelloState.TheVariants.{Down as helloDown, Waiting, Unidirectional, Bidirectional}
use Rattle.protocol.specs.declared.Alignment.{Alignment}
use Rattle.protocol.specs.declared.Alignment.TheVariants.{Down, Negotiate, Summarize, Update, Aligned}
use Rattle.protocol.specs.declared.Link.{Link}
use Rattle.protocol.specs.Numbers.{next_ca}
use Rattle.protocol.specs.Hello.{stale}

-- ---- tests of a state
abbrev pub is_down : HelloState → Bool
is_down helloDown = true
is_down Waiting = false
is_down Unidirectional = false
is_down Bidirectional = false

abbrev pub is_bidirectional : HelloState → Bool
is_bidirectional helloDown = false
is_bidirectional Waiting = false
is_bidirectional Unidirectional = false
is_bidirectional Bidirectional = true

-- in the last two states our Hello names the peer, and a Hello that stays away counts
abbrev pub hears_peer : HelloState → Bool
hears_peer helloDown = false
hears_peer Waiting = false
hears_peer Unidirectional = true
hears_peer Bidirectional = true

-- 'Puts, for a slot in Summarize, Update or Aligned'
abbrev pub is_live : Alignment → Bool
is_live Down = false
is_live Negotiate = false
is_live (Summarize r) = true
is_live Update = true
is_live Aligned = true

-- past Summarize: 'outside Update and Aligned types 2, 3 and 4 are 14'
abbrev pub is_past : Alignment → Bool
is_past Down = false
is_past Negotiate = false
is_past (Summarize r) = false
is_past Update = true
is_past Aligned = true

-- from the first state into the second
abbrev pub enters : Alignment → Alignment → Bool
enters Down Down = false
enters Down Negotiate = true
enters Negotiate Down = true
enters Negotiate Negotiate = false
enters (Summarize r) Down = true
enters (Summarize r) Negotiate = true
enters Update Down = true
enters Update Negotiate = true
enters Aligned Down = true
enters Aligned Negotiate = true
enters a (Summarize r) = false
enters a Update = false
enters a Aligned = false

-- ---- Hello
abbrev pub with_alignment : Alignment → Link → Link
with_alignment a l = record {
  hello = l.hello;
  heard = l.heard;
  interval = l.interval;
  factor = l.factor;
  alignment = a;
  role = l.role;
  number = l.number;
  last = l.last;
  more = l.more;
}

abbrev pub with_hello : HelloState → Link → Link
with_hello h l = record {
  hello = h;
  heard = l.heard;
  interval = l.interval;
  factor = l.factor;
  alignment = l.alignment;
  role = l.role;
  number = l.number;
  last = l.last;
  more = l.more;
}

abbrev pub with_number : CaNumber → Link → Link
with_number n l = record {
  hello = l.hello;
  heard = l.heard;
  interval = l.interval;
  factor = l.factor;
  alignment = l.alignment;
  role = l.role;
  number = n;
  last = l.last;
  more = l.more;
}

-- 'A taken Hello records time, interval and factor'
abbrev pub recorded : ℕ → ℕ → ℕ → Link → Link
recorded time interval factor l = record {
  hello = l.hello;
  heard = time;
  interval = interval;
  factor = factor;
  alignment = l.alignment;
  role = l.role;
  number = l.number;
  last = l.last;
  more = l.more;
}

-- 'Entering Negotiate also adds one to the slot's CA number'
abbrev pub negotiating : Link → Link
negotiating l = with_alignment Negotiate (with_number (next_ca l.number) l)

-- 'Reaching Bidirectional enters Negotiate'; a repeat changes nothing
abbrev pub to_bidirectional : Link → Link
to_bidirectional l = pick (is_bidirectional l.hello) l (negotiating (with_hello Bidirectional l))

-- 'leaving it enters Down'; in the other states the alignment is Down already
abbrev pub to_other : HelloState → Link → Link
to_other h l = with_alignment Down (with_hello h l)

-- 'Link up: Down to Waiting. Link down: Down. Repeats change only the time.'
abbrev pub up_move : Link → Link
up_move l = pick (is_down l.hello) (to_other Waiting l) l

abbrev pub down_move : Link → Link
down_move l = to_other helloDown l

-- 'it moves to Bidirectional if any receiver is us, else Unidirectional'
abbrev pub hello_move : ℕ → ℕ → ℕ → Bool → Link → Link
hello_move time interval factor named l =
    pick named (to_bidirectional (recorded time interval factor l)) (to_other Unidirectional (recorded time interval factor l))

-- 'A Hello refused with 10 .. moves its machine to Waiting'
abbrev pub malformed_move : Link → Link
malformed_move l = to_other Waiting l

-- 'At a poll, with more than interval times factor seconds since the last taken Hello, Unidirectional and Bidirectional go to Waiting'
abbrev pub check_move : ℕ → Link → Link
check_move time l =
    pick (hears_peer l.hello && stale l.interval l.factor l.heard time) (to_other Waiting l) l

-- ---- alignment
-- a CA as its moves see it
pub record CaIn : Type 0 where
  pub head : CaHead
  pub sender : List ℕ
  pub empty : Bool

abbrev pub same_bit : Bool → Bool → Bool
same_bit true b = b
same_bit false b = not b

-- 'number and M, I, O as in the last CA taken'
abbrev pub same_head : CaHead → CaHead → Bool
same_head a b =
    eqb a.number.0 b.number.0
    && (same_bit a.flags.master b.flags.master
    && (same_bit a.flags.initial b.flags.initial && same_bit a.flags.more b.flags.more))

-- 'M, I clear and number ours'
abbrev pub from_slave : CaHead → CaNumber → Bool
from_slave h n = not h.flags.master && (not h.flags.initial && eqb h.number.0 n.0)

-- the rule that a CA takes
pub data CaRule : Type 0 where
  refuse_ca : CaRule
  become_slave : CaRule
  become_master : CaRule
  repeat : CaRule
  slave_on : CaRule
  master_on : CaRule
  master_done : CaRule
  ignore : CaRule
  restart : CaRule

-- 'CA in Negotiate'; an ID is 'greater than ours as octets'
abbrev pub negotiate_rule : List ℕ → CaIn → Link → CaRule
negotiate_rule id c l =
    pick ((c.head.flags.master && (c.head.flags.initial && c.head.flags.more)) && (c.empty && greater c.sender id)) become_slave
    (pick (greater id c.sender && from_slave c.head l.number) become_master refuse_ca)

-- 'CA in Summarize, slave'
abbrev pub slave_rule : CaIn → Link → CaRule
slave_rule c l =
    pick (same_head c.head l.last) repeat
    (pick (c.head.flags.master && (not c.head.flags.initial && eqb c.head.number.0 (next_ca l.number).0)) slave_on restart)

-- 'Master: .. enter Update if both last O bits are clear .. M, I clear and one less: no effect'
abbrev pub master_rule : CaIn → Link → CaRule
master_rule c l =
    pick (from_slave c.head l.number) (pick (c.head.flags.more || l.more) master_on master_done)
    (pick (from_slave (record { number = next_ca c.head.number; flags = c.head.flags }) l.number) ignore restart)

-- 'CA in Update or Aligned: the slave repeats a kept CA for its duplicate; at the master M, I clear with its number has no effect; anything
-- else: Negotiate'; `kept`: there is a kept CA
abbrev pub past_rule : CaIn → Bool → Link → Role → CaRule
past_rule c kept l Slave = pick (kept && same_head c.head l.last) repeat restart
past_rule c kept l Master = pick (from_slave c.head l.number) ignore restart

abbrev pub rule_in : List ℕ → CaIn → Bool → Link → Alignment → CaRule
rule_in id c kept l Down = refuse_ca
rule_in id c kept l Negotiate = negotiate_rule id c l
rule_in id c kept l (Summarize Slave) = slave_rule c l
rule_in id c kept l (Summarize Master) = master_rule c l
rule_in id c kept l Update = past_rule c kept l l.role
rule_in id c kept l Aligned = past_rule c kept l l.role

abbrev pub ca_rule : List ℕ → CaIn → Bool → Link → CaRule
ca_rule id c kept l = rule_in id c kept l l.alignment

-- after a CA was taken; `more`: the O bit of our answer
abbrev pub aligned : Alignment → Role → CaNumber → CaHead → Bool → Link → Link
aligned a r n h more l = record {
  hello = l.hello;
  heard = l.heard;
  interval = l.interval;
  factor = l.factor;
  alignment = a;
  role = r;
  number = n;
  last = h;
  more = more;
}

abbrev pub ca_move : CaRule → CaIn → Bool → Link → Link
ca_move refuse_ca c more l = l
ca_move become_slave c more l = aligned (Summarize Slave) Slave c.head.number c.head more l
ca_move become_master c more l = aligned (Summarize Master) Master (next_ca l.number) c.head more l
ca_move repeat c more l = l
ca_move slave_on c more l =
    aligned (pick (c.head.flags.more || more) (Summarize Slave) Update) Slave c.head.number c.head more l
ca_move master_on c more l = aligned (Summarize Master) Master (next_ca l.number) c.head more l
ca_move master_done c more l = aligned Update Master l.number c.head l.more l
ca_move ignore c more l = l
ca_move restart c more l = negotiating l
