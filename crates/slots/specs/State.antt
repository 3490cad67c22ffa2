-- What the server's structs mean: a slot with its request list and kept CA is the slot of the rules.
-- Assumes nothing.
use Rattle.std.specs.Prelude.{ℕ, Bool, List, []}
use Rattle.laws.specs.Choice.{pick}
use Rattle.protocol.specs.declared.CaHead.{CaHead}
use Rattle.rules.specs.Server as rules
use Rattle.rules.specs.Server.{Request}
use Rattle.rules.specs.Links as links
use Rattle.slots.specs.declared.state.Settings.{Settings}
use Rattle.slots.specs.declared.state.Slot.{Slot}
use Rattle.slots.specs.declared.alignment.CaRule.{CaRule}
use Rattle.slots.specs.declared.alignment.CaRule.TheVariants.{Refuse, BecomeSlave, BecomeMaster, Repeat, SlaveOn, MasterOn, MasterDone, Ignore, Restart}

abbrev pub settings_of : Settings → rules.Settings
settings_of s = record { id = s.id; protocol = s.protocol; group = s.group; interval = s.interval; factor = s.factor }

-- the slot of the rules, with the request list and the kept CA that the memory has for it
abbrev pub slot_of : Slot → List Request → List ℕ → rules.Slot
slot_of x requests kept = record {
  used = x.used;
  peer = x.peer;
  link = x.link;
  timers = x.timers;
  kept = kept;
  listed = x.listed;
  cursor = x.cursor;
  requests = requests;
  missed = x.missed;
  updates = x.updates;
}

abbrev pub empty_if : {A : Type 0} → Bool → List A → List A
empty_if b l = pick b [] l

-- a CA as its moves see it
abbrev pub ca_in : CaHead → List ℕ → Bool → links.CaIn
ca_in h sender empty = record { head = h; sender = sender; empty = empty }

-- the rule of each case
abbrev pub rule_of : CaRule → links.CaRule
rule_of Refuse = links.refuse_ca
rule_of BecomeSlave = links.become_slave
rule_of BecomeMaster = links.become_master
rule_of Repeat = links.repeat
rule_of SlaveOn = links.slave_on
rule_of MasterOn = links.master_on
rule_of MasterDone = links.master_done
rule_of Ignore = links.ignore
rule_of Restart = links.restart
