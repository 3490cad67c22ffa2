-- Settings are refused where the interval or the factor is 0; else slots and memory are cleared, and the server is a fresh one. Each way out is a law.
use Rattle.std.proofs.Common.{rules, ◌≡◌, length}
use Rattle.rules.specs.Typed.{TypedSettings}
use Rattle.slots.specs.State.{settings_of}
use Rattle.server.proofs.PeerLaws.{fresh_server, both_set, starts_so}
use Rattle.server.proofs.peers.start.Goals as goal

pub returns-clause-starts : goal.returns-clause-starts
returns-clause-starts c =
    let a = c.args in
    let n : length a.settings.id ≡ 4 = search rules in
    let typed : TypedSettings (settings_of a.settings) = record {
      id_octets = c.bounded.ensures;
      protocol_fits = search rules;
      group_fits = search rules;
      interval_fits = search rules;
      factor_fits = search rules;
    } in
    let m = c.fresh in
    starts_so a.settings (record { settings = a.settings; time = 0 }) c.take.result a.slots.now _ a.memory.now m.new.memory
    typed (both_set a.settings n c.if-settings-eq0.false c.if-settings-eq0-2.false)
    (fresh_server a.settings _ m.new.memory (search rules) m.ensures) c.take.ensures
