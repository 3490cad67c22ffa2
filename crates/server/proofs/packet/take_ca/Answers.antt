-- The CA is taken by its rule, and the slot that it leaves is put.
use Rattle.std.proofs.Common.{ap}
use Rattle.server.proofs.ActLaws.{acts_ca}
use Rattle.server.proofs.ReadLaws.{body_is, is_ca_lem}
use Rattle.records.specs.Views.{records_left}
use Rattle.rules.specs.Refusals.{is_hello}
use Rattle.slots.specs.State.{settings_of, rule_of}
use Rattle.server.proofs.packet.take_ca.Goals as goal

pub records-requires : goal.records-requires
records-requires c = ap is_hello (body_is c.args.p.octets.now c.args.p.head (is_ca_lem c.args.p.head.kind c.requires.1.0))

pub returns : goal.returns
returns c =
    let a = c.args in
    let q = c.requires.1 in
    let t = c.take_ca-acted in
    acts_ca a.p.octets.now a.p.head a.k.at a.time (settings_of a.s) a.slots.now a.memory.now t.new.memory a.out.now
    c.put_slot.new.t t.new.out a.x t.result (rule_of a.rule) q.1.0 (is_ca_lem a.p.head.kind q.0)
    q.1.1 c.head_of.result (records_left c.records.result) c.head_of.ensures c.records.ensures t.ensures c.put_slot.ensures
