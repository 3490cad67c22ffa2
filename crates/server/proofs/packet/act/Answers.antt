-- Type by type: what its function leaves is what the rules do on that body.
use Rattle.std.proofs.Common.{ap}
use Rattle.server.proofs.ActLaws.{acts_request, acts_reply, acts_hello}
use Rattle.server.proofs.ReadLaws.{body_is}
use Rattle.records.specs.Views.{records_left}
use Rattle.slots.specs.State.{settings_of}
use Rattle.rules.specs.Refusals.{is_hello}
use Rattle.server.proofs.packet.act.Goals as goal

pub records-requires : goal.records-requires
records-requires c = ap is_hello (body_is c.args.p.octets.now c.args.p.head c.in-CsuRequest.is)

pub invariant_of-hello : goal.invariant_of-hello
invariant_of-hello c = record { near = c.args.p.reaches.reach }

pub returns-in-CsuRequest : goal.returns-in-CsuRequest
returns-in-CsuRequest c =
    let a = c.args in
    let t = c.take_request in
    let l = c.live_of-live in
    acts_request a.p.octets.now a.p.head a.k.at a.time (settings_of a.s) a.slots.now a.memory.now t.new.memory a.out.now t.new.slots
    t.new.out t.result l.result (records_left c.records.result) c.in-CsuRequest.is (l.ensures a.memory.now) c.records.ensures t.ensures

pub returns-in-CsuReply : goal.returns-in-CsuReply
returns-in-CsuReply c =
    let a = c.args in
    let r = c.reply_all in
    acts_reply a.p.octets.now a.p.head a.k.at a.time (settings_of a.s) a.slots.now a.memory.now r.new.memory a.out.now
    (records_left c.records-in-CsuReply.result) c.in-CsuReply.is c.records-in-CsuReply.ensures r.ensures

pub returns-in-Hello : goal.returns-in-Hello
returns-in-Hello c =
    let a = c.args in
    let t = c.take_hello in
    acts_hello a.p.octets.now a.p.head a.k.at a.time (settings_of a.s) a.slots.now a.memory.now t.new.memory a.out.now t.new.slots
    c.in-Hello.is t.ensures
