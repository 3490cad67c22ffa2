-- What was left is its first record and those behind it; with none left there is none.
use Rattle.std.proofs.Common.{rules, ◌∷◌, ◌+◌, ◌-◌, ◌<◌, ap, ◌∙◌, arith}
use Rattle.protocol.specs.Messages.{CsaRecord}
use Rattle.wire.specs.Views.{records_of}
use Rattle.wire.proofs.Records.{no_records}
use Rattle.records.proofs.WalkLaws.{first_named, first_is, first_then, rest_walks, left_records}
use Rattle.records.proofs.packet.RecordsIterator.next.Goals as goal

pub returns-then-left-eq0-clause-steps : goal.returns-then-left-eq0-clause-steps
returns-then-left-eq0-clause-steps c =
    let s = c.args.self.now in
    let none = no_records s.packet.now s.cursor.left s.cursor.at c.if-left-eq0.true in
    (none, none)

pub invariant_of-self : goal.invariant_of-self
invariant_of-self c =
    let s = c.args.self.now in
    record { walks = rest_walks s.packet.now s.cursor.at s.cursor.left s.walks (omega arith) c.size.result c.size.ensures }

pub invariant_of-result : goal.invariant_of-result
invariant_of-result c =
    let s = c.args.self.now in
    record {
      fits = (first_named s.packet.now s.cursor.at s.cursor.left s.walks (omega arith) c.name.result.now c.payload.result.now
          c.name.ensures c.payload.ensures).0;
    }

pub invariant_of-result-2 : goal.invariant_of-result-2
invariant_of-result-2 c =
    let s = c.args.self.now in
    record {
      fits = (first_named s.packet.now s.cursor.at s.cursor.left s.walks (omega arith) c.name.result.now c.payload.result.now
          c.name.ensures c.payload.ensures).1;
    }

pub returns-clause-steps : goal.returns-clause-steps
returns-clause-steps c =
    let s = c.args.self.now in
    let some : 0 < s.cursor.left = omega arith in
    first_then s.packet.now s.cursor.at s.cursor.left s.walks some c.size.result c.size.ensures
    ∙ ap (λ (r : CsaRecord). r ∷ records_of s.packet.now (record { at = s.cursor.at + c.size.result; left = s.cursor.left - 1 }))
    (first_is s.packet.now s.cursor.at s.cursor.left s.walks some c.name.result.now c.payload.result.now c.name.ensures
    c.payload.ensures c.hops.result _ c.number.result c.hops.ensures (search) c.number.ensures)

pub returns-clause-goes : goal.returns-clause-goes
returns-clause-goes c =
    let s = c.args.self.now in
    let e = left_records s.packet.now s.cursor in
    let f = left_records s.packet.now (record { at = s.cursor.at + c.size.result; left = s.cursor.left - 1 }) in search rules
