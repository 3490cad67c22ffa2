-- The answers stand in out before the head is put; then the kept CA goes.
use Rattle.std.proofs.Common.{ap, ◌∙◌, arith}
use Rattle.actions.proofs.UpdateLaws.{solicited_within, csus_taken}
use Rattle.actions.specs.Steps.{common_of}
use Rattle.memory.specs.Memory.{rows_in}
use Rattle.actions.proofs.updates.take_csus.Goals as goal

pub write_csu-n-requires : goal.write_csu-n-requires
write_csu-n-requires c =
    let a = c.args in
    let s = c.solicit_all-next in
    let h = solicited_within (rows_in a.memory.now) a.records a.out.now s.new.out s.result s.ensures.puts in
    (a.records.walks.few, (h.0, (h.1, omega (arith, s.auto.out, c.requires))))

pub returns : goal.returns
returns c =
    let a = c.args in
    let s = c.solicit_all-next in
    let w = c.write_csu-n in
    let m = c.common in
    let d = c.drop_kept in
    csus_taken a.s a.k.at a.records a.memory.now s.new.memory d.new.memory a.slots.now m.result a.out.now
    s.new.out w.new.out s.result w.result c.requires
    (m.ensures ∙ ap (common_of a.s) c.peer_at-peer.ensures) s.ensures.puts w.ensures s.ensures.waits d.ensures
