-- The CSUS of the first four requests is written, and then the list rotated: what is written is of the list before.
use Rattle.std.proofs.Common.{map, take, ap, ◌∙◌}
use Rattle.actions.proofs.SendLaws.{packet_as, csus_is}
use Rattle.actions.specs.Steps.{common_of, our_message}
use Rattle.actions.specs.Parts.{slot_now}
use Rattle.table.specs.Slots.{slot_in}
use Rattle.slots.specs.State.{settings_of}
use Rattle.memory.specs.Memory.{requests_in}
use Rattle.rules.specs.Poll.{request_record, csus_of}
use Rattle.protocol.specs.Layouts.{packet_of}
use Rattle.protocol.specs.Messages.{csus}
use Rattle.actions.proofs.poll.send_csus.Goals as goal

pub returns : goal.returns
returns c =
    let a = c.args in
    let w = c.write_csus-n in
    let m = c.common-c in
    record {
      memory = c.rotate.ensures;
      wrote = packet_as (packet_of
          (our_message m.result (csus (map request_record (take 4 (requests_in a.memory.now a.k.at))))))
          (packet_of (csus_of (settings_of a.s) (slot_now a.slots.now a.k.at a.memory.now))) a.out.now w.new.out w.result
          w.ensures (csus_is a.s (slot_in a.slots.now a.k.at) a.k.at a.memory.now m.result
          (m.ensures ∙ ap (common_of a.s) c.peer_at.ensures) c.args.k.below);
    }
