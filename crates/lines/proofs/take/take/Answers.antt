-- Kind of record by kind: the event that it says, or code 17.
use Rattle.std.proofs.Common.{refl, sym, ◌∙◌, arith}
use Rattle.lines.proofs.LineLaws.{takes_event, takes_out, takes_none, kind_1, kind_2, kind_3, kind_4, kind_5, kind_6, kind_7, kind_8, kind_none}
use Rattle.lines.proofs.take.take.Goals as goal

pub returns-in-1 : goal.returns-in-1
returns-in-1 c = takes_event (kind_1 c.args.r.now _ _ c.slot.ensures c.time.ensures (sym c.kind.ensures ∙ c.in-1.is)) refl c.link_up.ensures

pub returns-in-2 : goal.returns-in-2
returns-in-2 c =
    takes_event (kind_2 c.args.r.now _ _ c.slot-in-2.ensures c.time-in-2.ensures (sym c.kind.ensures ∙ c.in-2.is)) refl c.link_down.ensures

pub returns-in-3 : goal.returns-in-3
returns-in-3 c =
    takes_out (kind_3 c.args.r.now _ _ _ _ c.slot-in-3.ensures c.time-in-3.ensures c.packet.ensures (search) (sym c.kind.ensures ∙ c.in-3.is))
    c.packet-in-3.ensures

pub returns-in-4 : goal.returns-in-4
returns-in-4 c =
    takes_out (kind_4 c.args.r.now _ _ _ c.slot-in-4.ensures c.time-in-4.ensures (search) (sym c.kind.ensures ∙ c.in-4.is)) c.poll.ensures

pub returns-in-5 : goal.returns-in-5
returns-in-5 c = takes_event (kind_5 c.args.r.now _ _ c.key.ensures c.payload.ensures (sym c.kind.ensures ∙ c.in-5.is)) refl c.set.ensures

pub returns-in-6 : goal.returns-in-6
returns-in-6 c = takes_event (kind_6 c.args.r.now _ c.key-in-6.ensures (sym c.kind.ensures ∙ c.in-6.is)) refl c.withdraw.ensures

pub returns-in-7 : goal.returns-in-7
returns-in-7 c = takes_event (kind_7 c.args.r.now _ c.key-in-7.ensures (sym c.kind.ensures ∙ c.in-7.is)) refl c.purge.ensures

pub returns-in-8 : goal.returns-in-8
returns-in-8 c = takes_event (kind_8 c.args.r.now _ _ c.slot-in-8.ensures c.id.ensures (sym c.kind.ensures ∙ c.in-8.is)) refl c.add_peer.ensures

pub returns-in_default : goal.returns-in_default
returns-in_default c =
    let k = c.kind.ensures in
    takes_none (kind_none c.args.r.now (λ e. omega (arith, k, e)) (λ e. omega (arith, k, e)) (λ e. omega (arith, k, e)) (λ e. omega (arith, k, e))
    (λ e. omega (arith, k, e)) (λ e. omega (arith, k, e)) (λ e. omega (arith, k, e)) (λ e. omega (arith, k, e))) c.refuse.ensures
