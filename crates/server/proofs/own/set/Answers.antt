-- A key or a payload that is not good is refused. Else the name is made of key and ID, and `set_named` does the rest.
-- Assumes nothing.
use Rattle.std.proofs.Common.{rules, Err, refl, sym, ap, ◌∙◌}
use Rattle.rules.specs.Events.{code_of}
use Rattle.rules.specs.Events as events
use Rattle.slots.specs.declared.answers.Failure.TheVariants.{Size}
use Rattle.memory.specs.Memory.{entry_named}
use Rattle.server.specs.State.{server_of, answer_of}
use Rattle.server.proofs.DoesLaws.{does_not}
use Rattle.server.proofs.OwnLaws.{key_room_lem, set_key, set_payload}
use Rattle.server.proofs.own.set.Goals as goal
use Rattle.server.proofs.own.set.Goals.{then-not-fits-via-then-not-fits, then-not-fits-via-else-not-fits+then-not-fits-2}

pub returns-then-not-fits : goal.returns-then-not-fits
unfolding code_of
returns-then-not-fits c =
    let a = c.args in
    elim c.then-not-fits.branch [
      | then-not-fits-via-then-not-fits w ↦
          does_not (events.set a.key.now a.payload.now) a.s a.slots.now a.memory.now Size (answer_of a.s (Err Size))
          (set_key (server_of a.s a.slots.now a.memory.now) a.key.now a.payload.now (sym c.fits.ensures ∙ w.if-not-fits.true)) refl refl
      | then-not-fits-via-else-not-fits+then-not-fits-2 w ↦
          does_not (events.set a.key.now a.payload.now) a.s a.slots.now a.memory.now Size (answer_of a.s (Err Size))
          (set_payload (server_of a.s a.slots.now a.memory.now) a.key.now (sym c.fits.ensures ∙ w.if-not-fits.false) a.payload.now
          (sym w.fits-else-not-fits.ensures ∙ w.if-not-fits-2.true)) refl refl
    ]

pub own_name-name-requires : goal.own_name-name-requires
own_name-name-requires c =
    key_room_lem c.args.key.now c.args.s.settings.id (sym c.fits.ensures ∙ c.if-not-fits.false) (search rules)

pub returns : goal.returns
returns c =
    c.set_named.ensures c.args.key.now (sym c.fits.ensures ∙ c.if-not-fits.false)
    (sym c.fits-else-not-fits.ensures ∙ c.if-not-fits-2.false) (ap entry_named c.as_entry.ensures ∙ c.own_name-name.ensures)
