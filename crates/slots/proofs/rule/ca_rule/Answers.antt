-- In Summarize, by the side.
use Rattle.std.proofs.Common.{ap, ◌∙◌}
use Rattle.protocol.specs.declared.Alignment.TheVariants.{Summarize}
use Rattle.protocol.specs.declared.Role.TheVariants.{Master, Slave}
use Rattle.slots.specs.State.{ca_in}
use Rattle.slots.proofs.Laws.{rule_is}
use Rattle.slots.proofs.rule.ca_rule.Goals as goal

pub returns-in-Summarize-Master : goal.returns-in-Summarize-Master
returns-in-Summarize-Master c =
    let x = c.args in
    let s = c.in-Summarize-Master in
    rule_is x.id.now (ca_in x.h x.sender.now x.empty) x.kept x.l {a = Summarize Master} (s.is ∙ ap Summarize (rw s.is at s.field-0-is))
    (c.master_rule.ensures x.sender.now x.empty)

pub returns-in-Summarize-Slave : goal.returns-in-Summarize-Slave
returns-in-Summarize-Slave c =
    let x = c.args in
    let s = c.in-Summarize-Slave in
    rule_is x.id.now (ca_in x.h x.sender.now x.empty) x.kept x.l {a = Summarize Slave} (s.is ∙ ap Summarize (rw s.is at s.field-0-is))
    (c.slave_rule.ensures x.sender.now x.empty)
