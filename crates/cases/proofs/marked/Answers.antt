-- `cases::marked` meets its contract: each row of the table is computed from the definitions, and compared.
-- Assumes nothing.
use Rattle.std.proofs.Common.{◌≡◌, ℕ, List, Option, Some, None, Bor, refl, sym, ◌∙◌}
use Rattle.std.specs.List.{slice_get}
use Rattle.std.specs.Slice.{IsItemAt}
use Rattle.std.specs.Option.{option_copied}
use Rattle.std.proofs.lemmas.Option.{slice_get_past, slice_get_read}
use Rattle.protocol.specs.Checksum.{total}
use Rattle.protocol.specs.Layouts.{record_octets, records_octets, receivers_octets, mandatory, layout, packet_of}
use Rattle.protocol.specs.Checks.{head_check, element_check, elements_check, mandatory_check}
use Rattle.protocol.specs.Answers.{fixed_code}
use Rattle.protocol.specs.Reading.{read_packet}
use Rattle.rules.specs.Events.{code_of, step, acted}
use Rattle.cases.specs.Cases.{cases}
use Rattle.cases.proofs.marked.Goals as goal

copied : {X : Type 0} (l : List X) (i : ℕ) (r : Option (Bor X)) → IsItemAt l i r → option_copied r ≡ slice_get l i
copied l i None h = sym (slice_get_past l i h.3)
copied l i (Some x) h = sym (slice_get_read l _ i x.now refl h.3.0 h.1)

pub returns : goal.returns
unfolding cases code_of step acted packet_of layout mandatory records_octets record_octets receivers_octets total read_packet fixed_code
    mandatory_check head_check elements_check element_check
returns c = c.copied.ensures ∙ copied cases c.args.i c.get.result c.get.ensures.lookup
