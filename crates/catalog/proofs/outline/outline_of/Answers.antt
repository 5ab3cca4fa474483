use Rattle.std.proofs.Common.{ap, ◌∙◌}
use Rattle.catalog.specs.Fields.{fields_value}
use Rattle.catalog.proofs.OutlineLemmas.{same_outline}
use Rattle.catalog.proofs.outline.outline_of.Goals as goal

pub returns : goal.returns
returns c = same_outline _ _ _ _ c.in_ok-digests.ensures (c.in_ok-fields.ensures ∙ ap fields_value c.own_fields.ensures)
