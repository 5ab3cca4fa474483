use Rattle.std.proofs.Common.{◌≤◌, length, subst}
use Rattle.header_fields.specs.Fields.{Field}
use Rattle.header_fields.proofs.Starts.{value_within}
use Rattle.header_fields.proofs.field.Field.extent.Goals as goal

pub returns : goal.returns
returns c = subst (λ (field : Field). length field.value ≤ length c.self.inside.lines.now) c.self.view_is (value_within c.self.inside.lines.now)
