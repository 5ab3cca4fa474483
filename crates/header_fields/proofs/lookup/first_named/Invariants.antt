use Rattle.std.proofs.Common.{◌≡◌, drop}
use Rattle.header_fields.specs.Fields.{first_value}
use Rattle.header_fields.proofs.lookup.first_named.Given as goal

-- the fields so far have other names
abbrev pub invariant-loop-field : goal.invariant-loop-field
invariant-loop-field l = first_value l.name (drop l.field-index l.fields) ≡ first_value l.name l.fields
