use Rattle.std.proofs.Common.{◌==◌, true, not, refl, slice_index_or, arith, eqb-true}
use Rattle.std.proofs.lemmas.Bool.{agree_below_at}
use Rattle.header_fields.specs.Reading.{name_octet}
use Rattle.header_fields.specs.Header.{is_name_octet}
use Rattle.header_fields.specs.declared.field_line.TheConstants.{NAME_OCTETS}
use Rattle.header_fields.proofs.field_line.name_octet.Goals as goal

-- the table says of an octet what the definition says
pub returns-clause-folded : goal.returns-clause-folded
returns-clause-folded c =
    eqb-true (slice_index_or NAME_OCTETS c.args.octet 0) (name_octet c.args.octet)
    (agree_below_at (λ octet. slice_index_or NAME_OCTETS octet 0 == name_octet octet) (λ _. true) 256 c.args.octet refl (omega arith))

-- and it has nothing else at 0
pub returns-clause-kept : goal.returns-clause-kept
returns-clause-kept c = agree_below_at (λ octet. not (slice_index_or NAME_OCTETS octet 0 == 0)) is_name_octet 256 c.args.octet refl (omega arith)
