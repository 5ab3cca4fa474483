use Rattle.std.proofs.Common.{◌≡◌, option_map}
use Rattle.std.proofs.lemmas.List.Elements.{All-from_recursion}
use Rattle.header_fields.specs.Fields.{first_value}
use Rattle.serde_json.specs.Find.{get}
use Rattle.catalog.specs.Fields.{field_names, fields_value}
use Rattle.catalog.specs.Texts.{text_value}
use Rattle.catalog.proofs.FieldLemmas.{each_found, none_other}
use Rattle.catalog.proofs.laws.fields_are_the_first_of_their_names.Goals as goal

pub returns-clause-named : goal.returns-clause-named
returns-clause-named c = λ fields.
    All-from_recursion (λ name. get name (fields_value fields) ≡ option_map text_value (first_value name fields)) field_names (each_found fields)

pub returns-clause-others : goal.returns-clause-others
returns-clause-others c = none_other
