-- Operations by their names.
use Rattle.std.specs.Prelude.{ℕ, suc, List, [], ◌∷◌, Option, Some, None, bytes_eq, if◌then◌else◌}
use Rattle.bytecode_format.specs.Operations.{name_of, operations}
use Rattle.bytecode_format.specs.declared.operation.Operation.{Operation}

-- the octet of the first of some operations that has this name, where they are numbered from this
-- octet on
unfoldable pub named_among : ℕ → List Operation → List ℕ → Option ℕ
named_among octet [] name = None
named_among octet (operation ∷ others) name =
    if bytes_eq (name_of operation) name then Some octet else named_among (suc octet) others name

-- the octet of the operation of this name
abbrev pub octet_named : List ℕ → Option ℕ
octet_named name = named_among 1 operations name
