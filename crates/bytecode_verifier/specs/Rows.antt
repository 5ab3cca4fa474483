-- What the verifier knows of each operation before it looks at what the operation does: one row each.
use Rattle.std.specs.Prelude.{ℕ, Bool, true, false, ◌&&◌, not, Option, Some, None, nat_lt, nat_le, ◌==◌, is_some, if◌then◌else◌}
use Rattle.std.specs.Option.{option_and_then, option_map_or}
use Rattle.octets.specs.Limits.{max_loops, max_segments, max_test_strings, max_value}
use Rattle.glob_match.specs.Matching.{max_captures}
use Rattle.bytecode_format.specs.declared.instruction.Instruction.{Instruction}
use Rattle.bytecode_format.specs.declared.operation.Operation.{Operation}
use Rattle.bytecode_format.specs.declared.operation.Operation.TheVariants.{Halt, Literal, Variable, Capture, Join, Set, Not, Jump, JumpIfTrue, JumpIfFalse, Keep, Discard, File, Store, Each, Next, Break, Take, Test}
use Rattle.bytecode_format.specs.declared.operation.TestOperation.{TestOperation}
use Rattle.bytecode_format.specs.declared.operation.TestOperation.TheVariants.{Constant, Header, Exists, String, Size, PartSize, PartBody, PartDigest}
use Rattle.bytecode_format.specs.Code.{version_two}
use Rattle.bytecode_format.specs.Operations.{operation_of}
use Rattle.bytecode_format.specs.Modifiers.{modifiers_numbered}
use Rattle.bytecode_format.specs.declared.selection.FieldTest as field
use Rattle.bytecode_format.specs.declared.selection.Selector.{Selector}
use Rattle.bytecode_format.specs.declared.selection.Selector.TheVariants.{Param}
use Rattle.bytecode_format.specs.Selection.{field_test_numbered, keys_in, match_numbered, order_numbered, params_in, scope_numbered, truth_numbered}
use Rattle.bytecode_verifier.specs.declared.row.Range.{Range}
use Rattle.bytecode_verifier.specs.declared.row.Range.TheVariants.{Unnamed, Below, Between, Truth, Order, Match, Scope, FieldTest, Counts, Modifiers, Any}
use Rattle.bytecode_verifier.specs.declared.row.Table.TheVariants.{Variables, Numbers, Strings}
use Rattle.bytecode_verifier.specs.declared.row.Row.{Row}

-- an operation that names no field
abbrev pub plain : Row
plain = record { a = Unnamed; b = Unnamed; c = Unnamed; index = None; jumps = false; needs_part = false; since_two = false }

-- an operation that jumps to c
abbrev pub jump : Row
jump = record plain { c = Any; jumps = true }

-- the row of a test
abbrev pub test_row : TestOperation → Row
test_row Constant = record plain { a = Truth }
test_row Header = record plain { a = FieldTest; b = Between 1 max_test_strings; c = Counts }
test_row Exists = record plain { a = Scope; b = Between 1 max_test_strings }
test_row String = record plain { a = Match; b = Between 1 max_test_strings; c = Between 1 max_test_strings }
test_row Size = record plain { a = Order; c = Any; index = Some Numbers }
test_row PartSize = record plain { a = Order; c = Any; index = Some Numbers; needs_part = true }
test_row PartBody = record plain { a = Match; c = Between 1 max_test_strings; needs_part = true }
test_row PartDigest = record plain { c = Between 1 max_test_strings; needs_part = true }

-- the row of an operation
abbrev pub row_of : Operation → Row
row_of Halt = plain
row_of Literal = record plain { c = Any; index = Some Strings }
row_of Variable = record plain { c = Any; index = Some Variables }
row_of Capture = record plain { a = Below max_captures }
row_of Join = record plain { b = Between 2 max_segments }
row_of Set = record plain { a = Modifiers; c = Any; index = Some Variables }
row_of (Test test) = test_row test
row_of Not = plain
row_of Jump = jump
row_of JumpIfTrue = jump
row_of JumpIfFalse = jump
row_of Keep = plain
row_of Discard = plain
row_of File = plain
row_of Store = record plain { needs_part = true }
row_of Each = record plain { c = Any }
row_of Next = record plain { c = Any }
row_of Break = record plain { a = Between 1 max_loops }
row_of Take = record plain { b = Between 1 max_value; c = Any; index = Some Variables; needs_part = true; since_two = true }

-- the row of an operation in programs of a version, or None where they don't have it
abbrev pub row_in_version : ℕ → Operation → Option Row
row_in_version version operation = if (row_of operation).since_two && not (version == version_two) then None else Some (row_of operation)

-- the row of an octet, where it names an operation of the version
abbrev pub row_named : ℕ → ℕ → Option Row
row_named version octet = option_and_then (row_in_version version) (operation_of octet)

abbrev pub is_param : Selector → Bool
is_param Param = true
is_param _ = false

-- a says that a test of fields selects parameters
abbrev pub selects_params : ℕ → Bool
selects_params a = option_map_or (λ (test : field.FieldTest). is_param test.selector) (field_test_numbered a) false

-- how many strings a list of a test may have
abbrev pub is_list : ℕ → Bool
is_list n = nat_le 1 n && nat_le n max_test_strings

-- there are keys, and parameters exactly where a has their selector
abbrev pub are_counts : ℕ → ℕ → Bool
are_counts a c = is_list (keys_in c) && (if selects_params a then is_list (params_in c) else params_in c == 0)

-- whether a field of an instruction that has a takes the value; one that isn't named is 0
abbrev pub takes : ℕ → Range → ℕ → Bool
takes a Unnamed n = n == 0
takes a (Below bound) n = nat_lt n bound
takes a (Between least most) n = nat_le least n && nat_le n most
takes a Truth n = is_some (truth_numbered n)
takes a Order n = is_some (order_numbered n)
takes a Match n = is_some (match_numbered n)
takes a Scope n = is_some (scope_numbered n)
takes a FieldTest n = is_some (field_test_numbered n)
takes a Counts n = are_counts a n
takes a Modifiers n = is_some (modifiers_numbered n)
takes a Any n = true

-- the version has the operation, its fields are in their ranges, and the fields that it doesn't name are 0
abbrev pub is_well_formed : Option Row → Instruction → Bool
is_well_formed row i = option_map_or
    (λ (r : Row). takes i.a r.a i.a && takes i.a r.b i.b && takes i.a r.c i.c) row false

-- the operation jumps to c
abbrev pub is_jump : Option Row → Bool
is_jump row = option_map_or (λ (r : Row). r.jumps) row false

-- the operation is on the current part
abbrev pub needs_part : Option Row → Bool
needs_part row = option_map_or (λ (r : Row). r.needs_part) row false
