-- Modifiers and their numbers, versions, operations and the numbers of tests, by computation.
use Rattle.std.proofs.Common.{◌≡◌, ℕ, true, false, [], ◌∷◌, ◌++◌, length, Some, None, codes, decimal, lit<, refl}
use Rattle.std.proofs.lemmas.Fmt.{decimal-digits_of}
use Rattle.bytecode_format.specs.declared.modifiers.Case.TheVariants.{Lower, Upper}
use Rattle.bytecode_format.specs.declared.instruction.Instruction.{Instruction}
use Rattle.bytecode_format.specs.declared.operation.Operation.TheVariants.{Halt, Keep, Break, Take}
use Rattle.bytecode_format.specs.Operations.{operation_of, octet_of}
use Rattle.bytecode_format.specs.Code.{Code}
use Rattle.bytecode_format.specs.Spelling.{is_version, spelling}
use Rattle.bytecode_format.specs.Readers.{version_at}
use Rattle.glob_match.specs.declared.comparator.Comparator.TheVariants.{Octet, Casemap}
use Rattle.glob_match.specs.declared.match_type.MatchType.TheVariants.{Is, Contains, Matches}
use Rattle.bytecode_format.specs.declared.selection.Scope.TheVariants.{PartAndBelow}
use Rattle.bytecode_format.specs.declared.selection.Selector.TheVariants.{Param}
use Rattle.bytecode_format.specs.Selection.{match_numbered, field_test_numbered}
use Rattle.bytecode_format.specs.Modifiers.{modified, no_modifiers, modifiers_number, modifiers_numbered}

none_leaves_the_text : modified no_modifiers (codes "juMBlEd lETteRS") ≡ codes "juMBlEd lETteRS"
none_leaves_the_text = refl

length_counts : modified (record { letters = None; first = None; quote_wildcard = false; length = true }) (codes "juMBlEd lETteRS") ≡ codes "15"
length_counts = decimal-digits_of 15 (lit< tt) (lit< tt)

lower_changes_all : modified (record { letters = Some Lower; first = None; quote_wildcard = false; length = false }) (codes "juMBlEd lETteRS") ≡ codes "jumbled letters"
lower_changes_all = refl

-- all letters come before the first octet
upper_first_comes_later : modified (record { letters = Some Lower; first = Some Upper; quote_wildcard = false; length = false }) (codes "juMBlEd lETteRS") ≡ codes "Jumbled letters"
upper_first_comes_later = refl

quotes : modified (record { letters = None; first = None; quote_wildcard = true; length = false }) (codes "Rock*") ≡ codes "Rock\\*"
quotes = refl

quotes_each : modified (record { letters = None; first = None; quote_wildcard = true; length = false }) (codes "a?\\") ≡ codes "a\\?\\\\"
quotes_each = refl

-- the count comes last, so backslashes count
length_comes_last : modified (record { letters = None; first = None; quote_wildcard = true; length = true }) (codes "Rock*") ≡ codes "6"
length_comes_last = decimal-digits_of 6 (lit< tt) (lit< tt)

-- 0xC3 0xA9 is one character, and so is 0xE2 0x82 0xAC
continuing_octets_count_none : modified (record { letters = None; first = None; quote_wildcard = false; length = true }) (0xC3 ∷ 0xA9 ∷ 0xE2 ∷ 0x82 ∷ 0xAC ∷ 0x7F ∷ []) ≡ codes "3"
continuing_octets_count_none = decimal-digits_of 3 (lit< tt) (lit< tt)

nothing_counts_none : modified (record { letters = Some Upper; first = Some Lower; quote_wildcard = true; length = true }) [] ≡ decimal 0
nothing_counts_none = refl

highest_number : modifiers_number (record { letters = Some Upper; first = Some Upper; quote_wildcard = true; length = true }) ≡ 58
highest_number = refl

numbers : (modifiers_numbered 0 ≡ Some no_modifiers) × (modifiers_numbered 9 ≡ Some (record { letters = Some Lower; first = Some Upper; quote_wildcard = false; length = false }))
numbers = (refl, refl)

no_such_number : (modifiers_numbered 3 ≡ None) × (modifiers_numbered 12 ≡ None) × (modifiers_numbered 64 ≡ None) × (modifiers_numbered 128 ≡ None)
no_such_number = (refl, refl, refl, refl)

versions : (is_version 0 ≡ false) × (is_version 1 ≡ true) × (is_version 2 ≡ true) × (is_version 3 ≡ false)
versions = (refl, refl, refl, refl)

version_read : (version_at (2 ∷ 0 ∷ []) ≡ Some (2, 0 ∷ [])) × (version_at (3 ∷ 0 ∷ []) ≡ None) × (version_at [] ≡ None)
unfolding version_at
version_read = (refl, refl, refl)

last_operations : (operation_of 0x19 ≡ Some Break) × (operation_of 0x1A ≡ Some Take) × (operation_of 0x1B ≡ None) × (octet_of Take ≡ 26)
last_operations = (refl, refl, refl, refl)

abbrev plain : ℕ → Instruction
plain octet = record { op = octet; a = 0; b = 0; c = 0 }

abbrev keeping : ℕ → Code
keeping version = record { version = version; variables = 0; numbers = []; strings = []; instructions = plain (octet_of Keep) ∷ plain (octet_of Halt) ∷ [] }

-- the fifth octet is the version
keeping_spelled :
    spelling (keeping 2)
    ≡ codes "SVBC"
    ++ 2 ∷ 0 ∷ 0 ∷ 0 ∷ 0 ∷ 0 ∷ 0 ∷ 0 ∷ 0 ∷ 0 ∷ 2 ∷ 0x13 ∷ 0 ∷ 0 ∷ 0 ∷ 0 ∷ 0 ∷ 0 ∷ 0 ∷ 0x01 ∷ 0 ∷ 0 ∷ 0 ∷ 0 ∷ 0 ∷ 0 ∷ 0 ∷ []
keeping_spelled = refl

keeping_length : length (spelling (keeping 1)) ≡ 31
keeping_length = refl

-- ways to match, by numbers
is_ignoring_case : match_numbered 0 ≡ Some (record { kind = Is; comparator = Casemap })
is_ignoring_case = refl

contains_octets : match_numbered 5 ≡ Some (record { kind = Contains; comparator = Octet })
contains_octets = refl

no_fourth_way : match_numbered 7 ≡ None
no_fourth_way = refl

no_third_comparator : match_numbered 8 ≡ None
no_third_comparator = refl

-- the parameters, in all parts from the current one on, that fit patterns octet by octet
last_field_test : field_test_numbered 150 ≡ Some (record { how = record { kind = Matches; comparator = Octet }; scope = PartAndBelow; selector = Param })
last_field_test = refl

no_fourth_scope : field_test_numbered 24 ≡ None
no_fourth_scope = refl

no_sixth_selector : field_test_numbered 160 ≡ None
no_sixth_selector = refl
