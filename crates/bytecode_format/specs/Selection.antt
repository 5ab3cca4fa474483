-- What the fields a and c of an instruction say of a test: how values are matched with keys, where they are looked
-- for, what is taken of a field, and how many strings the lists have.
use Rattle.std.specs.Prelude.{ℕ, Bool, true, false, zero, suc, ◌+◌, ◌*◌, ◌/◌, ◌%◌, Option, Some, None}
use Rattle.std.specs.Option.{option_and_then, option_map}
use Rattle.glob_match.specs.declared.comparator.Comparator.{Comparator}
use Rattle.glob_match.specs.declared.comparator.Comparator.TheVariants.{Octet, Casemap}
use Rattle.glob_match.specs.declared.match_type.Match.{Match}
use Rattle.glob_match.specs.declared.match_type.MatchType.{MatchType}
use Rattle.glob_match.specs.declared.match_type.MatchType.TheVariants.{Is, Contains, Matches}
use Rattle.bytecode_format.specs.declared.question.Order.{Order}
use Rattle.bytecode_format.specs.declared.question.Order.TheVariants.{Over, Under}
use Rattle.bytecode_format.specs.declared.selection.Scope.{Scope}
use Rattle.bytecode_format.specs.declared.selection.Scope.TheVariants.{Message, Part, PartAndBelow}
use Rattle.bytecode_format.specs.declared.selection.Selector.{Selector}
use Rattle.bytecode_format.specs.declared.selection.Selector.TheVariants.{Value, Main, Sub, ContentType, Param}
use Rattle.bytecode_format.specs.declared.selection.FieldTest.{FieldTest}
use Rattle.bytecode_format.specs.declared.selection.TestCounts.{TestCounts}

-- ---- how values are matched with keys: bits 0 and 1 say by which of three ways, bit 2 by which of two comparators

-- how many numbers there are for one of the ways
abbrev pub kind_numbers : ℕ
kind_numbers = 4

abbrev pub kind_number : MatchType → ℕ
kind_number Is = 0
kind_number Contains = 1
kind_number Matches = 2

abbrev pub kind_numbered : ℕ → Option MatchType
kind_numbered zero = Some Is
kind_numbered (suc zero) = Some Contains
kind_numbered (suc (suc zero)) = Some Matches
kind_numbered (suc (suc (suc n))) = None

abbrev pub comparator_number : Comparator → ℕ
comparator_number Casemap = 0
comparator_number Octet = 1

abbrev pub comparator_numbered : ℕ → Option Comparator
comparator_numbered zero = Some Casemap
comparator_numbered (suc zero) = Some Octet
comparator_numbered (suc (suc n)) = None

abbrev pub match_number : Match → ℕ
match_number how = kind_number how.kind + kind_numbers * comparator_number how.comparator

abbrev pub match_numbered : ℕ → Option Match
match_numbered n = option_and_then
    (λ kind. option_map (λ comparator. record { kind = kind; comparator = comparator })
    (comparator_numbered (n / kind_numbers)))
    (kind_numbered (n % kind_numbers))

-- ---- where they are looked for, and what is taken of a field

abbrev pub scope_number : Scope → ℕ
scope_number Message = 0
scope_number Part = 1
scope_number PartAndBelow = 2

abbrev pub scope_numbered : ℕ → Option Scope
scope_numbered zero = Some Message
scope_numbered (suc zero) = Some Part
scope_numbered (suc (suc zero)) = Some PartAndBelow
scope_numbered (suc (suc (suc n))) = None

abbrev pub selector_number : Selector → ℕ
selector_number Value = 0
selector_number Main = 1
selector_number Sub = 2
selector_number ContentType = 3
selector_number Param = 4

abbrev pub selector_numbered : ℕ → Option Selector
selector_numbered zero = Some Value
selector_numbered (suc zero) = Some Main
selector_numbered (suc (suc zero)) = Some Sub
selector_numbered (suc (suc (suc zero))) = Some ContentType
selector_numbered (suc (suc (suc (suc zero)))) = Some Param
selector_numbered (suc (suc (suc (suc (suc n))))) = None

-- ---- a of a test of fields: how values are matched, plus 8 times the scope, plus 32 times the selector

-- how many numbers there are for how values are matched, and for a scope
abbrev pub match_numbers : ℕ
match_numbers = 8

abbrev pub scope_numbers : ℕ
scope_numbers = 4

abbrev pub field_test_number : FieldTest → ℕ
field_test_number t = match_number t.how + match_numbers * scope_number t.scope
    + match_numbers * scope_numbers * selector_number t.selector

abbrev pub field_test_numbered : ℕ → Option FieldTest
field_test_numbered n = option_and_then
    (λ how. option_and_then
    (λ scope. option_map (λ selector. record { how = how; scope = scope; selector = selector })
    (selector_numbered (n / (match_numbers * scope_numbers))))
    (scope_numbered (n / match_numbers % scope_numbers)))
    (match_numbered (n % match_numbers))

-- ---- c of it: how many keys, plus 65,536 times how many parameters

-- how many numbers there are for how many keys
abbrev pub key_numbers : ℕ
key_numbers = 65536

abbrev pub keys_in : ℕ → ℕ
keys_in c = c % key_numbers

abbrev pub params_in : ℕ → ℕ
params_in c = c / key_numbers

abbrev pub counts_number : TestCounts → ℕ
counts_number counts = counts.keys + key_numbers * counts.params

abbrev pub counts_numbered : ℕ → TestCounts
counts_numbered c = record { params = params_in c; keys = keys_in c }

-- ---- a of a test of a size: whether it is over or under a number

abbrev pub order_number : Order → ℕ
order_number Over = 0
order_number Under = 1

abbrev pub order_numbered : ℕ → Option Order
order_numbered zero = Some Over
order_numbered (suc zero) = Some Under
order_numbered (suc (suc n)) = None

-- ---- a of a truth value

abbrev pub truth_number : Bool → ℕ
truth_number false = 0
truth_number true = 1

abbrev pub truth_numbered : ℕ → Option Bool
truth_numbered zero = Some false
truth_numbered (suc zero) = Some true
truth_numbered (suc (suc n)) = None
