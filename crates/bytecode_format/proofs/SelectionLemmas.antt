-- The numbers of tests: each says again what was put into it, and no other number says it.
use Rattle.std.proofs.Common.{◌≡◌, ℕ, zero, suc, ◌+◌, ◌*◌, ◌/◌, ◌%◌, ◌<◌, ◌≤◌, lit≤, Option, Some, None, refl, sym, ap, arith}
use Rattle.std.specs.Option.{option_and_then, option_map}
use Rattle.glob_match.specs.declared.comparator.Comparator.{Comparator}
use Rattle.glob_match.specs.declared.comparator.Comparator.TheVariants.{Octet, Casemap}
use Rattle.glob_match.specs.declared.match_type.Match.{Match}
use Rattle.glob_match.specs.declared.match_type.MatchType.{MatchType}
use Rattle.glob_match.specs.declared.match_type.MatchType.TheVariants.{Is, Contains, Matches}
use Rattle.bytecode_format.specs.declared.question.Order.{Order}
use Rattle.bytecode_format.specs.declared.question.Order.TheVariants.{Over, Under}
use Rattle.bytecode_format.specs.declared.selection.Scope.{Scope}
use Rattle.bytecode_format.specs.declared.selection.Scope.TheVariants.{Message, Part, PartAndBelow}
use Rattle.bytecode_format.specs.declared.selection.Selector.{Selector}
use Rattle.bytecode_format.specs.declared.selection.Selector.TheVariants.{Value}
use Rattle.bytecode_format.specs.declared.selection.FieldTest.{FieldTest}
use Rattle.bytecode_format.specs.declared.selection.TestCounts.{TestCounts}
use Rattle.bytecode_format.specs.Selection.{kind_number, kind_numbered, comparator_number, comparator_numbered, match_number, match_numbered, scope_number, scope_numbered, selector_number, selector_numbered, field_test_number, field_test_numbered, counts_number, counts_numbered, order_number, order_numbered}

-- ---- how values are matched

match_again_by : (kind : MatchType) (comparator : Comparator) → match_numbered (match_number (record { kind = kind; comparator = comparator })) ≡ Some (record { kind = kind; comparator = comparator })
match_again_by Is Casemap = refl
match_again_by Is Octet = refl
match_again_by Contains Casemap = refl
match_again_by Contains Octet = refl
match_again_by Matches Casemap = refl
match_again_by Matches Octet = refl

pub match_again : (how : Match) → match_numbered (match_number how) ≡ Some how
match_again how = match_again_by how.kind how.comparator

match_small_by : (kind : MatchType) (comparator : Comparator) → match_number (record { kind = kind; comparator = comparator }) ≤ 6
match_small_by Is Casemap = lit≤ tt
match_small_by Is Octet = lit≤ tt
match_small_by Contains Casemap = lit≤ tt
match_small_by Contains Octet = lit≤ tt
match_small_by Matches Casemap = lit≤ tt
match_small_by Matches Octet = lit≤ tt

pub match_small : (how : Match) → match_number how ≤ 6
match_small how = match_small_by how.kind how.comparator

kind_only : (n : ℕ) (kind : MatchType) → kind_numbered n ≡ Some kind → kind_number kind ≡ n
kind_only zero Is e = refl
kind_only zero Contains e = absurd cc
kind_only zero Matches e = absurd cc
kind_only (suc zero) Is e = absurd cc
kind_only (suc zero) Contains e = refl
kind_only (suc zero) Matches e = absurd cc
kind_only (suc (suc zero)) Is e = absurd cc
kind_only (suc (suc zero)) Contains e = absurd cc
kind_only (suc (suc zero)) Matches e = refl
kind_only (suc (suc (suc n))) kind e = absurd cc

comparator_only : (n : ℕ) (comparator : Comparator) → comparator_numbered n ≡ Some comparator → comparator_number comparator ≡ n
comparator_only zero Casemap e = refl
comparator_only zero Octet e = absurd cc
comparator_only (suc zero) Casemap e = absurd cc
comparator_only (suc zero) Octet e = refl
comparator_only (suc (suc n)) comparator e = absurd cc

pub match_only : (n : ℕ) (how : Match) → match_numbered n ≡ Some how → match_number how ≡ n
match_only n how e = by_parts (kind_numbered (n % 4)) (comparator_numbered (n / 4)) refl refl e
  where
    by_parts : (k : Option MatchType) (c : Option Comparator) → kind_numbered (n % 4) ≡ k → comparator_numbered (n / 4) ≡ c
        → option_and_then (λ kind. option_map (λ comparator. record { kind = kind; comparator = comparator }) c) k ≡ Some how → match_number how ≡ n
    by_parts None c ek ec some = absurd cc
    by_parts (Some kind) None ek ec some = absurd cc
    by_parts (Some kind) (Some comparator) ek ec some =
        let same : record { kind = kind; comparator = comparator } ≡ how = cc in
        let first : kind_number kind ≡ n % 4 = kind_only (n % 4) kind ek in
        let second : comparator_number comparator ≡ n / 4 = comparator_only (n / 4) comparator ec in
        rw (← same, first, second) (omega arith)

-- ---- where they are looked for, and what is taken of a field

pub scope_again : (scope : Scope) → scope_numbered (scope_number scope) ≡ Some scope
scope_again Message = refl
scope_again Part = refl
scope_again PartAndBelow = refl

pub scope_small : (scope : Scope) → scope_number scope ≤ 2
scope_small Message = lit≤ tt
scope_small Part = lit≤ tt
scope_small PartAndBelow = lit≤ tt

pub scope_only : (n : ℕ) (scope : Scope) → scope_numbered n ≡ Some scope → scope_number scope ≡ n
scope_only zero Message e = refl
scope_only zero Part e = absurd cc
scope_only zero PartAndBelow e = absurd cc
scope_only (suc zero) Message e = absurd cc
scope_only (suc zero) Part e = refl
scope_only (suc zero) PartAndBelow e = absurd cc
scope_only (suc (suc zero)) Message e = absurd cc
scope_only (suc (suc zero)) Part e = absurd cc
scope_only (suc (suc zero)) PartAndBelow e = refl
scope_only (suc (suc (suc n))) scope e = absurd cc

selector_again : (selector : Selector) → selector_numbered (selector_number selector) ≡ Some selector
selector_again Value = refl
selector_again _ = refl

selector_small : (selector : Selector) → selector_number selector ≤ 4
selector_small Value = lit≤ tt
selector_small _ = lit≤ tt

-- the number that a selector was read from
abbrev named : Option Selector → ℕ
named None = 5
named (Some selector) = selector_number selector

selector_only : (n : ℕ) (selector : Selector) → selector_numbered n ≡ Some selector → selector_number selector ≡ n
selector_only zero selector e = sym (ap named e)
selector_only (suc zero) selector e = sym (ap named e)
selector_only (suc (suc zero)) selector e = sym (ap named e)
selector_only (suc (suc (suc zero))) selector e = sym (ap named e)
selector_only (suc (suc (suc (suc zero)))) selector e = sym (ap named e)
selector_only (suc (suc (suc (suc (suc n))))) selector e = absurd cc

-- ---- a of a test of fields

-- the pieces of a number that is made of them
pieces : (m s k n : ℕ) → m ≤ 6 → s ≤ 2 → n ≡ m + 8 * s + 32 * k → (n % 8 ≡ m) × (n / 8 % 4 ≡ s) × (n / 32 ≡ k)
pieces m s k n hm hs e = (omega arith, omega arith, omega arith)

pub field_test_again : (t : FieldTest) → field_test_numbered (field_test_number t) ≡ Some t
field_test_again t =
    let parts = pieces (match_number t.how) (scope_number t.scope) (selector_number t.selector) (field_test_number t) (match_small t.how) (scope_small t.scope) refl in
    rw (parts.0, parts.1, parts.2, match_again t.how, scope_again t.scope, selector_again t.selector) refl

pub field_test_small : (t : FieldTest) → field_test_number t < 256
field_test_small t = sum_small (match_number t.how) (scope_number t.scope) (selector_number t.selector) (match_small t.how) (scope_small t.scope) (selector_small t.selector)
  where
    sum_small : (m s k : ℕ) → m ≤ 6 → s ≤ 2 → k ≤ 4 → m + 8 * s + 32 * k < 256
    sum_small m s k hm hs hk = omega arith

pub field_test_only : (n : ℕ) (t : FieldTest) → field_test_numbered n ≡ Some t → field_test_number t ≡ n
field_test_only n t e = by_parts (match_numbered (n % 8)) (scope_numbered (n / 8 % 4)) (selector_numbered (n / 32)) refl refl refl e
  where
    by_parts : (m : Option Match) (s : Option Scope) (k : Option Selector)
        → match_numbered (n % 8) ≡ m → scope_numbered (n / 8 % 4) ≡ s → selector_numbered (n / 32) ≡ k
        → option_and_then (λ how. option_and_then (λ scope. option_map (λ selector. record { how = how; scope = scope; selector = selector }) k) s) m ≡ Some t
        → field_test_number t ≡ n
    by_parts None s k em es ek some = absurd cc
    by_parts (Some how) None k em es ek some = absurd cc
    by_parts (Some how) (Some scope) None em es ek some = absurd cc
    by_parts (Some how) (Some scope) (Some selector) em es ek some =
        let same : record { how = how; scope = scope; selector = selector } ≡ t = cc in
        let first : match_number how ≡ n % 8 = match_only (n % 8) how em in
        let second : scope_number scope ≡ n / 8 % 4 = scope_only (n / 8 % 4) scope es in
        let third : selector_number selector ≡ n / 32 = selector_only (n / 32) selector ek in
        rw (← same, first, second, third) (omega arith)

-- ---- c of it

pub counts_again : (counts : TestCounts) → counts.keys < 65536 → counts_numbered (counts_number counts) ≡ counts
counts_again counts few =
    let apart = two (counts.keys) counts.params few in
    rw (apart.0, apart.1) refl
  where
    two : (keys params : ℕ) → keys < 65536 → ((keys + 65536 * params) % 65536 ≡ keys) × ((keys + 65536 * params) / 65536 ≡ params)
    two keys params few = (omega arith, omega arith)

pub counts_only : (n : ℕ) → counts_number (counts_numbered n) ≡ n
counts_only n = omega arith

-- ---- the order of a size

pub order_again : (order : Order) → order_numbered (order_number order) ≡ Some order
order_again Over = refl
order_again Under = refl

pub order_small : (order : Order) → order_number order ≤ 1
order_small Over = lit≤ tt
order_small Under = lit≤ tt

pub order_only : (n : ℕ) (order : Order) → order_numbered n ≡ Some order → order_number order ≡ n
order_only zero Over e = refl
order_only zero Under e = absurd cc
order_only (suc zero) Over e = absurd cc
order_only (suc zero) Under e = refl
order_only (suc (suc n)) order e = absurd cc
