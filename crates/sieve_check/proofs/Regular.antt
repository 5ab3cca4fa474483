-- How the question of a test and the act of a command are made goes by the row of its name, whichever name that is.
use Rattle.std.proofs.Common.{◌≡◌, ℕ, ◌≤◌, length, Bool, true, false, ◌||◌, not, if◌then◌else◌, List, [], ◌∷◌, Option, refl, arith}
use Rattle.std.proofs.lemmas.Bool.{ltb-true}
use Rattle.bytecode_format.specs.declared.question.Order.{Order}
use Rattle.bytecode_format.specs.declared.question.Takes.{Takes}
use Rattle.bytecode_format.specs.Questions.{Row, no_list, row_of, takes_params}
use Rattle.sieve_check.specs.declared.signature.Positional.{Positional}
use Rattle.sieve_check.specs.declared.signature.Positional.TheVariants as positional
use Rattle.sieve_check.specs.declared.signature.Tags.{Tags}
use Rattle.sieve_check.specs.declared.signature.Tests.TheVariants as tests
use Rattle.sieve_check.specs.declared.table.CommandName.{CommandName}
use Rattle.sieve_check.specs.declared.table.CommandName.TheVariants.{Keep, Set, Take, Break}
use Rattle.sieve_check.specs.declared.table.Place.{Place}
use Rattle.sieve_check.specs.declared.table.Place.TheVariants.{InLoop}
use Rattle.sieve_check.specs.declared.table.Role.{Role}
use Rattle.sieve_check.specs.declared.table.Role.TheVariants.{Expanded}
use Rattle.sieve_check.specs.declared.table.TestName.{TestName}
use Rattle.sieve_check.specs.declared.table.TestName.TheVariants.{Constant}
use Rattle.sieve_check.specs.Bounded.{IsBoundedAct}
use Rattle.sieve_check.specs.Acts.{Acting, act_row, acting, bare, filing, setting, taking, leaving, inactive}
use Rattle.sieve_check.specs.Questions.{Asking, asking, by_number, by_tags, named_by, unasked}
use Rattle.sieve_check.specs.Rows.{command_row, test_row}
use Rattle.sieve_check.specs.Rules.{may_stand, same_tests}
use Rattle.sieve_check.specs.Signatures.{command_signature, test_signature}
use Rattle.sieve_check.specs.Surroundings.{Context}

-- so many loops are open around a place, at least
abbrev pub loops_at : Place → ℕ
loops_at InLoop = 1
loops_at _ = 0

pub loops_there : (s : Context) (place : Place) (name : Option (List ℕ)) → may_stand s place name ≡ true → loops_at place ≤ length s.loops
loops_there s InLoop name h = ltb-true 0 (length s.loops) h
loops_there s _ name h = omega arith

-- ---- questions

-- the row of a question that is made so
abbrev pub made_row : Asking → Tags → Order → ℕ → Row
made_row (by_tags make) tags order n = row_of (make tags)
made_row (by_number make) tags order n = row_of (make order n)
made_row unasked tags order n = record { takes = no_list; numbers = []; loops = 0 }

-- the test that asks it
abbrev pub made_name : Asking → TestName → Tags → Order → ℕ → TestName
made_name (by_tags make) name tags order n = named_by (make tags)
made_name (by_number make) name tags order n = named_by (make order n)
made_name unasked name tags order n = name

abbrev pub numbers_by : Asking → ℕ → List ℕ
numbers_by (by_number make) n = n ∷ []
numbers_by _ n = []

abbrev pub is_by_number : Asking → Bool
is_by_number (by_number make) = true
is_by_number _ = false

abbrev pub is_asked : Asking → Bool
is_asked unasked = false
is_asked _ = true

-- the lists of what is compared with a number
abbrev pub lists_beside : Asking → Order → ℕ → Takes
lists_beside (by_number make) order n = (row_of (make order n)).takes
lists_beside _ order n = no_list

abbrev pub is_number : Positional → Bool
is_number positional.Number = true
is_number _ = false

-- names or keys are taken, or both, where there are as many lists
abbrev pub are_lists : Positional → Bool → Bool → Bool
are_lists positional.Nothing false false = true
are_lists positional.Number false false = true
are_lists positional.OneList true false = true
are_lists positional.OneList false true = true
are_lists positional.TwoLists true true = true
are_lists _ _ _ = false

pub record IsRegular (how : Asking) (name : TestName) (tags : Tags) (order : Order) (n : ℕ) : Type 0 where
  pub numbers : (made_row how tags order n).numbers ≡ numbers_by how n
  pub loops : (made_row how tags order n).loops ≡ loops_at (test_row name).place
  pub lists : are_lists (test_signature name).positional (made_row how tags order n).takes.names (made_row how tags order n).takes.keys ≡ true
  pub params : (made_row how tags order n).takes.params ≡ (if (test_signature name).selecting then takes_params tags.selector else false)
  -- parameters stand behind names
  pub named : ((made_row how tags order n).takes.names || not (test_signature name).selecting) ≡ true
  pub unlisted : lists_beside how order n ≡ no_list
  pub ordered : (test_signature name).order ≡ is_by_number how
  pub number : is_number (test_signature name).positional ≡ is_by_number how
  pub asked : same_tests (test_signature name).tests tests.Nothing ≡ is_asked how
  pub called : made_name how name tags order n ≡ name

pub regular : (name : TestName) (tags : Tags) (order : Order) (n : ℕ) → IsRegular (asking name) name tags order n
regular (Constant b) tags order n = record { numbers = refl; loops = refl; lists = refl; params = refl; named = refl; unlisted = refl; ordered = refl; number = refl; asked = refl; called = refl }
regular _ tags order n = record { numbers = refl; loops = refl; lists = refl; params = refl; named = refl; unlisted = refl; ordered = refl; number = refl; asked = refl; called = refl }

-- ---- acts

-- it takes no argument, or one string
abbrev pub is_common : Acting → Bool
is_common (bare act) = true
is_common (filing act) = true
is_common _ = false

-- the command that does what is made so
abbrev pub name_by : Acting → CommandName → CommandName
name_by (bare act) name = (act_row act).name
name_by (filing act) name = (act_row act).name
name_by setting name = Set
name_by taking name = Take
name_by leaving name = Break
name_by inactive name = name

abbrev pub takes_string : Acting → Bool
takes_string (bare act) = (act_row act).string
takes_string (filing act) = (act_row act).string
takes_string _ = false

abbrev pub is_filing : Acting → Bool
is_filing (filing act) = true
is_filing _ = false

abbrev pub sets_by : Acting → List (List ℕ)
sets_by (bare act) = (act_row act).sets
sets_by (filing act) = (act_row act).sets
sets_by _ = []

abbrev pub loops_by : Acting → ℕ → ℕ
loops_by (bare act) n = (act_row act).loops
loops_by (filing act) n = (act_row act).loops
loops_by _ n = n

abbrev pub IsBoundedBy : Acting → Type 0
IsBoundedBy (bare act) = IsBoundedAct act
IsBoundedBy (filing act) = IsBoundedAct act
IsBoundedBy _ = Unit {0}

abbrev pub arguments_by : Acting → Positional → Positional
arguments_by (bare act) p = positional.Nothing
arguments_by (filing act) p = positional.Text
arguments_by _ p = p

abbrev pub role_by : Acting → Role → Role
role_by (bare act) role = Expanded
role_by (filing act) role = Expanded
role_by _ role = role

pub record IsRegularAct (how : Acting) (name : CommandName) : Type 0 where
  pub string : takes_string how ≡ is_filing how
  pub sets : sets_by how ≡ []
  pub loops : loops_by how (loops_at (command_row name).place) ≡ loops_at (command_row name).place
  pub bounded : IsBoundedBy how
  pub arguments : arguments_by how (command_signature name).positional ≡ (command_signature name).positional
  pub role : role_by how (command_row name).role ≡ (command_row name).role
  pub called : name_by how name ≡ name

pub regular_act : (name : CommandName) → IsRegularAct (acting name) name
regular_act Keep = record { string = refl; sets = refl; loops = refl; bounded = tt; arguments = refl; role = refl; called = refl }
regular_act _ = record { string = refl; sets = refl; loops = refl; bounded = tt; arguments = refl; role = refl; called = refl }
