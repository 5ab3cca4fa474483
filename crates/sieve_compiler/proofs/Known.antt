-- The tables have each number, each text and each variable that they are made of.
use Rattle.std.proofs.Common.{◌≡◌, ℕ, true, nat_eq, bytes_eq, List, [], ◌∷◌, ◌++◌, Some, slice_get, append-nil, refl, sym, subst, ◌∙◌}
use Rattle.std.proofs.Math.Bool.{or-true}
use Rattle.std.proofs.lemmas.Bool.{eq-eqb, eqb-true}
use Rattle.std.proofs.lemmas.Cmp.{nat_eq_equiv, nat_list_eq_equiv}
use Rattle.std.proofs.lemmas.List.Folds.{list_any-append}
use Rattle.std.proofs.lemmas.Slice.Eq.{bytes_eq-Decides}
use Rattle.octets.specs.Once.{is_listed}
use Rattle.octets.proofs.Once as once
use Rattle.sieve_check.specs.Typed.{Template, CommandForms}
use Rattle.sieve_check.specs.Variables.{strings_variables, commands_variables}
use Rattle.sieve_compiler.specs.Growing.{Uses, uses_with, joined, strings_uses, commands_uses}
use Rattle.sieve_compiler.specs.Strings.{strings_of, commands_strings}
use Rattle.sieve_compiler.specs.Numbers.{commands_numbers}
use Rattle.sieve_compiler.specs.Tables.{Tables, tables_of, place_of_number, place_of_string, place_of_variable}

-- what a piece uses is in the tables
pub record Has (tables : Tables) (uses : Uses) : Type 0 where
  pub numbers : (n : ℕ) → is_listed nat_eq n uses.numbers ≡ true → is_listed nat_eq n tables.numbers ≡ true
  pub strings : (s : List ℕ) → is_listed bytes_eq s uses.strings ≡ true → is_listed bytes_eq s tables.strings ≡ true
  pub variables : (s : List ℕ) → is_listed bytes_eq s uses.variables ≡ true → is_listed bytes_eq s tables.variables ≡ true

number_itself : (n : ℕ) → is_listed nat_eq n (n ∷ []) ≡ true
number_itself n = rw (eq-eqb n n refl) refl

-- a number of its own
pub found : (tables : Tables) (n : ℕ) → Has tables (uses_with (n ∷ []) [] []) → slice_get tables.numbers (place_of_number tables n) ≡ Some n
found tables n h = once.found nat_eq (λ a b e. eqb-true a b e) tables.numbers n (h.numbers n (number_itself n))

same_text : (a b : List ℕ) → bytes_eq a b ≡ true → a ≡ b
same_text a b e = (bytes_eq-Decides a b).0 e

itself : (s : List ℕ) → bytes_eq s s ≡ true
itself s = nat_list_eq_equiv.refl s

-- the first of the texts
pub found_string : (tables : Tables) (s : List ℕ) (ss vs : List (List ℕ)) → Has tables (uses_with [] (s ∷ ss) vs) → slice_get tables.strings (place_of_string tables s) ≡ Some s
found_string tables s ss vs h = once.found bytes_eq same_text tables.strings s (h.strings s (rw (itself s) refl))

-- the first of the variables
pub found_variable : (tables : Tables) (name : List ℕ) (ss vs : List (List ℕ)) → Has tables (uses_with [] ss (name ∷ vs)) → slice_get tables.variables (place_of_variable tables name) ≡ Some name
found_variable tables name ss vs h = once.found bytes_eq same_text tables.variables name (h.variables name (rw (itself name) refl))

pub tables_have : (script : CommandForms) → Has (tables_of script) (commands_uses script)
tables_have script = record {
  numbers = λ n h. once.each_once_lists nat_eq nat_eq_equiv (commands_numbers script) n ∙ h;
  strings = λ s h. once.each_once_lists bytes_eq nat_list_eq_equiv (commands_strings script) s ∙ h;
  variables = λ s h. once.each_once_lists bytes_eq nat_list_eq_equiv (commands_variables script) s ∙ h;
}

-- those of two pieces
pub has_left : (tables : Tables) (a b : Uses) → Has tables (joined a b) → Has tables a
has_left tables a b h = record {
  numbers = λ n here. h.numbers n (list_any-append (nat_eq n) a.numbers b.numbers ∙ rw here refl);
  strings = λ x here. h.strings x (list_any-append (bytes_eq x) a.strings b.strings ∙ rw here refl);
  variables = λ x here. h.variables x (list_any-append (bytes_eq x) a.variables b.variables ∙ rw here refl);
}

pub has_right : (tables : Tables) (a b : Uses) → Has tables (joined a b) → Has tables b
has_right tables a b h = record {
  numbers = λ n here. h.numbers n (list_any-append (nat_eq n) a.numbers b.numbers ∙ rw here (or-true (is_listed nat_eq n a.numbers)));
  strings = λ x here. h.strings x (list_any-append (bytes_eq x) a.strings b.strings ∙ rw here (or-true (is_listed bytes_eq x a.strings)));
  variables = λ x here. h.variables x (list_any-append (bytes_eq x) a.variables b.variables ∙ rw here (or-true (is_listed bytes_eq x a.variables)));
}

-- the numbers, the strings and the variables of a piece apart
pub has_numbers : (tables : Tables) (ns : List ℕ) (ss vs : List (List ℕ)) → Has tables (uses_with ns ss vs) → Has tables (uses_with ns [] [])
has_numbers tables ns ss vs h = record { numbers = h.numbers; strings = λ s none. absurd (cc); variables = λ s none. absurd (cc) }

pub has_texts : (tables : Tables) (ns : List ℕ) (ss vs : List (List ℕ)) → Has tables (uses_with ns ss vs) → Has tables (uses_with [] ss vs)
has_texts tables ns ss vs h = record { numbers = λ n none. absurd (cc); strings = h.strings; variables = h.variables }

act_parts : (tables : Tables) (strings : List Template) (names : List (List ℕ)) → Has tables (uses_with [] (strings_of strings) (strings_variables strings ++ names)) → Has tables (joined (strings_uses strings) (uses_with [] [] names))
act_parts tables strings names h = subst (λ texts. Has tables (uses_with [] texts (strings_variables strings ++ names))) (sym (append-nil (strings_of strings))) h

-- the string of an act, and the names that it sets
pub has_string_of : (tables : Tables) (strings : List Template) (names : List (List ℕ)) → Has tables (uses_with [] (strings_of strings) (strings_variables strings ++ names)) → Has tables (strings_uses strings)
has_string_of tables strings names h = has_left tables (strings_uses strings) (uses_with [] [] names) (act_parts tables strings names h)

pub has_set_of : (tables : Tables) (strings : List Template) (names : List (List ℕ)) → Has tables (uses_with [] (strings_of strings) (strings_variables strings ++ names)) → Has tables (uses_with [] [] names)
has_set_of tables strings names h = has_right tables (strings_uses strings) (uses_with [] [] names) (act_parts tables strings names h)
