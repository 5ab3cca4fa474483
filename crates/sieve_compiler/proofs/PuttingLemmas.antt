-- The second pass, one piece at a time.
use Rattle.std.proofs.Common.{◌≡◌, ℕ, ◌+◌, Bool, true, false, List, [], ◌∷◌, ◌++◌, Result, Ok, Err, OnOk, All, map, length, ap, sym, subst, ◌∙◌, arith}
use Rattle.std.proofs.lemmas.Grind.{flat_map-append}
use Rattle.std.proofs.lemmas.List.{length-append, append_assoc}
use Rattle.std.proofs.lemmas.List.Elements.{All-nil, All-cons, All-head, All-tail}
use Rattle.bytecode_format.specs.declared.instruction.Instruction.{Instruction}
use Rattle.sieve_check.specs.declared.typed.Test.{Test}
use Rattle.sieve_check.specs.Typed.{Template, TestForm, all_of, any_of, TestForms}
use Rattle.sieve_check.specs.TypedView.{test_form, tests_of}
use Rattle.sieve_compiler.specs.Tables.{Tables}
use Rattle.sieve_compiler.specs.declared.coder.Coder.{Coder}
use Rattle.sieve_compiler.specs.declared.exits.ListExit.{ListExit}
use Rattle.sieve_compiler.specs.declared.exits.Exit.{Exit}
use Rattle.sieve_compiler.specs.Lengths.{test_length, tests_length}
use Rattle.sieve_compiler.specs.Coding.{asked_of, aim_of, string_code, strings_code, test_code, tests_code}
use Rattle.sieve_compiler.specs.Putting.{Puts}
use Rattle.sieve_compiler.proofs.CodeLengths.{test_code_length}

-- code after a piece of n instructions
after_piece : (out next piece : List Instruction) (tables later : Tables) (n : ℕ) (rest : Tables → ℕ → List Instruction) → length piece ≡ n → later ≡ tables → next ≡ out ++ piece → next ++ rest later (length next) ≡ out ++ (piece ++ rest tables (length out + n))
after_piece out next piece tables later n rest len same e =
    let place : length next ≡ length out + n = omega (arith, ap length e, length-append out piece, len) in
    ap (λ t. next ++ rest t (length next)) same
    ∙ ap (λ m. next ++ rest tables m) place
    ∙ ap (λ l. l ++ rest tables (length out + n)) e
    ∙ append_assoc out piece (rest tables (length out + n))

-- a piece of n instructions, then the rest
pub puts_then : (a b c : Coder) (piece : List Instruction) (n : ℕ) (rest : Tables → ℕ → List Instruction) → length piece ≡ n → Puts a b piece → Puts b c (rest b.tables.now (length b.instructions.items)) → Puts a c (piece ++ rest a.tables.now (length a.instructions.items + n))
puts_then a b c piece n rest len p q = record {
  tables = q.tables ∙ p.tables;
  instructions = q.instructions ∙ after_piece a.instructions.items b.instructions.items piece a.tables.now b.tables.now n rest len p.tables p.instructions;
}

-- a list of tests, by the value of a test that decides it
abbrev pub list_form : Bool → TestForm → TestForms → ℕ → TestForm
list_form false t ts at = all_of t ts at
list_form true t ts at = any_of t ts at

list_puts : (a b c : Coder) (deciding asked : Bool) (following target : ℕ) (t : TestForm) (ts : TestForms) (at : ℕ) → following ≡ length a.instructions.items + (test_length t + tests_length ts)
    → Puts a b (test_code a.tables.now (length a.instructions.items) t (asked_of deciding asked ts) (aim_of deciding asked ts following target))
    → Puts b c (tests_code b.tables.now (length b.instructions.items) ts deciding asked following target)
    → Puts a c (test_code a.tables.now (length a.instructions.items) (list_form deciding t ts at) asked target)
list_puts a b c false asked following target t ts at e p q =
    subst (λ (n : ℕ). Puts a c (test_code a.tables.now (length a.instructions.items) t (asked_of false asked ts) (aim_of false asked ts n target) ++ tests_code a.tables.now (length a.instructions.items + test_length t) ts false asked n target)) e
    (puts_then a b c _ (test_length t) (λ tables place. tests_code tables place ts false asked following target) (test_code_length a.tables.now t (length a.instructions.items) (asked_of false asked ts) (aim_of false asked ts following target)) p q)
list_puts a b c true asked following target t ts at e p q =
    subst (λ (n : ℕ). Puts a c (test_code a.tables.now (length a.instructions.items) t (asked_of true asked ts) (aim_of true asked ts n target) ++ tests_code a.tables.now (length a.instructions.items + test_length t) ts true asked n target)) e
    (puts_then a b c _ (test_length t) (λ tables place. tests_code tables place ts true asked following target) (test_code_length a.tables.now t (length a.instructions.items) (asked_of true asked ts) (aim_of true asked ts following target)) p q)

-- the same as the code has it
pub list_put : (a b c : Coder) (deciding : Bool) (exit step : Exit) (list : ListExit) (t first h1 h2 : Test) (others o1 o2 o3 : List Test) (at : ℕ)
    → test_form t ≡ list_form deciding (test_form first) (tests_of (map test_form others)) at
    → h1 ≡ first → h2 ≡ first → o1 ≡ others → o2 ≡ others → o3 ≡ others
    → list.deciding ≡ deciding → list.exit ≡ exit → list.following ≡ length a.instructions.items + (test_length (test_form h1) + tests_length (tests_of (map test_form o1)))
    → step.asked ≡ asked_of list.deciding list.exit.asked (tests_of (map test_form o2))
    → step.target ≡ aim_of list.deciding list.exit.asked (tests_of (map test_form o2)) list.following list.exit.target
    → Puts a b (test_code a.tables.now (length a.instructions.items) (test_form h2) step.asked step.target)
    → Puts b c (tests_code b.tables.now (length b.instructions.items) (tests_of (map test_form o3)) list.deciding list.exit.asked list.following list.exit.target)
    → Puts a c (test_code a.tables.now (length a.instructions.items) (test_form t) exit.asked exit.target)
list_put a b c deciding exit step list t first h1 h2 others o1 o2 o3 at form eh1 eh2 eo1 eo2 eo3 ed ee eb ask aim p q =
    let ts : TestForms = tests_of (map test_form others) in
    let following : list.following ≡ length a.instructions.items + (test_length (test_form first) + tests_length ts) = cc in
    let code1 : test_code a.tables.now (length a.instructions.items) (test_form h2) step.asked step.target ≡ test_code a.tables.now (length a.instructions.items) (test_form first) (asked_of deciding exit.asked ts) (aim_of deciding exit.asked ts list.following exit.target) = cc in
    let code2 : tests_code b.tables.now (length b.instructions.items) (tests_of (map test_form o3)) list.deciding list.exit.asked list.following list.exit.target ≡ tests_code b.tables.now (length b.instructions.items) ts deciding exit.asked list.following exit.target = cc in
    let code : test_code a.tables.now (length a.instructions.items) (list_form deciding (test_form first) ts at) exit.asked exit.target ≡ test_code a.tables.now (length a.instructions.items) (test_form t) exit.asked exit.target = cc in
    let P : List Instruction → Type 0 = λ l. Puts a b l in
    let Q : List Instruction → Type 0 = λ l. Puts b c l in
    let R : List Instruction → Type 0 = λ l. Puts a c l in
    subst R code (list_puts a b c deciding exit.asked list.following exit.target (test_form first) ts at following (subst P code1 p) (subst Q code2 q))

-- ---- lists of strings

-- one piece of code after another
pub puts_both : (a b c : Coder) (p q : List Instruction) → Puts a b p → Puts b c q → Puts a c (p ++ q)
puts_both a b c p q first second = record {
  tables = second.tables ∙ first.tables;
  instructions = second.instructions ∙ ap (λ l. l ++ q) first.instructions ∙ append_assoc a.instructions.items p q;
}

strings_put : (a b c : Coder) (first second : List Template) → Puts a b (strings_code a.tables.now first) → Puts b c (strings_code b.tables.now second) → Puts a c (strings_code a.tables.now (first ++ second))
strings_put a b c first second p q =
    subst (λ (l : List Instruction). Puts a c l) (sym (flat_map-append (string_code a.tables.now) first second))
    (puts_both a b c _ _ p (subst (λ (tables : Tables). Puts b c (strings_code tables second)) p.tables q))

pub all_left : {A : Type 0} (P : A → Type 0) (xs ys : List A) → All P (xs ++ ys) → All P xs
all_left P [] ys h = All-nil P
all_left P (x ∷ xs) ys h = All-cons P x xs (All-head P x (xs ++ ys) h) (all_left P xs ys (All-tail P x (xs ++ ys) h))

pub all_right : {A : Type 0} (P : A → Type 0) (xs ys : List A) → All P (xs ++ ys) → All P ys
all_right P [] ys h = h
all_right P (x ∷ xs) ys h = all_right P xs ys (All-tail P x (xs ++ ys) h)

pub on_ok : {T E : Type 0} {P Q : Type 0} (r : Result T E) → (P → Q) → OnOk r P → OnOk r Q
on_ok (Ok x) step h = step h
on_ok (Err e) step h = h

-- three lists of strings
pub lists_put : {T E : Type 0} (r : Result T E) (a b c d : Coder) (names params keys : List Template) → Puts a b (strings_code a.tables.now names) → Puts b c (strings_code b.tables.now params)
    → OnOk r (Puts c d (strings_code c.tables.now keys)) → OnOk r (Puts a d (strings_code a.tables.now (names ++ params ++ keys)))
lists_put r a b c d names params keys p q h = on_ok r (λ last. strings_put a c d (names ++ params) keys (strings_put a b c names params p q) last) h
