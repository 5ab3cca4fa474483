-- The values of variables and captures stay as short as they are cut, and the values of the variables of a table are a list.
use Rattle.std.proofs.Common.{◌≡◌, ℕ, zero, suc, ◌-◌, ◌≤◌, nat_lt, Bool, true, false, not, bytes_eq, List, [], ◌∷◌, Option, Some, None, All, length, map, take, filter, replicate, slice_set, refl, sym, ap, subst, inl, inr, arith, if◌then◌else◌, length-take}
use Rattle.std.specs.List.{slice_index_or}
use Rattle.std.proofs.lemmas.Bool.{cases_Bool}
use Rattle.std.proofs.lemmas.Cmp.{nat_list_eq_equiv}
use Rattle.std.proofs.lemmas.List.Elements.{All-head, All-tail, All-replicate}
use Rattle.std.proofs.lemmas.Map.Views.{any-filter_same}
use Rattle.std.proofs.lemmas.Slice.Eq.{bytes_eq-Decides}
use Rattle.octets.specs.Limits.{max_value}
use Rattle.octets.specs.Once.{each_once, is_listed, place_in}
use Rattle.bytecode_format.specs.Modifiers.{modified}
use Rattle.mail_matching.specs.Questions.{answer, current}
use Rattle.mail_matching.proofs.QuestionLemmas.{answer_short}
use Rattle.mime_decode.specs.Mail.{Mail, Part as MailPart}
use Rattle.mime_decode.specs.Visited.{visited}
use Rattle.sieve_check.specs.declared.typed.Act.{Act}
use Rattle.sieve_check.specs.declared.typed.Act.TheVariants.{Set, Take, Leave, Stop}
use Rattle.sieve_check.specs.Bounded.{IsBoundedAct, IsBoundedCommand, AreBoundedCommands, AreBoundedBranches}
use Rattle.sieve_check.specs.Typed.{TestForm, asks, negation, all_of, any_of, TestForms, no_test, test, CommandForm, does, for_every_part, choice, CommandForms, no_command, command, BranchForms, no_branch, otherwise, branch}
use Rattle.sieve_meaning.specs.Meaning.{Effects, no_effects, texts_of, expanded, with_taken, with_value, Verdict, verdict, matched, and_then, or_else, Ending, normal, stopped, broken, effects_of, followed_by, left, after_turn, turns, test_does, all_do, any_do, act_does, command_does, commands_do, choice_does}

-- ---- short values

abbrev pub IsShort : List ℕ → Type 0
IsShort text = length text ≤ max_value

pub record AreShort (e : Effects) : Type 0 where
  pub variables : (name : List ℕ) → IsShort (e.variables name)
  pub captures : All IsShort e.captures

cut_short : (text : List ℕ) → IsShort (take max_value text)
cut_short text = omega (arith, length-take max_value text)

empty_short : IsShort []
empty_short = omega arith

pub capture_short : (captures : List (List ℕ)) (n : ℕ) → All IsShort captures → IsShort (slice_index_or captures n [])
capture_short [] n short = empty_short
capture_short (x ∷ xs) zero short = All-head IsShort x xs short
capture_short (x ∷ xs) (suc n) short = capture_short xs n (All-tail IsShort x xs short)

pub none_short : AreShort no_effects
none_short = record { variables = λ name. empty_short; captures = All-replicate IsShort (length no_effects.captures) [] empty_short }

-- with other actions
still : (e f : Effects) → f.variables ≡ e.variables → f.captures ≡ e.captures → AreShort e → AreShort f
still e f variables captures short = record {
  variables = λ name. subst (λ v. IsShort (v name)) (sym variables) (short.variables name);
  captures = subst (All IsShort) (sym captures) short.captures;
}

matched_short : (o : Option (List (List ℕ))) (e : Effects) → AreShort e → ((captures : List (List ℕ)) → o ≡ Some captures → All IsShort captures) → AreShort (matched o e).effects
matched_short None e short after = short
matched_short (Some captures) e short after = record { variables = short.variables; captures = after captures refl }

and_short : (b : Bool) (e : Effects) (next : Effects → Verdict) → AreShort e → ((f : Effects) → AreShort f → AreShort (next f).effects) → AreShort (and_then (verdict b e) next).effects
and_short true e next short h = h e short
and_short false e next short h = short

or_short : (b : Bool) (e : Effects) (next : Effects → Verdict) → AreShort e → ((f : Effects) → AreShort f → AreShort (next f).effects) → AreShort (or_else (verdict b e) next).effects
or_short true e next short h = short
or_short false e next short h = h e short

taken_short : (most : ℕ) (name : List ℕ) (found : Option MailPart) (f : List ℕ → List ℕ) → most ≤ max_value → ((other : List ℕ) → IsShort (f other)) → (other : List ℕ) → IsShort (with_taken most name found f other)
taken_short most name None f few short other = short other
taken_short most name (Some p) f few short other = step (bytes_eq name other)
  where
    step : (b : Bool) → IsShort (if b then take most p.content else f other)
    step true = omega (arith, few, length-take most p.content)
    step false = short other

set_short : (name text : List ℕ) (f : List ℕ → List ℕ) → ((other : List ℕ) → IsShort (f other)) → (other : List ℕ) → IsShort (with_value name (take max_value text) f other)
set_short name text f short other = step (bytes_eq name other)
  where
    step : (b : Bool) → IsShort (if b then take max_value text else f other)
    step true = cut_short text
    step false = short other

followed_short : (x : Ending) (next : Effects → Ending) → AreShort (effects_of x) → ((f : Effects) → AreShort f → AreShort (effects_of (next f))) → AreShort (effects_of (followed_by x next))
followed_short (normal e) next short h = h e short
followed_short (stopped e) next short h = short
followed_short (broken n e) next short h = short

decided_short : (b : Bool) (x y : Ending) → AreShort (effects_of x) → AreShort (effects_of y) → AreShort (effects_of (if b then x else y))
decided_short true x y h k = h
decided_short false x y h k = k

left_short : (n : ℕ) (e : Effects) → AreShort e → AreShort (effects_of (left n e))
left_short n e short = step (nat_lt 1 n)
  where
    step : (b : Bool) → AreShort (effects_of (if b then broken (n - 1) e else normal e))
    step true = short
    step false = short

turn_short : (x : Ending) (next : Effects → Ending) → AreShort (effects_of x) → ((f : Effects) → AreShort f → AreShort (effects_of (next f))) → AreShort (effects_of (after_turn x next))
turn_short (normal e) next short h = h e short
turn_short (stopped e) next short h = short
turn_short (broken n e) next short h = left_short n e short

-- after the turns of a loop
pub turns_short : (turn : ℕ → Effects → Ending) (parts : List ℕ) (e : Effects) → ((number : ℕ) (f : Effects) → AreShort f → AreShort (effects_of (turn number f))) → AreShort e → AreShort (effects_of (turns turn parts e))
turns_short turn [] e h short = short
turns_short turn (number ∷ parts) e h short = turn_short (turn number e) (λ f. turns turn parts f) (h number e short) (λ f k. turns_short turn parts f h k)

module _ (mail : Mail) where
  act_short : (part : Option ℕ) (act : Act) (text : List ℕ) (e : Effects) → IsBoundedAct act → AreShort e → AreShort (effects_of (act_does mail part act text e))
  act_short part (Set modifiers name) text e b short = record { variables = set_short name (modified modifiers text) e.variables short.variables; captures = short.captures }
  act_short part (Take most name) text e b short = record { variables = taken_short most name (current mail part) e.variables b.1 short.variables; captures = short.captures }
  act_short part (Leave loops) text e b short = short
  act_short part Stop text e b short = short
  act_short part _ text e b short = still e _ refl refl short

  mutual
    -- after a test
    pub test_short : (part : Option ℕ) (t : TestForm) (e : Effects) → AreShort e → AreShort (test_does mail part t e).effects
    test_short part (asks question strings at) e short =
        let texts = texts_of e strings in
        matched_short (answer mail part question texts e.captures) e short (λ captures is. answer_short mail part question texts e.captures captures short.captures is)
    test_short part (negation t at) e short = test_short part t e short
    test_short part (all_of t ts at) e short = let v = test_does mail part t e in and_short v.value v.effects (λ f. all_do mail part ts f) (test_short part t e short) (λ f h. all_short part ts f h)
    test_short part (any_of t ts at) e short = let v = test_does mail part t e in or_short v.value v.effects (λ f. any_do mail part ts f) (test_short part t e short) (λ f h. any_short part ts f h)

    all_short : (part : Option ℕ) (ts : TestForms) (e : Effects) → AreShort e → AreShort (all_do mail part ts e).effects
    all_short part no_test e short = short
    all_short part (test t ts) e short = let v = test_does mail part t e in and_short v.value v.effects (λ f. all_do mail part ts f) (test_short part t e short) (λ f h. all_short part ts f h)

    any_short : (part : Option ℕ) (ts : TestForms) (e : Effects) → AreShort e → AreShort (any_do mail part ts e).effects
    any_short part no_test e short = short
    any_short part (test t ts) e short = let v = test_does mail part t e in or_short v.value v.effects (λ f. any_do mail part ts f) (test_short part t e short) (λ f h. any_short part ts f h)

  mutual
    -- after a command
    pub command_short : (part : Option ℕ) (c : CommandForm) (e : Effects) → IsBoundedCommand c → AreShort e → AreShort (effects_of (command_does mail part c e))
    command_short part (does act string at) e b short = act_short part act (expanded e string) e b.0 short
    command_short part (for_every_part cs at) e b short = turns_short (λ number f. commands_do mail (Some number) cs f) (visited part mail) e (λ number f h. commands_short (Some number) cs f b h) short
    command_short part (choice bs) e b short = choice_short part bs e b short

    pub commands_short : (part : Option ℕ) (cs : CommandForms) (e : Effects) → AreBoundedCommands cs → AreShort e → AreShort (effects_of (commands_do mail part cs e))
    commands_short part no_command e b short = short
    commands_short part (command c cs) e b short = followed_short (command_does mail part c e) (λ f. commands_do mail part cs f) (command_short part c e b.0 short) (λ f h. commands_short part cs f b.1 h)

    choice_short : (part : Option ℕ) (bs : BranchForms) (e : Effects) → AreBoundedBranches bs → AreShort e → AreShort (effects_of (choice_does mail part bs e))
    choice_short part no_branch e b short = short
    choice_short part (otherwise cs) e b short = commands_short part cs e b short
    choice_short part (branch t cs at bs) e b short =
        let v = test_does mail part t e in
        let h = test_short part t e short in
        decided_short v.value (commands_do mail part cs v.effects) (choice_does mail part bs v.effects) (commands_short part cs v.effects b.1 h) (choice_short part bs v.effects b.2 h)

-- ---- the values of a table's variables

abbrev IsOnce : List (List ℕ) → Type 0
IsOnce [] = Unit {0}
IsOnce (x ∷ xs) = (is_listed bytes_eq x xs ≡ false) × IsOnce xs

filter_unlisted : (p : List ℕ → Bool) (x : List ℕ) (xs : List (List ℕ)) → is_listed bytes_eq x xs ≡ false → is_listed bytes_eq x (filter p xs) ≡ false
filter_unlisted p x [] h = refl
filter_unlisted p x (y ∷ ys) h =
    elim (cases_Bool (bytes_eq x y)) [
      | inl here ↦ let no : true ≡ false = rw here at h in absurd (cc)
      | inr other ↦ step (p y) other (filter_unlisted p x ys (rw other at h))
    ]
  where
    step : (b : Bool) → bytes_eq x y ≡ false → is_listed bytes_eq x (filter p ys) ≡ false → is_listed bytes_eq x (if b then y ∷ filter p ys else filter p ys) ≡ false
    step true other rest = rw other rest
    step false other rest = rest

filter_once : (p : List ℕ → Bool) (xs : List (List ℕ)) → IsOnce xs → IsOnce (filter p xs)
filter_once p [] h = tt
filter_once p (x ∷ xs) h = step (p x) (filter_unlisted p x xs h.0) (filter_once p xs h.1)
  where
    step : (b : Bool) → is_listed bytes_eq x (filter p xs) ≡ false → IsOnce (filter p xs) → IsOnce (if b then x ∷ filter p xs else filter p xs)
    step true fresh rest = (fresh, rest)
    step false fresh rest = rest

each_once_is : (xs : List (List ℕ)) → IsOnce (each_once bytes_eq xs)
each_once_is [] = tt
each_once_is (x ∷ xs) =
    let others : List ℕ → Bool = λ y. not (bytes_eq x y) in
    (any-filter_same (bytes_eq x) others false (λ y e. rw e refl) (each_once bytes_eq xs), filter_once others (each_once bytes_eq xs) (each_once_is xs))

unchanged : (names : List (List ℕ)) (f : List ℕ → List ℕ) (name value : List ℕ) → is_listed bytes_eq name names ≡ false → map f names ≡ map (with_value name value f) names
unchanged [] f name value h = refl
unchanged (x ∷ xs) f name value h =
    elim (cases_Bool (bytes_eq name x)) [
      | inl here ↦ let no : true ≡ false = rw here at h in absurd (cc)
      | inr other ↦ rw other (ap (λ l. f x ∷ l) (unchanged xs f name value (rw other at h)))
    ]

one_set : (names : List (List ℕ)) (f : List ℕ → List ℕ) (name value : List ℕ) → IsOnce names → is_listed bytes_eq name names ≡ true → slice_set (map f names) (place_in bytes_eq names name) value ≡ map (with_value name value f) names
one_set [] f name value once h = absurd (cc)
one_set (x ∷ xs) f name value once h =
    elim (cases_Bool (bytes_eq name x)) [
      | inl here ↦
          let same : x ≡ name = sym ((bytes_eq-Decides name x).0 here) in
          let fresh : is_listed bytes_eq name xs ≡ false = subst (λ y. is_listed bytes_eq y xs ≡ false) same once.0 in
          rw here (ap (λ l. value ∷ l) (unchanged xs f name value fresh))
      | inr other ↦ rw other (ap (λ l. f x ∷ l) (one_set xs f name value once.1 (rw other at h)))
    ]

-- one variable of those that stand once each is set
pub variable_set : (all : List (List ℕ)) (f : List ℕ → List ℕ) (name value : List ℕ) → is_listed bytes_eq name (each_once bytes_eq all) ≡ true
    → slice_set (map f (each_once bytes_eq all)) (place_in bytes_eq (each_once bytes_eq all) name) value ≡ map (with_value name value f) (each_once bytes_eq all)
variable_set all f name value h = one_set (each_once bytes_eq all) f name value (each_once_is all) h

-- at first all are empty
pub all_empty : (names : List (List ℕ)) → replicate (length names) [] ≡ map (λ (name : List ℕ). let value : List ℕ = [] in value) names
all_empty [] = refl
all_empty (x ∷ xs) = ap (λ (l : List (List ℕ)). [] ∷ l) (all_empty xs)

pub name_itself : (name : List ℕ) → is_listed bytes_eq name (name ∷ []) ≡ true
name_itself name = rw (nat_list_eq_equiv.refl name) refl
