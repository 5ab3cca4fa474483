-- What a command's arguments are, where its words have no fault.
use Rattle.std.proofs.Common.{◌≡◌, ◌∙◌, refl, sym, ap, subst, codes, cond, Bool, true, false, ◌||◌, ℕ, zero, suc, List, [], ◌∷◌, Option, Some, None, arith, eqb-true, length, leb-true, map, true≢false, inl, inr, unwrap_or}
use Rattle.std.specs.Prelude.{IfSome, is_some, T, neg_ℤ, pos, ◌≤ℤ◌}
use Rattle.std.specs.List.{find, list_all, list_any}
use Rattle.std.specs.Option.{option_map, option_map_or}
use Rattle.std.specs.Borrow.{Bor}
use Rattle.std.specs.Str.{bytes_eq}
use Rattle.std.specs.Str.Parse.{starts_with_minus}
use Rattle.std.proofs.lemmas.Option.{none-some}
use Rattle.std.proofs.lemmas.Slice.Eq.{bytes_eq-Decides}
use Rattle.clap.proofs.OnLiterals.{clap_on_literals}
use Rattle.clap.proofs.ValueTestLemmas.{accepts-Accepts}
use Rattle.clap.proofs.WalkLemmas.{list_any-map}
use Rattle.clap.specs.Facts.{parser_of_value}
use Rattle.clap.specs.Values.{Accepts, IsSignedIn}
use Rattle.clap.specs.ValueTests.{accepts}
use Rattle.clap.specs.Walk.{Held, Names, Row, Rule, Text, answers_to, arg_by_id, first_of, is_empty, nothing_held, stop_after}
use Rattle.clap.specs.Simple.{App, Shape, argument_words, built, entered, label_of, names_of, rows_at, subcommand_of}
use Rattle.clap.specs.Kinds.{Kinds}
use Rattle.clap.specs.Faults.{entered_fault, fault_of, level_fault}
use Rattle.clap.specs.declared.builder.value_parser.ValueParser.{ValueParser}
use Rattle.depot_words.specs.Commands.{AreEncodings, Argument, Arguments, IsDepot, Range, Texts, any_text, commands, depot_app, encoding_name, encoding_names, entry_number, is_required, number_from, optional, parser_for}
use Rattle.depot_words.specs.Ranges.{AreComplete, HasArgument, HasArguments, IsEntryNumber, IsInRange, IsOneOf}
use Rattle.octets.specs.Limits.{max_entry_number}
use Rattle.depot_words.proofs.Taking.{HasRequired, found, is_plain_shape, neither, required}

-- ---- the range of a text

passed : (b : Bool) → T b → b ≡ true
passed true t = refl
passed false t = absurd t

order : (b : Bool) (d : ℕ) → b ≡ true → pos 1 ≤ℤ cond b (neg_ℤ (pos d)) (pos d) → ⊥
order true zero e h = h.le
order true (suc d) e h = h.le
order false d e h = true≢false (sym e)

-- clap's test of a number is ours
pub number_in_range : (text : Text) → IsSignedIn (pos 1) (pos max_entry_number) text → IsEntryNumber text
number_in_range text h = go (starts_with_minus text) refl
  where
    go : (b : Bool) → starts_with_minus text ≡ b → IsEntryNumber text
    go true is = absurd (order (starts_with_minus text) _ is h.2)
    go false is =
        let h = rw is at h in
        (h.0, leb-true _ _ (passed _ h.2.le), leb-true _ _ (passed _ h.3.le))

one_of : (text : Text) (names : List Text) → list_any (λ name. bytes_eq name text) names ≡ true → IsOneOf text names
one_of text [] e = true≢false (sym e)
one_of text (name ∷ names) e = go (one_of text names) (bytes_eq name text) refl e
  where
    go : (list_any (λ name. bytes_eq name text) names ≡ true → IsOneOf text names) → (b : Bool) → bytes_eq name text ≡ b
        → (b || list_any (λ name. bytes_eq name text) names) ≡ true → IsOneOf text (name ∷ names)
    go more true is e = inl (sym ((bytes_eq-Decides name text).0 is))
    go more false is e = inr (more e)

pub name_in_range : (names : Texts) → AreEncodings names → (text : Text) → list_any (λ (name : Bor Text). bytes_eq name.now text) names.now ≡ true
    → IsOneOf text encoding_names
name_in_range names are text e =
    one_of text encoding_names (ap (list_any (λ name. bytes_eq name text)) (sym are) ∙ sym (list_any-map (λ name. bytes_eq name text) (λ (name : Bor Text). name.now) names.now) ∙ e)

-- ---- the command that the words enter

abbrev named : Text → List Shape → Option Shape
named name subs = find (λ s. answers_to name (label_of s)) subs

-- the command of this name is this one, and the rows have what it asks for
pub record Entered (app : App) (name : Text) (rows : List Row) : Type 0 where
  pub shape : Shape
  pub is_named : named name (built app).subs ≡ Some shape
  pub has : is_plain_shape shape ≡ true → HasRequired shape rows

without_aliases : (name word : Text) (aliases : List Text) → is_empty aliases ≡ true → answers_to word (name, aliases) ≡ true → name ≡ word
without_aliases name word [] none e = go (bytes_eq name word) refl e
  where
    go : (b : Bool) → bytes_eq name word ≡ b → (b || false) ≡ true → name ≡ word
    go true is e = (bytes_eq-Decides name word).0 is
    go false is e = absurd (true≢false (sym e))
without_aliases name word (x ∷ xs) none e =
    let zero_length = eqb-true (length (x ∷ xs)) 0 none in
    absurd (omega (arith, zero_length))

entered_by : (app : App) (stop : Option (Text × List Text)) → list_all (λ s. is_empty s.aliases) (built app).subs ≡ true → entered_fault (built app) stop ≡ []
    → IfSome (entered (built app) stop) (λ m. Entered app m.0 m.1)
entered_by app None plain none = tt
entered_by app (Some p) plain none = go (named p.0 (built app).subs) refl none
  where
    go : (o : Option Shape) → named p.0 (built app).subs ≡ o → option_map_or (λ s. level_fault s [] nothing_held p.1 false []) o [] ≡ []
        → IfSome (option_map (λ s. rows_at s p.1) o) (λ m. Entered app m.0 m.1)
    go None is fault = tt
    go (Some s) is fault =
        let here = found (λ s. is_empty s.aliases) (λ s. answers_to p.0 (label_of s)) (built app).subs s plain is in
        let name = without_aliases s.name p.0 s.aliases here.0 here.1 in
        record { shape = s; is_named = ap (λ n. named n (built app).subs) name ∙ is; has = λ plain. required s p.1 plain fault }

-- ---- the arguments of each command

abbrev first : {X : Type 0} → X → List X → X
first none [] = none
first none (x ∷ xs) = x

abbrev others : {X : Type 0} → List X → List X
others [] = []
others (x ∷ xs) = xs

-- what counts of an argument: whether it has to be there, whether the case of its text counts not, and how it is tested
abbrev Facts : Type 0
Facts = Bool × Bool × ValueParser

abbrev facts_of : Rule → Facts
facts_of a = (a.required, a.ignore_case, parser_of_value a.parser)

abbrev facts_for : Texts → Argument → Facts
facts_for names argument = (is_required argument.1, false, parser_of_value (parser_for names argument.1))

-- what clap's tables have of the arguments of a command
abbrev found_in : Shape → Arguments → Bool × List (Option Facts)
found_in s arguments = (is_plain_shape s, map (λ (argument : Argument). option_map facts_of (arg_by_id s.rules argument.0)) arguments)

abbrev wanted_of : Texts → Arguments → Bool × List (Option Facts)
wanted_of names arguments = (true, map (λ argument. Some (facts_for names argument)) arguments)

abbrev found_of : Texts → Text × Arguments → Option (Bool × List (Option Facts))
found_of names command = option_map (λ s. found_in s command.1) (named command.0 (built (depot_app names)).subs)

-- they have what the list of commands says
as_listed : (names : Texts) → map (found_of names) commands ≡ map (λ (command : Text × Arguments). Some (wanted_of names command.1)) commands
unfolding clap_on_literals
as_listed names = refl

if_some : {X : Type 0} (o : Option X) (P Q : X → Type 0) → ((x : X) → P x → Q x) → IfSome o P → IfSome o Q
if_some None P Q f h = tt
if_some (Some x) P Q f h = f x h

module _ (names : Texts) (are : AreEncodings names) (name : Text) (rows : List Row) where
  -- what clap accepts for a range is in it
  in_range : (range : Range) (text : Text) → Accepts false (parser_of_value (parser_for names range)) text → IsInRange range text
  in_range any_text text h = tt
  in_range entry_number text h = number_in_range text h
  in_range (number_from least most) text h = (h.0, h.2, h.3)
  in_range encoding_name text h = name_in_range names are text h
  in_range (optional range) text h = in_range range text h

  accepted : (range : Range) (a : Rule) → facts_of a ≡ facts_for names (codes "", range) → (text : Text) → accepts a.ignore_case (parser_of_value a.parser) text ≡ true
      → IsInRange range text
  accepted range a facts text h =
      let exact = subst (λ b. Accepts b (parser_of_value a.parser) text) (ap (λ (f : Facts). f.1) facts) (accepts-Accepts a.ignore_case _ text h) in
      in_range range text (subst (λ p. Accepts false p text) (ap (λ (f : Facts). f.2) facts) exact)

  needed : (s : Shape) → HasRequired s rows → (id : Text) (range : Range) (a : Rule) → arg_by_id s.rules id ≡ Some a → facts_of a ≡ facts_for names (codes "", range)
      → is_required range ≡ true → (text : Text) × (first_of id rows ≡ Some text) × IsInRange range text
  needed s has id range a at facts is =
      let it = has.passing id a at (ap (λ (f : Facts). f.0) facts ∙ is) in
      (it.0, it.1, accepted range a facts it.0 it.2)

  held : (s : Shape) → HasRequired s rows → (id : Text) (range : Range) (a : Rule) → arg_by_id s.rules id ≡ Some a → facts_of a ≡ facts_for names (codes "", range)
      → HasArgument rows id range
  held s has id (optional range) a at facts = if_some (first_of id rows) _ (IsInRange range) (accepted (optional range) a facts) (has.fitting id a at)
  held s has id range a at facts = needed s has id range a at facts refl

  one : (s : Shape) → HasRequired s rows → (argument : Argument) → option_map facts_of (arg_by_id s.rules argument.0) ≡ Some (facts_for names argument)
      → HasArgument rows argument.0 argument.1
  one s has argument is = go (arg_by_id s.rules argument.0) refl is
    where
      go : (o : Option Rule) → arg_by_id s.rules argument.0 ≡ o → option_map facts_of o ≡ Some (facts_for names argument) → HasArgument rows argument.0 argument.1
      go None at is = absurd (none-some _ is)
      go (Some a) at is = held s has argument.0 argument.1 a at (ap (λ o. unwrap_or o (facts_of a)) is)

  each_of : (s : Shape) → HasRequired s rows → (arguments : Arguments) → (found_in s arguments).1 ≡ (wanted_of names arguments).1 → HasArguments rows arguments
  each_of s has [] is = tt
  each_of s has (argument ∷ more) is = (one s has argument (ap (first None) is), each_of s has more (ap others is))

  each : Entered (depot_app names) name rows → (listed : List (Text × Arguments)) → map (found_of names) listed ≡ map (λ (command : Text × Arguments). Some (wanted_of names command.1)) listed
      → AreComplete listed name rows
  each e [] is = tt
  each e (command ∷ more) is = (complete_one, each e more (ap others is))
    where
      complete_one : name ≡ command.0 → HasArguments rows command.1
      complete_one same =
          let at = ap (λ n. named n (built (depot_app names)).subs) (sym same) ∙ e.is_named in
          let found : found_in e.shape command.1 ≡ wanted_of names command.1 =
          ap (λ o. unwrap_or o (wanted_of names command.1)) (sym (ap (option_map (λ s. found_in s command.1)) at) ∙ ap (first None) is) in
          each_of e.shape (e.has (ap (λ (f : Bool × List (Option Facts)). f.0) found)) command.1 (ap (λ (f : Bool × List (Option Facts)). f.1) found)

simply_named : (names : Texts) → list_all (λ s. is_empty s.aliases) (built (depot_app names)).subs ≡ true
unfolding clap_on_literals
simply_named names = refl

-- where the walk over the words stopped for a command
abbrev stop_of : App → List Text → Option (Text × List Text)
stop_of app words = stop_after (built app).top.rules (names_of (built app)) (argument_words app words)

level_below : (s : Shape) (names : Names) (h : Held) (words : List Text) (has : Bool) (below : Kinds) → level_fault s names h words has below ≡ [] → below ≡ []
level_below s names h words has below none =
    let after = neither _ _ none in
    (neither below _ after.1).0

below_fault : (app : App) (words : List Text) → fault_of app words ≡ [] → entered_fault (built app) (stop_of app words) ≡ []
below_fault app words none =
    level_below (built app).top (names_of (built app)) nothing_held (argument_words app words) (is_some (entered (built app) (stop_of app words))) _ none

of_depot : (names : Texts) → AreEncodings names → (words : List Text) → fault_of (depot_app names) words ≡ []
    → IfSome (subcommand_of (depot_app names) words) (λ m. AreComplete commands m.0 m.1)
of_depot names are words none =
    if_some (subcommand_of (depot_app names) words) (λ m. Entered (depot_app names) m.0 m.1) (λ m. AreComplete commands m.0 m.1) (λ m e. each names are m.0 m.1 e commands (as_listed names))
    (entered_by (depot_app names) (stop_of (depot_app names) words) (simply_named names) (below_fault (depot_app names) words none))

pub complete : (app : App) (words : List Text) → IsDepot app → fault_of app words ≡ [] → IfSome (subcommand_of app words) (λ m. AreComplete commands m.0 m.1)
complete app words (names, are, is) none =
    subst (λ a. fault_of a words ≡ [] → IfSome (subcommand_of a words) (λ m. AreComplete commands m.0 m.1)) (sym is) (of_depot names are words) none
