-- Strings and lists of arguments, of which nothing is wrong.
use Rattle.std.proofs.Common.{◌≡◌, ℕ, ◌<◌, ◌≤◌, Bool, true, false, ◌||◌, nat_lt, List, [], ◌∷◌, ◌++◌, length, take, drop, map, All, Option, Some, None, option_map, refl, sym, ap, subst, ◌∙◌, arith, length-append, inl, inr}
use Rattle.std.specs.Prelude.{flat_map}
use Rattle.std.specs.List.{list_any}
use Rattle.std.proofs.lemmas.Bool.{ltb-false}
use Rattle.std.proofs.lemmas.Grind.{flat_map-append}
use Rattle.std.proofs.lemmas.List.{append-nil, length-map, map-append}
use Rattle.std.proofs.lemmas.List.Elements.{All-nil, All-cons}
use Rattle.std.proofs.lemmas.List.Folds.{list_any-append}
use Rattle.octets.specs.Limits.{max_segments, max_string, max_test_strings}
use Rattle.bytecode_format.specs.declared.question.Takes.{Takes}
use Rattle.bytecode_format.specs.Questions.{no_list}
use Rattle.sieve_references.specs.References.{segments}
use Rattle.sieve_parser.specs.Tree.{ArgumentTree, text, text_list}
use Rattle.sieve_check.specs.declared.names.Capability.TheVariants.{Variables}
use Rattle.sieve_check.specs.declared.names.Tag.{Tag}
use Rattle.sieve_check.specs.declared.string_flaws.StringFlaw.TheVariants.{Long}
use Rattle.sieve_check.specs.declared.signature.Positional.{Positional}
use Rattle.sieve_check.specs.declared.signature.Positional.TheVariants as positional
use Rattle.sieve_check.specs.declared.signature.Signature.{Signature}
use Rattle.sieve_check.specs.Bounded.{IsBoundedString, IsAsTaken, AreBoundedStrings}
use Rattle.sieve_check.specs.FormOf.{list_in, list_taken, template_of, strings_in as strings_taken}
use Rattle.sieve_check.specs.Rules.{is_long, string_has, strings_in, strings_of, lists_read}
use Rattle.sieve_check.specs.Arguments.{reading}
use Rattle.sieve_check.specs.Signatures.{◌>>=◌, Read, Given, with_argument, is_list, is_positional}
use Rattle.sieve_check.specs.Surroundings.{Context, has_capability}
use Rattle.sieve_check.specs.Typed.{Template, Strings, in_order}
use Rattle.sieve_check.specs.Variables.{strings_variables}
use Rattle.sieve_check.proofs.Options.{both_true, either_false}
use Rattle.sieve_check.proofs.Regular.{are_lists, is_number}
use Rattle.sieve_check.proofs.TagSteps.{argument_taken, IsKept, kept_by_reading}
use Rattle.sieve_check.proofs.Templates.{names_at, IsSound, templates_bounded, templates_names}

-- ---- the strings behind the tags

-- a string is longer than the limit
abbrev pub has_long_string : List ArgumentTree → Bool
has_long_string args = list_any (string_has Long) (strings_of args)

both_short : (ss ts : List (List ℕ)) → list_any (string_has Long) (ss ++ ts) ≡ false → (list_any (string_has Long) ss ≡ false) × (list_any (string_has Long) ts ≡ false)
both_short ss ts h = either_false (list_any (string_has Long) ss) (list_any (string_has Long) ts) (sym (list_any-append (string_has Long) ss ts) ∙ h)

-- they are some of all, as are those of `:param`
abbrev AreShort : Option Tag → Given → List ArgumentTree → Type 0
AreShort last given args = (has_long_string args ≡ false) × (has_long_string given.params ≡ false)

argument_short : (tag : Tag) (a : ArgumentTree) (given more : Given) (args : List ArgumentTree) → with_argument tag a given ≡ Some more → AreShort (Some tag) given (a ∷ args) → AreShort None more args
argument_short tag a given more args h short =
    let parts = both_short (strings_in a) (strings_of args) short.0 in
    elim (argument_taken tag a given more h).0 [
      | inl c ↦ (parts.1, ap has_long_string c.1 ∙ short.1)
      | inr c ↦ (parts.1, ap (λ (g : Given). has_long_string g.params) (sym c.2) ∙ ap (list_any (string_has Long)) (append-nil (strings_in a)) ∙ parts.0)
    ]

both_pass : (xs ys : List ArgumentTree) → has_long_string xs ≡ false → has_long_string ys ≡ false → has_long_string (xs ++ ys) ≡ false
both_pass xs ys h k =
    ap (list_any (string_has Long)) (flat_map-append strings_in xs ys) ∙ list_any-append (string_has Long) (strings_of xs) (strings_of ys)
    ∙ ap (λ b. b || has_long_string ys) h ∙ k

first_and_others : (xs : List ArgumentTree) → has_long_string xs ≡ false → (has_long_string (take 1 xs) ≡ false) × (has_long_string (drop 1 xs) ≡ false)
first_and_others [] h = (refl, refl)
first_and_others (x ∷ xs) h =
    let parts = both_short (strings_in x) (strings_of xs) h in
    (ap (list_any (string_has Long)) (append-nil (strings_in x)) ∙ parts.0, parts.1)

pub read_short : (signature : Signature) (args : List ArgumentTree) (read : Read) → reading signature args ≡ Some read → has_long_string args ≡ false → has_long_string (lists_read read) ≡ false
read_short signature args read h fits =
    let kept : IsKept signature AreShort = record { tag = λ tag name given args h short. short; argument = argument_short } in
    let short = kept_by_reading signature AreShort kept args read h (fits, refl) in
    let parts = first_and_others read.positional short.0 in
    both_pass (take 1 read.positional ++ read.params) (drop 1 read.positional) (both_pass (take 1 read.positional) read.params parts.0 short.1) parts.1

-- ---- strings within the limits, where b says whether they are expanded

-- the string has too many segments, or too long a name in one
abbrev pub is_large : List ℕ → Bool
is_large string = nat_lt max_segments (length (segments string)) || list_any is_long (segments string)

pub sound : (b : Bool) (x : List ℕ) → string_has Long x ≡ false → (b ≡ true → is_large x ≡ false) → IsSound b x
sound b x short few = record {
  short = ltb-false max_string (length x) short;
  few = λ expanded. ltb-false max_segments (length (segments x)) (either_false (nat_lt max_segments (length (segments x))) (list_any is_long (segments x)) (few expanded)).0;
}

pub all_sound : (b : Bool) (xs : List (List ℕ)) → list_any (string_has Long) xs ≡ false → (b ≡ true → list_any is_large xs ≡ false) → All (IsSound b) xs
all_sound b [] short few = All-nil (IsSound b)
all_sound b (x ∷ xs) short few =
    let shorts = either_false (string_has Long x) (list_any (string_has Long) xs) short in
    let fews = λ (expanded : b ≡ true). either_false (is_large x) (list_any is_large xs) (few expanded) in
    All-cons (IsSound b) x xs (sound b x shorts.0 (λ expanded. (fews expanded).0)) (all_sound b xs shorts.1 (λ expanded. (fews expanded).1))

-- ---- lists

abbrev pub expands : Context → Bool
expands s = has_capability Variables s.required

listed : (s : Context) (a : ArgumentTree) → is_list a ≡ true → (list_in s.required a ≡ Some (map (template_of s.required) (strings_in a))) × (0 < length (strings_in a))
listed s (text x) h = (refl, omega arith)
listed s (text_list x xs) h = (refl, omega arith)
listed s _ h = absurd (cc)

-- an argument is a list that is taken, or there is none
abbrev pub IsGiven : Bool → List ArgumentTree → Type 0
IsGiven true xs = (a : ArgumentTree) × (xs ≡ a ∷ []) × (is_list a ≡ true)
IsGiven false xs = xs ≡ []

-- the strings of arguments, as they are meant
abbrev meant_in : Context → List ArgumentTree → List Template
meant_in s xs = map (template_of s.required) (strings_of xs)

taken : (s : Context) (b : Bool) (xs rest : List ArgumentTree) → IsGiven b xs → list_taken s.required b (xs ++ rest) ≡ Some (meant_in s xs, rest)
taken s true xs rest (a, is, h) =
    ap (λ xs. list_taken s.required true (xs ++ rest)) is ∙ ap (option_map (λ strings. (strings, rest))) (listed s a h).0
    ∙ ap (λ strings. Some (map (template_of s.required) strings, rest)) (sym (append-nil (strings_in a))) ∙ ap (λ xs. Some (meant_in s xs, rest)) (sym is)
taken s false xs rest is = ap (λ xs. list_taken s.required false (xs ++ rest)) is ∙ ap (λ xs. Some (meant_in s xs, rest)) (sym is)

taken_alone : (s : Context) (b : Bool) (xs : List ArgumentTree) → IsGiven b xs → list_taken s.required b xs ≡ Some (meant_in s xs, [])
taken_alone s b xs given = ap (list_taken s.required b) (sym (append-nil xs)) ∙ taken s b xs [] given

as_taken : (s : Context) (b : Bool) (xs : List ArgumentTree) → IsGiven b xs → IsAsTaken b (meant_in s xs)
as_taken s true xs (a, is, h) =
    subst (λ (xs : List ArgumentTree). 0 < length (meant_in s xs)) (sym is) (omega (arith, (listed s a h).1, length-append (strings_in a) [], length-map (strings_in a ++ []) (template_of s.required)))
as_taken s false xs is = ap (meant_in s) is

-- the arguments of a test are the lists that it takes, and nothing else
pub record Split (takes : Takes) (read : Read) : Type 0 where
  pub names : List ArgumentTree
  pub keys : List ArgumentTree
  pub behind : read.positional ≡ names ++ keys
  pub all : lists_read read ≡ names ++ read.params ++ keys
  pub named : IsGiven takes.names names
  pub selected : IsGiven takes.params read.params
  pub keyed : IsGiven takes.keys keys

-- the strings of a test, within the limits, with the names that they bring
pub record Listed (s : Context) (takes : Takes) (read : Read) : Type 0 where
  pub strings : Strings
  pub is : strings_taken s.required takes read ≡ Some strings
  pub bounded : AreBoundedStrings takes strings
  pub names : strings_variables (in_order strings) ≡ flat_map (names_at (expands s)) (strings_of (lists_read read))

-- three steps, of which the last goes by the first
steps : {A B C D : Type 0} (o : Option A) (x : A) (p : Option B) (y : B) (q : A → Option C) (z : C) (f : A → B → C → Option D) → o ≡ Some x → p ≡ Some y → q x ≡ Some z
    → (o >>= λ a. p >>= λ b. q a >>= λ c. f a b c) ≡ f x y z
steps o x p y q z f h k l = ap (λ o. o >>= λ a. p >>= λ b. q a >>= λ c. f a b c) h ∙ ap (λ p. p >>= λ b. q x >>= λ c. f x b c) k ∙ ap (λ r. r >>= λ c. f x y c) l

pub all_listed : (s : Context) (takes : Takes) (read : Read) → Split takes read → length (strings_of (lists_read read)) ≤ max_test_strings → All (IsSound (expands s)) (strings_of (lists_read read)) → Listed s takes read
all_listed s takes read split few sound =
    let strings : Strings = record { names = meant_in s split.names; params = meant_in s read.params; keys = meant_in s split.keys } in
    let t = template_of s.required in
    let order : in_order strings ≡ meant_in s (lists_read read) =
    ap (λ ts. ts ++ meant_in s split.keys) (sym (map-append t (strings_of split.names) (strings_of read.params)) ∙ ap (map t) (sym (flat_map-append strings_in split.names read.params)))
    ∙ sym (map-append t (strings_of (split.names ++ read.params)) (strings_of split.keys)) ∙ ap (map t) (sym (flat_map-append strings_in (split.names ++ read.params) split.keys))
    ∙ ap (meant_in s) (sym split.all) in
    let all = strings_of (lists_read read) in
    record {
      strings = strings;
      is = ap (λ xs. list_taken s.required takes.names xs >>= λ names. list_taken s.required takes.params read.params >>= λ params. list_taken s.required takes.keys names.1 >>= λ keys. together names.0 params.0 keys.0) split.behind
          ∙ steps _ (meant_in s split.names, split.keys) _ (meant_in s read.params, []) (λ names. list_taken s.required takes.keys names.1) (meant_in s split.keys, []) (λ names params keys. together names.0 params.0 keys.0)
          (taken s takes.names split.names split.keys split.named) (taken_alone s takes.params read.params split.selected) (taken_alone s takes.keys split.keys split.keyed);
      bounded = record {
        names = as_taken s takes.names split.names split.named;
        params = as_taken s takes.params read.params split.selected;
        keys = as_taken s takes.keys split.keys split.keyed;
        few = let count : length (in_order strings) ≡ length all = ap length order ∙ length-map all t in omega (arith, few, count);
        bounded = subst (All IsBoundedString) (sym order) (templates_bounded (expands s) all sound);
      };
      names = ap strings_variables order ∙ templates_names (expands s) all;
    }
  where
    together : List Template → List Template → List Template → Option Strings
    together names params keys = Some (record { names = names; params = params; keys = keys })

-- a test that takes no list
pub none_listed : (s : Context) (read : Read) → strings_of (lists_read read) ≡ [] → Listed s no_list read
none_listed s read none = record {
  strings = record { names = []; params = []; keys = [] };
  is = refl;
  bounded = record { names = refl; params = refl; keys = refl; few = omega arith; bounded = All-nil IsBoundedString };
  names = ap (flat_map (names_at (expands s))) (sym none);
}

-- one list, and two
pub one_given : (xs : List ArgumentTree) → is_positional positional.OneList xs ≡ true → IsGiven true xs
one_given (a ∷ []) h = (a, refl, h)
one_given _ h = absurd (cc)

pub two_given : (xs : List ArgumentTree) → is_positional positional.TwoLists xs ≡ true → IsGiven true (take 1 xs) × IsGiven true (drop 1 xs)
two_given (a ∷ b ∷ []) h =
    let lists = both_true (is_list a) (is_list b) h in
    ((a, refl, lists.0), (b, refl, lists.1))
two_given _ h = absurd (cc)

both_parts : (xs : List ArgumentTree) → xs ≡ take 1 xs ++ drop 1 xs
both_parts [] = refl
both_parts (x ∷ xs) = refl

-- the first list is names, and what is behind it keys
pub names_first : (takes : Takes) (read : Read) → IsGiven takes.names (take 1 read.positional) → IsGiven takes.params read.params → IsGiven takes.keys (drop 1 read.positional) → Split takes read
names_first takes read named selected keyed = record { names = take 1 read.positional; keys = drop 1 read.positional; behind = both_parts read.positional; all = refl; named = named; selected = selected; keyed = keyed }

-- all are keys
pub keys_only : (takes : Takes) (read : Read) → read.params ≡ [] → IsGiven takes.names [] → IsGiven takes.params read.params → IsGiven takes.keys read.positional → Split takes read
keys_only takes read none named selected keyed = record {
  names = [];
  keys = read.positional;
  behind = refl;
  all = ap (λ params. take 1 read.positional ++ params ++ drop 1 read.positional) none ∙ ap (λ xs. xs ++ drop 1 read.positional) (append-nil (take 1 read.positional)) ∙ sym (both_parts read.positional)
      ∙ ap (λ params. params ++ read.positional) (sym none);
  named = named;
  selected = selected;
  keyed = keyed;
}

no_argument : (xs : List ArgumentTree) → is_positional positional.Nothing xs ≡ true → xs ≡ []
no_argument [] h = refl
no_argument (x ∷ xs) h = absurd (cc)

-- as many lists as there are behind the tags, where these say whether names and keys are taken
pub lists_behind : (p : Positional) (takes : Takes) (read : Read) (b c : Bool) → takes.names ≡ b → takes.keys ≡ c → are_lists p b c ≡ true → is_number p ≡ false → is_positional p read.positional ≡ true → IsGiven takes.params read.params → (b ≡ false → read.params ≡ []) → Split takes read
lists_behind positional.Nothing takes read false false named keyed lists counted behind selected none =
    let nothing = no_argument read.positional behind in
    names_first takes read (subst (λ (b : Bool). IsGiven b (take 1 read.positional)) (sym named) (ap (take 1) nothing)) selected (subst (λ (b : Bool). IsGiven b (drop 1 read.positional)) (sym keyed) (ap (drop 1) nothing))
lists_behind positional.OneList takes read true false named keyed lists counted behind selected none =
    let one = one_given read.positional behind in
    names_first takes read (subst (λ (b : Bool). IsGiven b (take 1 read.positional)) (sym named) (one.0, ap (take 1) one.1, one.2)) selected (subst (λ (b : Bool). IsGiven b (drop 1 read.positional)) (sym keyed) (ap (drop 1) one.1))
lists_behind positional.OneList takes read false true named keyed lists counted behind selected none =
    keys_only takes read (none refl) (subst (λ (b : Bool). IsGiven b []) (sym named) refl) selected (subst (λ (b : Bool). IsGiven b read.positional) (sym keyed) (one_given read.positional behind))
lists_behind positional.TwoLists takes read true true named keyed lists counted behind selected none =
    let two = two_given read.positional behind in
    names_first takes read (subst (λ (b : Bool). IsGiven b (take 1 read.positional)) (sym named) two.0) selected (subst (λ (b : Bool). IsGiven b (drop 1 read.positional)) (sym keyed) two.1)
lists_behind _ takes read _ _ named keyed lists counted behind selected none = absurd (cc)

-- ---- strings without brackets

pub texted : (b : Bool) (xs : List ArgumentTree) → is_positional positional.Text xs ≡ true → has_long_string xs ≡ false → (b ≡ true → list_any is_large (strings_of xs) ≡ false)
    → (x : List ℕ) × (xs ≡ text x ∷ []) × IsSound b x
texted b (text x ∷ []) h short few = (x, refl, sound b x (either_false (string_has Long x) false short).0 (λ expanded. (either_false (is_large x) false (few expanded)).0))
texted b _ h short few = absurd (cc)

-- a name, which isn't expanded, and a string
pub both_texted : (b : Bool) (xs : List ArgumentTree) → is_positional positional.TwoTexts xs ≡ true → has_long_string xs ≡ false → (b ≡ true → list_any is_large (strings_of (drop 1 xs)) ≡ false)
    → (name x : List ℕ) × (xs ≡ text name ∷ text x ∷ []) × IsSound b x
both_texted b (text name ∷ text x ∷ []) h short few =
    let shorts = either_false (string_has Long name) (list_any (string_has Long) (x ∷ [])) short in
    (name, x, refl, sound b x (either_false (string_has Long x) false shorts.1).0 (λ expanded. (either_false (is_large x) false (few expanded)).0))
both_texted b _ h short few = absurd (cc)
