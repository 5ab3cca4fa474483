-- What holds while tags are read.
use Rattle.std.proofs.Common.{◌≡◌, ◌∙◌, ◌⊎◌, ℕ, zero, suc, ◌<◌, ◌==◌, Bool, true, false, not, if◌then◌else◌, List, [], ◌∷◌, ◌++◌, take, drop, Option, Some, None, option_map, Ok, refl, sym, ap, subst, arith, inl, inr}
use Rattle.std.proofs.lemmas.Bool.{eq-eqb}
use Rattle.std.proofs.lemmas.Option.{same_Some}
use Rattle.sieve_parser.specs.Tree.{ArgumentTree, text, amount, label}
use Rattle.bytecode_format.specs.declared.selection.Selector.{Selector}
use Rattle.bytecode_format.specs.declared.selection.Selector.TheVariants.{Value, Param}
use Rattle.sieve_check.specs.declared.names.Tag.{Tag}
use Rattle.sieve_check.specs.declared.names.Tag.TheVariants.{Comparator, Select, Name, First}
use Rattle.sieve_check.specs.declared.signature.Signature.{Signature}
use Rattle.sieve_check.specs.declared.signature.Tags.{Tags}
use Rattle.sieve_check.specs.Names.{comparator_named, tag_named}
use Rattle.sieve_check.specs.Rules.{lists_read}
use Rattle.sieve_check.specs.Arguments.{Awaiting, awaiting, named_so, reading, rest_read}
use Rattle.sieve_check.specs.Signatures.{Read, Given, nothing_given, takes_tag, with_tag, tags_with, add_tag, awaited, selects, is_list, with_argument}
use Rattle.sieve_check.proofs.Options.{map_some, if_some, both_true, not_both}
use Rattle.sieve_check.proofs.Unread.{end_of, expected_some, read_so, sound_both}

-- ---- one tag, and its argument

abbrev pub with_more : Tag → Given → Given
with_more tag given = record given { tags = with_tag tag given.tags }

pub added : (signature : Signature) (tag : Tag) (given more : Given) → add_tag signature tag given ≡ Some more → (takes_tag signature tag given.tags ≡ true) × (with_more tag given ≡ more)
added signature tag given more h =
    let t = map_some (tags_with signature tag given.tags) _ more h in
    let u = if_some (takes_tag signature tag given.tags) (with_tag tag given.tags) t.0 t.1 in
    (u.0, ap (λ (tags : Tags). (let g : Given = record given { tags = tags } in g)) (same_Some (with_tag tag given.tags) t.0 u.1) ∙ same_Some _ more t.2)

abbrev pub with_params : ArgumentTree → Given → Given
with_params a given = record given { params = a ∷ [] }

abbrev with_number : ℕ → Given → Given
with_number n given = record given { tags = record given.tags { first = Some n } }

not_zero : (n : ℕ) → (n == 0) ≡ false → 0 < n
not_zero zero h = let same : (zero == 0) ≡ true = eq-eqb zero 0 refl in absurd (cc)
not_zero (suc n) h = omega arith

number_taken : (n : ℕ) (given more : Given) → with_argument First (amount n) given ≡ Some more → (0 < n) × (more ≡ with_number n given)
number_taken n given more h = step (n == 0) refl h where
  step : (b : Bool) → (n == 0) ≡ b → (if b then None else Some (with_number n given)) ≡ Some more → (0 < n) × (more ≡ with_number n given)
  step true is h = absurd (cc)
  step false is h = (not_zero n is, sym (same_Some (with_number n given) more h))

-- the number of `:first`, where it was given, isn't zero
abbrev pub IsCounted : Given → Type 0
IsCounted given = (n : ℕ) → given.tags.first ≡ Some n → 0 < n

same_number : (given more : Given) → more.tags.first ≡ given.tags.first → IsCounted given → IsCounted more
same_number given more same counted n h = counted n (sym same ∙ h)

-- of a comparator, a name or a number, and of `:param`; and what was counted stays so
abbrev pub IsTaken : Tag → ArgumentTree → Given → Given → Type 0
IsTaken tag a given more =
    ((((tag ≡ Comparator) ⊎ ((tag ≡ Name) ⊎ (tag ≡ First))) × (more.params ≡ given.params) × (more.tags.selector ≡ given.tags.selector)) ⊎ ((tag ≡ Select Param) × (is_list a ≡ true) × (with_params a given ≡ more)))
    × (IsCounted given → IsCounted more)

pub argument_taken : (tag : Tag) (a : ArgumentTree) (given more : Given) → with_argument tag a given ≡ Some more → IsTaken tag a given more
argument_taken Comparator (text s) given more h =
    let c = map_some (comparator_named s) _ more h in
    let same = sym (same_Some _ more c.2) in
    (inl (inl refl, ap (λ (g : Given). g.params) same, ap (λ (g : Given). g.tags.selector) same), same_number given more (ap (λ (g : Given). g.tags.first) same))
argument_taken (Select Param) a given more h =
    let c = if_some (is_list a) (with_params a given) more h in
    let same = same_Some (with_params a given) more c.1 in
    (inr (refl, c.0, same), same_number given more (ap (λ (g : Given). g.tags.first) (sym same)))
argument_taken Name (text s) given more h =
    let named : Given = record given { name = Some s } in
    let same = sym (same_Some named more h) in
    (inl (inr (inl refl), ap (λ (g : Given). g.params) same, ap (λ (g : Given). g.tags.selector) same), same_number given more (ap (λ (g : Given). g.tags.first) same))
argument_taken First (amount n) given more h =
    let c = number_taken n given more h in
    let counted : IsCounted given → IsCounted more =
    λ counted m is. let same : n ≡ m = same_Some n m (sym (ap (λ (g : Given). g.tags.first) c.1) ∙ is) in omega (arith, c.0, same) in
    (inl (inr (inr refl), ap (λ (g : Given). g.params) c.1, ap (λ (g : Given). g.tags.selector) c.1), counted)
argument_taken _ _ given more h = absurd (cc)

-- a tag by itself gives no number
tag_counted : (tag : Tag) (given : Given) → IsCounted given → IsCounted (with_more tag given)
tag_counted Comparator given counted = counted
tag_counted _ given counted = counted

-- ---- what each step keeps

abbrev pub given_in : Read → Given
given_in read = record { tags = read.tags; params = read.params; name = read.name }

module _ (signature : Signature) (P : Option Tag → Given → List ArgumentTree → Type 0) where
  pub record IsKept : Type 0 where
    pub tag : (tag : Tag) (name : List ℕ) (given : Given) (args : List ArgumentTree) → takes_tag signature tag given.tags ≡ true → P None given (label name ∷ args) → P (awaited tag) (with_more tag given) args
    pub argument : (tag : Tag) (a : ArgumentTree) (given more : Given) (args : List ArgumentTree) → with_argument tag a given ≡ Some more → P (Some tag) given (a ∷ args) → P None more args

  abbrev tag_of : Option Awaiting → Option Tag
  tag_of = option_map (λ (a : Awaiting). a.tag)

  tag_awaited : (name : List ℕ) (o : Option Tag) → o ≡ tag_of (option_map (named_so name) o)
  tag_awaited name None = refl
  tag_awaited name (Some tag) = refl

  module _ (kept : IsKept) where
    pub kept_to_end : (all : List ArgumentTree) (given : Given) (last : Option Awaiting) (args : List ArgumentTree) (read : Read) → rest_read signature all given last args ≡ Ok read → P (tag_of last) given args → P None (given_in read) read.positional
    kept_to_end all given None (label name ∷ args) read h p =
        let tag = expected_some (tag_named name) _ _ read h in
        let more = expected_some (add_tag signature tag.0 given) _ _ read tag.2 in
        let step = added signature tag.0 given more.0 more.1 in
        let after = subst (λ (g : Given). P (awaited tag.0) g args) step.1 (kept.tag tag.0 name given args step.0 p) in
        kept_to_end all more.0 (awaiting name tag.0) args read more.2 (subst (λ (t : Option Tag). P t more.0 args) (tag_awaited name (awaited tag.0)) after)
    kept_to_end all given None args read h p = subst (λ (r : Read). P None (given_in r) r.positional) (sound_both _ (end_of given args) read h).1 p
    kept_to_end all given (Some last) [] read h p = absurd (cc)
    kept_to_end all given (Some last) (a ∷ args) read h p =
        let more = expected_some (with_argument last.tag a given) _ _ read h in
        kept_to_end all more.0 None args read more.2 (kept.argument last.tag a given more.0 args more.1 p)

    pub kept_by_reading : (args : List ArgumentTree) (read : Read) → reading signature args ≡ Some read → P None nothing_given args → P None (given_in read) read.positional
    kept_by_reading args read h p = kept_to_end args nothing_given None args read (read_so signature args read h) p

-- ---- the argument of `:param`

-- it is there where that is
abbrev pub HasArgument : Selector → List ArgumentTree → Type 0
HasArgument Param params = (a : ArgumentTree) × (params ≡ a ∷ []) × (is_list a ≡ true)
HasArgument _ params = params ≡ []

-- the same, where the last tag may still await its argument
abbrev Awaits : Option Tag → Given → Type 0
Awaits (Some (Select Param)) given = given.tags.selector ≡ Param
Awaits _ given = HasArgument given.tags.selector given.params

-- and nothing is selected where the signature doesn't say so
pub record IsSelecting (signature : Signature) (last : Option Tag) (given : Given) (args : List ArgumentTree) : Type 0 where
  pub params : Awaits last given
  pub unselected : signature.selecting ≡ false → given.tags.selector ≡ Value

none_yet : (selector : Selector) (params : List ArgumentTree) → not (selects selector) ≡ true → HasArgument selector params → params ≡ []
none_yet Value params h has = has
none_yet _ params h has = absurd (cc)

tag_selecting : (signature : Signature) (tag : Tag) (name : List ℕ) (given : Given) (args : List ArgumentTree) → takes_tag signature tag given.tags ≡ true → IsSelecting signature None given (label name ∷ args) → IsSelecting signature (awaited tag) (with_more tag given) args
tag_selecting signature (Select Param) name given args h is =
    let taken = both_true signature.selecting _ h in
    record { params = refl; unselected = λ plain. absurd (not_both signature.selecting taken.0 plain) }
tag_selecting signature (Select _) name given args h is =
    let taken = both_true signature.selecting _ h in
    record { params = none_yet given.tags.selector given.params taken.1 is.params; unselected = λ plain. absurd (not_both signature.selecting taken.0 plain) }
tag_selecting signature _ name given args h is = record { params = is.params; unselected = is.unselected }

plain_awaits : (tag : Tag) (given : Given) → (tag ≡ Comparator) ⊎ ((tag ≡ Name) ⊎ (tag ≡ First)) → Awaits (Some tag) given → HasArgument given.tags.selector given.params
plain_awaits tag given is awaits =
    elim is [
      | inl comparator ↦ subst (λ t. Awaits (Some t) given) comparator awaits
      | inr other ↦ elim other [
        | inl named ↦ subst (λ t. Awaits (Some t) given) named awaits
        | inr first ↦ subst (λ t. Awaits (Some t) given) first awaits
      ]
    ]

argument_selecting : (signature : Signature) (tag : Tag) (a : ArgumentTree) (given more : Given) (args : List ArgumentTree) → with_argument tag a given ≡ Some more → IsSelecting signature (Some tag) given (a ∷ args) → IsSelecting signature None more args
argument_selecting signature tag a given more args h is =
    elim (argument_taken tag a given more h).0 [
      | inl c ↦
          let params = plain_awaits tag given c.0 is.params in
          record {
            params = subst (λ selector. HasArgument selector more.params) (sym c.2) (subst (HasArgument given.tags.selector) (sym c.1) params);
            unselected = λ plain. c.2 ∙ is.unselected plain;
          }
      | inr c ↦
          let param : given.tags.selector ≡ Param = subst (λ t. Awaits (Some t) given) c.0 is.params in
          subst (λ (g : Given). IsSelecting signature None g args) c.2 (record {
            params = subst (λ selector. HasArgument selector (a ∷ [])) (sym param) (a, refl, c.1);
            unselected = is.unselected;
          })
    ]

pub selecting_read : (signature : Signature) (args : List ArgumentTree) (read : Read) → reading signature args ≡ Some read → IsSelecting signature None (given_in read) read.positional
selecting_read signature args read h =
    kept_by_reading signature (IsSelecting signature) (record { tag = tag_selecting signature; argument = argument_selecting signature }) args read h (record { params = refl; unselected = λ plain. refl })

-- the number of `:first`, as it was read, isn't zero
pub number_read : (signature : Signature) (args : List ArgumentTree) (read : Read) → reading signature args ≡ Some read → IsCounted (given_in read)
number_read signature args read h =
    let P = λ (last : Option Tag) (given : Given) (args : List ArgumentTree). IsCounted given in
    let kept : IsKept signature P = record {
      tag = λ tag name given args takes counted. tag_counted tag given counted;
      argument = λ tag a given more args taken counted. (argument_taken tag a given more taken).1 counted;
    } in
    kept_by_reading signature P kept args read h (λ n none. absurd (cc))

-- where nothing is selected, there is none, and the lists are those behind the tags
pub none_selected : (signature : Signature) (args : List ArgumentTree) (read : Read) → signature.selecting ≡ false → reading signature args ≡ Some read → read.params ≡ []
none_selected signature args read plain h =
    let is = selecting_read signature args read h in
    subst (λ selector. HasArgument selector read.params) (is.unselected plain) is.params

none_between : (xs : List ArgumentTree) → take 1 xs ++ [] ++ drop 1 xs ≡ xs
none_between [] = refl
none_between (x ∷ xs) = refl

pub only_behind : (signature : Signature) (args : List ArgumentTree) (read : Read) → signature.selecting ≡ false → reading signature args ≡ Some read → lists_read read ≡ read.positional
only_behind signature args read plain h =
    ap (λ params. take 1 read.positional ++ params ++ drop 1 read.positional) (none_selected signature args read plain h) ∙ none_between read.positional
