-- How arguments are read step by step, and that those that were read are right.
use Rattle.std.proofs.Common.{◌≡◌, ◌∙◌, ℕ, Bool, true, false, ◌&&◌, ◌||◌, not, List, [], ◌∷◌, Option, Some, None, option_map, length, refl, ap, subst}
use Rattle.std.specs.Prelude.{is_some, nat_lt, Result, Ok, Err}
use Rattle.std.specs.Option.{option_or}
use Rattle.std.specs.Result.{result_err, result_ok}
use Rattle.std.proofs.lemmas.Option.{same_Some}
use Rattle.sieve_parser.specs.Tree.{ArgumentTree, label}
use Rattle.sieve_check.specs.declared.names.Tag.{Tag}
use Rattle.sieve_check.specs.declared.signature.Positional.{Positional}
use Rattle.sieve_check.specs.declared.signature.Signature.{Signature}
use Rattle.sieve_check.specs.declared.signature.Tags.{Tags}
use Rattle.sieve_check.specs.Names.{tag_named}
use Rattle.sieve_check.specs.Signatures.{Given, Read, add_tag, is_positional, nothing_given, tags_with, with_argument}
use Rattle.sieve_check.specs.declared.causes.ReasonKind.TheVariants.{UnknownTag, LateTag, MissingOrder, MissingArgument, ExtraArgument, WrongArgument}
use Rattle.sieve_check.specs.Arguments.{Awaiting, arguments_cause, arguments_read, awaiting, expected, first_label, missing_cause, number_of, positional_cause, reading, rest_read, sound, untaken_kind}
use Rattle.sieve_check.specs.Causes.{Cause, about, plain}
use Rattle.sieve_check.proofs.Options.{both_none, if_none, not_false}

-- ---- arguments are read, or there is a cause why they aren't

pub unread_either : (signature : Signature) (args : List ArgumentTree) → is_some (arguments_cause signature args) ≡ not (is_some (reading signature args))
unread_either signature args = either (arguments_read signature args) where
  either : (r : Result Read Cause) → is_some (result_err r) ≡ not (is_some (result_ok r))
  either (Ok read) = refl
  either (Err cause) = refl

pub read_so : (signature : Signature) (args : List ArgumentTree) (read : Read) → reading signature args ≡ Some read → arguments_read signature args ≡ Ok read
read_so signature args read h = ok (arguments_read signature args) h where
  ok : (r : Result Read Cause) → result_ok r ≡ Some read → r ≡ Ok read
  ok (Ok x) h = ap Ok (same_Some x read h)
  ok (Err cause) h = absurd (cc)

-- ---- step by step

pub expected_some : {A B : Type 0} (o : Option A) (cause : Cause) (f : A → Result B Cause) (y : B) → expected o cause f ≡ Ok y → (x : A) × (o ≡ Some x) × (f x ≡ Ok y)
expected_some None cause f y h = absurd (cc)
expected_some (Some x) cause f y h = (x, refl, h)

pub sound_both : {A : Type 0} (o : Option Cause) (x y : A) → sound o x ≡ Ok y → (o ≡ None) × (x ≡ y)
sound_both None x y h = (refl, cc)
sound_both (Some cause) x y h = absurd (cc)

abbrev pub end_of : Given → List ArgumentTree → Read
end_of given args = record { tags = given.tags; params = given.params; name = given.name; positional = args }

-- behind a tag that is taken
pub behind_tag : (signature : Signature) (all : List ArgumentTree) (given : Given) (args : List ArgumentTree) (name : List ℕ) (rest : List ArgumentTree) (tag : Tag) (tags : Tags)
    → args ≡ label name ∷ rest → tag_named name ≡ Some tag → tags_with signature tag given.tags ≡ Some tags
    → rest_read signature all given None args ≡ rest_read signature all (record given { tags = tags }) (awaiting name tag) rest
behind_tag signature all given args name rest tag tags is named taken =
    ap (rest_read signature all given None) is
    ∙ ap
    (λ (o : Option Tag).
    expected o (about UnknownTag name)
    (λ tag. expected (add_tag signature tag given) (about (untaken_kind signature tag given.tags) name) (λ more. rest_read signature all more (awaiting name tag) rest)))
    named
    ∙ ap
    (λ (o : Option Tags).
    expected (option_map (λ (tags : Tags). record given { tags = tags }) o) (about (untaken_kind signature tag given.tags) name) (λ more. rest_read signature all more (awaiting name tag) rest))
    taken

-- where no tag is next, the arguments that are left are behind the tags
pub behind_tags : (signature : Signature) (all : List ArgumentTree) (given : Given) (args : List ArgumentTree) → ((name : List ℕ) (rest : List ArgumentTree) → args ≡ label name ∷ rest → ⊥)
    → rest_read signature all given None args ≡ sound (option_or (positional_cause signature.positional args) (missing_cause signature given.tags all)) (end_of given args)
behind_tags signature all given (label name ∷ args) none = absurd (none name args refl)
behind_tags signature all given args none = refl

-- ---- arguments that were read

-- they have the order that they have to have, and the right ones are behind the tags
pub record IsComplete (signature : Signature) (read : Read) : Type 0 where
  pub ordered : (not signature.order || is_some read.tags.order) ≡ true
  pub positional : is_positional signature.positional read.positional ≡ true

not_without : (a b : Bool) → (a && not b) ≡ false → (not a || b) ≡ true
not_without true true h = refl
not_without true false h = absurd (cc)
not_without false b h = refl

right_end : (p : Positional) (args : List ArgumentTree) → positional_cause p args ≡ None → is_positional p args ≡ true
right_end p args h =
    let late = both_none (option_map (about LateTag) (first_label args)) _ h in
    let few = if_none (nat_lt (length args) (number_of p)) (plain (MissingArgument p)) _ late.1 in
    let many = if_none (nat_lt (number_of p) (length args)) (plain (ExtraArgument p)) _ few.1 in
    not_false (is_positional p args) (if_none (not (is_positional p args)) (plain (WrongArgument p)) None many.1).0

complete_end : (signature : Signature) (all : List ArgumentTree) (read : Read) → option_or (positional_cause signature.positional read.positional) (missing_cause signature read.tags all) ≡ None → IsComplete signature read
complete_end signature all read h =
    let parts = both_none (positional_cause signature.positional read.positional) _ h in
    record {
      ordered = not_without signature.order (is_some read.tags.order) (if_none (signature.order && not (is_some read.tags.order)) (plain MissingOrder) _ parts.1).0;
      positional = right_end signature.positional read.positional parts.0;
    }

complete_rest : (signature : Signature) (all : List ArgumentTree) (given : Given) (last : Option Awaiting) (args : List ArgumentTree) (read : Read) → rest_read signature all given last args ≡ Ok read → IsComplete signature read
complete_rest signature all given None (label name ∷ args) read h =
    let tag = expected_some (tag_named name) _ _ read h in
    let more = expected_some (add_tag signature tag.0 given) _ _ read tag.2 in
    complete_rest signature all more.0 (awaiting name tag.0) args read more.2
complete_rest signature all given None args read h =
    let parts = sound_both (option_or (positional_cause signature.positional args) (missing_cause signature given.tags all)) (end_of given args) read h in
    subst (IsComplete signature) parts.1 (complete_end signature all (end_of given args) parts.0)
complete_rest signature all given (Some last) [] read h = absurd (cc)
complete_rest signature all given (Some last) (a ∷ args) read h =
    let more = expected_some (with_argument last.tag a given) _ _ read h in
    complete_rest signature all more.0 None args read more.2

pub complete_read : (signature : Signature) (args : List ArgumentTree) (read : Read) → reading signature args ≡ Some read → IsComplete signature read
complete_read signature args read h = complete_rest signature args nothing_given None args read (read_so signature args read h)
