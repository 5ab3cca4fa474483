-- The number and the encoding of a command are those that its words have.
use Rattle.std.proofs.Common.{◌≡◌, ◌<◌, ◌^◌, ◌∙◌, refl, sym, ap, subst, arith, codes, cond, Bool, true, false, ℕ, List, [], ◌∷◌, Option, None, Some, inl, inr, unwrap_or}
use Rattle.std.specs.Prelude.{IfSome, MatchOption}
use Rattle.std.specs.Str.{bytes_eq}
use Rattle.std.specs.Str.Parse.{digits_value, without_leading_plus}
use Rattle.std.proofs.lemmas.Option.{none-some}
use Rattle.std.proofs.lemmas.Slice.Eq.{bytes_eq-Decides}
use Rattle.octets.specs.Limits.{max_entry_number, max_message, max_parts}
use Rattle.clap.specs.Words.{Row, Text, first_of, subcommand_of}
use Rattle.encodings.specs.Names.{name_of}
use Rattle.encodings.specs.declared.encoding.Encoding.{Encoding}
use Rattle.depot_words.specs.Commands.{Arguments, commands, encoding_name, encoding_names, entry_number, number_from, optional}
use Rattle.depot_words.specs.Ranges.{AreComplete, HasArgument, HasArguments, IsNumberFrom, IsOneOf}
use Rattle.depot_jobs.specs.Words.{AreSaid, IsLine, IsNumber, IsNumberText, WritesFrom, WritesFromOr0, WritesNumber, argument, encoding_named}
use Rattle.depot_jobs.specs.declared.line.CommandLine.{CommandLine}
use Rattle.depot_jobs.specs.declared.line.CommandLine.TheVariants.{Alone, OnDepot}
use Rattle.depot_jobs.specs.declared.request.Access.TheVariants.{Since, Catalog, Remove}
use Rattle.depot_jobs.specs.declared.request.OnDepot.TheVariants.{OnUser, Export}
use Rattle.depot_jobs.specs.declared.work.Tool.TheVariants.{Limit, Encode, Decode}
use Rattle.depot_jobs.specs.declared.work.WithoutDepot.TheVariants.{OnFile}

-- the name of the encoding that a name stands for is that name
same_name : (text : Text) → IsOneOf text encoding_names → text ≡ name_of (encoding_named text)
same_name text (inl is) = is ∙ ap (λ t. name_of (encoding_named t)) (sym is)
same_name text (inr (inl is)) = is ∙ ap (λ t. name_of (encoding_named t)) (sym is)
same_name text (inr (inr (inl is))) = is ∙ ap (λ t. name_of (encoding_named t)) (sym is)
same_name text (inr (inr (inr (inl is)))) = is ∙ ap (λ t. name_of (encoding_named t)) (sym is)
same_name text (inr (inr (inr (inr (inl is))))) = is ∙ ap (λ t. name_of (encoding_named t)) (sym is)
same_name text (inr (inr (inr (inr (inr (inl is)))))) = is ∙ ap (λ t. name_of (encoding_named t)) (sym is)
same_name text (inr (inr (inr (inr (inr (inr (inl is))))))) = is ∙ ap (λ t. name_of (encoding_named t)) (sym is)
same_name text (inr (inr (inr (inr (inr (inr (inr none))))))) = absurd none

encoding_said : (rows : List Row) (encoding : Encoding) → HasArgument rows (codes "ENCODING") encoding_name
    → encoding ≡ encoding_named (argument (codes "ENCODING") rows) → first_of (codes "ENCODING") rows ≡ Some (name_of encoding)
encoding_said rows encoding has is =
    let text : argument (codes "ENCODING") rows ≡ has.0 = ap (λ o. unwrap_or o []) has.1 in
    has.1 ∙ ap Some (same_name has.0 has.2 ∙ ap name_of (sym (is ∙ ap encoding_named text)))

number_said : (rows : List Row) (number : ℕ) → HasArgument rows (codes "NUMBER") entry_number → IsNumber (argument (codes "NUMBER") rows) number
    → WritesNumber number (Some (codes "", rows))
number_said rows number has is =
    let text : argument (codes "NUMBER") rows ≡ has.0 = ap (λ o. unwrap_or o []) has.1 in
    let is_number : IsNumber has.0 number = subst (λ t. IsNumber t number) text is in
    (has.0, has.1, has.2, is_number.value (has.2.0, omega (arith, has.2.2)))

from_said : (rows : List Row) (name : Text) (least most number : ℕ) → most < 2 ^ 32 → HasArgument rows name (number_from least most) → IsNumber (argument name rows) number
    → WritesFrom name least most number (Some (codes "", rows))
from_said rows name least most number few has is =
    let text : argument name rows ≡ has.0 = ap (λ o. unwrap_or o []) has.1 in
    let is_number : IsNumber has.0 number = subst (λ t. IsNumber t number) text is in
    (has.0, has.1, has.2, is_number.value (has.2.0, omega (arith, has.2.2, few)))

-- no number is written in an empty text
none_written : IsNumberText [] → ⊥
none_written is = omega (arith, is.0.0)

or_0_said : (rows : List Row) (name : Text) (least most number : ℕ) → most < 2 ^ 32 → HasArgument rows name (optional (number_from least most)) → IsNumber (argument name rows) number
    → WritesFromOr0 name least most number (Some (codes "", rows))
or_0_said rows name least most number few has is = go (first_of name rows) has is
  where
    go : (o : Option Text) → IfSome o (IsNumberFrom least most) → IsNumber (unwrap_or o []) number
        → MatchOption o (number ≡ 0) (λ text. IsNumberFrom least most text × (number ≡ digits_value 10 (without_leading_plus text)))
    go None has is = is.none none_written
    go (Some text) has is = (has, is.value (has.0, omega (arith, has.2, few)))

-- the arguments of the command of a name, in a list of commands
abbrev arguments_in : Text → List (Text × Arguments) → Option Arguments
arguments_in name [] = None
arguments_in name (command ∷ others) = cond (bytes_eq name command.0) (Some command.1) (arguments_in name others)

of_command : (listed : List (Text × Arguments)) (name : Text) (rows : List Row) (arguments : Arguments) → arguments_in name listed ≡ Some arguments → AreComplete listed name rows
    → HasArguments rows arguments
of_command [] name rows arguments is complete = absurd (none-some _ is)
of_command (command ∷ others) name rows arguments is complete = go (of_command others name rows arguments) (bytes_eq name command.0) refl is
  where
    go : (arguments_in name others ≡ Some arguments → AreComplete others name rows → HasArguments rows arguments) → (b : Bool) → bytes_eq name command.0 ≡ b
        → cond b (Some command.1) (arguments_in name others) ≡ Some arguments → HasArguments rows arguments
    go later true same here = subst (HasArguments rows) (ap (λ o. unwrap_or o command.1) here) (complete.0 ((bytes_eq-Decides name command.0).0 same))
    go later false other there = later there complete.1

-- the matches of a command have its arguments
has_of : {matches : Option (Text × List Row)} {arguments : Arguments} (name : Text) (rows : List Row) → matches ≡ Some (name, rows)
    → IfSome matches (λ m. AreComplete commands m.0 m.1) → arguments_in name commands ≡ Some arguments → HasArguments rows arguments
has_of {matches} {arguments} name rows is complete at = of_command commands name rows arguments at (subst (λ o. IfSome o (λ m. AreComplete commands m.0 m.1)) is complete)

-- what holds of a command's matches holds of those that they are
back : (matches : Option (Text × List Row)) (m : Text × List Row) (P : Text × List Row → Type 0) → matches ≡ Some m → P m → IfSome matches P
back matches m P is h = subst (λ o. IfSome o P) (sym is) h

pub said : (words : List Text) (line : CommandLine) (is : IsLine words line) → AreSaid line (subcommand_of is.app words)
said words (Alone (OnFile (Encode encoding) octets)) is =
    let has = has_of (codes "encode") is.says.0 is.says.1 is.complete refl in
    back _ _ (λ m. first_of (codes "ENCODING") m.1 ≡ Some (name_of encoding)) is.says.1 (encoding_said is.says.0 encoding has.0 is.says.2)
said words (Alone (OnFile (Decode encoding) text)) is =
    let has = has_of (codes "decode") is.says.0 is.says.1 is.complete refl in
    back _ _ (λ m. first_of (codes "ENCODING") m.1 ≡ Some (name_of encoding)) is.says.1 (encoding_said is.says.0 encoding has.0 is.says.2)
said words (Alone (OnFile (Limit octets parts) program)) is =
    let rows = is.says.0 in
    let has = has_of (codes "limit") rows is.says.1 is.complete refl in (
      back _ (codes "limit", rows) _ is.says.1 (from_said rows (codes "OCTETS") 0 max_message octets (omega arith) has.1.0 is.says.3),
      back _ (codes "limit", rows) _ is.says.1 (from_said rows (codes "PARTS") 1 max_parts parts (omega arith) has.1.1.0 is.says.4),
    )
said words (OnDepot depot (OnUser (Since number) user)) is =
    let rows = is.says.0 in
    let request = is.says.1 in
    let has = has_of (codes "since") rows request.0 is.complete refl in
    back _ (codes "since", rows) _ request.0 (from_said rows (codes "NUMBER") 0 max_entry_number number (omega arith) has.1.1.0 request.2)
said words (OnDepot depot (OnUser (Catalog number) user)) is =
    let rows = is.says.0 in
    let request = is.says.1 in
    let has = has_of (codes "catalog") rows request.0 is.complete refl in
    back _ (codes "catalog", rows) _ request.0 (or_0_said rows (codes "NUMBER") 0 max_entry_number number (omega arith) has.1.1.0 request.2)
said words (OnDepot depot (Export user number encoding)) is =
    let rows = is.says.0 in
    let request = is.says.1 in
    let has = has_of (codes "export") rows request.0 is.complete refl in (
      back _ (codes "export", rows) _ request.0 (number_said rows number has.1.1.0 request.2),
      back _ (codes "export", rows) (λ m. first_of (codes "ENCODING") m.1 ≡ Some (name_of encoding)) request.0 (encoding_said rows encoding has.1.1.1.0 request.3),
    )
said words (OnDepot depot (OnUser (Remove number) user)) is =
    let rows = is.says.0 in
    let request = is.says.1 in
    let has = has_of (codes "remove") rows request.0 is.complete refl in
    back _ (codes "remove", rows) _ request.0 (number_said rows number has.1.1.0 request.2)
said words line is = tt
