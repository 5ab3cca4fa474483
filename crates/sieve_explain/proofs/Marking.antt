-- The marks stand under what is at fault.
use Rattle.std.proofs.Common.{◌≡◌, ◌∙◌, ℕ, zero, suc, ◌+◌, Bool, true, false, List, [], ◌∷◌, ◌++◌, All, ap, sym, subst, refl, arith, drop}
use Rattle.std.specs.Prelude.{Option, Some, None, ◌&&◌, ◌-◌, if◌then◌else◌, bytes_eq, length, take_while}
use Rattle.std.specs.Option.{option_or}
use Rattle.std.specs.List.{find, slice_get}
use Rattle.std.proofs.lemmas.List.{map-append}
use Rattle.std.proofs.lemmas.List.Elements.{All-weaker}
use Rattle.std.proofs.lemmas.Slice.Eq.{bytes_eq-Decides}
use Rattle.sieve_lexer.specs.Tokens.{AreTokens}
use Rattle.sieve_lexer.specs.Values.{string_value}
use Rattle.sieve_lexer.specs.declared.token.Token.{Token}
use Rattle.sieve_lexer.specs.declared.token.TokenKind.{TokenKind}
use Rattle.sieve_lexer.specs.declared.token.TokenKind.TheVariants.{Identifier}
use Rattle.sieve_parser.specs.Grammar.{Placed, arguments_spelled, commands_spelled, lexemes_placed}
use Rattle.sieve_parser.specs.Lexemes.{lexemes}
use Rattle.sieve_parser.specs.Scripts.{IsParsed}
use Rattle.sieve_parser.specs.Tree.{CommandsTree}
use Rattle.sieve_check.specs.Causes.{Refused}
use Rattle.sieve_check.specs.Rules.{reasons_of}
use Rattle.sieve_check.specs.declared.causes.ReasonKind.{ReasonKind}
use Rattle.sieve_check.specs.declared.causes.ReasonKind.TheVariants as reasons
use Rattle.sieve_explain.specs.Explaining.{IsMarked, MarksEither, MarksFault, MarksWord, bare_word, lacks_strings, marked_by, marked_token, tokens_behind, word_behind}
use Rattle.sieve_explain.specs.Marks.{bare_behind, has_value, if_bare, is_bare, is_name, is_of_arguments, is_separator, is_string, string_among, text_of}
use Rattle.sieve_explain.proofs.OneText.{OneList}
use Rattle.sieve_explain.proofs.OwnStrings.{Comes, IsName, comes, found, name_at, valued_kind}
use Rattle.sieve_explain.proofs.Subjects.{IsTold, reasons_told, marks_string}

-- the tokens from one on are it, and those behind it
from_token : (tokens : List Token) (place : ℕ) (token : Token) → slice_get tokens place ≡ Some token → drop place tokens ≡ token ∷ drop (suc place) tokens
from_token [] place token e = absurd (cc)
from_token (t ∷ ts) zero token e = let same : t ≡ token = cc in ap (λ (x : Token). x ∷ ts) same
from_token (t ∷ ts) (suc place) token e = from_token ts place token e

name_has_none : (script string : List ℕ) (token : Token) → token.kind ≡ Identifier → has_value script string token ≡ false
unfolding has_value
name_has_none script string token e = ap (λ (k : TokenKind). is_string k && bytes_eq (string_value k (text_of script token)) string) e

find_behind : (test : Token → Bool) (token : Token) (tokens : List Token) → test token ≡ false → find test (token ∷ tokens) ≡ find test tokens
find_behind test token tokens e = rw e refl

-- so a string is looked for behind a name
string_behind : (script string : List ℕ) (tokens : List Token) (place : ℕ) (token : Token) → slice_get tokens place ≡ Some token → token.kind ≡ Identifier
    → string_among script string (drop place tokens) ≡ string_among script string (drop (place + 1) tokens)
string_behind script string tokens place token e kind =
    let next : suc place ≡ place + 1 = omega arith in
    ap (string_among script string) (from_token tokens place token e)
    ∙ find_behind (has_value script string) token (drop (suc place) tokens) (name_has_none script string token kind)
    ∙ ap (λ (n : ℕ). string_among script string (drop n tokens)) next

value_of : (script string : List ℕ) (token : Token) → has_value script string token ≡ true → string_value token.kind (text_of script token) ≡ string
unfolding has_value
value_of script string token e =
    let value = string_value token.kind (text_of script token) in
    (bytes_eq-Decides value string).0 (second (is_string token.kind) (bytes_eq value string) e)
  where
    second : (a b : Bool) → (a && b) ≡ true → b ≡ true
    second true b e = e
    second false b e = absurd (cc)

-- what is read of the tokens, with a name in it and its arguments
read : (script : List ℕ) (tokens : List Token) (all before after : List Placed) (x : Placed) (xs : List Placed) → lexemes script tokens ≡ lexemes_placed all → all ≡ before ++ (x ∷ (xs ++ after))
    → lexemes script tokens ≡ lexemes_placed before ++ x.lexeme ∷ lexemes_placed (xs ++ after)
read script tokens all before after x xs is e = is ∙ ap lexemes_placed e ∙ map-append (λ (p : Placed). p.lexeme) before (x ∷ (xs ++ after))

-- the word in the place of a string
if_is : (b c : Bool) (token word : Token) → (if b && c then Some token else None) ≡ Some word → (b ≡ true) × (token ≡ word)
if_is true true token word e = (refl, cc)
if_is true false token word e = absurd (cc)
if_is false c token word e = absurd (cc)

bare_is : (script name : List ℕ) (o : Option Token) (word : Token) → if_bare script name o ≡ Some word → (is_name word.kind ≡ true) × (o ≡ Some word)
bare_is script name None word e = absurd (cc)
bare_is script name (Some token) word e =
    let (named, same) = if_is (is_name token.kind) (is_bare name (text_of script token)) token word e in
    (subst (λ (t : Token). is_name t.kind ≡ true) same named, ap Some same)

else_some : (b : Bool) (o : Option Token) (word : Token) → (if b then None else o) ≡ Some word → o ≡ Some word
else_some true o word e = absurd (cc)
else_some false o word e = e

then_some : (b : Bool) (o : Option Token) (word : Token) → (if b then o else None) ≡ Some word → o ≡ Some word
then_some true o word e = e
then_some false o word e = absurd (cc)

marks_word : (script : List ℕ) (tokens : List Token) (it : Refused) (word : Token) → bare_word script tokens it ≡ Some word → MarksWord script tokens it word
unfolding marked_token word_behind
marks_word script tokens it word e =
    let behind = tokens_behind tokens it.token in
    let place = length (take_while is_of_arguments behind) in
    let there = slice_get behind place in
    let own = then_some (lacks_strings it.reason.kind) (bare_behind script it.reason.name behind) word e in
    let other = else_some (is_separator (slice_get behind (place - 1))) (if_bare script it.reason.name there) word own in
    let (named, is) = bare_is script it.reason.name there word other in
    let marks = marked_by it.reason.kind (string_among script it.reason.subject (drop it.token tokens)) (slice_get tokens it.token) in
    (ap (λ (o : Option Token). option_or o marks) e, named, is)

marks : (script : List ℕ) (tokens : List Token) (found_reason : Refused) → bare_word script tokens found_reason ≡ None → (kind : ReasonKind) → found_reason.reason.kind ≡ kind → (rest : _)
    → IsName script tokens found_reason.token found_reason.reason.name rest → (marks_string kind ≡ true → Comes found_reason.reason.subject rest) → MarksFault kind script tokens found_reason
unfolding marked_token
marks script tokens it none reasons.UnknownCapability same rest (name, here, kind, spelled, behind) string =
    let subject = it.reason.subject in
    let (token, first, among, value) = found script subject (it.token + 1) (drop (it.token + 1) tokens) (subst (Comes subject) (sym behind) (string refl)) in (
      token,
      ap (λ (o : Option Token). option_or o (marked_by it.reason.kind (string_among script subject (drop it.token tokens)) (slice_get tokens it.token))) none
          ∙ ap (λ (k : ReasonKind). marked_by k (string_among script subject (drop it.token tokens)) (slice_get tokens it.token)) same
          ∙ string_behind script subject tokens it.token name here kind ∙ first,
      among,
      valued_kind script subject token value,
      value_of script subject token value,
    )
marks script tokens it none kind same rest (name, here, _, spelled, behind) string = (
  name,
  ap (λ (o : Option Token). option_or o (marked_by it.reason.kind (string_among script it.reason.subject (drop it.token tokens)) (slice_get tokens it.token))) none
      ∙ ap (λ (k : ReasonKind). marked_by k (string_among script it.reason.subject (drop it.token tokens)) (slice_get tokens it.token)) same ∙ here,
  here,
  spelled,
)

either : (script : List ℕ) (tokens : List Token) (it : Refused) (o : Option Token) → bare_word script tokens it ≡ o
    → (bare_word script tokens it ≡ None → MarksFault it.reason.kind script tokens it) → MarksEither o script tokens it
either script tokens it None e other = other e
either script tokens it (Some word) e other = marks_word script tokens it word e

marked : (script : List ℕ) (tokens : List Token) (script_tree : CommandsTree) → lexemes script tokens ≡ lexemes_placed (commands_spelled 0 script_tree) → (it : Refused)
    → IsTold (commands_spelled 0 script_tree) it → IsMarked script tokens it
marked script tokens tree is it (d, (args, ((before, (after, e)), string))) =
    let named = name_at script tokens (lexemes_placed before) it.token it.reason.name (lexemes_placed (arguments_spelled d args ++ after)) (read script tokens (commands_spelled 0 tree) before after _ (arguments_spelled d args) is e) in
    either script tokens it (bare_word script tokens it) refl
    (λ none. marks script tokens it none it.reason.kind refl (lexemes_placed (arguments_spelled d args ++ after)) named (λ h. comes it.reason.subject d args after (string h)))

pub all_marked : OneList → (script : List ℕ) (tokens : List Token) (commands : CommandsTree) → AreTokens script tokens → IsParsed script commands → All (IsMarked script tokens) (reasons_of commands)
all_marked law script tokens commands are (short, (others, (theirs, is, depth))) =
    let same = law script tokens others are theirs in
    All-weaker (IsTold (commands_spelled 0 commands)) (IsMarked script tokens) (marked script tokens commands (ap (lexemes script) same ∙ is)) (reasons_of commands) (reasons_told commands)
