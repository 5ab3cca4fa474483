-- A string of the arguments of a command or test, among the tokens of the script.
use Rattle.std.proofs.Common.{◌≡◌, ◌∙◌, ◌⊎◌, ℕ, suc, ◌+◌, Bool, true, false, List, [], ◌∷◌, ◌++◌, ap, sym, subst, refl, inl, inr, arith, length, drop}
use Rattle.std.specs.Prelude.{Some, ◌&&◌, bytes_eq, slice_range, take, take_while}
use Rattle.std.specs.List.{Contains, find, prefix_len, slice_get}
use Rattle.std.proofs.lemmas.Bool.{cases_Bool}
use Rattle.std.proofs.lemmas.Cmp.{nat_list_eq_equiv}
use Rattle.std.proofs.lemmas.List.{append_assoc}
use Rattle.sieve_lexer.specs.Values.{string_value}
use Rattle.sieve_lexer.specs.declared.token.Token.{Token}
use Rattle.sieve_lexer.specs.declared.token.TokenKind.{TokenKind}
use Rattle.sieve_lexer.specs.declared.token.TokenKind.TheVariants.{Identifier, Tag, Number, QuotedString, MultiLineString, Comma, OpeningBracket, ClosingBracket}
use Rattle.sieve_parser.specs.Grammar.{Placed, at_depth, lexemes_placed, more_strings_spelled, argument_spelled, arguments_spelled}
use Rattle.sieve_parser.specs.Lexemes.{Lexeme, identifier, tag, number, string, comma, opening_bracket, closing_bracket, lexeme, lexeme_of, lexemes_from}
use Rattle.sieve_parser.specs.Tree.{ArgumentTree, text, text_list, amount, label}
use Rattle.sieve_check.specs.Rules.{strings_in, strings_of}
use Rattle.sieve_explain.specs.Marks.{has_value, is_of_arguments, is_string, text_of, writes_arguments}

-- ---- among lexemes

-- the element is one of the list
abbrev pub IsAmong : {A : Type 0} → A → List A → Type 0
IsAmong x [] = ⊥
IsAmong x (y ∷ ys) = (y ≡ x) ⊎ IsAmong x ys

among_both : {A : Type 0} (x : A) (xs ys : List A) → IsAmong x (xs ++ ys) → IsAmong x xs ⊎ IsAmong x ys
among_both x [] ys h = inr h
among_both x (y ∷ xs) ys (inl e) = inl (inl e)
among_both x (y ∷ xs) ys (inr h) =
    elim (among_both x xs ys h) [
      | inl here ↦ inl (inr here)
      | inr later ↦ inr later
    ]

-- what is found is one of the list
pub found_among : {A : Type 0} (p : A → Bool) (xs : List A) (x : A) → find p xs ≡ Some x → IsAmong x xs
found_among p [] x e = absurd (cc)
found_among p (y ∷ ys) x e =
    elim (cases_Bool (p y)) [
      | inl hit ↦ let same : Some y ≡ Some x = rw hit at e in inl (cc)
      | inr miss ↦ let later : find p ys ≡ Some x = rw miss at e in inr (found_among p ys x later)
    ]

-- arguments are written with it
abbrev is_part : Lexeme → Bool
is_part (string s) = true
is_part (number n) = true
is_part (tag name) = true
is_part comma = true
is_part opening_bracket = true
is_part closing_bracket = true
is_part _ = false

-- the string comes behind nothing else
abbrev pub Comes : List ℕ → List Lexeme → Type 0
Comes s [] = ⊥
Comes s (l ∷ ls) = (l ≡ string s) ⊎ ((is_part l ≡ true) × Comes s ls)

-- it does where placed lexemes are grouped in another way
regrouped : (s : List ℕ) (xs ys zs : List Placed) → Comes s (lexemes_placed (xs ++ (ys ++ zs))) → Comes s (lexemes_placed ((xs ++ ys) ++ zs))
regrouped s xs ys zs h = subst (λ (ws : List Placed). Comes s (lexemes_placed ws)) (sym (append_assoc xs ys zs)) h

past_strings : (s : List ℕ) (d : ℕ) (ss : List (List ℕ)) (zs : List Placed) → Comes s (lexemes_placed zs) → Comes s (lexemes_placed (more_strings_spelled d ss ++ zs))
past_strings s d [] zs h = h
past_strings s d (x ∷ xs) zs h = inr (refl, inr (refl, past_strings s d xs zs h))

past_argument : (s : List ℕ) (d : ℕ) (a : ArgumentTree) (zs : List Placed) → Comes s (lexemes_placed zs) → Comes s (lexemes_placed (argument_spelled d a ++ zs))
past_argument s d (text x) zs h = inr (refl, h)
past_argument s d (text_list x xs) zs h =
    inr (refl, inr (refl, regrouped s (more_strings_spelled d xs) (at_depth d closing_bracket ∷ []) zs (past_strings s d xs (at_depth d closing_bracket ∷ zs) (inr (refl, h)))))
past_argument s d (amount n) zs h = inr (refl, h)
past_argument s d (label name) zs h = inr (refl, h)

in_strings : (s : List ℕ) (d : ℕ) (ss : List (List ℕ)) (zs : List Placed) → IsAmong s ss → Comes s (lexemes_placed (more_strings_spelled d ss ++ zs))
in_strings s d [] zs among = absurd among
in_strings s d (x ∷ xs) zs (inl e) = inr (refl, inl (ap string e))
in_strings s d (x ∷ xs) zs (inr among) = inr (refl, inr (refl, in_strings s d xs zs among))

in_argument : (s : List ℕ) (d : ℕ) (a : ArgumentTree) (zs : List Placed) → IsAmong s (strings_in a) → Comes s (lexemes_placed (argument_spelled d a ++ zs))
in_argument s d (text x) zs (inl e) = inl (ap string e)
in_argument s d (text x) zs (inr none) = absurd none
in_argument s d (text_list x xs) zs (inl e) = inr (refl, inl (ap string e))
in_argument s d (text_list x xs) zs (inr among) =
    inr (refl, inr (refl, regrouped s (more_strings_spelled d xs) (at_depth d closing_bracket ∷ []) zs (in_strings s d xs (at_depth d closing_bracket ∷ zs) among)))
in_argument s d (amount n) zs among = absurd among
in_argument s d (label name) zs among = absurd among

-- a string of arguments comes
pub comes : (s : List ℕ) (d : ℕ) (args : List ArgumentTree) (zs : List Placed) → IsAmong s (strings_of args) → Comes s (lexemes_placed (arguments_spelled d args ++ zs))
comes s d [] zs among = absurd among
comes s d (a ∷ args) zs among =
    regrouped s (argument_spelled d a) (arguments_spelled d args) zs
    (elim (among_both s (strings_in a) (strings_of args) among) [
      | inl here ↦ in_argument s d a (arguments_spelled d args ++ zs) here
      | inr later ↦ past_argument s d a (arguments_spelled d args ++ zs) (comes s d args zs later)
    ])

-- ---- among tokens

string_kind : (k : TokenKind) (n : ℕ) (octets s : List ℕ) → lexeme_of k n octets ≡ string s → (is_string k ≡ true) × (string_value k octets ≡ s)
string_kind QuotedString n octets s e = (refl, cc)
string_kind MultiLineString n octets s e = (refl, cc)
string_kind _ n octets s e = absurd (cc)

part_kind : (k : TokenKind) (n : ℕ) (octets : List ℕ) → is_part (lexeme_of k n octets) ≡ true → writes_arguments k ≡ true
part_kind QuotedString n octets e = refl
part_kind MultiLineString n octets e = refl
part_kind Number n octets e = refl
part_kind Tag n octets e = refl
part_kind Comma n octets e = refl
part_kind OpeningBracket n octets e = refl
part_kind ClosingBracket n octets e = refl
part_kind _ n octets e = absurd (cc)

string_part : (k : TokenKind) → is_string k ≡ true → writes_arguments k ≡ true
string_part QuotedString e = refl
string_part MultiLineString e = refl
string_part _ e = absurd (cc)

name_kind : (k : TokenKind) (m : ℕ) (octets : List ℕ) (n : ℕ) (name : List ℕ) → lexeme_of k m octets ≡ identifier n name → (k ≡ Identifier) × (m ≡ n) × (octets ≡ name)
name_kind Identifier m octets n name e = (refl, cc, cc)
name_kind _ m octets n name e = absurd (cc)

valued : (script s : List ℕ) (token : Token) → is_string token.kind ≡ true → string_value token.kind (text_of script token) ≡ s → has_value script s token ≡ true
unfolding has_value
valued script s token kind value =
    ap (λ (b : Bool). b && bytes_eq (string_value token.kind (text_of script token)) s) kind
    ∙ ap (λ (v : List ℕ). bytes_eq v s) value ∙ nat_list_eq_equiv.refl s

pub valued_kind : (script s : List ℕ) (token : Token) → has_value script s token ≡ true → is_string token.kind ≡ true
unfolding has_value
valued_kind script s token e = step (is_string token.kind) _ e where
  step : (a b : Bool) → (a && b) ≡ true → a ≡ true
  step true b e = refl
  step false b e = absurd (cc)

contains_first : {A : Type 0} (x : A) (xs : List A) → Contains (x ∷ xs) x
contains_first x xs = (0, omega arith, refl)

contains_later : {A : Type 0} (x y : A) (xs : List A) → Contains xs x → Contains (y ∷ xs) x
contains_later x y xs (k, within, e) = (suc k, omega (arith, within), e)

while_more : (token : Token) (tokens : List Token) → is_of_arguments token ≡ true → take_while is_of_arguments (token ∷ tokens) ≡ token ∷ take_while is_of_arguments tokens
while_more token tokens e =
    let more = prefix_len is_of_arguments tokens in
    let next : 1 + more ≡ suc more = omega arith in
    rw e (ap (λ (n : ℕ). take n (token ∷ tokens)) next)

-- the first of the tokens that is a string with that value, which nothing but arguments stand before
abbrev pub Found : List ℕ → List ℕ → List Token → Type 0
Found script s tokens = (token : Token) × (find (has_value script s) tokens ≡ Some token)
    × Contains (take_while is_of_arguments tokens) token × (has_value script s token ≡ true)

found_here : (script s : List ℕ) (token : Token) (tokens : List Token) → has_value script s token ≡ true → Found script s (token ∷ tokens)
found_here script s token tokens e =
    let part = string_part token.kind (valued_kind script s token e) in
    (token, (rw e refl), subst (λ (ts : List Token). Contains ts token) (sym (while_more token tokens part)) (contains_first token (take_while is_of_arguments tokens)), e)

found_later : (script s : List ℕ) (token : Token) (tokens : List Token) → has_value script s token ≡ false → is_of_arguments token ≡ true → Found script s tokens → Found script s (token ∷ tokens)
found_later script s token tokens other part (it, first, among, value) =
    (it, (rw other first), subst (λ (ts : List Token). Contains ts it) (sym (while_more token tokens part)) (contains_later it token (take_while is_of_arguments tokens) among), value)

pub found : (script s : List ℕ) (n : ℕ) (tokens : List Token) → Comes s (lexemes_from script n tokens) → Found script s tokens
found script s n [] h = absurd h
found script s n (token ∷ tokens) (inl e) =
    let is = string_kind token.kind n (slice_range script token.start token.end) s e in
    found_here script s token tokens (valued script s token is.0 is.1)
found script s n (token ∷ tokens) (inr (part, h)) =
    elim (cases_Bool (has_value script s token)) [
      | inl hit ↦ found_here script s token tokens hit
      | inr miss ↦ found_later script s token tokens miss (part_kind token.kind n (slice_range script token.start token.end) part) (found script s (n + 1) tokens h)
    ]

-- the token that is read as a lexeme, and what is read of those behind it
abbrev ReadAs : List ℕ → ℕ → List Token → ℕ → Lexeme → List Lexeme → Type 0
ReadAs script n tokens place l rest = (token : Token) × (slice_get tokens place ≡ Some token) × (lexeme script (n + place) token ≡ l)
    × (lexemes_from script (n + suc place) (drop (suc place) tokens) ≡ rest)

read_as : (script : List ℕ) (n : ℕ) (tokens : List Token) (before : List Lexeme) (l : Lexeme) (rest : List Lexeme) → lexemes_from script n tokens ≡ before ++ l ∷ rest
    → ReadAs script n tokens (length before) l rest
read_as script n [] [] l rest e = absurd (cc)
read_as script n [] (x ∷ before) l rest e = absurd (cc)
read_as script n (token ∷ tokens) [] l rest e =
    let same : n + 0 ≡ n = omega arith in
    (token, refl, ap (λ (m : ℕ). lexeme script m token) same ∙ cc, cc)
read_as script n (token ∷ tokens) (x ∷ before) l rest e =
    let tail : lexemes_from script (n + 1) tokens ≡ before ++ l ∷ rest = cc in
    let (it, at, is, others) = read_as script (n + 1) tokens before l rest tail in
    let next : n + 1 + length before ≡ n + suc (length before) = omega arith in
    let after : n + 1 + suc (length before) ≡ n + suc (suc (length before)) = omega arith in
    (it, at, ap (λ (m : ℕ). lexeme script m it) (sym next) ∙ is, ap (λ (m : ℕ). lexemes_from script m (drop (suc (length before)) tokens)) (sym after) ∙ others)

-- a name, whose lexeme has its token's number, and what is read of the tokens behind it
abbrev pub IsName : List ℕ → List Token → ℕ → List ℕ → List Lexeme → Type 0
IsName script tokens at name rest = (token : Token) × (slice_get tokens at ≡ Some token) × (token.kind ≡ Identifier) × (text_of script token ≡ name)
    × (lexemes_from script (at + 1) (drop (at + 1) tokens) ≡ rest)

pub name_at : (script : List ℕ) (tokens : List Token) (before : List Lexeme) (at : ℕ) (name : List ℕ) (rest : List Lexeme)
    → lexemes_from script 0 tokens ≡ before ++ identifier at name ∷ rest → IsName script tokens at name rest
name_at script tokens before at name rest e =
    let (it, here, is, others) = read_as script 0 tokens before (identifier at name) rest e in
    let named = name_kind it.kind (0 + length before) (slice_range script it.start it.end) at name is in
    let place : length before ≡ at = omega (arith, named.1) in
    let next : suc at ≡ at + 1 = omega arith in
    let far : 0 + suc at ≡ at + 1 = omega arith in
    let behind : lexemes_from script (0 + suc at) (drop (suc at) tokens) ≡ rest = subst (λ (m : ℕ). lexemes_from script (0 + suc m) (drop (suc m) tokens) ≡ rest) place others in (
      it,
      subst (λ (m : ℕ). slice_get tokens m ≡ Some it) place here,
      named.0,
      named.2,
      ap (λ (m : ℕ). lexemes_from script m (drop (at + 1) tokens)) (sym far) ∙ ap (λ (m : ℕ). lexemes_from script (0 + suc at) (drop m tokens)) (sym next) ∙ behind,
    )
