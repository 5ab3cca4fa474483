-- Arguments, one by one.
use Rattle.std.proofs.Common.{◌≡◌, ◌≢◌, ℕ, ◌+◌, ◌<◌, ◌≤◌, List, [], ◌∷◌, ◌++◌, refl, sym, ◌∙◌, ap, arith, length, ◌-◌, ◌^◌, inl, inr}
use Rattle.std.specs.Prelude.{Some, None, slice_range}
use Rattle.std.proofs.lemmas.Bool.{lt-ltb, le-ltb, cases_lt}
use Rattle.sieve_lexer.specs.Values.{below_limit}
use Rattle.std.proofs.lemmas.List.{append_assoc, append-nil, length-take, length-drop}
use Rattle.sieve_lexer.specs.declared.token.TokenKind.{TokenKind}
use Rattle.sieve_lexer.specs.declared.token.TokenKind.TheVariants.{Tag, Number, QuotedString, MultiLineString, OpeningBracket}
use Rattle.sieve_parser.specs.Lexemes.{Lexeme, lexeme_of, opening_bracket}
use Rattle.sieve_parser.specs.Tree.{ArgumentTree}
use Rattle.sieve_parser.specs.Grammar.{Placed, at_depth, argument_spelled, arguments_spelled}
use Rattle.sieve_parser.specs.TokenMachine.{Follow, Symbol, arguments, strings, expand}
use Rattle.sieve_parser.specs.Parsing.{Beginning, IsAt, Stands, lexeme_at, IsNoArgument}
use Rattle.sieve_parser.proofs.Walk.{walk, stands_one, stands_both}

pub no_argument : (k : TokenKind) (n : ℕ) (octets : List ℕ) → k ≢ Tag → k ≢ Number → k ≢ QuotedString → k ≢ MultiLineString → k ≢ OpeningBracket → IsNoArgument (lexeme_of k n octets)
no_argument Tag n o t m q l b = absurd (t refl)
no_argument Number n o t m q l b = absurd (m refl)
no_argument QuotedString n o t m q l b = absurd (q refl)
no_argument MultiLineString n o t m q l b = absurd (l refl)
no_argument OpeningBracket n o t m q l b = absurd (b refl)
no_argument _ n o t m q l b = tt

-- an argument from a place up to another
abbrev pub IsArgumentRead : List Lexeme → ℕ → ArgumentTree → ℕ → Type 0
IsArgumentRead ls at a next = (d : ℕ) (f : Follow) (stack : List Symbol) → d ≤ 32 → (at < next) × Stands ls at next (argument_spelled d a)
    × ((b : Beginning) → IsAt b ls at (arguments d f ∷ stack) → IsAt b ls next (arguments d f ∷ stack))

pub one_argument : (ls : List Lexeme) (at : ℕ) (l : Lexeme) (a : ArgumentTree) → at < length ls → lexeme_at ls at ≡ l
    → ((d : ℕ) → argument_spelled d a ≡ at_depth d l ∷ []) → ((d : ℕ) (f : Follow) → expand (arguments d f) l ≡ Some (d, arguments d f ∷ [])) → IsArgumentRead ls at a (at + 1)
one_argument ls at l a lt e spelled expands = λ d f stack small.
    (omega arith, rw (spelled d) (stands_one ls at (at_depth d l) lt e), λ b p. walk b ls at (arguments d f) stack d (arguments d f ∷ []) p lt (ap (expand (arguments d f)) e ∙ expands d f) small)

pub list_argument : (ls : List Lexeme) (at : ℕ) (a : ArgumentTree) (next : ℕ) → at < length ls → lexeme_at ls at ≡ opening_bracket
    → ((d : ℕ) (stack : List Symbol) → d ≤ 32 → (b : List Placed) × ((argument_spelled d a ≡ at_depth d opening_bracket ∷ b) × Stands ls (at + 1) next b
    × ((b : Beginning) → IsAt b ls (at + 1) (strings d ∷ stack) → IsAt b ls next stack))) → IsArgumentRead ls at a next
list_argument ls at a next lt e list = λ d f stack small.
    let following = list d (arguments d f ∷ stack) small in
    let open_bracket = stands_one ls at (at_depth d opening_bracket) lt e in (
      omega (arith, following.1.1.from),
      rw following.1.0 (stands_both ls at (at + 1) next (at_depth d opening_bracket ∷ []) following.0 open_bracket following.1.1),
      λ b p. following.1.2 b (walk b ls at (arguments d f) stack d (strings d ∷ arguments d f ∷ []) p lt (ap (expand (arguments d f)) e) small),
    )

pub arguments_push : (d : ℕ) (xs : List ArgumentTree) (a : ArgumentTree) → arguments_spelled d (xs ++ a ∷ []) ≡ arguments_spelled d xs ++ argument_spelled d a
arguments_push d [] a = append-nil (argument_spelled d a)
arguments_push d (x ∷ xs) a = ap (λ w. argument_spelled d x ++ w) (arguments_push d xs a) ∙ sym (append_assoc (argument_spelled d x) (arguments_spelled d xs) (argument_spelled d a))

pub length_range : (s : List ℕ) (a b : ℕ) → b ≤ length s → length (slice_range s a b) ≡ b - a
length_range s a b within = simp (length-take, length-drop) (omega arith)

pub no_limit : (n : ℕ) → n < 2 ^ 64 → None ≡ below_limit n → ⊥
no_limit n lt e = let some : below_limit n ≡ Some n = rw (lt-ltb n (2 ^ 64) lt) refl in cc

pub number_is : (v n : ℕ) → Some v ≡ below_limit n → v ≡ n
number_is v n e = elim (cases_lt n (2 ^ 64)) [
  | inl lt ↦ let some : below_limit n ≡ Some n = rw (lt-ltb n (2 ^ 64) lt) refl in cc
  | inr ge ↦ let none : below_limit n ≡ None = rw (le-ltb n (2 ^ 64) ge) refl in absurd (cc)
]
