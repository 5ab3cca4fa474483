-- A list of strings, string by string.
use Rattle.std.proofs.Common.{◌≡◌, ℕ, ◌+◌, ◌<◌, ◌≤◌, List, [], ◌∷◌, ◌++◌, refl, sym, ◌∙◌, ap, subst, arith, length}
use Rattle.std.proofs.lemmas.List.{append_assoc}
use Rattle.sieve_parser.specs.Lexemes.{Lexeme, string, comma, closing_bracket}
use Rattle.sieve_parser.specs.Grammar.{at_depth, more_strings_spelled}
use Rattle.sieve_parser.specs.TokenMachine.{Symbol, strings, more_strings, expand}
use Rattle.sieve_parser.specs.Parsing.{Beginning, IsAt, Stands, lexeme_at}
use Rattle.sieve_parser.proofs.Walk.{walk, stands_one, stands_both}

more_push : (d : ℕ) (ss : List (List ℕ)) (v : List ℕ) → more_strings_spelled d (ss ++ v ∷ []) ≡ more_strings_spelled d ss ++ (at_depth d comma ∷ at_depth d (string v) ∷ [])
more_push d [] v = refl
more_push d (s ∷ ss) v = ap (λ w. at_depth d comma ∷ at_depth d (string s) ∷ w) (more_push d ss v)

module _ (ls : List Lexeme) (at : ℕ) (s : List ℕ) where
  -- a list of strings from its first up to a place, and what is to be read there
  abbrev pub IsListSoFar : ℕ → List (List ℕ) → Type 0
  IsListSoFar next ss = (d : ℕ) (stack : List Symbol) → d ≤ 32 → Stands ls at next (at_depth d (string s) ∷ more_strings_spelled d ss)
      × ((b : Beginning) → IsAt b ls at (strings d ∷ stack) → IsAt b ls next (more_strings d ∷ stack))

  pub list_start : at < length ls → lexeme_at ls at ≡ string s → IsListSoFar (at + 1) []
  list_start lt e = λ d stack small.
      (stands_one ls at (at_depth d (string s)) lt e, λ b a. walk b ls at (strings d) stack d (more_strings d ∷ []) a lt (ap (expand (strings d)) e) small)

  pub comma_read : (next : ℕ) (ss : List (List ℕ)) → IsListSoFar next ss → next < length ls → lexeme_at ls next ≡ comma
      → (d : ℕ) (stack : List Symbol) → d ≤ 32 → (b : Beginning) → IsAt b ls at (strings d ∷ stack) → IsAt b ls (next + 1) (strings d ∷ stack)
  comma_read next ss so_far lt e d stack small b a =
      walk b ls next (more_strings d) stack d (strings d ∷ []) ((so_far d stack small).1 b a) lt (ap (expand (more_strings d)) e) small

  pub list_more : (next : ℕ) (ss : List (List ℕ)) (v : List ℕ) → IsListSoFar next ss → next < length ls → lexeme_at ls next ≡ comma
      → next + 1 < length ls → lexeme_at ls (next + 1) ≡ string v → IsListSoFar (next + 2) (ss ++ v ∷ [])
  list_more next ss v so_far lt e lt' f = λ d stack small.
      let two : next + 1 + 1 ≡ next + 2 = omega arith in
      let prefix = at_depth d (string s) ∷ more_strings_spelled d ss in
      let first = stands_both ls at next (next + 1) prefix (at_depth d comma ∷ []) (so_far d stack small).0 (stands_one ls next (at_depth d comma) lt e) in
      let both = stands_both ls at (next + 1) (next + 1 + 1) (prefix ++ at_depth d comma ∷ []) (at_depth d (string v) ∷ []) first (stands_one ls (next + 1) (at_depth d (string v)) lt' f) in
      let spelled : (prefix ++ at_depth d comma ∷ []) ++ at_depth d (string v) ∷ [] ≡ at_depth d (string s) ∷ more_strings_spelled d (ss ++ v ∷ []) =
      append_assoc prefix (at_depth d comma ∷ []) (at_depth d (string v) ∷ []) ∙ ap (λ w. at_depth d (string s) ∷ w) (sym (more_push d ss v)) in (
        subst (λ w. Stands ls at w (at_depth d (string s) ∷ more_strings_spelled d (ss ++ v ∷ []))) two (subst (λ w. Stands ls at (next + 1 + 1) w) spelled both),
        λ b a. subst (λ w. IsAt b ls w (more_strings d ∷ stack)) two
            (walk b ls (next + 1) (strings d) stack d (more_strings d ∷ []) (comma_read next ss so_far lt e d stack small b a) lt' (ap (expand (strings d)) f) small),
      )

  pub list_end : (next : ℕ) (ss : List (List ℕ)) → IsListSoFar next ss → next < length ls → lexeme_at ls next ≡ closing_bracket
      → (d : ℕ) (stack : List Symbol) → d ≤ 32 → Stands ls at (next + 1) (at_depth d (string s) ∷ (more_strings_spelled d ss ++ at_depth d closing_bracket ∷ []))
      × ((b : Beginning) → IsAt b ls at (strings d ∷ stack) → IsAt b ls (next + 1) stack)
  list_end next ss so_far lt e d stack small = (
    stands_both ls at next (next + 1) (at_depth d (string s) ∷ more_strings_spelled d ss) (at_depth d closing_bracket ∷ []) (so_far d stack small).0
        (stands_one ls next (at_depth d closing_bracket) lt e),
    λ b a. walk b ls next (more_strings d) stack d [] ((so_far d stack small).1 b a) lt (ap (expand (more_strings d)) e) small,
  )
