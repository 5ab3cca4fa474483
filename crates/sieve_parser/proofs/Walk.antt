-- One token more: where a token is expanded the machine goes on, and elsewhere its number is that of the fault.
use Rattle.std.proofs.Common.{◌≡◌, ℕ, zero, suc, ◌+◌, ◌<◌, ◌≤◌, List, [], ◌∷◌, ◌++◌, refl, sym, ◌∙◌, ap, subst, inl, inr, arith, length, take, drop, get_or}
use Rattle.std.specs.Prelude.{Option, Some, None, nat_le}
use Rattle.std.specs.List.{slice_get}
use Rattle.std.proofs.lemmas.Bool.{cases_Bool, leb-false, le-leb, lt-leb, cases_lt}
use Rattle.std.proofs.lemmas.List.{append_assoc, take_more, drop_more, drop-append-le, length-take-le, map-append}
use Rattle.std.proofs.lemmas.List.Sums.{fold-append}
use Rattle.sieve_lexer.specs.declared.token.Token.{Token}
use Rattle.sieve_parser.specs.Lexemes.{Lexeme, semicolon, lexeme, lexemes_from}
use Rattle.sieve_parser.specs.Grammar.{Placed, at_depth, lexemes_placed}
use Rattle.sieve_parser.specs.TokenMachine.{Symbol, expand, goes, deep, judged, step, stack_then, advance, reading_from, IsDone}
use Rattle.sieve_parser.specs.Parsing.{Beginning, IsAt, IsSyntaxFaultIn, IsTooDeepIn, lexeme_at, read_by, Stands}
use Rattle.sieve_parser.specs.Language.{InSymbol, InStack}
use Rattle.sieve_parser.proofs.Language.{Adds, adds}
use Rattle.sieve_parser.proofs.Faulted.{complete_stack, reads_back, read_is_completable, wrong_begins_no_text, open_is_no_text}

-- the lexemes of tokens, one by one
pub length-lexemes : (s : List ℕ) (n : ℕ) (ts : List Token) → length (lexemes_from s n ts) ≡ length ts
length-lexemes s n [] = refl
length-lexemes s n (t ∷ ts) = ap suc (length-lexemes s (n + 1) ts)

pub lexeme_get : (s : List ℕ) (ts : List Token) (n i : ℕ) (t : Token) → slice_get ts i ≡ Some t → get_or (lexemes_from s n ts) i semicolon ≡ lexeme s (n + i) t
lexeme_get s [] n i t e = absurd (cc)
lexeme_get s (u ∷ ts) n zero t e = let same : u ≡ t = cc in let z : n + 0 ≡ n = omega arith in rw (z, same) refl
lexeme_get s (u ∷ ts) n (suc i) t e = let z : n + 1 + i ≡ n + suc i = omega arith in lexeme_get s ts (n + 1) i t e ∙ ap (λ m. lexeme s m t) z

-- what is read up to the next place
pub read_more : (b : Beginning) (ls : List Lexeme) (p : ℕ) → b.place ≤ p → p < length ls → read_by b ls (p + 1) ≡ read_by b ls p ++ lexeme_at ls p ∷ []
read_more b ls p from lt =
    ap (drop b.place) (take_more ls p semicolon lt) ∙ drop-append-le b.place (take p ls) (lexeme_at ls p ∷ []) (omega (arith, length-take-le p ls (omega arith)))

reading_more : (b : Beginning) (ls : List Lexeme) (p : ℕ) → b.place ≤ p → p < length ls → reading_from b.symbols (read_by b ls (p + 1)) ≡ advance (reading_from b.symbols (read_by b ls p)) (lexeme_at ls p)
reading_more b ls p from lt = ap (reading_from b.symbols) (read_more b ls p from lt) ∙ fold-append advance (Some b.symbols) (read_by b ls p) (lexeme_at ls p ∷ [])

judged_goes : (o : Option (ℕ × List Symbol)) (stack : List Symbol) (d : ℕ) (symbols : List Symbol) → o ≡ Some (d, symbols) → d ≤ 32 → judged o stack ≡ goes (symbols ++ stack)
judged_goes o stack d symbols e small = rw (e, le-leb d 32 small) refl

judged_deep : (o : Option (ℕ × List Symbol)) (stack : List Symbol) (d : ℕ) (symbols : List Symbol) → o ≡ Some (d, symbols) → 32 < d → judged o stack ≡ deep
judged_deep o stack d symbols e large = rw (e, lt-leb d 32 large) refl

-- a token that the symbol expands to is read
pub walk : (b : Beginning) (ls : List Lexeme) (p : ℕ) (x : Symbol) (stack : List Symbol) (d : ℕ) (symbols : List Symbol) → IsAt b ls p (x ∷ stack) → p < length ls
    → expand x (lexeme_at ls p) ≡ Some (d, symbols) → d ≤ 32 → IsAt b ls (p + 1) (symbols ++ stack)
walk b ls p x stack d symbols at lt e small = record {
  from = omega (arith, at.from);
  read = symbols ++ stack;
  reached = reading_more b ls p at.from lt ∙ ap (λ o. advance o (lexeme_at ls p)) at.reached
      ∙ ap stack_then (at.goes_on lt ∙ judged_goes (expand x (lexeme_at ls p)) stack d symbols e small);
  goes_on = λ _. refl;
  ends = λ _ h. h;
}

-- a token that the symbol doesn't expand to is the fault
pub stuck : (b : Beginning) (ls : List Lexeme) (p : ℕ) (x : Symbol) (stack : List Symbol) → IsAt b ls p (x ∷ stack) → p < length ls → expand x (lexeme_at ls p) ≡ None → IsSyntaxFaultIn b ls p
stuck b ls p x stack at lt e = record {
  from = at.from;
  within = omega arith;
  before = read_is_completable b.symbols (read_by b ls p) at.read at.reached;
  here = λ _ xs same. wrong_begins_no_text b.symbols (read_by b ls p) (lexeme_at ls p) at.read b.grounded at.reached (at.goes_on lt ∙ ap (λ o. judged o stack) e) xs (sym (read_more b ls p at.from lt) ∙ same);
  ended = λ same. absurd (omega arith);
}

-- the end, where something has to be read, is the fault
pub stuck_at_end : (b : Beginning) (ls : List Lexeme) (p : ℕ) (stack : List Symbol) → IsAt b ls p stack → p ≡ length ls → (IsDone stack → ⊥) → IsSyntaxFaultIn b ls p
stuck_at_end b ls p stack at e open_stack = record {
  from = at.from;
  within = omega arith;
  before = read_is_completable b.symbols (read_by b ls p) at.read at.reached;
  here = λ lt xs same. absurd (omega arith);
  ended = λ _ xs same. open_is_no_text b.symbols (read_by b ls p) at.read b.grounded at.reached (λ done. open_stack (at.ends e done)) xs same;
}

deep_symbol : (x : Symbol) (stack : List Symbol) (l : Lexeme) (o : Option (ℕ × List Symbol)) → Adds (InSymbol x) l o → judged o stack ≡ deep
    → (d : ℕ) × ((32 < d) × ((zs : List Placed) × InStack (x ∷ stack) (at_depth d l ∷ zs)))
deep_symbol x stack l None add e = absurd (cc)
deep_symbol x stack l (Some (d, symbols)) add e = elim (cases_Bool (nat_le d 32)) [
  | inl small ↦ let f : goes (symbols ++ stack) ≡ deep = rw small at e in absurd (cc)
  | inr large ↦
      let inner = complete_stack symbols in
      let outer = complete_stack stack in
      (d, (leb-false d 32 large, (inner.0 ++ outer.0, (at_depth d l ∷ inner.0, (outer.0, (refl, add inner.0 inner.1, outer.1))))))
]

deep_word : (s : List Symbol) (l : Lexeme) → step s l ≡ deep → (d : ℕ) × ((32 < d) × ((zs : List Placed) × InStack s (at_depth d l ∷ zs)))
deep_word [] l e = absurd (cc)
deep_word (x ∷ stack) l e = deep_symbol x stack l (expand x l) (adds x l) e

-- a token that the symbol expands to below the limit is too deep
pub sunk : (b : Beginning) (ls : List Lexeme) (p : ℕ) (x : Symbol) (stack : List Symbol) (d : ℕ) (symbols : List Symbol) → IsAt b ls p (x ∷ stack) → p < length ls
    → expand x (lexeme_at ls p) ≡ Some (d, symbols) → 32 < d → IsTooDeepIn b ls p
sunk b ls p x stack d symbols at lt e large =
    let word = deep_word at.read (lexeme_at ls p) (at.goes_on lt ∙ judged_deep (expand x (lexeme_at ls p)) stack d symbols e large) in
    let here = at_depth word.0 (lexeme_at ls p) in
    let r = reads_back (read_by b ls p) b.symbols at.read (here ∷ word.1.1.0) at.reached word.1.1.1 in
    record {
      from = at.from;
      within = lt;
      before = r.0;
      deepest = here;
      same = read_more b ls p at.from lt ∙ ap (λ w. w ++ lexeme_at ls p ∷ []) r.1.0 ∙ sym (map-append (λ (w : Placed). w.lexeme) r.0 (here ∷ []));
      begins = (word.1.1.0, subst (InStack b.symbols) (sym (append_assoc r.0 (here ∷ []) word.1.1.0)) r.1.2);
      shallow = r.1.1;
      too_deep = word.1.0;
    }

-- one lexeme stands at its place
pub stands_one : (ls : List Lexeme) (p : ℕ) (x : Placed) → p < length ls → lexeme_at ls p ≡ x.lexeme → Stands ls p (p + 1) (x ∷ [])
stands_one ls p x lt e = record {
  from = omega arith;
  within = omega arith;
  same = drop_more ls p semicolon lt ∙ ap (λ l. l ∷ drop (p + 1) ls) e;
}

-- what stands from a to b and what stands from b to c
pub stands_both : (ls : List Lexeme) (a b c : ℕ) (xs ys : List Placed) → Stands ls a b xs → Stands ls b c ys → Stands ls a c (xs ++ ys)
stands_both ls a b c xs ys p q = record {
  from = omega (arith, p.from, q.from);
  within = q.within;
  same = p.same ∙ ap (λ w. lexemes_placed xs ++ w) q.same ∙ sym (append_assoc (lexemes_placed xs) (lexemes_placed ys) (drop c ls))
      ∙ ap (λ w. w ++ drop c ls) (sym (map-append (λ (w : Placed). w.lexeme) xs ys));
}

-- Either the place is the end, or what a symbol doesn't expand to stands there: then the place is the fault.
pub stuck_here : (b : Beginning) (ls : List Lexeme) (p : ℕ) (x : Symbol) (stack : List Symbol) → IsAt b ls p (x ∷ stack) → p ≤ length ls
    → (p < length ls → expand x (lexeme_at ls p) ≡ None) → (IsDone (x ∷ stack) → ⊥) → IsSyntaxFaultIn b ls p
stuck_here b ls p x stack at within none open_stack =
    elim (cases_lt p (length ls)) [
      | inl lt ↦ stuck b ls p x stack at lt (none lt)
      | inr ge ↦ stuck_at_end b ls p (x ∷ stack) at (omega arith) open_stack
    ]
