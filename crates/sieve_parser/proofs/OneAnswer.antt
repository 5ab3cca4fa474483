-- A list of lexemes is placed in one way, and has one fault at most.
use Rattle.std.proofs.Common.{◌≡◌, ℕ, zero, suc, ◌+◌, ◌<◌, ◌≤◌, List, [], ◌∷◌, ◌++◌, refl, sym, ◌∙◌, ap, subst, inl, inr, arith, length, take, drop}
use Rattle.std.specs.Prelude.{Option, Some, None, MatchOption}
use Rattle.std.proofs.lemmas.Bool.{cases_lt}
use Rattle.std.proofs.lemmas.List.{append_assoc, append-nil, take_all, take-append-drop, take-map, length-append}
use Rattle.sieve_parser.specs.Lexemes.{Lexeme}
use Rattle.sieve_parser.specs.Tree.{CommandsTree}
use Rattle.sieve_parser.specs.Grammar.{Placed, lexemes_placed, commands_spelled, BeginsScript, IsViable, IsScript}
use Rattle.sieve_parser.specs.TokenMachine.{Symbol, expand}
use Rattle.sieve_parser.specs.Parsing.{IsGrounded}
use Rattle.sieve_parser.specs.Language.{InStack}
use Rattle.sieve_parser.specs.Faults.{AreWithinDepth, IsViableWithinDepth, IsSyntaxFault, IsTooDeep}
use Rattle.sieve_parser.proofs.Faulted.{root, root_grounded, word_of_script, stack_takes, grounded}

-- where the words of a stack begin with the same lexemes, these have the same depths
same_placed : (xs ys : List Placed) (t : List Symbol) (v w : List Placed) → lexemes_placed xs ≡ lexemes_placed ys → IsGrounded t → InStack t (xs ++ v) → InStack t (ys ++ w) → xs ≡ ys
same_placed [] [] t v w e g p q = refl
same_placed [] (y ∷ ys) t v w e g p q = absurd (cc)
same_placed (x ∷ xs) [] t v w e g p q = absurd (cc)
same_placed (x ∷ xs) (y ∷ ys) [] v w e g p q = absurd (cc)
same_placed (x ∷ xs) (y ∷ ys) (s ∷ stack) v w e g p q =
    let head : y.lexeme ≡ x.lexeme = cc in
    let tail : lexemes_placed xs ≡ lexemes_placed ys = cc in
    go (expand s x.lexeme) (stack_takes s stack x (xs ++ v) g p)
    (subst (λ l. MatchOption (expand s l) ⊥ (λ r. (y.depth ≡ r.0) × InStack (r.1 ++ stack) (ys ++ w))) head (stack_takes s stack y (ys ++ w) g q))
    (grounded s x.lexeme stack g) (sym head) (λ t h a b. same_placed xs ys t v w tail h a b)
  where
    go : (o : Option (ℕ × List Symbol)) → MatchOption o ⊥ (λ r. (x.depth ≡ r.0) × InStack (r.1 ++ stack) (xs ++ v)) → MatchOption o ⊥ (λ r. (y.depth ≡ r.0) × InStack (r.1 ++ stack) (ys ++ w))
        → MatchOption o (Unit {0}) (λ r. IsGrounded (r.1 ++ stack)) → x.lexeme ≡ y.lexeme
        → ((t : List Symbol) → IsGrounded t → InStack t (xs ++ v) → InStack t (ys ++ w) → xs ≡ ys) → x ∷ xs ≡ y ∷ ys
    go None a b h same more = absurd a
    go (Some r) a b h same more =
        let rest : xs ≡ ys = more (r.1 ++ stack) h a.1 b.1 in
        let depth : x.depth ≡ y.depth = a.0 ∙ sym b.0 in
        let first : x ≡ y = (λ i. record { lexeme = same i; depth = depth i }) in
        λ i. first i ∷ rest i

one_placing : (xs ys : List Placed) → lexemes_placed xs ≡ lexemes_placed ys → BeginsScript xs → BeginsScript ys → xs ≡ ys
one_placing xs ys e (cs, (v, p)) (ds, (w, q)) = same_placed xs ys root v w e root_grounded (word_of_script cs (xs ++ v) p) (word_of_script ds (ys ++ w) q)

-- a beginning of what begins a script
begins_take : (n : ℕ) (xs : List Placed) → BeginsScript xs → BeginsScript (take n xs)
begins_take n xs (cs, (rest, e)) =
    (cs, (drop n xs ++ rest, e ∙ ap (λ ys. ys ++ rest) (sym (take-append-drop n xs)) ∙ append_assoc (take n xs) (drop n xs) rest))

within_take : (n : ℕ) (xs : List Placed) → AreWithinDepth xs → AreWithinDepth (take n xs)
within_take zero xs h = tt
within_take (suc n) [] h = tt
within_take (suc n) (x ∷ xs) h = (h.0, within_take n xs h.1)

within_last : (xs : List Placed) (p : Placed) → AreWithinDepth (xs ++ p ∷ []) → p.depth ≤ 32
within_last [] p h = h.0
within_last (x ∷ xs) p h = within_last xs p h.1

-- lexemes up to an earlier place, placed
placed_take : (ls : List Lexeme) (m n : ℕ) (xs : List Placed) → m ≤ n → take n ls ≡ lexemes_placed xs → take m ls ≡ lexemes_placed (take m xs)
placed_take ls m n xs le e = sym (take_of_take m n ls le) ∙ ap (take m) e ∙ take-map (λ (p : Placed). p.lexeme) m xs
  where
    take_of_take : (m n : ℕ) (ls : List Lexeme) → m ≤ n → take m (take n ls) ≡ take m ls
    take_of_take zero n ls le = refl
    take_of_take (suc m) zero ls le = absurd (omega arith)
    take_of_take (suc m) (suc n) [] le = refl
    take_of_take (suc m) (suc n) (x ∷ ls) le = ap (λ ys. x ∷ ys) (take_of_take m n ls (omega arith))

viable_take : (ls : List Lexeme) (m n : ℕ) → m ≤ n → IsViable (take n ls) → IsViable (take m ls)
viable_take ls m n le (xs, (e, b)) = (take m xs, (placed_take ls m n xs le e, begins_take m xs b))

viable : (ls : List Lexeme) → IsViableWithinDepth ls → IsViable ls
viable ls v = (v.0, (v.1.0, v.1.1))

deep_viable : (ls : List Lexeme) (p : ℕ) → IsTooDeep ls p → IsViable (take (p + 1) ls)
deep_viable ls p deep = (deep.before ++ deep.deepest ∷ [], (deep.same, deep.begins))

-- up to a longer stretch that is within the depth nothing is too deep
not_deep : (ls : List Lexeme) (p n : ℕ) (xs : List Placed) → p < n → take n ls ≡ lexemes_placed xs → BeginsScript xs → AreWithinDepth xs → IsTooDeep ls p → ⊥
not_deep ls p n xs lt e b within deep =
    let short : take (p + 1) ls ≡ lexemes_placed (take (p + 1) xs) = placed_take ls (p + 1) n xs (omega arith) e in
    let same : take (p + 1) xs ≡ deep.before ++ deep.deepest ∷ [] = one_placing (take (p + 1) xs) (deep.before ++ deep.deepest ∷ []) (sym short ∙ deep.same) (begins_take (p + 1) xs b) deep.begins in
    let small = within_last deep.before deep.deepest (subst AreWithinDepth same (within_take (p + 1) xs within)) in
    omega (arith, small, deep.too_deep)

-- the lexemes of a script, placed
whole_placed : (ls : List Lexeme) (cs : CommandsTree) → IsScript ls cs → take (length ls) ls ≡ lexemes_placed (commands_spelled 0 cs)
whole_placed ls cs script = take_all (length ls) ls (omega arith) ∙ script

whole_begins : (cs : CommandsTree) → BeginsScript (commands_spelled 0 cs)
whole_begins cs = (cs, ([], sym (append-nil (commands_spelled 0 cs))))

pub no_syntax_fault : (ls : List Lexeme) (cs : CommandsTree) (p : ℕ) → IsScript ls cs → IsSyntaxFault ls p → ⊥
no_syntax_fault ls cs p script fault =
    elim (cases_lt p (length ls)) [
      | inl lt ↦ fault.here lt (viable_take ls (p + 1) (length ls) (omega arith) (commands_spelled 0 cs, (whole_placed ls cs script, whole_begins cs)))
      | inr ge ↦ fault.ended (omega (arith, ge, fault.within)) cs script
    ]

pub no_depth_fault : (ls : List Lexeme) (cs : CommandsTree) (p : ℕ) → IsScript ls cs → AreWithinDepth (commands_spelled 0 cs) → IsTooDeep ls p → ⊥
no_depth_fault ls cs p script within deep = not_deep ls p (length ls) (commands_spelled 0 cs) deep.within (whole_placed ls cs script) (whole_begins cs) within deep

syntax_before : (ls : List Lexeme) (p q : ℕ) → p < q → IsSyntaxFault ls p → IsSyntaxFault ls q → ⊥
syntax_before ls p q lt a b = a.here (omega (arith, lt, b.within)) (viable_take ls (p + 1) q (omega arith) (viable (take q ls) b.before))

pub one_syntax_fault : (ls : List Lexeme) (p q : ℕ) → IsSyntaxFault ls p → IsSyntaxFault ls q → p ≡ q
one_syntax_fault ls p q a b =
    elim (cases_lt p q) [
      | inl lt ↦ absurd (syntax_before ls p q lt a b)
      | inr ge ↦ elim (cases_lt q p) [
        | inl lt ↦ absurd (syntax_before ls q p lt b a)
        | inr le ↦ omega arith
      ]
    ]

deep_before : (ls : List Lexeme) (p q : ℕ) → p < q → IsTooDeep ls p → IsTooDeep ls q → ⊥
deep_before ls p q lt a b =
    let e : take (q + 1) ls ≡ lexemes_placed (b.before ++ b.deepest ∷ []) = b.same in
    not_deep ls p q (take q (b.before ++ b.deepest ∷ [])) lt (placed_take ls q (q + 1) (b.before ++ b.deepest ∷ []) (omega arith) e)
    (begins_take q (b.before ++ b.deepest ∷ []) b.begins) (shallow q) a
  where
    within_first : (n : ℕ) (xs ys : List Placed) → n ≤ length xs → AreWithinDepth xs → AreWithinDepth (take n (xs ++ ys))
    within_first zero xs ys le h = tt
    within_first (suc n) [] ys le h = absurd (omega arith)
    within_first (suc n) (x ∷ xs) ys le h = (h.0, within_first n xs ys (omega arith) h.1)

    placed_length : (xs : List Placed) → length (lexemes_placed xs) ≡ length xs
    placed_length [] = refl
    placed_length (x ∷ xs) = ap suc (placed_length xs)

    take_length : (n : ℕ) (xs : List Lexeme) → n ≤ length xs → length (take n xs) ≡ n
    take_length zero xs le = refl
    take_length (suc n) [] le = absurd (omega arith)
    take_length (suc n) (x ∷ xs) le = ap suc (take_length n xs (omega arith))

    shallow : (n : ℕ) → AreWithinDepth (take q (b.before ++ b.deepest ∷ []))
    shallow n =
        let all = length-append b.before (b.deepest ∷ []) in
        let long : length (b.before ++ b.deepest ∷ []) ≡ q + 1 = sym (placed_length (b.before ++ b.deepest ∷ [])) ∙ ap length (sym b.same) ∙ take_length (q + 1) ls (omega (arith, b.within)) in
        within_first q b.before (b.deepest ∷ []) (omega (arith, all, long)) b.shallow

pub one_depth_fault : (ls : List Lexeme) (p q : ℕ) → IsTooDeep ls p → IsTooDeep ls q → p ≡ q
one_depth_fault ls p q a b =
    elim (cases_lt p q) [
      | inl lt ↦ absurd (deep_before ls p q lt a b)
      | inr ge ↦ elim (cases_lt q p) [
        | inl lt ↦ absurd (deep_before ls q p lt b a)
        | inr le ↦ omega arith
      ]
    ]

-- a syntax fault and one of depth exclude each other
pub one_kind_of_fault : (ls : List Lexeme) (p q : ℕ) → IsSyntaxFault ls p → IsTooDeep ls q → ⊥
one_kind_of_fault ls p q a b =
    elim (cases_lt q p) [
      | inl lt ↦ not_deep ls q p a.before.0 lt a.before.1.0 a.before.1.1 a.before.1.2 b
      | inr ge ↦ a.here (omega (arith, ge, b.within)) (viable_take ls (p + 1) (q + 1) (omega arith) (deep_viable ls q b))
    ]
