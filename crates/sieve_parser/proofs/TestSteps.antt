-- Invocations and lists of tests, piece by piece.
use Rattle.std.proofs.Common.{◌≡◌, ◌≢◌, ℕ, suc, ◌+◌, ◌<◌, ◌≤◌, List, [], ◌∷◌, ◌++◌, refl, sym, ◌∙◌, ap, subst, arith, length, map}
use Rattle.std.specs.Prelude.{Result, Ok, Err}
use Rattle.sieve_parser.specs.declared.error.ParseError.{ParseError}
use Rattle.std.proofs.lemmas.List.{append_assoc, append-nil, map_push}
use Rattle.sieve_parser.specs.Lexemes.{Lexeme, identifier, tag, number, string, comma, opening_parenthesis, closing_parenthesis, opening_bracket}
use Rattle.sieve_parser.specs.Tree.{ArgumentTree, InvocationTree, invocation, no_test, one_test, test_list, MoreTests}
use Rattle.sieve_parser.specs.Grammar.{Placed, at_depth, arguments_spelled, invocation_spelled, more_tests_spelled}
use Rattle.sieve_parser.specs.TokenMachine.{Follow, test_end, Symbol, arguments, ending, tests, expand, ended_by, judged}
use Rattle.sieve_parser.specs.Parsing.{Beginning, IsAt, Stands, lexeme_at, IsNoArgument, NoArgumentAt, IsInvocationAt, IsTestAt}
use Rattle.sieve_parser.specs.View.{head_tree, invocation_tree, invocation_step, more_tests_of}
use Rattle.sieve_parser.specs.declared.tree.Head.{Head}
use Rattle.sieve_parser.specs.declared.tree.Invocation.{Invocation}
use Rattle.sieve_parser.specs.declared.tree.Invocation.TheVariants.{Plain, WithTest, WithTests, rolls-Plain, rolls-WithTest, rolls-WithTests}
use Rattle.sieve_parser.specs.declared.tree.Invocation.TheFolds.{fold-roll-Invocation}
use Rattle.sieve_parser.specs.declared.tree.Invocation.TheOpen as open_layer
use Rattle.std.specs.declared.boxed.Box.{Box}
use Rattle.std.specs.declared.vec.Vec.{Vec}
use Rattle.std.specs.declared.alloc.Global.{Global}
use Rattle.sieve_parser.proofs.Walk.{walk, stands_one, stands_both}

pub tree_plain : (h : Head) → invocation_tree (Plain h) ≡ head_tree h no_test
tree_plain h = ap invocation_tree (sym (rolls-Plain h)) ∙ fold-roll-Invocation InvocationTree invocation_step (open_layer.Plain h)

pub tree_test : (h : Head) (t : Box Invocation Global) → invocation_tree (WithTest h t) ≡ head_tree h (one_test (invocation_tree t.value))
tree_test h t = ap invocation_tree (sym (rolls-WithTest h t)) ∙ fold-roll-Invocation InvocationTree invocation_step (open_layer.WithTest h t)

pub tree_tests : (h : Head) (t : Box Invocation Global) (ts : Vec Invocation Global)
    → invocation_tree (WithTests h t ts) ≡ head_tree h (test_list (invocation_tree t.value) (more_tests_of (map invocation_tree ts.items)))
tree_tests h t ts = ap invocation_tree (sym (rolls-WithTests h t ts)) ∙ fold-roll-Invocation InvocationTree invocation_step (open_layer.WithTests h t ts)

more_tests_push : (d : ℕ) (ts : List InvocationTree) (t : InvocationTree) → more_tests_spelled d (more_tests_of (ts ++ t ∷ [])) ≡ more_tests_spelled d (more_tests_of ts) ++ (at_depth d comma ∷ invocation_spelled (suc d) t)
more_tests_push d [] t = ap (λ w. at_depth d comma ∷ w) (append-nil (invocation_spelled (suc d) t))
more_tests_push d (u ∷ ts) t = ap (λ w. at_depth d comma ∷ (invocation_spelled (suc d) u ++ w)) (more_tests_push d ts t)
    ∙ ap (λ w. at_depth d comma ∷ w) (sym (append_assoc (invocation_spelled (suc d) u) (more_tests_spelled d (more_tests_of ts)) (at_depth d comma ∷ invocation_spelled (suc d) t)))

module _ (ls : List Lexeme) where
  -- arguments that have come to their end are their end
  at_end : (p d : ℕ) (f : Follow) (stack : List Symbol) (b : Beginning) → IsAt b ls p (arguments d f ∷ stack) → (p < length ls → expand (arguments d f) (lexeme_at ls p) ≡ ended_by f (lexeme_at ls p))
      → IsAt b ls p (ending f ∷ stack)
  at_end p d f stack b at same = record {
    from = at.from;
    read = at.read;
    reached = at.reached;
    goes_on = λ lt. at.goes_on lt ∙ ap (λ o. judged o stack) (same lt);
    ends = λ e done. absurd (at.ends e done);
  }

  -- the arguments after an identifier up to a place
  abbrev pub AreArgumentsRead : ℕ → ℕ → List ArgumentTree → ℕ → Type 0
  AreArgumentsRead n d args p = (f : Follow) (stack : List Symbol) → Stands ls (n + 1) p (arguments_spelled d args) × NoArgumentAt ls p
      × ((b : Beginning) → IsAt b ls (n + 1) (arguments d f ∷ stack) → IsAt b ls p (arguments d f ∷ stack))

  -- an invocation after its identifier up to a place
  abbrev pub IsInvocationRead : List ℕ → ℕ → ℕ → InvocationTree → ℕ → Type 0
  IsInvocationRead name n d t p = (f : Follow) (stack : List Symbol) → (b : List Placed) × ((invocation_spelled d t ≡ at_depth d (identifier n name) ∷ b) × Stands ls (n + 1) p b
      × ((b : Beginning) → IsAt b ls (n + 1) (arguments d f ∷ stack) → IsAt b ls p (ending f ∷ stack)))

  no_first : (d : ℕ) (f : Follow) (l : Lexeme) → IsNoArgument l → ((m : ℕ) (name : List ℕ) → l ≡ identifier m name → ⊥) → l ≢ opening_parenthesis → expand (arguments d f) l ≡ ended_by f l
  no_first d f (identifier m name) a i p = absurd (i m name refl)
  no_first d f opening_parenthesis a i p = absurd (p refl)
  no_first d f (tag name) a i p = absurd a
  no_first d f (number n) a i p = absurd a
  no_first d f (string s) a i p = absurd a
  no_first d f opening_bracket a i p = absurd a
  no_first d f _ a i p = refl

  pub plain_read : (name : List ℕ) (n d p : ℕ) (args : List ArgumentTree) → AreArgumentsRead n d args p
      → ((m : ℕ) (other : List ℕ) → p < length ls → lexeme_at ls p ≡ identifier m other → ⊥) → (p < length ls → lexeme_at ls p ≢ opening_parenthesis)
      → IsInvocationRead name n d (invocation n name args no_test) p
  plain_read name n d p args read no_name no_list = λ f stack.
      let r = read f stack in (
        arguments_spelled d args ++ [],
        (
          refl,
          subst (λ w. Stands ls (n + 1) p w) (sym (append-nil (arguments_spelled d args))) r.0,
          λ b at. at_end p d f stack b (r.2 b at) (λ lt. no_first d f (lexeme_at ls p) (r.1 lt) (λ m other e. no_name m other lt e) (no_list lt)),
        ),
      )

  pub test_read : (name other : List ℕ) (n d p q : ℕ) (args : List ArgumentTree) (t : InvocationTree) → AreArgumentsRead n d args p → suc d ≤ 32
      → p < length ls → lexeme_at ls p ≡ identifier p other → IsInvocationRead other p (suc d) t q → IsInvocationRead name n d (invocation n name args (one_test t)) q
  test_read name other n d p q args t read small lt e inner = λ f stack.
      let r = read f stack in
      let test = inner f stack in
      let here = stands_one ls p (at_depth (suc d) (identifier p other)) lt e in
      let whole = stands_both ls p (p + 1) q (at_depth (suc d) (identifier p other) ∷ []) test.0 here test.1.1 in (
        arguments_spelled d args ++ invocation_spelled (suc d) t,
        (
          refl,
          stands_both ls (n + 1) p q (arguments_spelled d args) (invocation_spelled (suc d) t) r.0 (subst (λ w. Stands ls p q w) (sym test.1.0) whole),
          λ b at. test.1.2 b (walk b ls p (arguments d f) stack (suc d) (arguments (suc d) f ∷ []) (r.2 b at) lt (ap (expand (arguments d f)) e) small),
        ),
      )

  pub tests_read : (name : List ℕ) (n d p q : ℕ) (args : List ArgumentTree) (t : InvocationTree) (ts : MoreTests) → AreArgumentsRead n d args p → d ≤ 32
      → p < length ls → lexeme_at ls p ≡ opening_parenthesis
      → ((stack : List Symbol) → Stands ls (p + 1) q (invocation_spelled (suc d) t ++ (more_tests_spelled d ts ++ at_depth d closing_parenthesis ∷ []))
      × ((b : Beginning) → IsAt b ls (p + 1) (tests d ∷ stack) → IsAt b ls q stack))
      → IsInvocationRead name n d (invocation n name args (test_list t ts)) q
  tests_read name n d p q args t ts read small lt e inner = λ f stack.
      let r = read f stack in
      let list = inner (ending f ∷ stack) in
      let word = invocation_spelled (suc d) t ++ (more_tests_spelled d ts ++ at_depth d closing_parenthesis ∷ []) in
      let whole = stands_both ls p (p + 1) q (at_depth d opening_parenthesis ∷ []) word (stands_one ls p (at_depth d opening_parenthesis) lt e) list.0 in (
        arguments_spelled d args ++ (at_depth d opening_parenthesis ∷ word),
        (
          refl,
          stands_both ls (n + 1) p q (arguments_spelled d args) (at_depth d opening_parenthesis ∷ word) r.0 whole,
          λ b at. list.1 b (walk b ls p (arguments d f) stack d (tests d ∷ ending f ∷ []) (r.2 b at) lt (ap (expand (arguments d f)) e) small),
        ),
      )

  -- the tests of a list from its first up to a place
  abbrev pub AreTestsSoFar : ℕ → ℕ → InvocationTree → ℕ → List Invocation → Type 0
  AreTestsSoFar at d first p rest = (stack : List Symbol) → Stands ls at p (invocation_spelled (suc d) first ++ more_tests_spelled d (more_tests_of (map invocation_tree rest)))
      × ((b : Beginning) → IsAt b ls at (tests d ∷ stack) → IsAt b ls p (ending (test_end d) ∷ stack))

  pub tests_comma : (at d : ℕ) (first : InvocationTree) (p : ℕ) (rest : List Invocation) → AreTestsSoFar at d first p rest → d ≤ 32 → p < length ls → lexeme_at ls p ≡ comma
      → (stack : List Symbol) (b : Beginning) → IsAt b ls at (tests d ∷ stack) → IsAt b ls (p + 1) (tests d ∷ stack)
  tests_comma at d first p rest so_far small lt e stack b a = walk b ls p (ending (test_end d)) stack d (tests d ∷ []) ((so_far stack).1 b a) lt (ap (expand (ending (test_end d))) e) small

  pub tests_more : (at d : ℕ) (first : InvocationTree) (p q : ℕ) (rest : List Invocation) (t : Invocation) → AreTestsSoFar at d first p rest → d ≤ 32 → p < length ls → lexeme_at ls p ≡ comma
      → ((stack : List Symbol) → Stands ls (p + 1) q (invocation_spelled (suc d) (invocation_tree t)) × ((b : Beginning) → IsAt b ls (p + 1) (tests d ∷ stack) → IsAt b ls q (ending (test_end d) ∷ stack)))
      → AreTestsSoFar at d first q (rest ++ t ∷ [])
  tests_more at d first p q rest t so_far small lt e inner = λ stack.
      let prefix = invocation_spelled (suc d) first ++ more_tests_spelled d (more_tests_of (map invocation_tree rest)) in
      let word = invocation_spelled (suc d) (invocation_tree t) in
      let test = inner stack in
      let piece = stands_both ls p (p + 1) q (at_depth d comma ∷ []) word (stands_one ls p (at_depth d comma) lt e) test.0 in
      let spelled : prefix ++ (at_depth d comma ∷ word) ≡ invocation_spelled (suc d) first ++ more_tests_spelled d (more_tests_of (map invocation_tree (rest ++ t ∷ []))) =
      append_assoc (invocation_spelled (suc d) first) (more_tests_spelled d (more_tests_of (map invocation_tree rest))) (at_depth d comma ∷ word)
      ∙ ap (λ w. invocation_spelled (suc d) first ++ w) (sym (more_tests_push d (map invocation_tree rest) (invocation_tree t)) ∙ ap (λ w. more_tests_spelled d (more_tests_of w)) (sym (map_push invocation_tree rest t))) in (
        subst (λ w. Stands ls at q w) spelled (stands_both ls at p q prefix (at_depth d comma ∷ word) (so_far stack).0 piece),
        λ b a. test.1 b (tests_comma at d first p rest so_far small lt e stack b a),
      )

pub from_suc : (d : ℕ) → suc d ≡ d + 1
from_suc d = omega arith

-- a test, from its identifier and what stands after it
pub test_answer : (ls : List Lexeme) (at d : ℕ) (name : List ℕ) (answer : Result (Invocation × ℕ) ParseError) → at < length ls → lexeme_at ls at ≡ identifier at name → suc d ≤ 32
    → IsInvocationAt ls name at (suc d) answer → IsTestAt ls at d answer
test_answer ls at d name (Ok r) lt e small h = λ stack.
    let inner = h (test_end d) stack in
    let here = stands_one ls at (at_depth (suc d) (identifier at name)) lt e in (
      subst (λ w. Stands ls at r.1 w) (sym inner.1.0) (stands_both ls at (at + 1) r.1 (at_depth (suc d) (identifier at name) ∷ []) inner.0 here inner.1.1),
      λ b a. inner.1.2 b (walk b ls at (tests d) stack (suc d) (arguments (suc d) (test_end d) ∷ []) a lt (ap (expand (tests d)) e) small),
    )
test_answer ls at d name (Err x) lt e small h = λ stack b a.
    h (test_end d) stack b (walk b ls at (tests d) stack (suc d) (arguments (suc d) (test_end d) ∷ []) a lt (ap (expand (tests d)) e) small)
