-- What the machine reads is what the grammar writes: each symbol has a language, and a lexeme is expanded exactly where it begins a word of it.
use Rattle.std.proofs.Common.{◌≡◌, ℕ, zero, suc, List, [], ◌∷◌, ◌++◌, refl, sym, ◌∙◌, ap, subst, ◌⊎◌, inl, inr}
use Rattle.std.specs.Prelude.{Option, Some, None, MatchOption}
use Rattle.std.proofs.lemmas.List.{append_assoc, append-nil}
use Rattle.sieve_parser.specs.Lexemes.{Lexeme, identifier, tag, number, string, semicolon, comma, opening_brace, closing_brace, opening_parenthesis, closing_parenthesis, opening_bracket, closing_bracket}
use Rattle.sieve_parser.specs.Tree.{ArgumentTree, text, text_list, amount, label, invocation, TestsTree, no_test, one_test, test_list, last, next, CommandTree, simple, block, CommandsTree, no_command, command}
use Rattle.sieve_parser.specs.Grammar.{Placed, at_depth, more_strings_spelled, argument_spelled, arguments_spelled, invocation_spelled, tests_spelled, more_tests_spelled, command_spelled, commands_spelled}
use Rattle.sieve_parser.specs.Language.{body_end, InFollow, InSymbol, InStack}
use Rattle.sieve_parser.specs.TokenMachine.{Follow, command_end, test_end, Symbol, body, arguments, ending, tests, strings, more_strings, ended_by, expand}

regroup : (a b c d : List Placed) → a ++ ((b ++ c) ++ d) ≡ ((a ++ b) ++ c) ++ d
regroup a b c d = simp append_assoc

-- a stack of one symbol
pub single : (x : Symbol) (zs : List Placed) → InStack (x ∷ []) zs → InSymbol x zs
single x zs (us, (vs, (e, word, none))) =
    subst (λ z. InSymbol x z) (sym (e ∙ ap (λ v. us ++ v) none ∙ append-nil us)) word

pub to_single : (x : Symbol) (zs : List Placed) → InSymbol x zs → InStack (x ∷ []) zs
to_single x zs word = (zs, ([], (sym (append-nil zs), word, refl)))

-- what a lexeme adds before a word of what is to be read then
abbrev pub Adds : (List Placed → Type 0) → Lexeme → Option (ℕ × List Symbol) → Type 0
Adds Words l answer = MatchOption answer (Unit {0}) (λ p. (vs : List Placed) → InStack p.1 vs → Words (at_depth p.0 l ∷ vs))

Adds-map : (W V : List Placed → Type 0) (l : Lexeme) (o : Option (ℕ × List Symbol)) → ((zs : List Placed) → W zs → V zs) → Adds W l o → Adds V l o
Adds-map W V l None f h = tt
Adds-map W V l (Some p) f h = λ vs q. f (at_depth p.0 l ∷ vs) (h vs q)

adds_follow : (f : Follow) (l : Lexeme) → Adds (InFollow f) l (ended_by f l)
adds_follow (command_end d) semicolon = λ vs e. inl (rw e refl)
adds_follow (command_end d) opening_brace = λ vs p. let q = single (body (suc d)) vs p in inr (q.0, ap (λ v. at_depth (suc d) opening_brace ∷ v) q.1)
adds_follow (test_end d) comma = λ vs p. let q = single (tests d) vs p in
    (next q.0 q.1.0, ap (λ v. at_depth d comma ∷ v) (q.1.1 ∙ sym (append_assoc (invocation_spelled (suc d) q.0) (more_tests_spelled d q.1.0) (at_depth d closing_parenthesis ∷ []))))
adds_follow (test_end d) closing_parenthesis = λ vs e. (last, rw e refl)
adds_follow (command_end d) _ = tt
adds_follow (test_end d) _ = tt

-- the command that an invocation and its end make
command_from : (d n : ℕ) (name : List ℕ) (args : List ArgumentTree) (ts : TestsTree) (ys : List Placed) → InFollow (command_end d) ys
    → (c : CommandTree) × (command_spelled d c ≡ at_depth d (identifier n name) ∷ ((arguments_spelled d args ++ tests_spelled d ts) ++ ys))
command_from d n name args ts ys (inl e) = (simple (invocation n name args ts), rw e refl)
command_from d n name args ts ys (inr (cs, e)) = (block (invocation n name args ts) cs, rw e refl)

adds_command : (d n : ℕ) (name : List ℕ) (vs : List Placed) → InStack (arguments d (command_end d) ∷ body d ∷ []) vs → InSymbol (body d) (at_depth d (identifier n name) ∷ vs)
adds_command d n name vs (us, (ws, (e, (args, (ts, (ys, (ea, end)))), more))) =
    let rest = single (body d) ws more in
    let c = command_from d n name args ts ys end in
    let prefix = arguments_spelled d args ++ tests_spelled d ts in (
      command c.0 rest.0,
      ap (λ v. at_depth d (identifier n name) ∷ v) (e ∙ ap (λ u. u ++ ws) ea ∙ ap (λ w. (prefix ++ ys) ++ w) rest.1)
          ∙ sym (append_assoc (at_depth d (identifier n name) ∷ (prefix ++ ys)) (commands_spelled d rest.0) (body_end d))
          ∙ ap (λ w. (w ++ commands_spelled d rest.0) ++ body_end d) (sym c.1),
    )

adds_list : (d : ℕ) (f : Follow) (vs : List Placed) → InStack (strings d ∷ arguments d f ∷ []) vs → InSymbol (arguments d f) (at_depth d opening_bracket ∷ vs)
adds_list d f vs (us, (ws, (e, (s, (ss, es)), more))) =
    let rest = single (arguments d f) ws more in
    let word = at_depth d (string s) ∷ (more_strings_spelled d ss ++ at_depth d closing_bracket ∷ []) in
    let args = arguments_spelled d rest.0 in
    let ts = tests_spelled d rest.1.0 in (
      text_list s ss ∷ rest.0,
      (
        rest.1.0,
        (
          rest.1.1.0,
          (
            ap (λ v. at_depth d opening_bracket ∷ v)
                (e ∙ ap (λ u. u ++ ws) es ∙ ap (λ w. word ++ w) rest.1.1.1.0 ∙ regroup word args ts rest.1.1.0),
            rest.1.1.1.1,
          ),
        ),
      ),
    )

adds_argument : (d : ℕ) (f : Follow) (a : ArgumentTree) (x : Placed) (vs : List Placed) → argument_spelled d a ≡ x ∷ [] → InStack (arguments d f ∷ []) vs → InSymbol (arguments d f) (x ∷ vs)
adds_argument d f a x vs spelled p =
    let q = single (arguments d f) vs p in
    (a ∷ q.0, (q.1.0, (q.1.1.0, (ap (λ v. x ∷ v) q.1.1.1.0 ∙ ap (λ u. ((u ++ arguments_spelled d q.0) ++ tests_spelled d q.1.0) ++ q.1.1.0) (sym spelled), q.1.1.1.1))))

-- a lexeme that the machine reads begins a word, where what is to be read then follows
pub adds : (x : Symbol) (l : Lexeme) → Adds (InSymbol x) l (expand x l)
adds (body d) (identifier n name) = adds_command d n name
adds (body (suc d)) closing_brace = λ vs e. (no_command, rw e refl)
adds (body zero) _ = tt
adds (body (suc d)) _ = tt
adds (arguments d f) (identifier n name) = λ vs p. let q = single (arguments (suc d) f) vs p in
    ([], (one_test (invocation n name q.0 q.1.0), (q.1.1.0, (ap (λ v. at_depth (suc d) (identifier n name) ∷ v) q.1.1.1.0, q.1.1.1.1))))
adds (arguments d f) (tag name) = λ vs p. adds_argument d f (label name) (at_depth d (tag name)) vs refl p
adds (arguments d f) (number n) = λ vs p. adds_argument d f (amount n) (at_depth d (number n)) vs refl p
adds (arguments d f) (string s) = λ vs p. adds_argument d f (text s) (at_depth d (string s)) vs refl p
adds (arguments d f) opening_bracket = adds_list d f
adds (arguments d f) opening_parenthesis = λ vs p.
    let end = single (ending f) p.1.0 p.1.1.2 in
    ([], (test_list p.1.1.1.0 p.1.1.1.1.0, (p.1.0, (ap (λ v. at_depth d opening_parenthesis ∷ v) (p.1.1.0 ∙ ap (λ u. u ++ p.1.0) p.1.1.1.1.1), end))))
adds (arguments d f) l = Adds-map (InFollow f) (InSymbol (arguments d f)) l (ended_by f l) (λ zs h. ([], (no_test, (zs, (refl, h))))) (adds_follow f l)
adds (ending f) l = adds_follow f l
adds (tests d) (identifier n name) = λ vs p. let q = single (arguments (suc d) (test_end d)) vs p in (
  invocation n name q.0 q.1.0,
  (
    q.1.1.1.1.0,
    ap (λ v. at_depth (suc d) (identifier n name) ∷ v)
        (q.1.1.1.0 ∙ ap (λ y. (arguments_spelled (suc d) q.0 ++ tests_spelled (suc d) q.1.0) ++ y) q.1.1.1.1.1),
  ),
)
adds (tests d) _ = tt
adds (strings d) (string s) = λ vs p. let q = single (more_strings d) vs p in (s, (q.0, ap (λ v. at_depth d (string s) ∷ v) q.1))
adds (strings d) _ = tt
adds (more_strings d) comma = λ vs p. let q = single (strings d) vs p in (q.0 ∷ q.1.0, ap (λ v. at_depth d comma ∷ v) q.1.1)
adds (more_strings d) closing_bracket = λ vs e. ([], rw e refl)
adds (more_strings d) _ = tt

-- what the machine makes of a placed lexeme where its depth is that, and what follows is a word of what is to be read then
abbrev pub Expands : Option (ℕ × List Symbol) → ℕ → List Placed → Type 0
Expands answer depth vs = MatchOption answer ⊥ (λ q. (depth ≡ q.0) × InStack q.1 vs)

-- a word begins with a lexeme that the machine reads
abbrev pub Taken : (Lexeme → Option (ℕ × List Symbol)) → List Placed → Type 0
Taken answer zs = (p : Placed) × ((vs : List Placed) × ((zs ≡ p ∷ vs) × Expands (answer p.lexeme) p.depth vs))

takes_follow : (f : Follow) (zs : List Placed) → InFollow f zs → Taken (ended_by f) zs
takes_follow (command_end d) zs (inl e) = (at_depth d semicolon, ([], (e, (refl, refl))))
takes_follow (command_end d) zs (inr (cs, e)) =
    let word = commands_spelled (suc d) cs ++ at_depth (suc d) closing_brace ∷ [] in
    (at_depth (suc d) opening_brace, (word, (e, (refl, to_single (body (suc d)) word (cs, refl)))))
takes_follow (test_end d) zs (last, e) = (at_depth d closing_parenthesis, ([], (e, (refl, refl))))
takes_follow (test_end d) zs (next t ts, e) =
    let word = (invocation_spelled (suc d) t ++ more_tests_spelled d ts) ++ at_depth d closing_parenthesis ∷ [] in
    (at_depth d comma, (word, (e, (refl, to_single (tests d) word (t, (ts, append_assoc (invocation_spelled (suc d) t) (more_tests_spelled d ts) (at_depth d closing_parenthesis ∷ [])))))))

-- what ends arguments is no argument and no test
follow_expands : (d : ℕ) (f : Follow) (l : Lexeme) (Q : ℕ × List Symbol → Type 0) → MatchOption (ended_by f l) ⊥ Q → MatchOption (expand (arguments d f) l) ⊥ Q
follow_expands d (command_end e) (identifier n name) Q h = absurd h
follow_expands d (command_end e) (tag name) Q h = absurd h
follow_expands d (command_end e) (number n) Q h = absurd h
follow_expands d (command_end e) (string s) Q h = absurd h
follow_expands d (command_end e) opening_bracket Q h = absurd h
follow_expands d (command_end e) opening_parenthesis Q h = absurd h
follow_expands d (test_end e) (identifier n name) Q h = absurd h
follow_expands d (test_end e) (tag name) Q h = absurd h
follow_expands d (test_end e) (number n) Q h = absurd h
follow_expands d (test_end e) (string s) Q h = absurd h
follow_expands d (test_end e) opening_bracket Q h = absurd h
follow_expands d (test_end e) opening_parenthesis Q h = absurd h
follow_expands d f _ Q h = h

takes_command : (d : ℕ) (c : CommandTree) (cs : CommandsTree) (zs : List Placed) → zs ≡ (command_spelled d c ++ commands_spelled d cs) ++ body_end d → Taken (expand (body d)) zs
takes_command d (simple (invocation n name args ts)) cs zs e =
    let prefix = arguments_spelled d args ++ tests_spelled d ts in
    let end = at_depth d semicolon ∷ [] in
    let rest = commands_spelled d cs ++ body_end d in (
      at_depth d (identifier n name),
      (
        ((prefix ++ end) ++ commands_spelled d cs) ++ body_end d,
        (
          e,
          (
            refl,
            (prefix ++ end, (rest, (append_assoc (prefix ++ end) (commands_spelled d cs) (body_end d), (args, (ts, (end, (refl, inl refl)))), to_single (body d) rest (cs, refl)))),
          ),
        ),
      ),
    )
takes_command d (block (invocation n name args ts) bs) cs zs e =
    let prefix = arguments_spelled d args ++ tests_spelled d ts in
    let end = at_depth (suc d) opening_brace ∷ (commands_spelled (suc d) bs ++ at_depth (suc d) closing_brace ∷ []) in
    let rest = commands_spelled d cs ++ body_end d in (
      at_depth d (identifier n name),
      (
        ((prefix ++ end) ++ commands_spelled d cs) ++ body_end d,
        (
          e,
          (
            refl,
            (prefix ++ end, (rest, (append_assoc (prefix ++ end) (commands_spelled d cs) (body_end d), (args, (ts, (end, (refl, inr (bs, refl))))), to_single (body d) rest (cs, refl)))),
          ),
        ),
      ),
    )

takes_arguments : (d : ℕ) (f : Follow) (args : List ArgumentTree) (ts : TestsTree) (ys zs : List Placed)
    → zs ≡ (arguments_spelled d args ++ tests_spelled d ts) ++ ys → InFollow f ys → Taken (expand (arguments d f)) zs
takes_arguments d f [] no_test ys zs e end =
    let t = takes_follow f ys end in
    (t.0, (t.1.0, (e ∙ t.1.1.0, follow_expands d f t.0.lexeme _ t.1.1.1)))
takes_arguments d f [] (one_test (invocation n name args ts)) ys zs e end =
    let word = (arguments_spelled (suc d) args ++ tests_spelled (suc d) ts) ++ ys in
    (at_depth (suc d) (identifier n name), (word, (e, (refl, to_single (arguments (suc d) f) word (args, (ts, (ys, (refl, end))))))))
takes_arguments d f [] (test_list t ts) ys zs e end =
    let word = invocation_spelled (suc d) t ++ (more_tests_spelled d ts ++ at_depth d closing_parenthesis ∷ []) in
    (at_depth d opening_parenthesis, (word ++ ys, (e, (refl, (word, (ys, (refl, (t, (ts, refl)), to_single (ending f) ys end)))))))
takes_arguments d f (text s ∷ args) ts ys zs e end =
    let word = (arguments_spelled d args ++ tests_spelled d ts) ++ ys in
    (at_depth d (string s), (word, (e, (refl, to_single (arguments d f) word (args, (ts, (ys, (refl, end))))))))
takes_arguments d f (amount n ∷ args) ts ys zs e end =
    let word = (arguments_spelled d args ++ tests_spelled d ts) ++ ys in
    (at_depth d (number n), (word, (e, (refl, to_single (arguments d f) word (args, (ts, (ys, (refl, end))))))))
takes_arguments d f (label name ∷ args) ts ys zs e end =
    let word = (arguments_spelled d args ++ tests_spelled d ts) ++ ys in
    (at_depth d (tag name), (word, (e, (refl, to_single (arguments d f) word (args, (ts, (ys, (refl, end))))))))
takes_arguments d f (text_list s ss ∷ args) ts ys zs e end =
    let list = at_depth d (string s) ∷ (more_strings_spelled d ss ++ at_depth d closing_bracket ∷ []) in
    let word = (arguments_spelled d args ++ tests_spelled d ts) ++ ys in (
      at_depth d opening_bracket,
      (
        ((list ++ arguments_spelled d args) ++ tests_spelled d ts) ++ ys,
        (
          e,
          (
            refl,
            (list, (word, (sym (regroup list (arguments_spelled d args) (tests_spelled d ts) ys), (s, (ss, refl)), to_single (arguments d f) word (args, (ts, (ys, (refl, end))))))),
          ),
        ),
      ),
    )

-- a word of a symbol begins with a lexeme that the machine reads there, unless it is the end of the script
pub takes : (x : Symbol) (zs : List Placed) → InSymbol x zs → ((zs ≡ []) × (x ≡ body 0)) ⊎ Taken (expand x) zs
takes (body zero) zs (no_command, e) = inl (e, refl)
takes (body (suc d)) zs (no_command, e) = inr (at_depth (suc d) closing_brace, ([], (e, (refl, refl))))
takes (body d) zs (command c cs, e) = inr (takes_command d c cs zs e)
takes (arguments d f) zs (args, (ts, (ys, (e, end)))) = inr (takes_arguments d f args ts ys zs e end)
takes (ending f) zs end = inr (takes_follow f zs end)
takes (tests d) zs (invocation n name args ts, (more, e)) =
    let end = more_tests_spelled d more ++ at_depth d closing_parenthesis ∷ [] in
    let word = (arguments_spelled (suc d) args ++ tests_spelled (suc d) ts) ++ end in
    inr (at_depth (suc d) (identifier n name), (word, (e, (refl, to_single (arguments (suc d) (test_end d)) word (args, (ts, (end, (refl, (more, refl)))))))))
takes (strings d) zs (s, (ss, e)) =
    let word = more_strings_spelled d ss ++ at_depth d closing_bracket ∷ [] in
    inr (at_depth d (string s), (word, (e, (refl, to_single (more_strings d) word (ss, refl)))))
takes (more_strings d) zs ([], e) = inr (at_depth d closing_bracket, ([], (e, (refl, refl))))
takes (more_strings d) zs (s ∷ ss, e) =
    let word = at_depth d (string s) ∷ (more_strings_spelled d ss ++ at_depth d closing_bracket ∷ []) in
    inr (at_depth d comma, (word, (e, (refl, to_single (strings d) word (s, (ss, refl))))))
