-- Lexemes are the spelling of one script at most: read from the prefix, each lexeme settles which rule of the grammar wrote it.
use Rattle.std.proofs.Common.{◌≡◌, ℕ, suc, List, [], ◌∷◌, ◌++◌, refl, sym, ◌∙◌, ap, subst}
use Rattle.std.proofs.lemmas.List.{append_assoc, append-nil}
use Rattle.sieve_parser.specs.Lexemes.{Lexeme, identifier, tag, number, string, semicolon, comma, opening_brace, closing_brace, opening_parenthesis, closing_parenthesis, opening_bracket, closing_bracket}
use Rattle.sieve_parser.specs.Tree.{ArgumentTree, text, text_list, amount, label, InvocationTree, invocation, TestsTree, no_test, one_test, test_list, MoreTests, last, next, CommandTree, simple, block, CommandsTree, no_command, command}
use Rattle.sieve_parser.specs.Grammar.{Placed, at_depth, lexemes_placed, more_strings_spelled, argument_spelled, arguments_spelled, invocation_spelled, tests_spelled, more_tests_spelled, command_spelled, commands_spelled, IsScript}

-- each spelling, without depths, before what follows it
abbrev strings_then : List (List ℕ) → List Lexeme → List Lexeme
strings_then [] rest = rest
strings_then (s ∷ ss) rest = comma ∷ string s ∷ strings_then ss rest

abbrev argument_then : ArgumentTree → List Lexeme → List Lexeme
argument_then (text s) rest = string s ∷ rest
argument_then (text_list s ss) rest = opening_bracket ∷ string s ∷ strings_then ss (closing_bracket ∷ rest)
argument_then (amount n) rest = number n ∷ rest
argument_then (label name) rest = tag name ∷ rest

abbrev arguments_then : List ArgumentTree → List Lexeme → List Lexeme
arguments_then [] rest = rest
arguments_then (a ∷ args) rest = argument_then a (arguments_then args rest)

abbrev mutual
  invocation_then : InvocationTree → List Lexeme → List Lexeme
  invocation_then (invocation n name args ts) rest = identifier n name ∷ arguments_then args (tests_then ts rest)

  tests_then : TestsTree → List Lexeme → List Lexeme
  tests_then no_test rest = rest
  tests_then (one_test t) rest = invocation_then t rest
  tests_then (test_list t ts) rest = opening_parenthesis ∷ invocation_then t (more_tests_then ts (closing_parenthesis ∷ rest))

  more_tests_then : MoreTests → List Lexeme → List Lexeme
  more_tests_then last rest = rest
  more_tests_then (next t ts) rest = comma ∷ invocation_then t (more_tests_then ts rest)

abbrev mutual
  command_then : CommandTree → List Lexeme → List Lexeme
  command_then (simple i) rest = invocation_then i (semicolon ∷ rest)
  command_then (block i cs) rest = invocation_then i (opening_brace ∷ commands_then cs (closing_brace ∷ rest))

  commands_then : CommandsTree → List Lexeme → List Lexeme
  commands_then no_command rest = rest
  commands_then (command c cs) rest = command_then c (commands_then cs rest)

-- so the grammar spells them
strings_spelled : (d : ℕ) (ss : List (List ℕ)) (zs : List Placed) → lexemes_placed (more_strings_spelled d ss ++ zs) ≡ strings_then ss (lexemes_placed zs)
strings_spelled d [] zs = refl
strings_spelled d (s ∷ ss) zs = ap (λ w. comma ∷ string s ∷ w) (strings_spelled d ss zs)

an_argument_spelled : (d : ℕ) (a : ArgumentTree) (zs : List Placed) → lexemes_placed (argument_spelled d a ++ zs) ≡ argument_then a (lexemes_placed zs)
an_argument_spelled d (text s) zs = refl
an_argument_spelled d (text_list s ss) zs =
    ap (λ w. opening_bracket ∷ string s ∷ lexemes_placed w) (append_assoc (more_strings_spelled d ss) (at_depth d closing_bracket ∷ []) zs)
    ∙ ap (λ w. opening_bracket ∷ string s ∷ w) (strings_spelled d ss (at_depth d closing_bracket ∷ zs))
an_argument_spelled d (amount n) zs = refl
an_argument_spelled d (label name) zs = refl

all_arguments_spelled : (d : ℕ) (args : List ArgumentTree) (zs : List Placed) → lexemes_placed (arguments_spelled d args ++ zs) ≡ arguments_then args (lexemes_placed zs)
all_arguments_spelled d [] zs = refl
all_arguments_spelled d (a ∷ args) zs =
    ap lexemes_placed (append_assoc (argument_spelled d a) (arguments_spelled d args) zs)
    ∙ an_argument_spelled d a (arguments_spelled d args ++ zs) ∙ ap (argument_then a) (all_arguments_spelled d args zs)

mutual
  an_invocation_spelled : (t : InvocationTree) (d : ℕ) (zs : List Placed) → lexemes_placed (invocation_spelled d t ++ zs) ≡ invocation_then t (lexemes_placed zs)
  an_invocation_spelled (invocation n name args ts) d zs =
      ap (λ w. identifier n name ∷ lexemes_placed w) (append_assoc (arguments_spelled d args) (tests_spelled d ts) zs)
      ∙ ap (λ w. identifier n name ∷ w) (all_arguments_spelled d args (tests_spelled d ts ++ zs) ∙ ap (arguments_then args) (all_tests_spelled ts d zs))

  all_tests_spelled : (ts : TestsTree) (d : ℕ) (zs : List Placed) → lexemes_placed (tests_spelled d ts ++ zs) ≡ tests_then ts (lexemes_placed zs)
  all_tests_spelled no_test d zs = refl
  all_tests_spelled (one_test t) d zs = an_invocation_spelled t (suc d) zs
  all_tests_spelled (test_list t ts) d zs =
      let end = at_depth d closing_parenthesis ∷ [] in
      ap (λ w. opening_parenthesis ∷ lexemes_placed w)
      (append_assoc (invocation_spelled (suc d) t) (more_tests_spelled d ts ++ end) zs ∙ ap (λ w. invocation_spelled (suc d) t ++ w) (append_assoc (more_tests_spelled d ts) end zs))
      ∙ ap (λ w. opening_parenthesis ∷ w) (an_invocation_spelled t (suc d) (more_tests_spelled d ts ++ (end ++ zs)) ∙ ap (invocation_then t) (other_tests_spelled ts d (end ++ zs)))

  other_tests_spelled : (ts : MoreTests) (d : ℕ) (zs : List Placed) → lexemes_placed (more_tests_spelled d ts ++ zs) ≡ more_tests_then ts (lexemes_placed zs)
  other_tests_spelled last d zs = refl
  other_tests_spelled (next t ts) d zs =
      ap (λ w. comma ∷ lexemes_placed w) (append_assoc (invocation_spelled (suc d) t) (more_tests_spelled d ts) zs)
      ∙ ap (λ w. comma ∷ w) (an_invocation_spelled t (suc d) (more_tests_spelled d ts ++ zs) ∙ ap (invocation_then t) (other_tests_spelled ts d zs))

mutual
  a_command_spelled : (c : CommandTree) (d : ℕ) (zs : List Placed) → lexemes_placed (command_spelled d c ++ zs) ≡ command_then c (lexemes_placed zs)
  a_command_spelled (simple i) d zs =
      ap lexemes_placed (append_assoc (invocation_spelled d i) (at_depth d semicolon ∷ []) zs) ∙ an_invocation_spelled i d (at_depth d semicolon ∷ zs)
  a_command_spelled (block i cs) d zs =
      let end = at_depth (suc d) closing_brace ∷ [] in
      let word = commands_spelled (suc d) cs in
      ap lexemes_placed (append_assoc (invocation_spelled d i) (at_depth (suc d) opening_brace ∷ (word ++ end)) zs)
      ∙ an_invocation_spelled i d (at_depth (suc d) opening_brace ∷ ((word ++ end) ++ zs))
      ∙ ap (λ w. invocation_then i (opening_brace ∷ w)) (ap lexemes_placed (append_assoc word end zs) ∙ all_commands_spelled cs (suc d) (end ++ zs))

  all_commands_spelled : (cs : CommandsTree) (d : ℕ) (zs : List Placed) → lexemes_placed (commands_spelled d cs ++ zs) ≡ commands_then cs (lexemes_placed zs)
  all_commands_spelled no_command d zs = refl
  all_commands_spelled (command c cs) d zs =
      ap lexemes_placed (append_assoc (command_spelled d c) (commands_spelled d cs) zs)
      ∙ a_command_spelled c d (commands_spelled d cs ++ zs) ∙ ap (command_then c) (all_commands_spelled cs d zs)

script_then : (ls : List Lexeme) (cs : CommandsTree) → IsScript ls cs → ls ≡ commands_then cs []
script_then ls cs script = script ∙ ap lexemes_placed (sym (append-nil (commands_spelled 0 cs))) ∙ all_commands_spelled cs 0 []

-- no argument begins here
abbrev NoArgument : List Lexeme → Type 0
NoArgument (tag name ∷ rest) = ⊥
NoArgument (number n ∷ rest) = ⊥
NoArgument (string s ∷ rest) = ⊥
NoArgument (opening_bracket ∷ rest) = ⊥
NoArgument _ = Unit {0}

-- what follows an invocation begins here
abbrev EndsInvocation : List Lexeme → Type 0
EndsInvocation (semicolon ∷ rest) = Unit {0}
EndsInvocation (opening_brace ∷ rest) = Unit {0}
EndsInvocation (comma ∷ rest) = Unit {0}
EndsInvocation (closing_parenthesis ∷ rest) = Unit {0}
EndsInvocation _ = ⊥

-- no command begins here
abbrev NoCommand : List Lexeme → Type 0
NoCommand (identifier n name ∷ rest) = ⊥
NoCommand _ = Unit {0}

an_argument_begins : (a : ArgumentTree) (rest : List Lexeme) → NoArgument (argument_then a rest) → ⊥
an_argument_begins (text s) rest h = h
an_argument_begins (text_list s ss) rest h = h
an_argument_begins (amount n) rest h = h
an_argument_begins (label name) rest h = h

a_command_begins : (c : CommandTree) (rest : List Lexeme) → NoCommand (command_then c rest) → ⊥
a_command_begins (simple (invocation n name args ts)) rest h = h
a_command_begins (block (invocation n name args ts) cs) rest h = h

end_is_no_argument : (rest : List Lexeme) → EndsInvocation rest → NoArgument rest
end_is_no_argument (tag name ∷ rest) h = h
end_is_no_argument (number n ∷ rest) h = h
end_is_no_argument (string s ∷ rest) h = h
end_is_no_argument (opening_bracket ∷ rest) h = h
end_is_no_argument _ h = tt

tests_are_no_argument : (ts : TestsTree) (rest : List Lexeme) → EndsInvocation rest → NoArgument (tests_then ts rest)
tests_are_no_argument no_test rest h = end_is_no_argument rest h
tests_are_no_argument (one_test (invocation n name args ts)) rest h = tt
tests_are_no_argument (test_list t ts) rest h = tt

more_tests_end : (ts : MoreTests) (rest : List Lexeme) → EndsInvocation (more_tests_then ts (closing_parenthesis ∷ rest))
more_tests_end last rest = tt
more_tests_end (next t ts) rest = tt

-- two spellings of one rule that are the same, with what follows, are of the same tree, and the same follows
strings_same : (ss vs : List (List ℕ)) (p q : List Lexeme) → strings_then ss (closing_bracket ∷ p) ≡ strings_then vs (closing_bracket ∷ q) → (ss ≡ vs) × (p ≡ q)
strings_same [] [] p q e = (refl, cc)
strings_same (s ∷ ss) (v ∷ vs) p q e = let r = strings_same ss vs p q (cc) in (cc, r.1)
strings_same _ _ p q e = absurd (cc)

argument_same : (a b : ArgumentTree) (p q : List Lexeme) → argument_then a p ≡ argument_then b q → (a ≡ b) × (p ≡ q)
argument_same (text s) (text v) p q e = (cc, cc)
argument_same (text_list s ss) (text_list v vs) p q e = let r = strings_same ss vs p q (cc) in (cc, r.1)
argument_same (amount n) (amount m) p q e = (cc, cc)
argument_same (label name) (label other) p q e = (cc, cc)
argument_same _ _ p q e = absurd (cc)

arguments_same : (args others : List ArgumentTree) (p q : List Lexeme) → NoArgument p → NoArgument q → arguments_then args p ≡ arguments_then others q → (args ≡ others) × (p ≡ q)
arguments_same [] [] p q g h e = (refl, e)
arguments_same [] (b ∷ others) p q g h e = absurd (an_argument_begins b (arguments_then others q) (subst NoArgument e g))
arguments_same (a ∷ args) [] p q g h e = absurd (an_argument_begins a (arguments_then args p) (subst NoArgument (sym e) h))
arguments_same (a ∷ args) (b ∷ others) p q g h e =
    let first = argument_same a b (arguments_then args p) (arguments_then others q) e in
    let r = arguments_same args others p q g h first.1 in
    (cc, r.1)

mutual
  invocation_same : (t u : InvocationTree) (p q : List Lexeme) → EndsInvocation p → EndsInvocation q → invocation_then t p ≡ invocation_then u q → (t ≡ u) × (p ≡ q)
  invocation_same (invocation n name args ts) (invocation m word others us) p q g h e =
      let a = arguments_same args others (tests_then ts p) (tests_then us q) (tests_are_no_argument ts p g) (tests_are_no_argument us q h) (cc) in
      let r = tests_same ts us p q g h a.1 in
      (cc, r.1)

  tests_same : (ts us : TestsTree) (p q : List Lexeme) → EndsInvocation p → EndsInvocation q → tests_then ts p ≡ tests_then us q → (ts ≡ us) × (p ≡ q)
  tests_same no_test no_test p q g h e = (refl, e)
  tests_same no_test (one_test (invocation n name args us)) p q g h e = absurd (subst EndsInvocation e g)
  tests_same no_test (test_list u us) p q g h e = absurd (subst EndsInvocation e g)
  tests_same (one_test (invocation n name args ts)) no_test p q g h e = absurd (subst EndsInvocation (sym e) h)
  tests_same (test_list t ts) no_test p q g h e = absurd (subst EndsInvocation (sym e) h)
  tests_same (one_test t) (one_test u) p q g h e = let r = invocation_same t u p q g h e in (cc, r.1)
  tests_same (one_test (invocation n name args ts)) (test_list u us) p q g h e = absurd (cc)
  tests_same (test_list t ts) (one_test (invocation n name args us)) p q g h e = absurd (cc)
  tests_same (test_list t ts) (test_list u us) p q g h e =
      let first = invocation_same t u (more_tests_then ts (closing_parenthesis ∷ p)) (more_tests_then us (closing_parenthesis ∷ q)) (more_tests_end ts p) (more_tests_end us q) (cc) in
      let r = more_tests_same ts us p q first.1 in
      (cc, r.1)

  more_tests_same : (ts us : MoreTests) (p q : List Lexeme) → more_tests_then ts (closing_parenthesis ∷ p) ≡ more_tests_then us (closing_parenthesis ∷ q) → (ts ≡ us) × (p ≡ q)
  more_tests_same last last p q e = (refl, cc)
  more_tests_same (next t ts) (next u us) p q e =
      let first = invocation_same t u (more_tests_then ts (closing_parenthesis ∷ p)) (more_tests_then us (closing_parenthesis ∷ q)) (more_tests_end ts p) (more_tests_end us q) (cc) in
      let r = more_tests_same ts us p q first.1 in
      (cc, r.1)
  more_tests_same _ _ p q e = absurd (cc)

mutual
  command_same : (c k : CommandTree) (p q : List Lexeme) → command_then c p ≡ command_then k q → (c ≡ k) × (p ≡ q)
  command_same (simple i) (simple j) p q e = let r = invocation_same i j (semicolon ∷ p) (semicolon ∷ q) tt tt e in (cc, cc)
  command_same (simple i) (block j ds) p q e = let r = invocation_same i j (semicolon ∷ p) (opening_brace ∷ commands_then ds (closing_brace ∷ q)) tt tt e in absurd (cc)
  command_same (block i cs) (simple j) p q e = let r = invocation_same i j (opening_brace ∷ commands_then cs (closing_brace ∷ p)) (semicolon ∷ q) tt tt e in absurd (cc)
  command_same (block i cs) (block j ds) p q e =
      let first = invocation_same i j (opening_brace ∷ commands_then cs (closing_brace ∷ p)) (opening_brace ∷ commands_then ds (closing_brace ∷ q)) tt tt e in
      let r = commands_same cs ds (closing_brace ∷ p) (closing_brace ∷ q) tt tt (cc) in
      (cc, cc)

  commands_same : (cs ds : CommandsTree) (p q : List Lexeme) → NoCommand p → NoCommand q → commands_then cs p ≡ commands_then ds q → (cs ≡ ds) × (p ≡ q)
  commands_same no_command no_command p q g h e = (refl, e)
  commands_same no_command (command d ds) p q g h e = absurd (a_command_begins d (commands_then ds q) (subst NoCommand e g))
  commands_same (command c cs) no_command p q g h e = absurd (a_command_begins c (commands_then cs p) (subst NoCommand (sym e) h))
  commands_same (command c cs) (command d ds) p q g h e =
      let first = command_same c d (commands_then cs p) (commands_then ds q) e in
      let r = commands_same cs ds p q g h first.1 in
      (cc, r.1)

-- lexemes are the spelling of one script at most
pub script_unique : (ls : List Lexeme) (cs ds : CommandsTree) → IsScript ls cs → IsScript ls ds → cs ≡ ds
script_unique ls cs ds p q = (commands_same cs ds [] [] tt tt (sym (script_then ls cs p) ∙ script_then ls ds q)).0
