-- Commands and blocks, piece by piece.
use Rattle.std.proofs.Common.{◌≡◌, ℕ, suc, ◌+◌, ◌<◌, ◌≤◌, List, [], ◌∷◌, ◌++◌, sym, ◌∙◌, ap, subst, length, map}
use Rattle.std.proofs.lemmas.List.{append_assoc, append-nil, map_push}
use Rattle.sieve_parser.specs.Lexemes.{Lexeme, identifier, semicolon, opening_brace, closing_brace}
use Rattle.sieve_parser.specs.Tree.{InvocationTree, CommandTree, simple, block, CommandsTree}
use Rattle.sieve_parser.specs.Grammar.{Placed, at_depth, command_spelled, commands_spelled}
use Rattle.sieve_parser.specs.TokenMachine.{command_end, Symbol, arguments, ending, body, expand}
use Rattle.sieve_parser.specs.Parsing.{Beginning, IsAt, Stands, lexeme_at}
use Rattle.sieve_parser.specs.View.{invocation_tree, command_tree, command_step, commands_of, commands_tree}
use Rattle.sieve_parser.specs.declared.tree.Invocation.{Invocation}
use Rattle.sieve_parser.specs.declared.tree.Command.{Command}
use Rattle.sieve_parser.specs.declared.tree.Command.TheVariants.{Simple, Block, rolls-Simple, rolls-Block}
use Rattle.sieve_parser.specs.declared.tree.Command.TheFolds.{fold-roll-Command}
use Rattle.sieve_parser.specs.declared.tree.Command.TheOpen as open_layer
use Rattle.std.specs.declared.vec.Vec.{Vec}
use Rattle.std.specs.declared.alloc.Global.{Global}
use Rattle.sieve_parser.proofs.TestSteps.{IsInvocationRead}
use Rattle.sieve_parser.proofs.Walk.{walk, stands_one, stands_both}

pub tree_simple : (i : Invocation) → command_tree (Simple i) ≡ simple (invocation_tree i)
tree_simple i = ap command_tree (sym (rolls-Simple i)) ∙ fold-roll-Command CommandTree command_step (open_layer.Simple i)

pub tree_block : (i : Invocation) (cs : Vec Command Global) → command_tree (Block i cs) ≡ block (invocation_tree i) (commands_tree cs.items)
tree_block i cs = ap command_tree (sym (rolls-Block i cs)) ∙ fold-roll-Command CommandTree command_step (open_layer.Block i cs)

commands_push : (d : ℕ) (cs : List CommandTree) (c : CommandTree) → commands_spelled d (commands_of (cs ++ c ∷ [])) ≡ commands_spelled d (commands_of cs) ++ command_spelled d c
commands_push d [] c = append-nil (command_spelled d c)
commands_push d (x ∷ cs) c = ap (λ w. command_spelled d x ++ w) (commands_push d cs c) ∙ sym (append_assoc (command_spelled d x) (commands_spelled d (commands_of cs)) (command_spelled d c))

module _ (ls : List Lexeme) where
  -- a command after its identifier up to a place
  abbrev pub IsCommandRead : List ℕ → ℕ → ℕ → CommandTree → ℕ → Type 0
  IsCommandRead name n d t p = (stack : List Symbol) → (b : List Placed) × ((command_spelled d t ≡ at_depth d (identifier n name) ∷ b) × Stands ls (n + 1) p b
      × ((b : Beginning) → IsAt b ls (n + 1) (arguments d (command_end d) ∷ stack) → IsAt b ls p stack))

  pub simple_read : (name : List ℕ) (n d p : ℕ) (i : InvocationTree) → IsInvocationRead ls name n d i p → d ≤ 32 → p < length ls → lexeme_at ls p ≡ semicolon → IsCommandRead name n d (simple i) (p + 1)
  simple_read name n d p i read small lt e = λ stack.
      let r = read (command_end d) stack in
      let end = at_depth d semicolon ∷ [] in (
        r.0 ++ end,
        (
          ap (λ w. w ++ end) r.1.0,
          stands_both ls (n + 1) p (p + 1) r.0 end r.1.1 (stands_one ls p (at_depth d semicolon) lt e),
          λ b at. walk b ls p (ending (command_end d)) stack d [] (r.1.2 b at) lt (ap (expand (ending (command_end d))) e) small,
        ),
      )

  pub block_read : (name : List ℕ) (n d p q : ℕ) (i : InvocationTree) (cs : CommandsTree) → IsInvocationRead ls name n d i p → suc d ≤ 32 → p < length ls → lexeme_at ls p ≡ opening_brace
      → ((stack : List Symbol) → Stands ls (p + 1) q (commands_spelled (suc d) cs) × ((b : Beginning) → IsAt b ls (p + 1) (body (suc d) ∷ stack) → IsAt b ls q (body (suc d) ∷ stack)))
      → q < length ls → lexeme_at ls q ≡ closing_brace → IsCommandRead name n d (block i cs) (q + 1)
  block_read name n d p q i cs read small lt e inner lt' e' = λ stack.
      let r = read (command_end d) stack in
      let list = inner stack in
      let open_brace = at_depth (suc d) opening_brace in
      let close = at_depth (suc d) closing_brace in
      let word = commands_spelled (suc d) cs in
      let end = open_brace ∷ (word ++ close ∷ []) in
      let tail = stands_both ls (p + 1) q (q + 1) word (close ∷ []) list.0 (stands_one ls q close lt' e') in
      let whole = stands_both ls p (p + 1) (q + 1) (open_brace ∷ []) (word ++ close ∷ []) (stands_one ls p open_brace lt e) tail in (
        r.0 ++ end,
        (
          ap (λ w. w ++ end) r.1.0,
          stands_both ls (n + 1) p (q + 1) r.0 end r.1.1 whole,
          λ b at. walk b ls q (body (suc d)) stack (suc d) [] (list.1 b
              (walk b ls p (ending (command_end d)) stack (suc d) (body (suc d) ∷ []) (r.1.2 b at) lt (ap (expand (ending (command_end d))) e) small)) lt' (ap (expand (body (suc d))) e') small,
        ),
      )

  -- commands from a place up to another
  abbrev pub AreCommandsSoFar : ℕ → ℕ → ℕ → List Command → Type 0
  AreCommandsSoFar at d p cs = (stack : List Symbol) → Stands ls at p (commands_spelled d (commands_tree cs)) × ((b : Beginning) → IsAt b ls at (body d ∷ stack) → IsAt b ls p (body d ∷ stack))

  pub command_begun : (at d p : ℕ) (cs : List Command) (name : List ℕ) → AreCommandsSoFar at d p cs → d ≤ 32 → p < length ls → lexeme_at ls p ≡ identifier p name
      → (stack : List Symbol) (b : Beginning) → IsAt b ls at (body d ∷ stack) → IsAt b ls (p + 1) (arguments d (command_end d) ∷ body d ∷ stack)
  command_begun at d p cs name so_far small lt e stack b a =
      walk b ls p (body d) stack d (arguments d (command_end d) ∷ body d ∷ []) ((so_far stack).1 b a) lt (ap (expand (body d)) e) small

  pub commands_more : (at d p q : ℕ) (cs : List Command) (name : List ℕ) (c : Command) → AreCommandsSoFar at d p cs → d ≤ 32 → p < length ls → lexeme_at ls p ≡ identifier p name
      → IsCommandRead name p d (command_tree c) q → AreCommandsSoFar at d q (cs ++ c ∷ [])
  commands_more at d p q cs name c so_far small lt e inner = λ stack.
      let r = inner (body d ∷ stack) in
      let here = at_depth d (identifier p name) in
      let piece = stands_both ls p (p + 1) q (here ∷ []) r.0 (stands_one ls p here lt e) r.1.1 in
      let prefix = commands_spelled d (commands_tree cs) in
      let spelled : prefix ++ command_spelled d (command_tree c) ≡ commands_spelled d (commands_tree (cs ++ c ∷ [])) =
      sym (commands_push d (map command_tree cs) (command_tree c)) ∙ ap (λ w. commands_spelled d (commands_of w)) (sym (map_push command_tree cs c)) in (
        subst (λ w. Stands ls at q w) spelled (stands_both ls at p q prefix (command_spelled d (command_tree c)) (so_far stack).0 (subst (λ w. Stands ls p q w) (sym r.1.0) piece)),
        λ b a. r.1.2 b (command_begun at d p cs name so_far small lt e stack b a),
      )
