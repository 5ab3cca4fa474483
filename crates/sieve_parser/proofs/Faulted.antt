-- Where the machine stops is the first lexeme at fault: what it has read can be completed to a script, and a script is read to its end.
use Rattle.std.proofs.Common.{◌≡◌, ℕ, zero, suc, ◌≤◌, Bool, true, false, List, [], ◌∷◌, ◌++◌, refl, sym, ◌∙◌, ap, subst, inl, inr, arith}
use Rattle.std.specs.Prelude.{Option, Some, None, MatchOption, fold, nat_le}
use Rattle.std.proofs.lemmas.Bool.{cases_Bool, leb-true}
use Rattle.std.proofs.lemmas.List.{append_assoc, append-nil}
use Rattle.sieve_parser.specs.Lexemes.{Lexeme, identifier, tag, number, string, semicolon, comma, opening_brace, closing_brace, opening_parenthesis, closing_parenthesis, opening_bracket, closing_bracket}
use Rattle.sieve_parser.specs.Tree.{invocation, no_test, last, CommandsTree, no_command}
use Rattle.sieve_parser.specs.Grammar.{Placed, at_depth, lexemes_placed, commands_spelled, IsViable, IsScript}
use Rattle.sieve_parser.specs.TokenMachine.{Follow, command_end, test_end, Symbol, body, arguments, ending, tests, strings, more_strings, ended_by, expand, goes, wrong, deep, judged, step, stack_then, advance, reading_from, reading, IsDone}
use Rattle.sieve_parser.specs.Faults.{AreWithinDepth, IsViableWithinDepth}
use Rattle.sieve_parser.specs.Language.{InFollow, InSymbol, InStack, body_end}
use Rattle.sieve_parser.proofs.Language.{Adds, adds, Expands, takes, single, to_single}
use Rattle.sieve_parser.specs.Parsing.{BeginsText, IsCompletable, IsGrounded}

split_stack : (xs ys : List Symbol) (zs : List Placed) → InStack (xs ++ ys) zs → (us : List Placed) × ((vs : List Placed) × ((zs ≡ us ++ vs) × InStack xs us × InStack ys vs))
split_stack [] ys zs p = ([], (zs, (refl, refl, p)))
split_stack (x ∷ xs) ys zs (us, (ws, (e, word, rest))) =
    let r = split_stack xs ys ws rest in
    (us ++ r.0, (r.1.0, (e ∙ ap (λ w. us ++ w) r.1.1.0 ∙ sym (append_assoc us r.0 r.1.0), (us, (r.0, (refl, word, r.1.1.1))), r.1.1.2)))

join_stack : (xs ys : List Symbol) (us vs : List Placed) → InStack xs us → InStack ys vs → InStack (xs ++ ys) (us ++ vs)
join_stack [] ys us vs p q = subst (λ w. InStack ys (w ++ vs)) (sym p) q
join_stack (x ∷ xs) ys us vs (as0, (bs, (e, word, rest))) q =
    (as0, (bs ++ vs, (ap (λ w. w ++ vs) e ∙ append_assoc as0 bs vs, word, join_stack xs ys bs vs rest q)))

-- each symbol has a word
complete_follow : (f : Follow) → (zs : List Placed) × InFollow f zs
complete_follow (command_end d) = (at_depth d semicolon ∷ [], inl refl)
complete_follow (test_end d) = (at_depth d closing_parenthesis ∷ [], (last, refl))

complete_symbol : (x : Symbol) → (zs : List Placed) × InSymbol x zs
complete_symbol (body d) = (body_end d, (no_command, refl))
complete_symbol (arguments d f) = let end = complete_follow f in (end.0, ([], (no_test, (end.0, (refl, end.1)))))
complete_symbol (ending f) = complete_follow f
complete_symbol (tests d) = (at_depth (suc d) (identifier 0 []) ∷ at_depth d closing_parenthesis ∷ [], (invocation 0 [] [] no_test, (last, refl)))
complete_symbol (strings d) = (at_depth d (string []) ∷ at_depth d closing_bracket ∷ [], ([], ([], refl)))
complete_symbol (more_strings d) = (at_depth d closing_bracket ∷ [], ([], refl))

-- what is to be read can be
pub complete_stack : (stack : List Symbol) → (zs : List Placed) × InStack stack zs
complete_stack [] = ([], refl)
complete_stack (x ∷ stack) = let w = complete_symbol x in let r = complete_stack stack in (w.0 ++ r.0, (w.0, (r.0, (refl, w.1, r.1))))

fold_none : (us : List Lexeme) (s : List Symbol) → fold advance None us ≡ Some s → ⊥
fold_none [] s e = absurd (cc)
fold_none (l ∷ us) s e = fold_none us s e

-- What the machine has read, with a word of what is to be read then, is a word of what was to be read.
abbrev ReadsBack : List Lexeme → List Symbol → List Placed → Type 0
ReadsBack us s ys = (xs : List Placed) × ((us ≡ lexemes_placed xs) × AreWithinDepth xs × InStack s (xs ++ ys))

back_within : (x : Symbol) (stack : List Symbol) (l : Lexeme) (us : List Lexeme) (s : List Symbol) (ys : List Placed) (d : ℕ) (symbols : List Symbol)
    → ((vs : List Placed) → InStack symbols vs → InSymbol x (at_depth d l ∷ vs)) → ((t : List Symbol) → fold advance (Some t) us ≡ Some s → ReadsBack us t ys)
    → (b : Bool) → nat_le d 32 ≡ b → fold advance (stack_then (judged (Some (d, symbols)) stack)) us ≡ Some s → ReadsBack (l ∷ us) (x ∷ stack) ys
back_within x stack l us s ys d symbols add more true small e =
    let r = more (symbols ++ stack) (rw small at e) in
    let parts = split_stack symbols stack (r.0 ++ ys) r.1.2 in (
      at_depth d l ∷ r.0,
      (
        ap (λ w. l ∷ w) r.1.0,
        (leb-true d 32 small, r.1.1),
        (at_depth d l ∷ parts.0, (parts.1.0, (ap (λ w. at_depth d l ∷ w) parts.1.1.0, add parts.0 parts.1.1.1, parts.1.1.2))),
      ),
    )
back_within x stack l us s ys d symbols add more false small e = absurd (fold_none us s (rw small at e))

back_step : (x : Symbol) (stack : List Symbol) (l : Lexeme) (us : List Lexeme) (s : List Symbol) (ys : List Placed) (o : Option (ℕ × List Symbol))
    → Adds (InSymbol x) l o → ((t : List Symbol) → fold advance (Some t) us ≡ Some s → ReadsBack us t ys)
    → fold advance (stack_then (judged o stack)) us ≡ Some s → ReadsBack (l ∷ us) (x ∷ stack) ys
back_step x stack l us s ys None add more e = absurd (fold_none us s e)
back_step x stack l us s ys (Some (d, symbols)) add more e = back_within x stack l us s ys d symbols add more (nat_le d 32) refl e

pub reads_back : (us : List Lexeme) (t s : List Symbol) (ys : List Placed) → fold advance (Some t) us ≡ Some s → InStack s ys → ReadsBack us t ys
reads_back [] t s ys e p = let same : t ≡ s = cc in ([], (refl, tt, subst (λ w. InStack w ys) (sym same) p))
reads_back (l ∷ us) [] s ys e p = absurd (fold_none us s e)
reads_back (l ∷ us) (x ∷ stack) s ys e p = back_step x stack l us s ys (expand x l) (adds x l) (λ t f. reads_back us t s ys f p) e

grounded_follow : (f : Follow) (l : Lexeme) (stack : List Symbol) → IsGrounded stack → MatchOption (ended_by f l) (Unit {0}) (λ p. IsGrounded (p.1 ++ stack))
grounded_follow (command_end d) semicolon stack g = g
grounded_follow (command_end d) opening_brace stack g = (λ e. cc, g)
grounded_follow (test_end d) comma stack g = (λ e. cc, g)
grounded_follow (test_end d) closing_parenthesis stack g = g
grounded_follow (command_end d) _ stack g = tt
grounded_follow (test_end d) _ stack g = tt

pub grounded : (x : Symbol) (l : Lexeme) (stack : List Symbol) → IsGrounded (x ∷ stack) → MatchOption (expand x l) (Unit {0}) (λ p. IsGrounded (p.1 ++ stack))
grounded (body d) (identifier n name) stack g = (λ e. cc, g)
grounded (body (suc d)) closing_brace stack g = g.1
grounded (body zero) _ stack g = tt
grounded (body (suc d)) _ stack g = tt
grounded (arguments d f) (identifier n name) stack g = (λ e. cc, g.1)
grounded (arguments d f) (tag name) stack g = g
grounded (arguments d f) (number n) stack g = g
grounded (arguments d f) (string s) stack g = g
grounded (arguments d f) opening_bracket stack g = (λ e. cc, g)
grounded (arguments d f) opening_parenthesis stack g = (λ e. cc, (λ e. cc, g.1))
grounded (arguments d f) l stack g = grounded_follow f l stack g.1
grounded (ending f) l stack g = grounded_follow f l stack g.1
grounded (tests d) (identifier n name) stack g = (λ e. cc, g.1)
grounded (tests d) _ stack g = tt
grounded (strings d) (string s) stack g = (λ e. cc, g.1)
grounded (strings d) _ stack g = tt
grounded (more_strings d) comma stack g = (λ e. cc, g.1)
grounded (more_strings d) closing_bracket stack g = g.1
grounded (more_strings d) _ stack g = tt

-- a word of a stack that isn't empty begins with a lexeme that the machine reads
abbrev StackTakes : Symbol → List Symbol → Placed → List Placed → Type 0
StackTakes x stack p zs = MatchOption (expand x p.lexeme) ⊥ (λ q. (p.depth ≡ q.0) × InStack (q.1 ++ stack) zs)

takes_join : (o : Option (ℕ × List Symbol)) (depth : ℕ) (stack : List Symbol) (us vs : List Placed) → Expands o depth us → InStack stack vs
    → MatchOption o ⊥ (λ q. (depth ≡ q.0) × InStack (q.1 ++ stack) (us ++ vs))
takes_join None depth stack us vs h r = h
takes_join (Some q) depth stack us vs h r = (h.0, join_stack q.1 stack us vs h.1 r)

pub stack_takes : (x : Symbol) (stack : List Symbol) (p : Placed) (zs : List Placed) → IsGrounded (x ∷ stack) → InStack (x ∷ stack) (p ∷ zs) → StackTakes x stack p zs
stack_takes x stack p zs g (us, (vs, (e, word, rest))) =
    elim (takes x us word) [
      | inl none ↦
          let ground = g.0 none.1 in
          let nothing : vs ≡ [] = subst (λ w. InStack w vs) ground rest in
          let empty : p ∷ zs ≡ [] = e ∙ ap (λ w. w ++ vs) none.0 ∙ nothing in absurd (cc)
      | inr t ↦
          let whole : p ∷ zs ≡ t.0 ∷ (t.1.0 ++ vs) = e ∙ ap (λ w. w ++ vs) t.1.1.0 in
          let same : t.0 ≡ p = cc in
          let tail : t.1.0 ++ vs ≡ zs = cc in
          subst (λ (w : Placed). StackTakes x stack w zs) same (subst (λ w. StackTakes x stack t.0 w) tail
          (takes_join (expand x t.0.lexeme) t.0.depth stack t.1.0 vs t.1.1.1 rest))
    ]

-- What is read of a word of what was to be read leaves a word of what is to be read then.
abbrev ReadsOn : List Placed → List Symbol → List Symbol → List Placed → Type 0
ReadsOn xs t s ys = IsGrounded t → InStack t (xs ++ ys) → fold advance (Some t) (lexemes_placed xs) ≡ Some s → IsGrounded s × InStack s ys × AreWithinDepth xs

on_within : (stack : List Symbol) (depth : ℕ) (xs : List Placed) (s : List Symbol) (ys : List Placed) (d : ℕ) (symbols : List Symbol)
    → ((t : List Symbol) → ReadsOn xs t s ys) → depth ≡ d → InStack (symbols ++ stack) (xs ++ ys) → IsGrounded (symbols ++ stack)
    → (b : Bool) → nat_le d 32 ≡ b → fold advance (stack_then (judged (Some (d, symbols)) stack)) (lexemes_placed xs) ≡ Some s → IsGrounded s × InStack s ys × ((depth ≤ 32) × AreWithinDepth xs)
on_within stack depth xs s ys d symbols more same word g true small e =
    let r = more (symbols ++ stack) g word (rw small at e) in (r.0, r.1, (omega (arith, leb-true d 32 small), r.2))
on_within stack depth xs s ys d symbols more same word g false small e = absurd (fold_none (lexemes_placed xs) s (rw small at e))

on_step : (stack : List Symbol) (depth : ℕ) (xs : List Placed) (s : List Symbol) (ys : List Placed) (o : Option (ℕ × List Symbol))
    → ((t : List Symbol) → ReadsOn xs t s ys) → MatchOption o ⊥ (λ q. (depth ≡ q.0) × InStack (q.1 ++ stack) (xs ++ ys)) → MatchOption o (Unit {0}) (λ q. IsGrounded (q.1 ++ stack))
    → fold advance (stack_then (judged o stack)) (lexemes_placed xs) ≡ Some s → IsGrounded s × InStack s ys × ((depth ≤ 32) × AreWithinDepth xs)
on_step stack depth xs s ys None more h g e = absurd h
on_step stack depth xs s ys (Some (d, symbols)) more h g e = on_within stack depth xs s ys d symbols more h.0 h.1 g (nat_le d 32) refl e

pub reads_on : (xs : List Placed) (t s : List Symbol) (ys : List Placed) → ReadsOn xs t s ys
reads_on [] t s ys g p e = let same : t ≡ s = cc in (subst IsGrounded same g, subst (λ w. InStack w ys) same p, tt)
reads_on (p ∷ xs) [] s ys g word e = absurd (cc)
reads_on (p ∷ xs) (x ∷ stack) s ys g word e =
    on_step stack p.depth xs s ys (expand x p.lexeme) (λ t. reads_on xs t s ys) (stack_takes x stack p (xs ++ ys) g word) (grounded x p.lexeme stack g) e

-- the start
abbrev pub root : List Symbol
root = body 0 ∷ []

pub root_grounded : IsGrounded root
root_grounded = (λ e. refl, tt)

pub script_of_word : (zs : List Placed) → InStack root zs → (cs : CommandsTree) × (commands_spelled 0 cs ≡ zs)
script_of_word zs p = let q = single (body 0) zs p in (q.0, sym (append-nil (commands_spelled 0 q.0)) ∙ sym q.1)

pub word_of_script : (cs : CommandsTree) (zs : List Placed) → commands_spelled 0 cs ≡ zs → InStack root zs
word_of_script cs zs e = to_single (body 0) zs (cs, sym e ∙ sym (append-nil (commands_spelled 0 cs)))

-- where nothing more has to be read, nothing is a word
done_from_word : (s : List Symbol) → InStack s [] → IsDone s
done_from_word [] p = tt
done_from_word (x ∷ s) (us, (vs, (e, word, rest))) = elim (takes x us word) [
  | inl none ↦
      let empty : vs ≡ [] = sym (e ∙ ap (λ u. u ++ vs) none.0) in
      subst (λ w. IsDone (w ∷ s)) (sym none.1) (done_from_word s (subst (λ w. InStack s w) empty rest))
  | inr t ↦ let some : [] ≡ t.0 ∷ (t.1.0 ++ vs) = e ∙ ap (λ u. u ++ vs) t.1.1.0 in absurd (cc)
]

-- what the machine has read can be completed, within the depth
pub read_is_completable : (symbols : List Symbol) (us : List Lexeme) (s : List Symbol) → reading_from symbols us ≡ Some s → IsCompletable symbols us
read_is_completable symbols us s e =
    let word = complete_stack s in
    let r = reads_back us symbols s word.0 e word.1 in
    (r.0, (r.1.0, (word.0, r.1.2), r.1.1))

-- what the machine has read begins a script within the depth
pub read_is_viable : (us : List Lexeme) (s : List Symbol) → reading us ≡ Some s → IsViableWithinDepth us
read_is_viable us s e =
    let word = complete_stack s in
    let r = reads_back us root s word.0 e word.1 in
    let script = script_of_word (r.0 ++ word.0) r.1.2 in
    (r.0, (r.1.0, (script.0, (word.0, script.1)), r.1.1))

split_placed : (xs : List Placed) (ls : List Lexeme) (l : Lexeme) → ls ++ l ∷ [] ≡ lexemes_placed xs
    → (ys : List Placed) × ((p : Placed) × ((xs ≡ ys ++ p ∷ []) × (ls ≡ lexemes_placed ys) × (l ≡ p.lexeme)))
split_placed [] [] l e = absurd (cc)
split_placed [] (m ∷ ls) l e = absurd (cc)
split_placed (p ∷ []) [] l e = ([], (p, (refl, refl, cc)))
split_placed (p ∷ q ∷ xs) [] l e = absurd (cc)
split_placed (p ∷ xs) (m ∷ ls) l e =
    let tail : ls ++ l ∷ [] ≡ lexemes_placed xs = cc in
    let head : m ≡ p.lexeme = cc in
    let r = split_placed xs ls l tail in
    (p ∷ r.0, (r.1.0, (ap (λ w. p ∷ w) r.1.1.0, cc, r.1.1.2)))

takes_not_wrong : (stack : List Symbol) (o : Option (ℕ × List Symbol)) (Q : ℕ × List Symbol → Type 0) → MatchOption o ⊥ Q → judged o stack ≡ wrong → ⊥
takes_not_wrong stack None Q h e = h
takes_not_wrong stack (Some (d, symbols)) Q h e = elim (cases_Bool (nat_le d 32)) [
  | inl small ↦ let f : goes (symbols ++ stack) ≡ wrong = rw small at e in absurd (cc)
  | inr large ↦ let f : deep ≡ wrong = rw large at e in absurd (cc)
]

stack_not_wrong : (s : List Symbol) (p : Placed) (rest : List Placed) → IsGrounded s → InStack s (p ∷ rest) → step s p.lexeme ≡ wrong → ⊥
stack_not_wrong [] p rest g word bad = absurd (cc)
stack_not_wrong (x ∷ stack) p rest g word bad = takes_not_wrong stack (expand x p.lexeme) _ (stack_takes x stack p rest g word) bad

-- after what the machine has read, a lexeme that is wrong there begins no text
pub wrong_begins_no_text : (symbols : List Symbol) (us : List Lexeme) (l : Lexeme) (s : List Symbol) → IsGrounded symbols → reading_from symbols us ≡ Some s → step s l ≡ wrong
    → (xs : List Placed) → us ++ l ∷ [] ≡ lexemes_placed xs → BeginsText symbols xs → ⊥
wrong_begins_no_text symbols us l s g e bad xs same (rest, text) =
    let parts = split_placed xs us l same in
    let p = parts.1.0 in
    let word : InStack symbols (parts.0 ++ (p ∷ rest)) = subst (InStack symbols) (ap (λ w. w ++ rest) parts.1.1.0 ∙ append_assoc parts.0 (p ∷ []) rest) text in
    let read : reading_from symbols (lexemes_placed parts.0) ≡ Some s = ap (reading_from symbols) (sym parts.1.1.1) ∙ e in
    let r = reads_on parts.0 symbols s (p ∷ rest) g word read in
    stack_not_wrong s p rest r.0 r.1 (subst (λ w. step s w ≡ wrong) parts.1.1.2 bad)

-- after what the machine has read, where something has to be read, the text isn't ended
pub open_is_no_text : (symbols : List Symbol) (us : List Lexeme) (s : List Symbol) → IsGrounded symbols → reading_from symbols us ≡ Some s → (IsDone s → ⊥)
    → (xs : List Placed) → us ≡ lexemes_placed xs → InStack symbols xs → ⊥
open_is_no_text symbols us s g e open_stack xs same text =
    let r = reads_on xs symbols s [] g (subst (InStack symbols) (sym (append-nil xs)) text) (ap (reading_from symbols) (sym same) ∙ e) in
    open_stack (done_from_word s r.1)

-- after what the machine has read, a lexeme that is wrong there begins no script
pub wrong_is_not_viable : (us : List Lexeme) (l : Lexeme) (s : List Symbol) → reading us ≡ Some s → step s l ≡ wrong → IsViable (us ++ l ∷ []) → ⊥
wrong_is_not_viable us l s e bad (xs, (same, (cs, (rest, script)))) =
    let parts = split_placed xs us l same in
    let p = parts.1.0 in
    let whole : commands_spelled 0 cs ≡ parts.0 ++ (p ∷ rest) = script ∙ ap (λ w. w ++ rest) parts.1.1.0 ∙ append_assoc parts.0 (p ∷ []) rest in
    let word = word_of_script cs (parts.0 ++ (p ∷ rest)) whole in
    let read : reading (lexemes_placed parts.0) ≡ Some s = ap reading (sym parts.1.1.1) ∙ e in
    let r = reads_on parts.0 root s (p ∷ rest) root_grounded word read in
    stack_not_wrong s p rest r.0 r.1 (subst (λ w. step s w ≡ wrong) parts.1.1.2 bad)

-- after what the machine has read, where something has to be read, the script isn't ended
pub open_is_no_script : (us : List Lexeme) (s : List Symbol) → reading us ≡ Some s → (IsDone s → ⊥) → (cs : CommandsTree) → IsScript us cs → ⊥
open_is_no_script us s e open_stack cs script =
    let spelled = commands_spelled 0 cs in
    let r = reads_on spelled root s [] root_grounded (word_of_script cs (spelled ++ []) (sym (append-nil spelled))) (ap reading (sym script) ∙ e) in
    open_stack (done_from_word s r.1)

-- a script that the machine reads to its end is within the depth
pub read_script_within : (us : List Lexeme) (s : List Symbol) (cs : CommandsTree) → reading us ≡ Some s → IsScript us cs → AreWithinDepth (commands_spelled 0 cs)
read_script_within us s cs e script =
    let spelled = commands_spelled 0 cs in
    (reads_on spelled root s [] root_grounded (word_of_script cs (spelled ++ []) (sym (append-nil spelled))) (ap reading (sym script) ∙ e)).2
