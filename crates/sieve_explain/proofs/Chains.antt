-- The branches of an `if`, one after another.
use Rattle.std.proofs.Common.{◌≡◌, ◌∙◌, ◌<◌, ◌≤◌, ◌+◌, ◌-◌, ℕ, zero, suc, Bool, true, false, List, [], ◌∷◌, ap, refl, subst, sym, arith, length}
use Rattle.std.specs.Prelude.{◌&&◌, ◌||◌, if◌then◌else◌, None}
use Rattle.std.specs.List.{list_all, list_any, slice_get}
use Rattle.sieve_lexer.specs.declared.token.Token.{Token}
use Rattle.sieve_explain.specs.Notes.{begins_branch, behind_block, behind_branches, block_of, branch_ends, branches, chain_note, command_at, ends, is_else}
use Rattle.sieve_explain.specs.declared.notes.NoteKind.TheVariants.{AfterIf}

-- the branches from this one on, up to so many, are the rest of the chain: those before it end, and `last` says whether one of them is
-- that of `else`, or none after the first one runs
pub record IsRest (script : List ℕ) (only : Bool) (tokens : List Token) (last : Bool) (branch : List Token) (most : ℕ) : Type 0 where
  pub all : list_all (branch_ends script) (branches most script branch) ≡ list_all (branch_ends script) (branches (length tokens) script tokens)
  pub some : (last || list_any (is_else script) (branches most script branch)) ≡ (only || list_any (is_else script) (branches (length tokens) script tokens))
  pub next : behind_branches most script branch ≡ behind_branches (length tokens) script tokens

pub whole : (script : List ℕ) (only : Bool) (tokens : List Token) → IsRest script only tokens only tokens (length tokens - 0)
whole script only tokens =
    let most : length tokens ≡ length tokens - 0 = omega arith in
    subst (λ n. IsRest script only tokens only tokens n) most (record { all = refl; some = refl; next = refl })

or_all : (a b c : Bool) → ((a || b) || c) ≡ (a || (b || c))
or_all true b c = refl
or_all false b c = refl

or_none : (a b : Bool) → (a || (b || false)) ≡ (a || b)
or_none true b = refl
or_none false true = refl
or_none false false = refl

-- ---- with one branch or more

branches_on : (script : List ℕ) (branch : List Token) (most left : ℕ) → most ≡ suc left → begins_branch script (slice_get (behind_block branch) 0) ≡ true
    → branches most script branch ≡ branch ∷ branches left script (behind_block branch)
branches_on script branch most left more begins =
    ap (λ n. branches n script branch) more
    ∙ ap (λ (b : Bool). branch ∷ (if b then branches left script (behind_block branch) else [])) begins

branches_last : (script : List ℕ) (branch : List Token) (most left : ℕ) → most ≡ suc left → begins_branch script (slice_get (behind_block branch) 0) ≡ false
    → branches most script branch ≡ branch ∷ []
branches_last script branch most left more begins =
    ap (λ n. branches n script branch) more
    ∙ ap (λ (b : Bool). branch ∷ (if b then branches left script (behind_block branch) else [])) begins

behind_on : (script : List ℕ) (branch : List Token) (most left : ℕ) → most ≡ suc left → begins_branch script (slice_get (behind_block branch) 0) ≡ true
    → behind_branches most script branch ≡ behind_branches left script (behind_block branch)
behind_on script branch most left more begins =
    ap (λ n. behind_branches n script branch) more
    ∙ ap (λ (b : Bool). if b then behind_branches left script (behind_block branch) else behind_block branch) begins

behind_last : (script : List ℕ) (branch : List Token) (most left : ℕ) → most ≡ suc left → begins_branch script (slice_get (behind_block branch) 0) ≡ false
    → behind_branches most script branch ≡ behind_block branch
behind_last script branch most left more begins =
    ap (λ n. behind_branches n script branch) more
    ∙ ap (λ (b : Bool). if b then behind_branches left script (behind_block branch) else behind_block branch) begins

-- ---- the note

-- a branch that doesn't end
pub stops : (script : List ℕ) (only : Bool) (tokens : List Token) (last : Bool) (branch : List Token) (turn : ℕ)
    → IsRest script only tokens last branch (length tokens - turn) → turn < length tokens → ends script (block_of branch) ≡ false
    → None ≡ chain_note script only tokens
stops script only tokens last branch turn is within is_not =
    let left = length tokens - (turn + 1) in
    let more : length tokens - turn ≡ suc left = omega (arith, within) in
    let rest = if begins_branch script (slice_get (behind_block branch) 0) then branches left script (behind_block branch) else [] in
    let first : list_all (branch_ends script) (branches (length tokens - turn) script branch) ≡ false =
    ap (λ n. list_all (branch_ends script) (branches n script branch)) more
    ∙ ap (λ (b : Bool). b && list_all (branch_ends script) rest) is_not in
    let all : list_all (branch_ends script) (branches (length tokens) script tokens) ≡ false = sym is.all ∙ first in
    sym (ap (λ (b : Bool). if b && (only || list_any (is_else script) (branches (length tokens) script tokens))
    then command_at AfterIf (slice_get (behind_branches (length tokens) script tokens) 0) else None) all)

-- the last branch
pub finishes : (script : List ℕ) (only : Bool) (tokens : List Token) (last : Bool) (branch : List Token) (turn : ℕ)
    → IsRest script only tokens last branch (length tokens - turn) → turn < length tokens → ends script (block_of branch) ≡ true
    → begins_branch script (slice_get (behind_block branch) 0) ≡ false
    → (if last || is_else script branch then command_at AfterIf (slice_get (behind_block branch) 0) else None) ≡ chain_note script only tokens
finishes script only tokens last branch turn is within is_so begins =
    let left = length tokens - (turn + 1) in
    let more : length tokens - turn ≡ suc left = omega (arith, within) in
    let one : branches (length tokens - turn) script branch ≡ branch ∷ [] = branches_last script branch (length tokens - turn) left more begins in
    let all : list_all (branch_ends script) (branches (length tokens) script tokens) ≡ true =
    sym is.all ∙ ap (list_all (branch_ends script)) one ∙ ap (λ (b : Bool). b && true) is_so in
    let some : (only || list_any (is_else script) (branches (length tokens) script tokens)) ≡ (last || is_else script branch) =
    sym is.some ∙ ap (λ (l : List (List Token)). last || list_any (is_else script) l) one ∙ or_none last (is_else script branch) in
    let next : behind_branches (length tokens) script tokens ≡ behind_block branch =
    sym is.next ∙ behind_last script branch (length tokens - turn) left more begins in
    sym (λ i. if all i && some i then command_at AfterIf (slice_get (next i) 0) else None)

-- another branch
pub goes_on : (script : List ℕ) (only : Bool) (tokens : List Token) (last : Bool) (branch : List Token) (turn : ℕ)
    → IsRest script only tokens last branch (length tokens - turn) → turn < length tokens → ends script (block_of branch) ≡ true
    → begins_branch script (slice_get (behind_block branch) 0) ≡ true
    → IsRest script only tokens (last || is_else script branch) (behind_block branch) (length tokens - (turn + 1))
goes_on script only tokens last branch turn is within is_so begins =
    let left = length tokens - (turn + 1) in
    let more : length tokens - turn ≡ suc left = omega (arith, within) in
    let others = branches left script (behind_block branch) in
    let whole_is : branches (length tokens - turn) script branch ≡ branch ∷ others = branches_on script branch (length tokens - turn) left more begins in
    let first : list_all (branch_ends script) (branch ∷ others) ≡ list_all (branch_ends script) others =
    ap (λ (b : Bool). b && list_all (branch_ends script) others) is_so in
    record {
      all = sym first ∙ sym (ap (list_all (branch_ends script)) whole_is) ∙ is.all;
      some =
          or_all last (is_else script branch) (list_any (is_else script) others)
          ∙ sym (ap (λ (l : List (List Token)). last || list_any (is_else script) l) whole_is) ∙ is.some;
      next = sym (behind_on script branch (length tokens - turn) left more begins) ∙ is.next;
    }

-- as many branches as tokens
pub runs_out : (script : List ℕ) (only : Bool) (tokens : List Token) (last : Bool) (branch : List Token) (turn : ℕ)
    → IsRest script only tokens last branch (length tokens - turn) → length tokens ≤ turn → None ≡ chain_note script only tokens
runs_out script only tokens last branch turn is beyond =
    let none : length tokens - turn ≡ zero = omega (arith, beyond) in
    let next : behind_branches (length tokens) script tokens ≡ [] = sym is.next ∙ ap (λ n. behind_branches n script branch) none in
    let all = branches (length tokens) script tokens in
    same (list_all (branch_ends script) all && (only || list_any (is_else script) all))
    ∙ sym (ap (λ (l : List Token). if list_all (branch_ends script) all && (only || list_any (is_else script) all) then command_at AfterIf (slice_get l 0) else None) next)
  where
    same : (b : Bool) → None ≡ (if b then command_at AfterIf (slice_get [] 0) else None)
    same true = refl
    same false = refl
