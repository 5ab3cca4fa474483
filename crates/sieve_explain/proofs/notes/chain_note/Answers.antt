use Rattle.std.proofs.Common.{◌≡◌, ◌∙◌, ◌<◌, ◌+◌, ◌-◌, Bool, true, false, List, ap, length, subst, sym}
use Rattle.std.specs.Prelude.{◌||◌, if◌then◌else◌, None}
use Rattle.std.specs.List.{slice_get}
use Rattle.sieve_lexer.specs.declared.token.Token.{Token}
use Rattle.sieve_explain.specs.Notes.{begins_branch, behind_block, block_of, command_at, ends, is_else}
use Rattle.sieve_explain.specs.declared.notes.NoteKind.TheVariants.{AfterIf}
use Rattle.sieve_explain.proofs.Chains.{IsRest, finishes, goes_on}
use Rattle.sieve_explain.proofs.notes.chain_note.Goals as goal

pub returns-then-not-begins_branch : goal.returns-then-not-begins_branch
returns-then-not-begins_branch c =
    let script = c.args.script.now in
    let only = c.args.only in
    let tokens = c.args.tokens.now in
    let branch = c.loop-turn.branch.now in
    let last = c.loop-turn.last in
    let turn = c.loop-turn.turn in
    let within : turn < length tokens = c.loop-turn-test.true in
    let behind_is : c.block_and_rest.result.1.now ≡ behind_block branch = c.block_and_rest.ensures.behind in
    let ending : ends script (block_of branch) ≡ true = sym (ap (ends script) c.block_and_rest.ensures.block) ∙ sym c.ends.ensures ∙ c.if-not-ends.false in
    let next_is : c.token_at-next.result ≡ slice_get (behind_block branch) 0 = c.token_at-next.ensures ∙ ap (λ (l : List Token). slice_get l 0) behind_is in
    let last_is : c.last_with-last.result ≡ (last || is_else script branch) = c.last_with-last.ensures in
    let none : begins_branch script (slice_get (behind_block branch) 0) ≡ false =
    sym (ap (begins_branch script) next_is) ∙ sym c.begins_branch.ensures ∙ c.if-not-begins_branch.true in
    c.ended_note.ensures ∙ (λ i. if last_is i then command_at AfterIf (next_is i) else None)
    ∙ finishes script only tokens last branch turn c.loop-turn.invariant within ending none

pub loop-turn-preserved : goal.loop-turn-preserved
loop-turn-preserved c =
    let script = c.args.script.now in
    let only = c.args.only in
    let tokens = c.args.tokens.now in
    let branch = c.loop-turn.branch.now in
    let last = c.loop-turn.last in
    let turn = c.loop-turn.turn in
    let within : turn < length tokens = c.loop-turn-test.true in
    let behind_is : c.block_and_rest.result.1.now ≡ behind_block branch = c.block_and_rest.ensures.behind in
    let ending : ends script (block_of branch) ≡ true = sym (ap (ends script) c.block_and_rest.ensures.block) ∙ sym c.ends.ensures ∙ c.if-not-ends.false in
    let next_is : c.token_at-next.result ≡ slice_get (behind_block branch) 0 = c.token_at-next.ensures ∙ ap (λ (l : List Token). slice_get l 0) behind_is in
    let last_is : c.last_with-last.result ≡ (last || is_else script branch) = c.last_with-last.ensures in
    let one : begins_branch script (slice_get (behind_block branch) 0) ≡ true =
    sym (ap (begins_branch script) next_is) ∙ sym c.begins_branch.ensures ∙ c.if-not-begins_branch.false in
    let most = length tokens - (turn + 1) in
    subst (λ (b : Bool). IsRest script only tokens b c.block_and_rest.result.1.now most) (sym last_is)
    (subst (λ (l : List Token). IsRest script only tokens (last || is_else script branch) l most) (sym behind_is)
    (goes_on script only tokens last branch turn c.loop-turn.invariant within ending one))
