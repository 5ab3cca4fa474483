use Rattle.std.proofs.Common.{◌+◌, ◌≤◌, length, []}
use Rattle.std.proofs.Common.{refl, sym, ap, subst, ℕ, rules, ◌∷◌, ◌∙◌, arith}
use Rattle.std.proofs.lemmas.Result.{err_from_is_err_and}
use Rattle.std.proofs.lemmas.Grind.{common_steps}
use Rattle.bytecode_listing.specs.Tokens.{tokens_of}
use Rattle.bytecode_listing.specs.Labels.{count}
use Rattle.bytecode_listing.specs.Items.{is_left, line_at}
use Rattle.bytecode_listing.proofs.Shorter.{line_leaves}
use Rattle.bytecode_listing.proofs.Loop.{IsItem, goes_on, ends, is_done, shorter}
use Rattle.bytecode_listing.proofs.Resolving.{count_append, count_within}
use Rattle.bytecode_listing.proofs.assembling.lines_of.Goals as goal

is_item : IsItem is_left line_at
is_item = record { none = refl; leaves = line_leaves }

pub overflow_add-place : goal.overflow_add-place
overflow_add-place c =
    let within : c.table.place ≤ length c.table.lines.items = subst (λ (n : ℕ). n ≤ length c.table.lines.items) c.table.invariant.counted (count_within c.table.lines.items) in
    let one : c.steps_in-place.result ≤ 1 = subst (λ (n : ℕ). n ≤ 1) (sym c.steps_in-place.ensures) (count_within (c.in_ok-line.line ∷ [])) in
    let h1 = c.table.lines.small in
    let h2 = c.table.lines.ok in
    first_of (search rules, grind (arith, common_steps))

pub returns-in_err-line : goal.returns-in_err-line
returns-in_err-line c =
    let p = err_from_is_err_and c.from_residual.result c.from_residual.ensures.1 in
    rw (p.1, p.2) (ends is_left line_at is_item c.in_err-line.field-0.0 c.table.lines.items (tokens_of c.table.rest.now) _ (sym c.is_left.ensures ∙ c.table-test.true) (c.in_err-line.ensures c.table.lines.items c.table.invariant.counted) c.table.invariant.all)

pub table-preserved : goal.table-preserved
table-preserved c =
    rw c.in_ok-push.ensures.items (record {
      counted = count_append c.table.lines.items (c.in_ok-line.line ∷ []) ∙ ap (λ n. n + count (c.in_ok-line.line ∷ [])) c.table.invariant.counted ∙ ap (λ n. c.table.place + n) (sym c.steps_in-place.ensures);
      all = goes_on is_left line_at is_item c.table.lines.items (tokens_of c.table.rest.now) (tokens_of c.in_ok-line.after.now) c.in_ok-line.line _ (sym c.is_left.ensures ∙ c.table-test.true) (c.in_ok-line.ensures c.table.lines.items c.table.invariant.counted) c.table.invariant.all;
    })

pub table-smaller : goal.table-smaller
table-smaller c = shorter is_left line_at is_item c.table.lines.items (tokens_of c.table.rest.now) (tokens_of c.in_ok-line.after.now) c.in_ok-line.line (c.in_ok-line.ensures c.table.lines.items c.table.invariant.counted)

pub returns : goal.returns
returns c = is_done is_left line_at c.table.lines.items (tokens_of c.table.rest.now) _ (sym c.is_left.ensures ∙ c.table-test.false) c.table.invariant.all
