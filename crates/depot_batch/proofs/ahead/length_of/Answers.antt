use Rattle.std.proofs.Common.{◌≡◌, ◌+◌, arith, length, subst, sym, take, Vec, Global, ℕ}
use Rattle.std.specs.List.{concat}
use Rattle.depot_batch.specs.Private.{lines_of}
use Rattle.depot_batch.proofs.Readying.{counts_more, counts_within}
use Rattle.depot_batch.proofs.ahead.length_of.Goals as goal

pub overflow_add-len : goal.overflow_add-len
overflow_add-len c =
    let lines = c.args.lines.now in
    let index = c.loop-line.line-index in
    let more : length (concat (lines_of (take index lines))) + length c.line-item.result.items ≡ length (concat (lines_of (take (index + 1) lines))) =
    subst (λ (l : Vec ℕ Global). length (concat (lines_of (take index lines))) + length l.items ≡ length (concat (lines_of (take (index + 1) lines)))) (sym c.line-item.is) (counts_more lines index c.line-item.result c.loop-line-test.true) in
    let within = counts_within lines (index + 1) in
    omega (arith, more, within, c.requires, c.loop-line.invariant, c.len-len.ensures)

pub loop-line-preserved : goal.loop-line-preserved
loop-line-preserved c =
    let lines = c.args.lines.now in
    let index = c.loop-line.line-index in
    let more : length (concat (lines_of (take index lines))) + length c.line-item.result.items ≡ length (concat (lines_of (take (index + 1) lines))) =
    subst (λ (l : Vec ℕ Global). length (concat (lines_of (take index lines))) + length l.items ≡ length (concat (lines_of (take (index + 1) lines)))) (sym c.line-item.is) (counts_more lines index c.line-item.result c.loop-line-test.true) in
    omega (arith, more, c.loop-line.invariant, c.len-len.ensures)
