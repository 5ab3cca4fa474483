use Rattle.std.proofs.Common.{◌≡◌, ◌<◌, ◌^◌, arith, length, rules, subst, sym, List, Vec, Global, ℕ}
use Rattle.std.specs.List.{concat}
use Rattle.std.proofs.lemmas.List.{length-map}
use Rattle.depot_batch.specs.Private.{lines_of}
use Rattle.depot_batch.specs.Turns.{Together, Withdrawn}
use Rattle.depot_batch.proofs.Batches.{tried_as, turned_broken}
use Rattle.depot_batch.proofs.Readying.{first_shown, first_small, first_taken, first_whole}
use Rattle.depot_batch.proofs.serving.take_together.Goals as goal

pub take_lines-requires : goal.take_lines-requires
take_lines-requires g c =
    let first = c.in-Ok-Done.ensures.first in
    subst (λ (ls : List (Vec ℕ Global)). length (concat (lines_of ls)) < 2 ^ 64) (sym c.deref.ensures.value)
    (first_small c.args.lines.items c.serve_together.new.lines.items first.0 first.1 c.requires.small)

pub take_lines-requires-in-Err : goal.take_lines-requires-in-Err
take_lines-requires-in-Err g c =
    let first = c.in-Err.ensures.first in
    subst (λ (ls : List (Vec ℕ Global)). length (concat (lines_of ls)) < 2 ^ 64) (sym c.deref-in-Err.ensures.value)
    (first_small c.args.lines.items c.serve_together.new.lines.items first.0 first.1 c.requires.small)

pub returns-in-Ok-Done-clause-turned : goal.returns-in-Ok-Done-clause-turned
returns-in-Ok-Done-clause-turned g c before can shown =
    let cut = c.serve_together.new.lines.items in
    let first = c.in-Ok-Done.ensures.first in
    record {
      come = (
        Together (lines_of cut),
        (
          first_whole c.args.lines.items cut first.0 first.1 c.requires.whole,
          first_taken c.args.lines.items cut first.0 first.1 c.deref.result.now before _ _ (g.R.BufRead.consumable_len c.args.input.now.inner) c.deref.ensures.value can shown (c.take_lines.ensures before),
        ),
        tried_as g.S.Store _ _ _ _ _ c.in-Ok-Done.field-0-is c.in-Ok-Done.ensures.tried,
        tt,
        (c.requires.none, c.in-Ok-Done.ensures.some),
      );
    }

pub returns-in-Ok-Withdrawn-clause-turned : goal.returns-in-Ok-Withdrawn-clause-turned
returns-in-Ok-Withdrawn-clause-turned g c before can shown =
    let cut = c.serve_together.new.lines.items in
    let first = c.in-Ok-Withdrawn.ensures.first in
    let count : c.len.result ≡ length cut = search rules in
    let many : length (lines_of cut) ≡ length cut = length-map cut (λ (l : Vec ℕ Global). l.items) in
    record {
      come = (
        Withdrawn (lines_of cut),
        (first_whole c.args.lines.items cut first.0 first.1 c.requires.whole, first_shown c.args.lines.items cut first.0 first.1 before _ shown),
        tried_as g.S.Store _ _ _ _ _ c.in-Ok-Withdrawn.field-0-is c.in-Ok-Withdrawn.ensures.tried,
        tt,
        (c.requires.none, c.in-Ok-Withdrawn.ensures.some, omega (arith, count, many)),
      );
    }

pub returns-clause-turned : goal.returns-clause-turned
returns-clause-turned g c before can shown =
    let cut = c.serve_together.new.lines.items in
    let first = c.in-Err.ensures.first in
    turned_broken g.S.Store _ _ (Together (lines_of cut)) (c.requires.none, c.in-Err.ensures.some) (
      first_whole c.args.lines.items cut first.0 first.1 c.requires.whole,
      first_taken c.args.lines.items cut first.0 first.1 c.deref-in-Err.result.now before _ _ (g.R.BufRead.consumable_len c.args.input.now.inner) c.deref-in-Err.ensures.value can shown (c.take_lines-in-Err.ensures before),
    )
    c.in-Err.ensures.broken
