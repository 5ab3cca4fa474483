use Rattle.std.proofs.Common.{◌≡◌, ◌-◌, ◌≤◌, ◌∙◌, ap, length, take, drop, arith}
use Rattle.std.proofs.lemmas.List.{length-drop, take_all, take_rest}
use Rattle.glob_match.specs.Comparison.{is_match}
use Rattle.glob_match.specs.declared.comparator.Comparator.TheVariants.{Casemap}
use Rattle.glob_match.proofs.Blocks.{block_differs, block_last, block_more, same_folded}
use Rattle.glob_match.proofs.fold.equal_folded.Goals as goal

pub returns-in_default : goal.returns-in_default
returns-in_default c = same_folded c.eq_ignore_ascii_case.result c.args.value.now c.args.key.now c.eq_ignore_ascii_case.ensures.test

pub returns-then-not-begins_with_block : goal.returns-then-not-begins_with_block
returns-then-not-begins_with_block c =
    let value = c.args.value.now in
    let key = c.args.key.now in
    let place = c.lanes.place in
    let lanes = c.in-Some-first_chunk.lanes.now in
    block_differs value key place c.lanes.invariant.1 lanes c.begins_with_block.result
    (c.in-Some-first_chunk.ensures.cases.same ∙ ap (take 32) (take_rest value place))
    (c.begins_with_block.ensures ∙ ap (λ xs. is_match Casemap lanes (take 32 xs)) (take_rest key place))
    c.if-not-begins_with_block.true

pub lanes-preserved : goal.lanes-preserved
lanes-preserved c =
    let value = c.args.value.now in
    let key = c.args.key.now in
    let place = c.lanes.place in
    let chunk = c.in-Some-first_chunk.ensures.cases in
    let lanes = c.in-Some-first_chunk.lanes.now in (
      omega (arith, chunk.enough, ap length (take_rest value place), length-drop place value, c.lanes.invariant.0),
      block_more value key place c.lanes.invariant.1 lanes c.begins_with_block.result
          (chunk.same ∙ ap (take 32) (take_rest value place))
          (c.begins_with_block.ensures ∙ ap (λ xs. is_match Casemap lanes (take 32 xs)) (take_rest key place))
          c.if-not-begins_with_block.false,
    )

pub returns : goal.returns
returns c =
    let value = c.args.value.now in
    let key = c.args.key.now in
    let place = c.lanes.place in
    let n = length value - 32 in
    let last = c.in-Some.ensures.cases in
    let m : length key - 32 ≡ n = omega (arith, c.requires) in
    let before : n ≤ place = omega (arith, c.in_default-first_chunk.ensures.cases, ap length (take_rest value place), length-drop place value) in
    let whole : take 32 (take (length key - (length key - 32)) (drop (length key - 32) key)) ≡ drop n key =
    ap (take 32) (take_rest key (length key - 32)) ∙ ap (λ k. take 32 (drop k key)) m
    ∙ take_all 32 (drop n key) (omega (arith, length-drop n key, c.requires, last.0)) in
    c.begins_with_block-2.ensures ∙ ap (is_match Casemap c.in-Some.last.now) whole
    ∙ ap (λ xs. is_match Casemap xs (drop n key)) last.1.same
    ∙ block_last value key place c.lanes.invariant.1 n before
