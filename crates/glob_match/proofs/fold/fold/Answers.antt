use Rattle.std.proofs.Common.{◌+◌, ◌-◌, ◌≤◌, ◌∙◌, ap, length, map, take, drop, arith}
use Rattle.std.proofs.lemmas.List.{length-drop, take_rest}
use Rattle.std.specs.Char.{to_ascii_uppercase}
use Rattle.glob_match.proofs.Blocks.{front_of_padded}
use Rattle.glob_match.proofs.Cases.{fold_more, fold_rest}
use Rattle.glob_match.proofs.fold.fold.Goals as goal

pub lanes-preserved : goal.lanes-preserved
lanes-preserved c =
    let text = c.args.text.now in
    let place = c.lanes.place in
    let chunk = c.in-Some.ensures.cases in
    let rest = take_rest text place in
    let enough : 32 ≤ length (drop place text) = omega (arith, chunk.enough, ap length rest) in
    let within : place + 32 ≤ length text = omega (arith, length-drop place text, c.lanes.invariant.0) in (
      within,
      fold_more text c.lanes.folded place (omega (arith, c.lanes.auto.folded, c.requires)) c.lanes.invariant.1 c.copy_from_slice.new.self c.in-Some.lanes.now
          within (chunk.same ∙ ap (take 32) rest) (c.copy_from_slice.ensures.after ∙ c.ascii_upper_lanes.ensures),
    )

pub returns : goal.returns
returns c =
    let text = c.args.text.now in
    let place = c.lanes.place in
    let rest = take_rest text place in
    fold_rest text c.lanes.folded place (omega (arith, c.lanes.auto.folded, c.requires)) c.lanes.invariant.1 c.copy_from_slice-2.new.self
    c.lanes.invariant.0 (c.copy_from_slice-2.ensures.after ∙ ap (take (length (take (length text - place) (drop place text)))) c.fold_block.ensures ∙ front_of_padded (take (length text - place) (drop place text)) _ ∙ ap (map to_ascii_uppercase) rest)
