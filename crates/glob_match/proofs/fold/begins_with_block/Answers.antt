use Rattle.std.proofs.Common.{◌≡◌, ◌∙◌, ap, map, nat_eq}
use Rattle.std.specs.Char.{to_ascii_uppercase}
use Rattle.std.specs.Cmp.Lexicographic.{pointwise}
use Rattle.glob_match.specs.Comparison.{is_match}
use Rattle.glob_match.specs.declared.comparator.Comparator.TheVariants.{Casemap}
use Rattle.glob_match.proofs.Blocks.{uppers_same}
use Rattle.glob_match.proofs.Cases.{upper_lanes}
use Rattle.glob_match.proofs.fold.begins_with_block.Goals as goal

pub returns-in-Some : goal.returns-in-Some
returns-in-Some c =
    let lanes = c.args.lanes.now in
    let others = c.in-Some.others.now in
    let first : c.ascii_upper_lanes.result ≡ map to_ascii_uppercase lanes = c.ascii_upper_lanes.ensures ∙ upper_lanes lanes in
    let second : c.ascii_upper_lanes-in-Some.result ≡ map to_ascii_uppercase others = c.ascii_upper_lanes-in-Some.ensures ∙ upper_lanes others in
    c.eq.ensures ∙ ap (λ xs. pointwise nat_eq xs c.ascii_upper_lanes-in-Some.result) first ∙ ap (pointwise nat_eq (map to_ascii_uppercase lanes)) second
    ∙ uppers_same lanes others ∙ ap (is_match Casemap lanes) c.in-Some.ensures.cases.same
