use Rattle.std.proofs.Common.{◌∙◌, ◌++◌, ap, drop, length, map, replicate}
use Rattle.std.proofs.lemmas.List.{drop-replicate}
use Rattle.std.specs.Char.{to_ascii_uppercase}
use Rattle.glob_match.proofs.Cases.{upper_lanes}
use Rattle.glob_match.proofs.fold.fold_block.Goals as goal

pub returns : goal.returns
returns c =
    let n = length c.args.text.now in
    c.ascii_upper_lanes.ensures ∙ upper_lanes _
    ∙ ap (λ xs. map to_ascii_uppercase (xs ++ drop n (replicate 32 0))) c.copy_from_slice.ensures.after
    ∙ ap (λ zs. map to_ascii_uppercase (c.args.text.now ++ zs)) (drop-replicate n 32 0)
