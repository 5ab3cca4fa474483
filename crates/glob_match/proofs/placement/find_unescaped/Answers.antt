use Rattle.std.proofs.Common.{◌≡◌, ◌+◌, ◌≤◌, ap, length, take, map, arith}
use Rattle.std.proofs.Math.Nat.{mul-le-mul_left}
use Rattle.std.proofs.lemmas.List.{length-map}
use Rattle.glob_match.specs.Tokens.{tokens_of}
use Rattle.glob_match.specs.declared.token.Token.TheVariants.{Literal}
use Rattle.glob_match.proofs.Segmented.{length-tokens_of}
use Rattle.glob_match.proofs.placement.find_unescaped.Goals as goal

pub find-requires : goal.find-requires
find-requires g c =
    let text = take c.in-Some.len c.unescape.new.text in
    let segment = c.args.segment.now in
    let spelled : length (map Literal text) ≡ length (tokens_of segment) = ap length c.in-Some.ensures.text in
    let short : length text + 1 ≤ length segment + 1 = omega (arith, length-map text Literal, length-tokens_of segment) in
    omega (arith, mul-le-mul_left (length c.args.value.now + 1) short, c.requires.room)
