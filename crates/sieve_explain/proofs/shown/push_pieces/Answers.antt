use Rattle.std.proofs.Common.{◌≡◌, ◌<◌, ◌++◌, length, rules, take}
use Rattle.sieve_explain.specs.Characters.{pieces}
use Rattle.sieve_explain.specs.Private.{piece_of}
use Rattle.sieve_explain.specs.Shown.{shown}
use Rattle.sieve_explain.proofs.Pieces.{take_end, take_first}
use Rattle.sieve_explain.proofs.shown.push_pieces.Goals as goal

pub pieces-preserved : goal.pieces-preserved
pieces-preserved c =
    let some : 0 < c.pieces.left = search rules in
    take_first c.args.style c.pieces.out.items c.push_piece.new.out.items (c.args.out.now.items ++ shown c.args.style (take c.args.most (pieces c.args.text.now))) c.pieces.left
    (piece_of c.split_first.result.0) (pieces c.split_first.result.1.now) (pieces c.pieces.rest.now) some c.split_first.ensures.pieces c.in_ok-push_piece.ensures c.pieces.invariant

pub returns-else-not-is_empty : goal.returns-else-not-is_empty
returns-else-not-is_empty c =
    let none : length c.pieces.rest.now ≡ 0 = search rules in
    take_end c.args.style c.pieces.out.items (c.args.out.now.items ++ shown c.args.style (take c.args.most (pieces c.args.text.now))) c.pieces.rest.now c.pieces.left none c.pieces.invariant
