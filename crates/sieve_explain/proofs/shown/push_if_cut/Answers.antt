use Rattle.std.proofs.Common.{◌≡◌, ◌<◌, length, rules}
use Rattle.std.proofs.lemmas.Result.{on_ok_weaker}
use Rattle.sieve_explain.specs.Characters.{pieces}
use Rattle.sieve_explain.proofs.Pieces.{marked, not_marked}
use Rattle.sieve_explain.proofs.shown.push_if_cut.Goals as goal

pub returns-then-is_empty : goal.returns-then-is_empty
returns-then-is_empty c =
    let none : length c.pieces_from.result.now ≡ 0 = search rules in
    not_marked c.args.style c.args.out.now.items c.pieces_from.result.now (pieces c.args.text.now) c.pieces_from.ensures none

pub returns : goal.returns
returns c =
    let some : 0 < length c.pieces_from.result.now = search rules in
    on_ok_weaker c.push_cut_mark.result
    (λ e. marked c.args.style c.args.out.now.items c.push_cut_mark.new.out.items c.pieces_from.result.now (pieces c.args.text.now) c.pieces_from.ensures some e) c.push_cut_mark.ensures
