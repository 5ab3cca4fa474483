use Rattle.std.proofs.lemmas.Result.{on_ok_weaker}
use Rattle.sieve_explain.proofs.Pieces.{end_shown}
use Rattle.sieve_explain.proofs.shown.push_end.Goals as goal

pub returns : goal.returns
returns c =
    on_ok_weaker c.push_pieces.result
    (λ e. end_shown c.args.style c.args.out.now.items c.push_if_cut.new.out.items c.push_pieces.new.out.items c.args.text.now c.pieces_from.result.now c.count_pieces.result
    c.saturating_sub-cut.result c.count_pieces.ensures c.saturating_sub-cut.ensures c.in_ok-push_if_cut.ensures c.pieces_from.ensures e) c.push_pieces.ensures
