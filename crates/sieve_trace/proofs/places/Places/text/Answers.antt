use Rattle.std.proofs.Common.{◌+◌, ◌<◌, ◌≤◌, ◌∙◌, ap, arith, length, slice_get}
use Rattle.std.specs.List.{slice_range}
use Rattle.sieve_trace.specs.Printed.{place_in}
use Rattle.sieve_trace.proofs.PieceLemmas.{no_piece, piece_read, read_rise}
use Rattle.sieve_trace.proofs.places.Places.text.Goals as goal

pub piece-requires-clause-rises : goal.piece-requires-clause-rises
piece-requires-clause-rises c =
    let bounds = c.self.inside.bounds.items in
    let below = c.if-at-len.true in
    let lt : c.args.at + 1 < length bounds = omega (arith, below, c.len.ensures, c.self.inside.bounds.ok.0) in
    (read_rise bounds (length c.self.inside.texts.items) c.args.at c.index.result.now c.index-then-at-len.result.now c.self.invariant lt c.index.ensures c.index-then-at-len.ensures).0

pub piece-requires-clause-within : goal.piece-requires-clause-within
piece-requires-clause-within c =
    let bounds = c.self.inside.bounds.items in
    let below = c.if-at-len.true in
    let lt : c.args.at + 1 < length bounds = omega (arith, below, c.len.ensures, c.self.inside.bounds.ok.0) in
    let within = (read_rise bounds (length c.self.inside.texts.items) c.args.at c.index.result.now c.index-then-at-len.result.now c.self.invariant lt c.index.ensures c.index-then-at-len.ensures).1 in
    omega (arith, within, ap length c.deref.ensures.value)

pub returns-then-at-len : goal.returns-then-at-len
returns-then-at-len c =
    let texts = c.self.inside.texts.items in
    let bounds = c.self.inside.bounds.items in
    let start = c.index.result.now in
    let end = c.index-then-at-len.result.now in
    let below = c.if-at-len.true in
    let lt : c.args.at + 1 < length bounds = omega (arith, below, c.len.ensures, c.self.inside.bounds.ok.0) in
    c.piece.ensures ∙ ap (λ t. slice_range t start end) c.deref.ensures.value
    ∙ piece_read texts bounds c.args.at start end lt c.index.ensures c.index-then-at-len.ensures
    ∙ ap (λ ps. place_in (slice_get ps c.args.at)) c.self.view_is

pub returns-else-at-len : goal.returns-else-at-len
returns-else-at-len c =
    let bounds = c.self.inside.bounds.items in
    let past = c.if-at-len.false in
    let le : length bounds ≤ c.args.at + 1 = omega (arith, past, c.len.ensures, c.self.inside.bounds.ok.0) in
    no_piece c.self.inside.texts.items bounds c.args.at le ∙ ap (λ ps. place_in (slice_get ps c.args.at)) c.self.view_is
