use Rattle.std.proofs.Common.{◌≡◌, arith, drop, length}
use Rattle.sieve_explain.specs.Notes.{notes_from}
use Rattle.sieve_explain.specs.Private.{known_view, max_noted}
use Rattle.sieve_explain.proofs.NoteLemmas.{found_enough, notes_more}
use Rattle.sieve_explain.proofs.notes.notes_from.Goals as goal

pub returns-then-len-eq-MAX_NOTED : goal.returns-then-len-eq-MAX_NOTED
returns-then-len-eq-MAX_NOTED c =
    let script = c.args.source.now.octets.now in
    let tokens = c.args.tokens.now in
    let known = known_view script c.args.known in
    let found = c.loop-place.found.items in
    let full : length found ≡ max_noted = omega (arith, c.if-len-eq-MAX_NOTED.true, c.len.ensures) in
    found_enough found (notes_from script known c.loop-place.inside (drop c.loop-place.place tokens)) (notes_from script known 0 tokens) c.loop-place.invariant.all full

pub loop-place-preserved : goal.loop-place-preserved
loop-place-preserved c =
    let script = c.args.source.now.octets.now in
    let at = c.loop-place.invariant in
    record {
      all = notes_more script (known_view script c.args.known) c.args.tokens.now c.tokens_from-rest.result.now c.loop-place.found.items c.push_noted.new.out.items
          c.loop-place.place c.loop-place.inside c.inside_behind-inside.result _ c.note_at.result c.loop-place-test.true c.tokens_from-rest.ensures
          c.note_at.ensures c.inside_behind-inside.ensures.depth c.in_ok-push_noted.ensures.kept at.all;
      few = omega (arith, c.in_ok-push_noted.ensures.few, at.few, c.if-len-eq-MAX_NOTED.false, c.len.ensures);
      inside = omega (arith, c.inside_behind-inside.ensures.few, at.inside);
    }
