use Rattle.std.proofs.Common.{◌≡◌, ◌∙◌, ◌<◌, ◌&&◌, true, false, length, ap, sym}
use Rattle.std.specs.List.{slice_get}
use Rattle.sieve_explain.proofs.Levels.{counts, level, one_more, first_here, not_first}
use Rattle.std.specs.Option.{option_and_then}
use Rattle.sieve_explain.specs.Notes.{closes_block, is_one_at, is_own, is_own_word, opens_block}
use Rattle.sieve_explain.specs.Private.{texts_of}
use Rattle.sieve_explain.proofs.notes.own_word.Goals as goal

pub returns-then-is_own_word : goal.returns-then-is_own_word
returns-then-is_own_word c =
    let script = c.args.script.now in
    let words = texts_of c.args.words.now in
    let block = c.args.block.now in
    let place = c.loop-place.place in
    let at = c.loop-place.invariant in
    let within : place < length block = c.loop-place-test.true in
    let own : c.is_level.result ≡ is_own block place = c.is_level.ensures ∙ level opens_block closes_block block place _ _ at.opened at.closed in
    let here : is_own_word script words block place ≡ true =
    sym (λ i. own i && is_one_at script words (c.token_at-token.ensures i)) ∙ sym c.is_own_word.ensures ∙ c.if-is_own_word.true in
    c.token_at-token.ensures ∙ ap (option_and_then (slice_get block)) (first_here (is_own_word script words block) place (length block) within here ∙ at.left)

pub loop-place-preserved : goal.loop-place-preserved
loop-place-preserved c =
    let script = c.args.script.now in
    let words = texts_of c.args.words.now in
    let block = c.args.block.now in
    let place = c.loop-place.place in
    let at = c.loop-place.invariant in
    let within : place < length block = c.loop-place-test.true in
    let own : c.is_level.result ≡ is_own block place = c.is_level.ensures ∙ level opens_block closes_block block place _ _ at.opened at.closed in
    let no_is : is_own_word script words block place ≡ false =
    sym (λ i. own i && is_one_at script words (c.token_at-token.ensures i)) ∙ sym c.is_own_word.ensures ∙ c.if-is_own_word.false in
    record {
      left = not_first (is_own_word script words block) place (length block) within no_is ∙ at.left;
      opened = counts opens_block block place _ _ _ _ within at.opened c.opens_block.ensures c.counted-opened.ensures;
      closed = counts closes_block block place _ _ _ _ within at.closed c.closes_block.ensures c.counted-closed.ensures;
      few = one_more c.loop-place.closed place c.counted-closed.result c.closes_block.result at.few c.counted-closed.ensures;
      some = one_more c.loop-place.opened place c.counted-opened.result c.opens_block.result at.some c.counted-opened.ensures;
    }
