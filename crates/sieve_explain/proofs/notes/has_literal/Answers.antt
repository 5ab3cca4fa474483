use Rattle.std.proofs.Common.{◌≡◌, ◌∙◌, ◌<◌, ◌&&◌, ℕ, true, false, ap, length, sym}
use Rattle.std.specs.Prelude.{Option, is_some}
use Rattle.sieve_explain.proofs.Levels.{counts, first_here, level, not_first, one_more}
use Rattle.sieve_explain.specs.Notes.{begins_literal, closes_group, is_literal_at, is_member, opens_group}
use Rattle.sieve_explain.proofs.notes.has_literal.Goals as goal

pub returns-then-is_literal_here : goal.returns-then-is_literal_here
returns-then-is_literal_here c =
    let script = c.args.script.now in
    let word = c.args.word.now in
    let other = c.args.other.now in
    let tokens = c.args.tokens.now in
    let place = c.loop-place.place in
    let at = c.loop-place.invariant in
    let within : place < length tokens = c.loop-place-test.true in
    let own : c.is_level.result ≡ is_member tokens place = c.is_level.ensures ∙ level opens_group closes_group tokens place _ _ at.opened at.closed in
    let yes_is : is_literal_at script word other tokens place ≡ true =
    sym (λ i. own i && begins_literal script word other tokens place) ∙ sym c.is_literal_here.ensures ∙ c.if-is_literal_here.true in
    ap (λ (o : Option ℕ). is_some o) (first_here (is_literal_at script word other tokens) place (length tokens) within yes_is ∙ at.left)

pub loop-place-preserved : goal.loop-place-preserved
loop-place-preserved c =
    let script = c.args.script.now in
    let word = c.args.word.now in
    let other = c.args.other.now in
    let tokens = c.args.tokens.now in
    let place = c.loop-place.place in
    let at = c.loop-place.invariant in
    let within : place < length tokens = c.loop-place-test.true in
    let own : c.is_level.result ≡ is_member tokens place = c.is_level.ensures ∙ level opens_group closes_group tokens place _ _ at.opened at.closed in
    let no_is : is_literal_at script word other tokens place ≡ false =
    sym (λ i. own i && begins_literal script word other tokens place) ∙ sym c.is_literal_here.ensures ∙ c.if-is_literal_here.false in
    record {
      left = not_first (is_literal_at script word other tokens) place (length tokens) within no_is ∙ at.left;
      opened = counts opens_group tokens place _ _ _ _ within at.opened c.opens_group.ensures c.counted-opened.ensures;
      closed = counts closes_group tokens place _ _ _ _ within at.closed c.closes_group.ensures c.counted-closed.ensures;
      few = one_more c.loop-place.closed place c.counted-closed.result c.closes_group.result at.few c.counted-closed.ensures;
      some = one_more c.loop-place.opened place c.counted-opened.result c.opens_group.result at.some c.counted-opened.ensures;
    }
