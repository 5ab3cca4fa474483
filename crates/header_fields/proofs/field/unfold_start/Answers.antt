use Rattle.std.proofs.Common.{◌≡◌, ◌∙◌, true, sym, ap}
use Rattle.std.proofs.lemmas.Bool.{true≢false}
use Rattle.header_fields.specs.Fields.{Field}
use Rattle.header_fields.specs.Header.{has_feed}
use Rattle.header_fields.proofs.Continuations.{feed_after}
use Rattle.header_fields.proofs.field.unfold_start.Goals as goal

pub returns-in_err-joined-in-Some-clause-no_memory : goal.returns-in_err-joined-in-Some-clause-no_memory
returns-in_err-joined-in-Some-clause-no_memory c = λ plain.
    let text = c.after_colon-text.result.now in
    let here = rw (ap (λ u. u.text) c.new.ensures) at c.in-Some.ensures.steps.here in
    let feed : has_feed text ≡ true = feed_after text _ c.in-Some.line here c.if-line-text.true in
    absurd (true≢false (sym feed ∙ ap has_feed c.after_colon-text.ensures ∙ ap (λ (f : Field). f.folded) c.field.view_is ∙ plain))

pub returns-in_ok-joined-in-Some-clause-lent : goal.returns-in_ok-joined-in-Some-clause-lent
returns-in_ok-joined-in-Some-clause-lent c = λ plain.
    let text = c.after_colon-text.result.now in
    let here = rw (ap (λ u. u.text) c.new.ensures) at c.in-Some.ensures.steps.here in
    let feed : has_feed text ≡ true = feed_after text _ c.in-Some.line here c.if-line-text.true in
    absurd (true≢false (sym feed ∙ ap has_feed c.after_colon-text.ensures ∙ ap (λ (f : Field). f.folded) c.field.view_is ∙ plain))
