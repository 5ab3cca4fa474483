use Rattle.std.proofs.Common.{◌∙◌, sym, arith, refl}
use Rattle.std.proofs.lemmas.Bool.{true≢false}
use Rattle.sieve_lexer.proofs.Answered.{tag_token, no_tag_token}
use Rattle.sieve_lexer.proofs.reader.tag_at.Goals as goal
use Rattle.sieve_lexer.proofs.reader.tag_at.Goals.{then-place-script-via-then-place-script, then-place-script-via-else-place-script+then-not-begins_identifier}

pub returns-then-place-script : goal.returns-then-place-script
returns-then-place-script c =
    no_tag_token c.args.script.now c.args.place c.requires.first (λ first. elim c.then-place-script.branch [
      | then-place-script-via-then-place-script w ↦ omega arith
      | then-place-script-via-else-place-script+then-not-begins_identifier w ↦ absurd (true≢false (sym first ∙ sym w.begins_identifier.ensures ∙ w.if-not-begins_identifier.true))
    ])

pub returns : goal.returns
returns c =
    (refl, tag_token c.args.script.now c.args.place c.word_end-end.result c.requires.first (omega arith) (sym c.if-not-begins_identifier.ensures) c.word_end-end.ensures)
