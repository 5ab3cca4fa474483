use Rattle.std.proofs.Common.{◌∙◌, ap, sym, map, length, arith}
use Rattle.std.proofs.lemmas.List.{length-map}
use Rattle.std.specs.Prelude.{Err}
use Rattle.std.specs.Option.{option_or}
use Rattle.sieve_parser.specs.View.{argument_tree}
use Rattle.sieve_check.specs.Arguments.{missing_cause, sound}
use Rattle.sieve_check.specs.Reading.{given_of, left_of, read_of}
use Rattle.sieve_check.proofs.Unread.{behind_tag, behind_tags}
use Rattle.sieve_check.proofs.signature.Signature.read.Goals as goal

pub returns-in_default-with_argument : goal.returns-in_default-with_argument
returns-in_default-with_argument c =
    let reading = c.tags.reading in
    let all = map argument_tree c.args.arguments.now in
    let name = c.in-Some.name.now in
    let tag = c.in-Some-tag_named.tag in
    sym c.tags.invariant
    ∙ behind_tag c.args.self all (given_of reading) (left_of reading) name (map argument_tree c.in-Some.rest.now) tag c.in-Some-add.tags c.in-Some.ensures (sym c.tag_named.ensures ∙ c.in-Some-tag_named.is) (sym c.add.ensures ∙ c.in-Some-add.is)
    ∙ c.in_default-with_argument.ensures c.args.self all name
    ∙ ap Err (sym c.about-in_default-with_argument.ensures)

pub tags-smaller : goal.tags-smaller
tags-smaller c =
    omega (arith, c.in-Some-with_argument.ensures.0, ap length c.in-Some.ensures, length-map c.tags.reading.positional.now argument_tree, length-map c.in-Some.rest.now argument_tree)

-- where no tag is next, nothing or the first of two is wrong
pub returns-in-Some-positional_cause : goal.returns-in-Some-positional_cause
returns-in-Some-positional_cause c =
    let reading = c.tags.reading in
    let all = map argument_tree c.args.arguments.now in
    sym c.tags.invariant
    ∙ behind_tags c.args.self all (given_of reading) (left_of reading) c.in_default.ensures
    ∙ ap (λ first. sound (option_or first (missing_cause c.args.self reading.tags all)) (read_of reading)) (sym c.in-Some-positional_cause.ensures)

pub returns-in-Some-missing_cause : goal.returns-in-Some-missing_cause
returns-in-Some-missing_cause c =
    let reading = c.tags.reading in
    let all = map argument_tree c.args.arguments.now in
    sym c.tags.invariant
    ∙ behind_tags c.args.self all (given_of reading) (left_of reading) c.in_default.ensures
    ∙ ap (λ first. sound (option_or first (missing_cause c.args.self reading.tags all)) (read_of reading)) (sym c.in_default-positional_cause.ensures)
    ∙ ap (λ cause. sound cause (read_of reading)) (sym c.in-Some-missing_cause.ensures)

pub returns-in-None : goal.returns-in-None
returns-in-None c =
    let reading = c.tags.reading in
    let all = map argument_tree c.args.arguments.now in
    sym c.tags.invariant
    ∙ behind_tags c.args.self all (given_of reading) (left_of reading) c.in_default.ensures
    ∙ ap (λ first. sound (option_or first (missing_cause c.args.self reading.tags all)) (read_of reading)) (sym c.in_default-positional_cause.ensures)
    ∙ ap (λ cause. sound cause (read_of reading)) (sym c.in-None.ensures)
