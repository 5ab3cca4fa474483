use Rattle.std.proofs.Common.{◌≡◌, ◌<◌, ◌∙◌, ap, arith, length, drop}
use Rattle.mime_decode.specs.Mail.{Part}
use Rattle.mail_matching.specs.Selection.{current_or_root, first_and_below}
use Rattle.mime_decode.proofs.MailLemmas.{at_part, tree_number}
use Rattle.mail_matching.proofs.Scopes.{below_within, current_is, first_below}
use Rattle.mail_matching.proofs.headers.numbers_in_scope.Goals as goal

pub below-requires : goal.below-requires
below-requires c = omega (arith, c.if-prove.false, c.parts-parts.ensures.value, tree_number c.args.message.now c.tree.ensures.mail, ap length c.tree.ensures.tree)

pub overflow_add-result : goal.overflow_add-result
overflow_add-result c =
    let mail = c.args.message.now in
    let current = c.unwrap_or-current.result in
    let below = c.below.result in
    let lt : current < length mail.parts = omega (arith, c.if-prove.false, c.parts-parts.ensures.value) in
    let at = at_part mail c.tree.ensures.mail (λ (p : Part). below ≡ p.below) current lt (λ d. rw c.tree.ensures.tree at (c.below.ensures d)) in
    omega (arith, below_within mail c.parts-parts.ensures.mail current below lt at, c.parts-parts.ensures.mail.few_parts)

pub returns-in-PartAndBelow-clause-parts : goal.returns-in-PartAndBelow-clause-parts
returns-in-PartAndBelow-clause-parts c =
    let mail = c.args.message.now in
    let current = c.unwrap_or-current.result in
    let below = c.below.result in
    let lt : current < length mail.parts = omega (arith, c.if-prove.false, c.parts-parts.ensures.value) in
    let at = at_part mail c.tree.ensures.mail (λ (p : Part). below ≡ p.below) current lt (λ d. rw c.tree.ensures.tree at (c.below.ensures d)) in
    let whole = first_below mail.parts current below lt at in
    let place : current ≡ current_or_root c.args.reach.current = c.unwrap_or-current.ensures ∙ current_is c.args.reach.current in
    rw c.in-PartAndBelow.is (whole ∙ ap (λ n. first_and_below (drop n mail.parts)) place)

pub returns-in-PartAndBelow-clause-within : goal.returns-in-PartAndBelow-clause-within
returns-in-PartAndBelow-clause-within c =
    let mail = c.args.message.now in
    let current = c.unwrap_or-current.result in
    let below = c.below.result in
    let lt : current < length mail.parts = omega (arith, c.if-prove.false, c.parts-parts.ensures.value) in
    let at = at_part mail c.tree.ensures.mail (λ (p : Part). below ≡ p.below) current lt (λ d. rw c.tree.ensures.tree at (c.below.ensures d)) in
    omega (arith, below_within mail c.parts-parts.ensures.mail current below lt at)
