use Rattle.std.proofs.Common.{◌≡◌, ◌<◌, ℕ, Option, Some, IfSome, length, ◌∙◌, sym, ap, arith, subst}
use Rattle.mime_decode.specs.Mail.{Mail, Part}
use Rattle.mime_decode.specs.Visited.{visited}
use Rattle.mime_decode.proofs.MailLemmas.{Holds, holds_at, holds_mail, holds_number}
use Rattle.mime_decode.proofs.Visited.{below_few, below_visited}
use Rattle.mime_decode.proofs.message.Message.visited.Goals as goal

-- a part that is there, by the option that it is
there : (mail : Mail) (given : Option ℕ) (place : ℕ) → given ≡ Some place → IfSome given (λ part. part < length mail.parts) → place < length mail.parts
there mail given place is within = subst (λ (o : Option ℕ). IfSome o (λ part. part < length mail.parts)) is within

pub overflow_add-first : goal.overflow_add-first
overflow_add-first c =
    let known = holds_mail (record { readable = c.self.invariant.0; tree_is = c.self.invariant.1; mail_is = c.self.view_is }) in
    omega (arith, there c.args.self.now c.args.part c.in-Some.part c.in-Some.is c.requires, known.few_parts)

pub below-requires : goal.below-requires
below-requires c =
    let number = holds_number (record { readable = c.self.invariant.0; tree_is = c.self.invariant.1; mail_is = c.self.view_is }) in
    omega (arith, number, there c.args.self.now c.args.part c.in-Some.part c.in-Some.is c.requires)

pub overflow_add-result : goal.overflow_add-result
overflow_add-result c =
    let within = there c.args.self.now c.args.part c.in-Some.part c.in-Some.is c.requires in
    let holds : Holds c.self.inside.octets.now c.self.inside.tree c.args.self.now = record { readable = c.self.invariant.0; tree_is = c.self.invariant.1; mail_is = c.self.view_is } in
    let known = holds_mail holds in
    let few = below_few c.args.self.now c.in-Some.part c.below.result known within (holds_at (λ (p : Part). c.below.result ≡ p.below) c.in-Some.part holds within c.below.ensures) in
    omega (arith, few, known.few_parts)

pub returns-in-Some-clause-parts : goal.returns-in-Some-clause-parts
returns-in-Some-clause-parts c =
    let within = there c.args.self.now c.args.part c.in-Some.part c.in-Some.is c.requires in
    let holds : Holds c.self.inside.octets.now c.self.inside.tree c.args.self.now = record { readable = c.self.invariant.0; tree_is = c.self.invariant.1; mail_is = c.self.view_is } in
    below_visited c.args.self.now c.in-Some.part c.below.result (holds_mail holds) within (holds_at (λ (p : Part). c.below.result ≡ p.below) c.in-Some.part holds within c.below.ensures)
    ∙ ap (λ o. visited o c.args.self.now) (sym c.in-Some.is)

pub returns-in-Some-clause-within : goal.returns-in-Some-clause-within
returns-in-Some-clause-within c =
    let within = there c.args.self.now c.args.part c.in-Some.part c.in-Some.is c.requires in
    let holds : Holds c.self.inside.octets.now c.self.inside.tree c.args.self.now = record { readable = c.self.invariant.0; tree_is = c.self.invariant.1; mail_is = c.self.view_is } in
    below_few c.args.self.now c.in-Some.part c.below.result (holds_mail holds) within (holds_at (λ (p : Part). c.below.result ≡ p.below) c.in-Some.part holds within c.below.ensures)

pub returns-in-Some-clause-mail : goal.returns-in-Some-clause-mail
returns-in-Some-clause-mail c = holds_mail (record { readable = c.self.invariant.0; tree_is = c.self.invariant.1; mail_is = c.self.view_is })
