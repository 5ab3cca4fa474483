use Rattle.std.proofs.Common.{◌≡◌, [], ◌∷◌, sym, ap, ◌∙◌, ℕ, List}
use Rattle.bytecode_listing.specs.Tokens.{InText, Text, tokens_from, tokens_of}
use Rattle.bytecode_listing.specs.Items.{text_at, text_in}
use Rattle.bytecode_listing.proofs.Lexing.{said_stops, said_goes_on, text_ends, text_broken, unequal}
use Rattle.bytecode_listing.proofs.tokens.text_after.Goals as goal

pub returns-then-octet-eq34 : goal.returns-then-octet-eq34
returns-then-octet-eq34 c =
    let whole : text_in (Text c.octets.text.items) c.args.left (tokens_of c.in-Some.after.now) ≡ text_at (tokens_from (InText c.args.left []) c.args.octets.now) =
    sym (text_ends c.args.left c.octets.text.items c.in-Some.after.now)
    ∙ ap (λ (t : List ℕ). text_at (tokens_from (InText c.args.left c.octets.text.items) t)) (ap (λ n. n ∷ c.in-Some.after.now) (sym c.if-octet-eq34.true) ∙ sym c.in-Some.ensures)
    ∙ c.octets.invariant in
    rw (← whole) c.whole.ensures

pub returns-in_default-said_of : goal.returns-in_default-said_of
returns-in_default-said_of c =
    sym c.octets.invariant
    ∙ said_stops c.args.left c.octets.text.items c.octets.rest.now c.in-Some.after.now c.in-Some.octet c.in-Some.ensures (unequal c.in-Some.octet 34 c.if-octet-eq34.false) (sym c.in_default-said_of.ensures.said)

pub octets-preserved : goal.octets-preserved
octets-preserved c =
    let step = said_goes_on c.args.left c.octets.text.items c.octets.rest.now c.in-Some.after.now c.in-Some.octet c.in-Some-said_of.said c.in-Some-said_of.after.now c.in-Some.ensures (unequal c.in-Some.octet 34 c.if-octet-eq34.false) (sym c.in-Some-said_of.ensures.said) in
    rw c.in_ok-push.ensures.items (ap text_at (sym step) ∙ c.octets.invariant)

pub returns : goal.returns
returns c =
    sym c.octets.invariant
    ∙ ap (λ (t : List ℕ). text_at (tokens_from (InText c.args.left c.octets.text.items) t)) c.in_default.ensures
    ∙ text_broken c.args.left c.octets.text.items
