use Rattle.std.proofs.Common.{◌≡◌, ◌++◌, ◌∷◌, [], ap, ◌∙◌, sym, true}
use Rattle.std.proofs.lemmas.List.{append_assoc}
use Rattle.quoted_printable.specs.Pieces.{is_held}
use Rattle.quoted_printable.specs.Private.{goes_on}
use Rattle.quoted_printable.proofs.Extended.{extends_more, extends_then}
use Rattle.quoted_printable.proofs.Held.{held_more}
use Rattle.quoted_printable.proofs.decoder.hold.Goals as goal

pub octets-preserved : goal.octets-preserved
octets-preserved c =
    let held = c.octets.held.items in
    let octet = c.in-Some.octet.now in
    let after = c.in-Some.after.now in
    let pushed = c.in_ok-push.ensures.items in
    let on : goes_on held octet ≡ true = ap (λ l. goes_on l octet) (sym c.deref.ensures.value) ∙ sym c.goes_on.ensures ∙ c.if-not-goes_on.false in
    record {
      held = ap is_held pushed ∙ held_more held octet c.octets.invariant.held on;
      octets = ap (λ l. l ++ after) pushed
          ∙ append_assoc held (octet ∷ []) after
          ∙ ap (λ l. held ++ l) (sym c.in-Some.ensures.cases.0)
          ∙ c.octets.invariant.octets;
      more = extends_then _ _ _ c.octets.invariant.more (extends_more _ _ _ pushed);
    }
