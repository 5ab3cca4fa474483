use Rattle.std.proofs.Common.{[], ap, subst, sym, ◌∙◌}
use Rattle.catalog.specs.Catalog.{messages_of, parts_of}
use Rattle.catalog.specs.Index.{IsIndex}
use Rattle.catalog.specs.Making.{parts_above}
use Rattle.catalog.proofs.CatalogLemmas.{filed_at, got_at, part_is_stored, piece_more, same_messages, same_parts, whole_text}
use Rattle.catalog.specs.Keeping.{known_as, known_of}
use Rattle.catalog.specs.Making.{messages_in, parts_in}
use Rattle.std.proofs.Common.{◌≡◌, map, ◌++◌}
use Rattle.catalog.specs.Catalog.{piece_of}
use Rattle.catalog.proofs.catalog.catalog_text.Goals as goal

pub loop-entry-preserved : goal.loop-entry-preserved
loop-entry-preserved c = λ all same.
    let at = c.loop-entry.entry-index in
    let got = got_at c.args.kept.now at c.entry-item.result c.loop-entry-test.true c.entry-item.is in
    let (filed, found, is) = filed_at c.args.kept.now all at c.entry-item.result same got in
    let parts = ap parts_in same ∙ same_parts all in
    let entries = c.in_ok-entries.ensures ∙ parts in
    let above = ap (parts_above c.args.after) (c.deref-2.ensures.value ∙ entries) in
    let first = subst (λ ps. IsIndex c.in_ok-parts.parts ps []) (c.deref.ensures.value ∙ entries) c.in_ok-parts.ensures in
    let second = subst (λ ms. IsIndex c.in_ok-messages.messages (parts_above c.args.after (parts_of all)) ms) (ap messages_in same ∙ same_messages all)
    (subst (λ ps. IsIndex c.in_ok-messages.messages ps (messages_in (map known_as c.args.kept.now))) above c.in_ok-messages.ensures) in
    c.in_ok-put_piece.ensures all filed (parts_above c.args.after (parts_of all)) is first second (λ is_above. part_is_stored c.args.after all at filed found is_above)
    ∙ piece_more c.args.after all all at filed c.loop-entry.text.items found (c.loop-entry.invariant all same)

pub returns : goal.returns
returns c = λ all same.
    whole_text c.args.after c.args.kept.now c.loop-entry.entry-index all c.loop-entry.text.items c.loop-entry-test.false same (c.loop-entry.invariant all same)
