use Rattle.part_store.proofs.Siblings.{row_shares}
use Rattle.part_store.specs.Standing.{HasContent}
use Rattle.part_store.specs.Tables.{contents_tree}
use Rattle.std.proofs.Common.{refl, subst, sym, ◌∙◌}
use Rattle.part_store.proofs.listing.sharing_row.Goals as goal

pub returns-clause-shown : goal.returns-clause-shown
returns-clause-shown c = λ db xs x single firsts there shows.
    let parts = c.in_ok-number.ensures.parts x shows.0 shows.1 in
    let named = sym (c.deref.ensures.value ∙ parts.digest) in
    row_shares db xs x _ _ shows.0 c.deref.result.now single parts c.deref.ensures.value shows.2 refl refl refl refl refl
    (c.in_ok-first.ensures.named db xs x firsts there (subst (λ d. HasContent (db contents_tree) d x.octets) named shows.2))

pub returns-clause-noted : goal.returns-clause-noted
returns-clause-noted c = λ db xs x firsts there shows.
    let parts = c.in_ok-number.ensures.parts x shows.0 shows.1 in
    let named = sym (c.deref.ensures.value ∙ parts.digest) in
    c.in_ok-first.ensures.noted db xs x firsts there (subst (λ d. HasContent (db contents_tree) d x.octets) named shows.2)
