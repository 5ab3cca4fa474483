use Rattle.std.proofs.Common.{codes, refl, sym, ◌∙◌}
use Rattle.std.proofs.lemmas.Result.{err_from_is_err_and}
use Rattle.bytecode_listing.specs.Tokens.{tokens_of}
use Rattle.bytecode_listing.specs.Items.{begins_with, number_item}
use Rattle.bytecode_listing.proofs.Shorter.{number_item_leaves}
use Rattle.bytecode_listing.proofs.Loop.{IsItem, goes_on, ends, is_done, shorter}
use Rattle.bytecode_listing.proofs.assembling.numbers_of.Goals as goal

is_item : IsItem (begins_with (codes "number")) number_item
is_item = record { none = refl; leaves = number_item_leaves }

pub returns-in_err-number : goal.returns-in_err-number
returns-in_err-number c =
    let p = err_from_is_err_and c.from_residual.result c.from_residual.ensures.1 in
    rw (p.1, p.2) (ends (begins_with (codes "number")) number_item is_item c.in_err-number.field-0.0 c.table.numbers.items (tokens_of c.table.rest.now) _ (sym c.begins_with.ensures ∙ c.table-test.true) (c.in_err-number.ensures c.table.numbers.items) c.table.invariant)

pub table-preserved : goal.table-preserved
table-preserved c =
    rw c.in_ok-push.ensures.items (goes_on (begins_with (codes "number")) number_item is_item c.table.numbers.items (tokens_of c.table.rest.now) (tokens_of c.in_ok-number.after.now) c.in_ok-number.number _ (sym c.begins_with.ensures ∙ c.table-test.true) (c.in_ok-number.ensures c.table.numbers.items) c.table.invariant)

pub table-smaller : goal.table-smaller
table-smaller c = shorter (begins_with (codes "number")) number_item is_item c.table.numbers.items (tokens_of c.table.rest.now) (tokens_of c.in_ok-number.after.now) c.in_ok-number.number (c.in_ok-number.ensures c.table.numbers.items)

pub returns : goal.returns
returns c = is_done (begins_with (codes "number")) number_item c.table.numbers.items (tokens_of c.table.rest.now) _ (sym c.begins_with.ensures ∙ c.table-test.false) c.table.invariant
