use Rattle.depot_actions.proofs.KeepingRows.{filed_row}
use Rattle.depot_actions.proofs.cataloguing.listed_of.Goals as goal

pub returns : goal.returns
returns c = λ octets. filed_row c.args.row.now _ _ _ octets _ c.as_slice.ensures.value c.as_slice-2.ensures.value c.as_slice-3.ensures.value c.is_message.ensures
