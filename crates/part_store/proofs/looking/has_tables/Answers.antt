use Rattle.std.proofs.Common.{ap, ◌∙◌}
use Rattle.part_store.specs.Looking.{are_tables}
use Rattle.part_store.proofs.Looks.{all_three}
use Rattle.part_store.proofs.looking.has_tables.Goals as goal

pub returns : goal.returns
returns c =
    c.are_stores.ensures ∙ all_three c.as_slice-tables.result.now c.index-tables-0.result c.index-tables-1.result c.index-tables-2.result c.if-tables-ne3.false
    c.index-tables-0.is c.index-tables-1.is c.index-tables-2.is ∙ ap are_tables c.as_slice-tables.ensures
