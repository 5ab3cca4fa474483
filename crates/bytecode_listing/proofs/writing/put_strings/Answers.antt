use Rattle.std.proofs.Common.{subst, ◌∙◌, arith}
use Rattle.std.proofs.lemmas.Grind.{common_steps}
use Rattle.std.proofs.lemmas.List.Elements.{All-more}
use Rattle.bytecode_listing.specs.Listing.{AreOctets}
use Rattle.bytecode_listing.proofs.writing.put_strings.Goals as goal

pub table-preserved : goal.table-preserved
table-preserved c = record {
  lines = grind (arith, common_steps);
  octets = All-more AreOctets c.args.strings.now c.table.text-index c.text-item.result c.table-test.true c.table.invariant.octets (subst AreOctets (c.as_slice.ensures ∙ c.text-item.is) c.put_string.ensures.octets);
}
