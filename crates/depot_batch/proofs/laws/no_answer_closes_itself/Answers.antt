use Rattle.std.proofs.Common.{refl}
use Rattle.part_store.specs.Entries.{no_entries}
use Rattle.depot_actions.proofs.PlainMedia.{calls_plain}
use Rattle.depot_batch.proofs.ClosingAnswers.{brief_closes_none, closes_none}
use Rattle.depot_batch.proofs.laws.no_answer_closes_itself.Goals as goal

pub returns : goal.returns
returns g c = record {
  alone = closes_none g.S.Store;
  together = brief_closes_none;
  begun = λ name octets outcome said old new come clean before stands calls steps.
      closes_none g.S.Store name octets outcome said old new come clean before stands (calls_plain calls no_entries before steps refl);
}
