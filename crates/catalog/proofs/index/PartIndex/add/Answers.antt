use Rattle.std.proofs.Common.{◌++◌, ap, ◌∙◌}
use Rattle.catalog.specs.Adding.{first_with}
use Rattle.catalog.proofs.AddLemmas.{one_more_message}
use Rattle.catalog.proofs.index.PartIndex.add.Goals as goal

pub returns : goal.returns
returns c = λ entries messages is.
    record {
      has_entries = is.has_entries;
      has_messages = λ digest stored.
          c.in_ok-add_digests.ensures.messages entries is.has_entries digest stored
          ∙ ap (λ l. l ++ first_with c.args.number c.args.digests.now digest) (is.has_messages digest stored)
          ∙ one_more_message digest messages (record { number = c.args.number; digests = c.args.digests.now });
    }
