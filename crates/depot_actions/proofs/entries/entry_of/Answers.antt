use Rattle.std.proofs.Common.{◌≡◌, ◌∙◌, Some, ap, option_copied, sym}
use Rattle.depot_actions.proofs.Keeping.{at_default, kept_is_drafted}
use Rattle.depot_actions.proofs.entries.entry_of.Goals as goal

pub returns-in-Keep : goal.returns-in-Keep
returns-in-Keep c = λ mail is are. rw c.in-Keep.is (c.message_entry.ensures mail is)

pub returns-in-File : goal.returns-in-File
returns-in-File c = λ mail is are. rw (c.in-File.is, ← c.as_slice.ensures) (c.message_entry-in-File.ensures mail is)

pub returns-in-Store : goal.returns-in-Store
returns-in-Store c = λ mail is are.
    let keeps = rw c.in-Store.is at c.requires in
    let here : c.index-kept-part.result ≡ Some c.unwrap.result.now = sym c.as_ref.ensures.value ∙ ap option_copied c.unwrap.ensures in
    rw (c.in-Store.is, ← c.as_slice-in-Store.ensures)
    (kept_is_drafted mail c.args.kept.now c.as_slice-in-Store.result.now c.in-Store.part c.unwrap.result.now _ are (at_default c.args.kept.now c.in-Store.part c.index-kept-part.result c.unwrap.result.now keeps c.index-kept-part.is here) c.entry.ensures)
