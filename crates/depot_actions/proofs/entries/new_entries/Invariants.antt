use Rattle.std.proofs.Common.{◌≡◌, map, take}
use Rattle.mime_decode.specs.Mail.{Mail}
use Rattle.part_store.specs.Standing.{draft_of}
use Rattle.depot_actions.specs.Drafts.{draft_of_action}
use Rattle.depot_actions.specs.Filing.{AreKept}
use Rattle.depot_actions.proofs.entries.new_entries.Given as goal

abbrev pub invariant-loop-action : goal.invariant-loop-action
invariant-loop-action l =
    (mail : Mail) → mail.octets ≡ l.octets → AreKept mail l.kept → map draft_of l.entries.items ≡ map (draft_of_action mail) (take l.action-index l.actions)
