use Rattle.std.proofs.Common.{◌≤◌, ◌-◌, ◌+◌, ◌*◌, drop, length}
use Rattle.mime_decode.specs.Visited.{numbers_from, visited}
use Rattle.sieve_check.specs.Bounded.{AreBoundedCommands, AreBoundedBranches}
use Rattle.sieve_check.specs.Extent.{command_extent, commands_extent}
use Rattle.sieve_check.specs.TypedView.{command_form, commands_form}
use Rattle.sieve_check.specs.Private.{branch_forms, else_form}
use Rattle.sieve_meaning.specs.Meaning.{commands_do, choice_does, turns}
use Rattle.sieve_meaning.specs.Traced.{commands_events, choice_events, turns_events}
use Rattle.sieve_meaning.specs.Private.{turn_does, turn_events}
use Rattle.sieve_meaning.proofs.Steps.{Goes}
use Rattle.sieve_meaning.proofs.evaluator.Evaluator.+commands.Given as goal

-- what is left to do of the branches ends as all of the command does
abbrev pub invariant-command-branches : goal.invariant-command-branches
invariant-command-branches g l =
    AreBoundedBranches (branch_forms (drop l.branch-index l.branch-items) (else_form l.otherwise))
    × Goes g.W.Watching.has_heard l.initial.watcher l.watcher (λ bs x. choice_does l.subject.message.now l.subject.part bs x) (λ bs x. choice_events l.subject.message.now l.subject.part bs x)
    (branch_forms l.branch-items (else_form l.otherwise)) (branch_forms (drop l.branch-index l.branch-items) (else_form l.otherwise)) l.initial.self l.self

-- what is left to do of the commands ends as all of them do
abbrev pub invariant-commands-commands : goal.invariant-commands-commands
invariant-commands-commands g l =
    AreBoundedCommands (commands_form (drop l.command-index l.commands))
    × Goes g.W.Watching.has_heard l.initial.watcher l.watcher (λ cs x. commands_do l.subject.message.now l.subject.part cs x) (λ cs x. commands_events l.subject.message.now l.subject.part cs x)
    (commands_form l.commands) (commands_form (drop l.command-index l.commands)) l.initial.self l.self

-- the turns that are left end as all of them do
abbrev pub invariant-for_every_part-parts : goal.invariant-for_every_part-parts
invariant-for_every_part-parts g l =
    (l.part-end ≤ length l.subject.message.now.parts)
    × Goes g.W.Watching.has_heard l.initial.watcher l.watcher (λ ps x. turns (turn_does l.subject.message.now (commands_form l.block)) ps x)
    (λ ps x. turns_events l.at (turn_does l.subject.message.now (commands_form l.block)) (turn_events l.subject.message.now (commands_form l.block)) ps x)
    (visited l.subject.part l.subject.message.now) (numbers_from l.part (l.part-end - l.part)) l.initial.self l.self

-- the octets that the commands are written with at least, and which of the calls comes first
abbrev pub decreases-commands : goal.decreases-commands
decreases-commands g l = 4 * commands_extent (commands_form l.commands.now) + 3

abbrev pub decreases-command : goal.decreases-command
decreases-command g l = 4 * command_extent (command_form l.command.now) + 2

abbrev pub decreases-for_every_part : goal.decreases-for_every_part
decreases-for_every_part g l = 4 * commands_extent (commands_form l.block.now) + 5
