use Rattle.depot_actions.proofs.PlainMedia.{accepted_plain, calls_plain, sessions_plain}
use Rattle.depot_actions.proofs.laws.media_types_have_no_line_break.Goals as goal

pub returns-clause-accepted : goal.returns-clause-accepted
returns-clause-accepted c = accepted_plain

pub returns-clause-calls : goal.returns-clause-calls
returns-clause-calls c = calls_plain

pub returns-clause-sessions : goal.returns-clause-sessions
returns-clause-sessions c = sessions_plain
