use Rattle.sieve_check.proofs.Named.{command_called}
use Rattle.sieve_check.proofs.laws.acts_are_called_as_their_commands.Goals as goal

pub returns : goal.returns
returns c = λ s name read act string. command_called s name read (act, string)
