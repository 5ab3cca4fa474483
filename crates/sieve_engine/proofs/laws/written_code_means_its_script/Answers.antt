use Rattle.sieve_engine.proofs.Written.{written_accepted, written_runs, written_means, written_evaluates, written_refused}
use Rattle.sieve_engine.proofs.laws.written_code_means_its_script.Goals as goal

pub returns-clause-accepted : goal.returns-clause-accepted
returns-clause-accepted c = written_accepted

pub returns-clause-runs : goal.returns-clause-runs
returns-clause-runs c = written_runs

pub returns-clause-means : goal.returns-clause-means
returns-clause-means c = written_means

pub returns-clause-evaluates : goal.returns-clause-evaluates
returns-clause-evaluates c = written_evaluates

pub returns-clause-refused : goal.returns-clause-refused
returns-clause-refused c = written_refused
