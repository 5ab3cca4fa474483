-- What commands ask of a depot.
use Rattle.std.specs.Prelude.{ℕ, List}
use Rattle.std.specs.Borrow.{Bor}
use Rattle.depot_actions.specs.DepotState.{Command}
use Rattle.depot_actions.specs.DepotState as depot
use Rattle.depot_jobs.specs.Requests.{Request, Task}
use Rattle.depot_jobs.specs.declared.request.Access.{Access}
use Rattle.depot_jobs.specs.declared.request.Access.TheVariants.{List as ListEntries, Since, Catalog, Remove}
use Rattle.depot_jobs.specs.declared.request.Deposit.{Deposit}
use Rattle.depot_jobs.specs.declared.request.Deposit.TheVariants.{Script, Code, Message}
use Rattle.depot_jobs.specs.declared.request.OnDepot.{OnDepot}
use Rattle.depot_jobs.specs.declared.request.OnDepot.TheVariants.{FromFile, OnUser, Export, Migrate}
use Rattle.depot_cli.specs.declared.task.WithReply.{WithReply}
use Rattle.depot_cli.specs.declared.task.WithReply.TheVariants as replied

-- what the depot is asked to do for a user with a file of these octets
abbrev pub deposit_command : Deposit → List ℕ → List ℕ → Command
deposit_command Script user octets = depot.SetScript user octets
deposit_command Code user octets = depot.SetCode user octets
deposit_command Message user octets = depot.Deliver user octets

-- what it is asked to do with a user's entries
abbrev pub access_command : Access → List ℕ → Command
access_command ListEntries user = depot.ListAll user
access_command (Since number) user = depot.ListSince user number
access_command (Catalog number) user = depot.Catalog user number
access_command (Remove number) user = depot.Remove user number

-- what a command asks of the depot, with the octets of what stands for its file
abbrev pub asked : {F : Type 0} → (F → List ℕ) → OnDepot F → Command
asked octets (FromFile deposit user file) = deposit_command deposit user.now (octets file)
asked octets (OnUser access user) = access_command access user.now
asked octets (Export user number encoding) = depot.Export user.now number encoding
asked octets Migrate = depot.Migrate

-- where it has the name of its file, which has these octets
abbrev pub request_command : Request → List ℕ → Command
request_command request octets = asked (λ name. octets) request

-- where it has its octets
abbrev pub command_of : Task → Command
command_of task = asked (λ octets. octets.items) task

-- a command that has a reply, as a command on a depot
abbrev pub on_depot : {F : Type 0} → WithReply F → OnDepot F
on_depot (replied.FromFile deposit user file) = FromFile deposit user file
on_depot (replied.OnUser access user) = OnUser access user
on_depot replied.Migrate = Migrate

-- where it has the octets of its file
abbrev pub command_with_reply : WithReply (Bor (List ℕ)) → Command
command_with_reply command = asked (λ octets. octets.now) (on_depot command)
