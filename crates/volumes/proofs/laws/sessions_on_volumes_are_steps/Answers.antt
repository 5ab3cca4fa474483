use Rattle.depot_actions.specs.DepotState.{Catalog, ListAll, ListSince}
use Rattle.volumes.proofs.Lifting.{led_steps, list_spares}
use Rattle.volumes.proofs.laws.sessions_on_volumes_are_steps.Goals as goal

pub returns-clause-led : goal.returns-clause-led
returns-clause-led c = led_steps

pub returns-clause-lists : goal.returns-clause-lists
returns-clause-lists c was is user = list_spares (ListAll user) (λ v new told accepts. accepts.step.1) was is

pub returns-clause-since : goal.returns-clause-since
returns-clause-since c was is user number = list_spares (ListSince user number) (λ v new told accepts. accepts.step.1) was is

pub returns-clause-catalogs : goal.returns-clause-catalogs
returns-clause-catalogs c was is user number = list_spares (Catalog user number) (λ v new told accepts. accepts.step.1) was is
