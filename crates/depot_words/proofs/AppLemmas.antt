-- What holds of the program with its commands, whatever words come.
use Rattle.std.proofs.Common.{◌≡◌, refl, true}
use Rattle.clap.proofs.OnLiterals.{clap_on_literals}
use Rattle.clap.specs.Faults.{is_simple_and_free}
use Rattle.clap.specs.Words.{App, is_simple}
use Rattle.depot_words.specs.Commands.{AreEncodings, IsDepot, Texts, depot_app}

-- it has nothing but commands with arguments, which have rules on themselves alone
pub simple : (names : Texts) → is_simple (depot_app names) ≡ true
unfolding clap_on_literals
simple names = refl

pub simple_and_free : (names : Texts) → is_simple_and_free (depot_app names) ≡ true
unfolding clap_on_literals
simple_and_free names = refl

-- what holds of it holds of a program with these commands
pub depot_has : (names : Texts) (P : App → Type 0) → AreEncodings names → P (depot_app names) → (app : App) × IsDepot app × P app
depot_has names P are h = (depot_app names, (names, are, refl), h)
