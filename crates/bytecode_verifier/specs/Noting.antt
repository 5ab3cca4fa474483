-- Private: the first places where rules are broken, with one more place.
use Rattle.std.specs.Prelude.{◌≡◌, ℕ, Bool, ◌||◌}
use Rattle.std.specs.Bool.{then_some}
use Rattle.std.specs.Option.{option_or}
use Rattle.bytecode_verifier.specs.declared.pass.Pass.{Pass}
use Rattle.bytecode_verifier.specs.declared.pass.Broken.{Broken}

-- one of the rules is broken
abbrev pub are_some : Broken → Bool
are_some broken = broken.index || broken.form || broken.brackets || broken.jump || broken.part || broken.stack

-- the place is named for each rule that is broken at it and for which none was named before
pub record Notes (broken : Broken) (place : ℕ) (before now : Pass) : Type 0 where
  pub index : now.index ≡ option_or before.index (then_some broken.index place)
  pub form : now.form ≡ option_or before.form (then_some broken.form place)
  pub brackets : now.brackets ≡ option_or before.brackets (then_some broken.brackets place)
  pub jump : now.jump ≡ option_or before.jump (then_some broken.jump place)
  pub part : now.part ≡ option_or before.part (then_some broken.part place)
  pub stack : now.stack ≡ option_or before.stack (then_some broken.stack place)
  pub shape : now.shape ≡ before.shape
  pub budget : now.budget ≡ before.budget
