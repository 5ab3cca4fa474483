use Rattle.std.proofs.Common.{◌≡◌, ℕ, Result, Ok, sym, ◌∙◌}
use Rattle.bytecode_format.specs.Code.{Code}
use Rattle.bytecode_listing.proofs.laws.one_program_for_a_listing.Goals as goal

same_said : (p q : Code) → (let r : Result Code ℕ = Ok p in r) ≡ Ok q → p ≡ q
same_said p q e = cc

pub returns : goal.returns
returns c listing p q first second = same_said p q (sym first.says ∙ second.says)
