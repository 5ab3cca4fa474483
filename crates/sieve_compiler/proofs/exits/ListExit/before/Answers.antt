use Rattle.std.proofs.Common.{◌≡◌, ℕ, ◌≤◌, Bool, true, false, List, [], ◌∷◌, length, map, refl, arith}
use Rattle.std.specs.Bool.{beq}
use Rattle.sieve_check.specs.declared.typed.Test.{Test}
use Rattle.sieve_check.specs.TypedView.{test_form, tests_of}
use Rattle.sieve_compiler.specs.Coding.{asked_of, aim_of}
use Rattle.sieve_compiler.proofs.exits.ListExit.before.Goals as goal

asked_before : (deciding asked : Bool) (others : List Test) → 1 ≤ length others → deciding ≡ asked_of deciding asked (tests_of (map test_form others))
asked_before deciding asked [] some = absurd (omega arith)
asked_before deciding asked (t ∷ ts) some = refl

aim_before : (deciding asked : Bool) (others : List Test) (following target : ℕ) → 1 ≤ length others → beq deciding asked ≡ false → following ≡ aim_of deciding asked (tests_of (map test_form others)) following target
aim_before deciding asked [] following target some differs = absurd (omega arith)
aim_before true true (t ∷ ts) following target some differs = cc
aim_before false false (t ∷ ts) following target some differs = cc
aim_before true false (t ∷ ts) following target some differs = refl
aim_before false true (t ∷ ts) following target some differs = refl

pub returns-else-self-clause-asked : goal.returns-else-self-clause-asked
returns-else-self-clause-asked c = asked_before c.args.self.deciding c.args.self.exit.asked c.args.others.now c.in-len1-up.len_at_least

pub returns-else-self-clause-target : goal.returns-else-self-clause-target
returns-else-self-clause-target c = aim_before c.args.self.deciding c.args.self.exit.asked c.args.others.now c.args.self.following c.args.self.exit.target c.in-len1-up.len_at_least c.if-self.false
