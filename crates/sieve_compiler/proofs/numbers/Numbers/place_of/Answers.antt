use Rattle.std.proofs.Common.{◌≡◌, ◌≤◌, ℕ, nat_eq, length, sym, ap, subst, ◌∙◌}
use Rattle.octets.specs.Once.{place_in}
use Rattle.octets.proofs.Once.{found_at, place_within}
use Rattle.sieve_compiler.proofs.numbers.Numbers.place_of.Goals as goal

pub returns-clause-place : goal.returns-clause-place
returns-clause-place c =
    c.unwrap_or.ensures
    ∙ found_at nat_eq c.self.inside.listed.items c.args.number c.copied-place.result c.len.result (c.copied-place.ensures ∙ c.get.ensures.value ∙ c.self.invariant c.args.number) (c.len.ensures ∙ c.self.inside.listed.ok.0)
    ∙ ap (λ l. place_in nat_eq l c.args.number) c.self.view_is

pub returns-clause-within : goal.returns-clause-within
returns-clause-within c =
    let place : c.unwrap_or.result ≡ place_in nat_eq c.args.self.now c.args.number = returns-clause-place c in
    subst (λ (n : ℕ). n ≤ length c.args.self.now) (sym place) (place_within nat_eq c.args.self.now c.args.number)
