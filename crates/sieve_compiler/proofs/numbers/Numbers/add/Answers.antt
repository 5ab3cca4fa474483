use Rattle.std.proofs.Common.{◌≡◌, ℕ, nat_eq, [], ◌∷◌, ◌++◌, length, is_some, sym, ap, ◌∙◌, arith}
use Rattle.std.specs.Ordering.{is_eq, nat_cmp}
use Rattle.std.proofs.lemmas.Bool.Decides.{nat_tests}
use Rattle.std.proofs.lemmas.Cmp.{nat_eq_equiv}
use Rattle.octets.specs.Once.{is_listed}
use Rattle.octets.proofs.Once.{found_listed, found_insert, listed_kept, unlisted_added}
use Rattle.sieve_compiler.specs.Growing.{with_number}
use Rattle.sieve_compiler.proofs.numbers.Numbers.add.Goals as goal

-- equal numbers, by their order
tie : (a b : ℕ) → is_eq (nat_cmp a b) ≡ nat_eq a b
tie a b = grind (arith, nat_tests)

pub returns-then-contains_key-clause-ok : goal.returns-then-contains_key-clause-ok
returns-then-contains_key-clause-ok c =
    let found : c.contains_key.result ≡ is_listed nat_eq c.args.number c.self.inside.listed.items =
    c.contains_key.ensures ∙ ap is_some (c.self.invariant c.args.number) ∙ found_listed nat_eq c.self.inside.listed.items c.args.number in
    sym c.self.view_is ∙ listed_kept nat_eq c.self.inside.listed.items c.args.number (sym found ∙ c.if-contains_key.true) ∙ ap (λ l. with_number l c.args.number) c.self.view_is

pub invariant_of-self-2 : goal.invariant_of-self-2
invariant_of-self-2 c = λ q.
    let found : c.contains_key.result ≡ is_listed nat_eq c.args.number c.self.inside.listed.items =
    c.contains_key.ensures ∙ ap is_some (c.self.invariant c.args.number) ∙ found_listed nat_eq c.self.inside.listed.items c.args.number in
    let added : c.push.new.self.items ≡ c.self.inside.listed.items ++ c.args.number ∷ [] =
    rw c.unwrap.ensures at c.push.ensures.items ∙ ap (λ l. l ++ c.args.number ∷ []) c.in_ok-reserve.ensures.items in
    let place : c.len.result ≡ length c.self.inside.listed.items = c.len.ensures ∙ c.reserve.new.self.ok.0 ∙ ap length c.in_ok-reserve.ensures.items in
    rw (c.in_ok-insert.ensures.updates.0 q, added, place) (found_insert nat_eq nat_eq_equiv c.self.inside.listed.items c.args.number q (is_eq (nat_cmp c.args.number q)) _ (sym found ∙ c.if-contains_key.false) (tie c.args.number q) (c.self.invariant q))

pub returns-clause-ok : goal.returns-clause-ok
returns-clause-ok c =
    let found : c.contains_key.result ≡ is_listed nat_eq c.args.number c.self.inside.listed.items =
    c.contains_key.ensures ∙ ap is_some (c.self.invariant c.args.number) ∙ found_listed nat_eq c.self.inside.listed.items c.args.number in
    let added : c.push.new.self.items ≡ c.self.inside.listed.items ++ c.args.number ∷ [] =
    rw c.unwrap.ensures at c.push.ensures.items ∙ ap (λ l. l ++ c.args.number ∷ []) c.in_ok-reserve.ensures.items in
    added ∙ unlisted_added nat_eq c.self.inside.listed.items c.args.number (sym found ∙ c.if-contains_key.false) ∙ ap (λ l. with_number l c.args.number) c.self.view_is
