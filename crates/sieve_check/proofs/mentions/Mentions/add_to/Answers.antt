use Rattle.std.proofs.Common.{◌≡◌, ◌∙◌, ◌++◌, ◌∷◌, [], List, ℕ, ap, bytes_eq, sym, subst, flat_map, map}
use Rattle.std.specs.Borrow.{Bor}
use Rattle.std.specs.Prelude.{Option}
use Rattle.std.proofs.lemmas.Result.{err_from_is_err_and}
use Rattle.octets.specs.Ascii.{lowercase_of}
use Rattle.octets.specs.Once.{with_more}
use Rattle.sieve_references.specs.References.{names_in}
use Rattle.sieve_check.specs.Reading.{all_lists}
use Rattle.sieve_check.specs.Refusing.{Adds, Overflows, listed, set_in}
use Rattle.sieve_check.specs.Rules.{strings_of}
use Rattle.sieve_check.proofs.NameSteps.{adds_both, many_with_more}
use Rattle.sieve_check.proofs.mentions.Mentions.add_to.Goals as goal

pub returns-in_err-add_strings : goal.returns-in_err-add_strings
returns-in_err-add_strings c =
    let p = err_from_is_err_and c.from_residual.result c.from_residual.ensures.1 in
    let strings = strings_of (all_lists c.args.self.expanded) in
    rw (p.1, p.2) (
      c.in_err-add_strings.ensures.0,
      many_with_more (listed c.args.names.now) (flat_map names_in strings) (map lowercase_of (set_in c.args.self.set)) (listed c.add_strings.new.self)
          (subst (λ xs. Overflows (listed c.args.names.now) (flat_map names_in xs) (listed c.add_strings.new.self)) c.in_lists.ensures c.in_err-add_strings.ensures.1),
    )

pub returns-in-Some : goal.returns-in-Some
returns-in-Some c =
    let strings = strings_of (all_lists c.args.self.expanded) in
    let set : lowercase_of c.as_slice.result.now ∷ [] ≡ map lowercase_of (set_in c.args.self.set) =
    ap (λ (name : List ℕ). lowercase_of name ∷ []) c.as_slice.ensures ∙ sym (ap (λ (o : Option (Bor (List ℕ))). map lowercase_of (set_in o)) c.in-Some.is) in
    subst (λ (names : List (List ℕ)). Adds (listed c.args.names.now) (flat_map names_in strings ++ names) c.add.result (listed c.add.new.self)) set
    (adds_both (listed c.args.names.now) (flat_map names_in strings) (lowercase_of c.as_slice.result.now ∷ []) (listed c.add_strings.new.self) c.add.result (listed c.add.new.self)
    (c.in_ok-add_strings.ensures ∙ ap (λ xs. with_more bytes_eq (listed c.args.names.now) (flat_map names_in xs)) c.in_lists.ensures) c.add.ensures)
