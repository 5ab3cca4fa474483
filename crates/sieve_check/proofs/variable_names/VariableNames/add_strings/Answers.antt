use Rattle.std.proofs.Common.{◌∙◌, ◌++◌, bytes_eq, sym, ap, flat_map}
use Rattle.std.proofs.lemmas.Result.{err_from_is_err_and}
use Rattle.octets.specs.Once.{with_more}
use Rattle.sieve_references.specs.References.{names_in}
use Rattle.sieve_check.specs.Refusing.{listed}
use Rattle.sieve_check.proofs.NameSteps.{further, many_of_all}
use Rattle.sieve_check.proofs.variable_names.VariableNames.add_strings.Goals as goal

pub returns-in_err-add_string : goal.returns-in_err-add_string
returns-in_err-add_string c =
    let p = err_from_is_err_and c.from_residual.result c.from_residual.ensures.1 in
    let left = flat_map names_in c.next.new.self in
    let here = ap (flat_map names_in) c.in-Some.ensures.steps ∙ ap (λ string. names_in string ++ left) (sym c.as_slice.ensures) in
    rw (p.1, p.2) (
      c.in_err-add_string.ensures.0,
      many_of_all (listed c.strings.self) (names_in c.as_slice.result.now) left (listed c.args.self.now) (flat_map names_in c.args.strings) (listed c.add_string.new.self)
          (ap (with_more bytes_eq (listed c.strings.self)) (sym here) ∙ c.strings.invariant) c.in_err-add_string.ensures.1,
    )

pub strings-preserved : goal.strings-preserved
strings-preserved c =
    let left = flat_map names_in c.next.new.self in
    let here = ap (flat_map names_in) c.in-Some.ensures.steps ∙ ap (λ string. names_in string ++ left) (sym c.as_slice.ensures) in
    further (listed c.strings.self) (names_in c.as_slice.result.now) left (listed c.args.self.now) (flat_map names_in c.args.strings) (listed c.add_string.new.self)
    (ap (with_more bytes_eq (listed c.strings.self)) (sym here) ∙ c.strings.invariant) c.in_ok-add_string.ensures
