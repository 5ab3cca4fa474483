use Rattle.std.proofs.Common.{◌≡◌, ◌∙◌, ◌++◌, ◌∷◌, [], bytes_eq, sym, ap, flat_map}
use Rattle.std.proofs.lemmas.Result.{err_from_is_err_and}
use Rattle.octets.specs.Ascii.{lowercase_of}
use Rattle.octets.specs.Once.{with_more}
use Rattle.sieve_references.specs.References.{names_of, names_in}
use Rattle.sieve_references.specs.SegmentView.{segment_of}
use Rattle.sieve_check.specs.Refusing.{listed}
use Rattle.sieve_check.proofs.NameSteps.{many_of_all}
use Rattle.sieve_check.proofs.variable_names.VariableNames.add_string.Goals as goal

pub returns-in_err-add : goal.returns-in_err-add
returns-in_err-add c =
    let p = err_from_is_err_and c.from_residual.result c.from_residual.ensures.1 in
    let left : names_in c.segments.rest.now ≡ (lowercase_of c.in-Variable.name.now ∷ []) ++ names_in c.in-Some.after.now =
    ap (flat_map names_of) c.in-Some.ensures.0 ∙ ap (λ segment. names_of (segment_of segment) ++ names_in c.in-Some.after.now) c.in-Variable.is in
    rw (p.1, p.2) (
      c.in_err-add.ensures.0,
      many_of_all (listed c.segments.self) (lowercase_of c.in-Variable.name.now ∷ []) (names_in c.in-Some.after.now) (listed c.args.self.now) (names_in c.args.string.now) (listed c.add.new.self)
          (ap (with_more bytes_eq (listed c.segments.self)) (sym left) ∙ c.segments.invariant) c.in_err-add.ensures.1,
    )
