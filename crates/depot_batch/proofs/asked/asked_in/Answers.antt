use Rattle.std.proofs.Common.{◌∷◌, ◌∙◌, [], ℕ, Option, MatchOption, ap, arith, slice_index_or, subst, sym}
use Rattle.depot_batch.specs.Asked.{IsNumberFrom, least_number, name_of}
use Rattle.depot_batch.proofs.Rest.{three, two}
use Rattle.depot_batch.proofs.asked.asked_in.Goals as goal

pub returns-in_default-None-clause-nothing : goal.returns-in_default-None-clause-nothing
returns-in_default-None-clause-nothing c = (
  name_of c.args.form,
  _,
  _,
  _,
  _,
  ap (λ t. name_of c.args.form ∷ t) (three c.args.rest.now (record { ref_ptr = (0, 0); now = [] }) (omega (arith, c.in-Export-len4.len_at_least))),
  sym c.named.ensures ∙ c.in_default-None.is-1,
)

pub returns-in-None-default-clause-nothing : goal.returns-in-None-default-clause-nothing
returns-in-None-default-clause-nothing c =
    let digits = (slice_index_or c.args.rest.now 1 (record { ref_ptr = (0, 0); now = [] })).now in (
      _,
      _,
      _,
      ap (λ t. name_of c.args.form ∷ t) (two c.args.rest.now (record { ref_ptr = (0, 0); now = [] }) (omega (arith, c.in-Export-len4.len_at_least))),
      subst (λ (o : Option ℕ). MatchOption o ((number : ℕ) → IsNumberFrom (least_number c.args.form) digits number → ⊥) (IsNumberFrom (least_number c.args.form) digits)) c.in-None-default.is-0 c.number_of-in-Export-len4.ensures,
    )

pub returns-in-None-clause-nothing : goal.returns-in-None-clause-nothing
returns-in-None-clause-nothing c = (
  _,
  _,
  _,
  ap (λ t. name_of c.args.form ∷ t) (two c.args.rest.now (record { ref_ptr = (0, 0); now = [] }) c.in-Since-len2.len_at_least),
  c.in-None.ensures,
)

pub returns-in-None-number_of-clause-nothing : goal.returns-in-None-number_of-clause-nothing
returns-in-None-number_of-clause-nothing c = (
  _,
  _,
  _,
  ap (λ t. name_of c.args.form ∷ t) (two c.args.rest.now (record { ref_ptr = (0, 0); now = [] }) c.in-Catalog-len2.len_at_least),
  c.in-None-number_of.ensures,
)

pub returns-in-None-number_of-2-clause-nothing : goal.returns-in-None-number_of-2-clause-nothing
returns-in-None-number_of-2-clause-nothing c = (
  _,
  _,
  _,
  ap (λ t. name_of c.args.form ∷ t) (two c.args.rest.now (record { ref_ptr = (0, 0); now = [] }) c.in-Remove-len2.len_at_least),
  c.in-None-number_of-2.ensures,
)
