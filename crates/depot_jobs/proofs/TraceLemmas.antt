-- What was written of a trace, with the report behind it.
use Rattle.std.proofs.Common.{◌≡◌, ◌∙◌, ◌++◌, ℕ, List, Result, IfErr, IsErrAnd, ap, sym, subst, append_assoc}
use Rattle.std.proofs.lemmas.Result.{err_from_is_err_and}
use Rattle.devices.proofs.Outputs.{broken_first}
use Rattle.devices.specs.Device.{HasStopped, Output}
use Rattle.refusals.specs.declared.refusal.Refusal.{Refusal}
use Rattle.refusals.specs.declared.refusal.Refusal.TheVariants.{Memory, Write}

-- a text that wasn't written to its end is the beginning of a longer one
pub stopped_first : (s0 s1 : Output) (why : Refusal) (xs ys : List ℕ) → HasStopped why xs s0 s1 → HasStopped why (xs ++ ys) s0 s1
stopped_first s0 s1 Write xs ys first = broken_first xs ys first
stopped_first s0 s1 Memory xs ys first = record {
  prefix = first.prefix;
  rest = first.rest ++ ys;
  whole = ap (λ text. text ++ ys) first.whole ∙ append_assoc first.prefix first.rest ys;
  taken = first.taken;
}
stopped_first s0 s1 _ xs ys first = absurd first

-- a refusal is passed on
pub passed_on : {T : Type 0} (r : Result T Refusal) (cause : Refusal) (P : Refusal → Type 0) → IsErrAnd r (λ y. y ≡ cause) → P cause → IfErr r P
passed_on r cause P h p = let e = err_from_is_err_and r h in rw e.1 (subst P (sym e.2) p)
