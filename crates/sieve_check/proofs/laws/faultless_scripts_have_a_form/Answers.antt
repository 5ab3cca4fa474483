use Rattle.sieve_check.proofs.Existence.{form_exists}
use Rattle.sieve_check.proofs.laws.faultless_scripts_have_a_form.Goals as goal

pub returns : goal.returns
returns c = λ script h. let formed = form_exists script h in (formed.form, formed.is)
