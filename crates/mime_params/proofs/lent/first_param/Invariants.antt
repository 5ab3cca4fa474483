use Rattle.std.proofs.Common.{◌≡◌, length}
use Rattle.mime_params.specs.MediaValue.{params_in}
use Rattle.mime_params.proofs.lent.first_param.Given as goal

abbrev pub invariant-params : goal.invariant-params
invariant-params l = params_in l.rest ≡ params_in l.text

abbrev pub decreases-params : goal.decreases-params
decreases-params l = length l.rest
