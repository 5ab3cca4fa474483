use Rattle.std.proofs.Common.{◌≡◌, drop}
use Rattle.mime_params.specs.MediaValue.{value_named}
use Rattle.mail_matching.proofs.asked.first_named.Given as goal

-- the parameters so far have other names
abbrev pub invariant-loop-param : goal.invariant-loop-param
invariant-loop-param l = value_named l.name (drop l.param-index l.params) ≡ value_named l.name l.params
