use Rattle.std.proofs.Common.{◌≡◌, drop}
use Rattle.mime_params.specs.MediaValue.{value_named}
use Rattle.mime_params.proofs.params.param.Given as goal

-- the parameters so far have other names
abbrev pub invariant-loop-param : goal.invariant-loop-param
invariant-loop-param l = value_named l.name (drop l.param-index l.param-items) ≡ value_named l.name l.params
