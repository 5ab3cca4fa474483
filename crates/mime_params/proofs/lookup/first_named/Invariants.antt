use Rattle.std.proofs.Common.{◌≡◌}
use Rattle.mime_params.specs.MediaValue.{value_named}
use Rattle.mime_params.proofs.lookup.first_named.Given as goal

-- the parameters so far have other names
abbrev pub invariant-loop-param : goal.invariant-loop-param
invariant-loop-param l = value_named l.name l.param-iterator ≡ value_named l.name l.fn.params
