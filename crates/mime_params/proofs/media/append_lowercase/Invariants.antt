use Rattle.std.proofs.Common.{◌≡◌, ◌++◌, take}
use Rattle.octets.specs.Ascii.{lowercase_of}
use Rattle.mime_params.proofs.media.append_lowercase.Given as goal

abbrev pub invariant-loop-octet : goal.invariant-loop-octet
invariant-loop-octet l = l.text.items ≡ l.initial.text.items ++ lowercase_of (take l.octet-index l.word)
