use Rattle.std.proofs.Common.{ap, sym, ◌∙◌}
use Rattle.octet_lanes.specs.Encoding.{class_of}
use Rattle.octet_lanes.proofs.Tables.{base64_class, base32_class, base32hex_class}
use Rattle.octet_lanes.proofs.classes.class.Goals as goal

pub returns-in-Base64 : goal.returns-in-Base64
returns-in-Base64 c = base64_class c.args.octet c.ranges.octet.fits ∙ ap (λ a. class_of a c.args.octet) (sym c.in-Base64.is)

pub returns-in-Base32 : goal.returns-in-Base32
returns-in-Base32 c = base32_class c.args.octet c.ranges.octet.fits ∙ ap (λ a. class_of a c.args.octet) (sym c.in-Base32.is)

pub returns-in-Base32Hex : goal.returns-in-Base32Hex
returns-in-Base32Hex c = base32hex_class c.args.octet c.ranges.octet.fits ∙ ap (λ a. class_of a c.args.octet) (sym c.in-Base32Hex.is)
