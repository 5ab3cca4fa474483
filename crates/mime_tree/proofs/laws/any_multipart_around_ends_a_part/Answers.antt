use Rattle.std.proofs.Common.{[]}
use Rattle.mime_tree.specs.PartTree.{text_plain}
use Rattle.mime_tree.proofs.Enclosing.{enclosed_cut, enclosed_parts, whole_text}
use Rattle.mime_tree.proofs.laws.any_multipart_around_ends_a_part.Goals as goal

pub returns-clause-parts : goal.returns-clause-parts
returns-clause-parts c octets = enclosed_parts 31 text_plain [] (record { place = 0; octets = octets })

pub returns-clause-ends : goal.returns-clause-ends
returns-clause-ends c octets = enclosed_cut octets 31 text_plain [] (record { place = 0; octets = octets }) (whole_text octets)
