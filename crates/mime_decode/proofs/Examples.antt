-- Contents of small bodies, by computation.
use Rattle.std.proofs.Common.{◌≡◌, ℕ, List, [], ◌∷◌, ◌++◌, refl, codes, map}
use Rattle.mime_params.specs.declared.encoding.TransferEncoding.TheVariants.{QuotedPrintable, Base64, Unknown}
use Rattle.mime_tree.specs.PartTree.{parts_of}
use Rattle.octet_lanes.specs.Encoding as lanes
use Rattle.quoted_printable.specs.QuotedPrintable as qp
use Rattle.mime_decode.specs.Content.{content_of}
use Rattle.mime_decode.specs.Mail.{Part, mail_of}

-- ---- contents

as_it_stands : content_of Unknown (codes "caf=C3=A9") ≡ codes "caf=C3=A9"
as_it_stands = refl

quoted_printable : content_of QuotedPrintable (codes "caf=C3=A9") ≡ 99 ∷ 97 ∷ 102 ∷ 195 ∷ 169 ∷ []
unfolding qp.decoding_of
quoted_printable = refl

base64 : content_of Base64 (codes "Zm9vYmFy") ≡ codes "foobar"
unfolding lanes.decoding_of
base64 = refl

-- of a message: the body alone is decoded, by its header
abbrev encoded : List ℕ
encoded = codes "Content-Transfer-Encoding: base64" ++ 10 ∷ 10 ∷ codes "Zm9vYmFy"

in_a_mail : map (λ (p : Part). p.content) (mail_of encoded).parts ≡ codes "foobar" ∷ []
unfolding mail_of parts_of lanes.decoding_of
in_a_mail = refl
