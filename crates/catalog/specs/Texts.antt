-- Text that people chose, which can have any octets, as a JSON value (RFC 8259, section 7; RFC 4648, section 4).
use Rattle.std.specs.Prelude.{ℕ, List, codes, if◌then◌else◌, Option, option_and_then}
use Rattle.std.specs.Option.{option_or}
use Rattle.std.specs.Str.{is_utf8}
use Rattle.base64.specs.Engines.{standard}
use Rattle.base64.specs.GeneralPurpose.{decoded_of, encode_of}
use Rattle.serde_json.specs.Data.{Data, string, object, member, no_members}
use Rattle.serde_json.specs.Find.{as_str, get}

-- an object whose only member has the text of the octets in base64
abbrev pub base64_value : List ℕ → Data
base64_value octets = object (member (codes "base64") (string (encode_of standard octets)) no_members)

-- octets that are UTF-8 are a string, and any others are such an object
abbrev pub text_value : List ℕ → Data
text_value octets = if is_utf8 octets then string octets else base64_value octets

-- how a reader finds the octets: they are those of a string, or what the member base64 stands for
abbrev pub octets_in : Data → Option (List ℕ)
octets_in value = option_or (as_str value) (option_and_then (decoded_of standard) (option_and_then as_str (get (codes "base64") value)))
