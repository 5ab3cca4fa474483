-- Transfer encodings (RFC 2045, section 6.1).
use Rattle.std.specs.Prelude.{ℕ, ◌==◌, ◌||◌, not, List, codes, length, if◌then◌else◌}
use Rattle.std.specs.List.{take_while}
use Rattle.octets.specs.Ascii.{is_word}
use Rattle.octets.specs.Blank.{without_outer_blanks}
use Rattle.mime_params.specs.declared.encoding.TransferEncoding.{TransferEncoding}
use Rattle.mime_params.specs.declared.encoding.TransferEncoding.TheVariants.{SevenBit, EightBit, Binary, QuotedPrintable, Base64, Unknown}

-- what stands before a semicolon or an opening bracket, without outer blanks
abbrev pub encoding_name : List ℕ → List ℕ
encoding_name text = without_outer_blanks (take_while (λ c. not ((c == 59) || (c == 40))) text)

-- the encoding of this name; an empty one is 7bit
abbrev pub encoding_named : List ℕ → TransferEncoding
encoding_named name =
    if length name == 0 then SevenBit
    else if is_word name (codes "7bit") then SevenBit
    else if is_word name (codes "8bit") then EightBit
    else if is_word name (codes "binary") then Binary
    else if is_word name (codes "quoted-printable") then QuotedPrintable
    else if is_word name (codes "base64") then Base64
    else Unknown

-- the encoding of a field's value
abbrev pub encoding_of : List ℕ → TransferEncoding
encoding_of text = encoding_named (encoding_name text)
