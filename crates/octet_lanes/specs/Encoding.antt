-- Texts of octets in the alphabets of RFC 4648, by their bits.
use Rattle.std.specs.Prelude.{codes, ◌≡◌, Bool, ℕ, zero, suc, ◌+◌, ◌-◌, ◌*◌, ◌/◌, ◌%◌, ◌^◌, ◌<◌, ◌==◌, ◌&&◌, nat_le, not, if◌then◌else◌, List, [], ◌∷◌, ◌++◌, map, length, take, drop, replicate, slice_index}
use Rattle.std.specs.List.{All, filter, flat_map, list_any, position_or_len, before_first}
use Rattle.octet_lanes.specs.declared.alphabet.Alphabet.{Alphabet}
use Rattle.octet_lanes.specs.declared.alphabet.Alphabet.TheVariants.{Base64, Base32, Base32Hex}

-- ---- the alphabets (RFC 4648, sections 4, 6 and 7)

-- the symbols, in the order of their values
abbrev pub table : Alphabet → List ℕ
table Base64 = codes "ABCDEFGHIJKLMNOPQRSTUVWXYZabcdefghijklmnopqrstuvwxyz0123456789+/"
table Base32 = codes "ABCDEFGHIJKLMNOPQRSTUVWXYZ234567"
table Base32Hex = codes "0123456789ABCDEFGHIJKLMNOPQRSTUV"

-- the bits of a group
abbrev pub width : Alphabet → ℕ
width Base64 = 6
width Base32 = 5
width Base32Hex = 5

-- padding fills a text up to a multiple of so many characters
abbrev pub quantum : Alphabet → ℕ
quantum Base64 = 4
quantum Base32 = 8
quantum Base32Hex = 8

-- the symbol of a value
abbrev pub symbol_of : Alphabet → ℕ → ℕ
symbol_of alphabet value = slice_index (table alphabet) value

-- the class of an octet that is no symbol
abbrev pub stray : ℕ
stray = 255

-- the class of an octet: the value whose symbol it is, or that of a stray character
abbrev pub class_of : Alphabet → ℕ → ℕ
class_of alphabet octet =
    let place = position_or_len (λ symbol. symbol == octet) (table alphabet) in
    if place == length (table alphabet) then stray else place

-- the classes that are values
abbrev pub values_among : List ℕ → List ℕ
values_among = filter (λ class. not (class == stray))

-- the values of the octets of a text that are symbols
abbrev pub values_of : Alphabet → List ℕ → List ℕ
values_of alphabet text = values_among (map (class_of alphabet) text)

-- `=`
abbrev pub padding : ℕ
padding = 61

-- what comes before the first `=`
abbrev pub before_padding : List ℕ → List ℕ
before_padding = before_first (λ octet. octet == padding)

-- whether a `=` stands in a text
abbrev pub contains_padding : List ℕ → Bool
contains_padding = list_any (λ octet. octet == padding)

-- an ASCII letter in upper case, and another octet as it is
abbrev pub upper_of : ℕ → ℕ
upper_of octet = if nat_le 97 octet && nat_le octet 122 then octet - 32 else octet

-- ---- bits, the highest first

-- the k lowest bits of a number
abbrev pub bits_of : ℕ → ℕ → List ℕ
bits_of zero n = []
bits_of (suc k) n = (n / 2 ^ k % 2) ∷ bits_of k n

-- the bits of numbers of k bits, one number after the other
abbrev pub all_bits : ℕ → List ℕ → List ℕ
all_bits k = flat_map (bits_of k)

-- the number that bits write
abbrev pub number_of : List ℕ → ℕ
number_of [] = 0
number_of (bit ∷ bits) = bit * 2 ^ length bits + number_of bits

-- ---- pieces

-- how many more make a multiple of k
abbrev pub lacking : ℕ → ℕ → ℕ
lacking k n = (k - n % k) % k

-- a list, with x up to a multiple of k
abbrev pub filled : ℕ → ℕ → List ℕ → List ℕ
filled k x xs = xs ++ replicate (lacking k (length xs)) x

-- the first n pieces of k
abbrev pub first_pieces : ℕ → ℕ → List ℕ → List (List ℕ)
first_pieces k zero xs = []
first_pieces k (suc n) xs = take k xs ∷ first_pieces k n (drop k xs)

-- a list cut into pieces of k, the last one perhaps shorter
abbrev pub cut : ℕ → List ℕ → List (List ℕ)
cut k xs = first_pieces k ((length xs + (k - 1)) / k) xs

-- the numbers that groups of k bits write
abbrev pub groups_of : ℕ → List ℕ → List ℕ
groups_of k bits = map number_of (cut k bits)

-- the whole pieces of k, from the prefix
abbrev pub whole : ℕ → List ℕ → List ℕ
whole k xs = take (length xs / k * k) xs

-- what the whole pieces of k leave over
abbrev pub left_over : ℕ → List ℕ → List ℕ
left_over k xs = drop (length xs / k * k) xs

-- the whole octets that bits write, from the prefix
abbrev pub octets_of : List ℕ → List ℕ
octets_of bits = groups_of 8 (whole 8 bits)

-- ---- texts

-- The text of octets: their bits, with zeros up to a multiple of a group; each group's symbol; and padding up to a
-- multiple of a quantum.
unfoldable pub encoding_of : Alphabet → List ℕ → List ℕ
encoding_of alphabet octets =
    let bits = filled (width alphabet) 0 (all_bits 8 octets) in
    filled (quantum alphabet) padding (map (symbol_of alphabet) (groups_of (width alphabet) bits))

-- a list of octets
abbrev pub IsOctets : List ℕ → Type 0
IsOctets = All (λ octet. octet < 256)

-- a text spells octets where it is their encoding
abbrev pub Spells : Alphabet → List ℕ → List ℕ → Type 0
Spells alphabet text octets = text ≡ encoding_of alphabet octets

-- the bits of a text that any octets may interrupt: those of the values before the first `=`
abbrev pub text_bits : Alphabet → List ℕ → List ℕ
text_bits alphabet text = all_bits (width alphabet) (values_of alphabet (before_padding text))

-- The octets of a text that any octets may interrupt: the bits of the values before the first `=`, as whole octets.
unfoldable pub decoding_of : Alphabet → List ℕ → List ℕ
decoding_of alphabet text = octets_of (all_bits (width alphabet) (values_of alphabet (before_padding text)))
