-- What a reader keeps of a text between its pieces.
use Rattle.std.specs.Prelude.{◌≡◌, Bool, ℕ, ◌<◌, ◌^◌, List, [], length, take, if◌then◌else◌}
use Rattle.std.specs.List.{All}
use Rattle.octet_lanes.specs.declared.alphabet.Alphabet.{Alphabet}
use Rattle.octet_lanes.specs.declared.reader.Held.{Held}
use Rattle.octet_lanes.specs.Encoding.{all_bits, left_over, quantum, text_bits, width}

-- the bits of the values that are held
abbrev pub held_bits : Alphabet → Held → List ℕ
held_bits alphabet held = all_bits (width alphabet) (take held.n held.values)

-- those that no octet was given of: the whole octets of the others were
abbrev pub kept_bits : Alphabet → Held → List ℕ
kept_bits alphabet held = left_over 8 (held_bits alphabet held)

-- the bits that are taken from a text: none once a `=` came
abbrev pub taken_bits : Alphabet → Bool → List ℕ → List ℕ
taken_bits alphabet ended text = if ended then [] else text_bits alphabet text

-- What is held between pieces are values of the alphabet, fewer than a quantum's.
pub record IsHeld (alphabet : Alphabet) (held : Held) : Type 0 where
  pub long : length held.values ≡ 32
  pub few : held.n < quantum alphabet
  pub small : All (λ value. value < 2 ^ width alphabet) held.values

-- what was appended to stands as it was
abbrev pub IsGrown : List ℕ → List ℕ → Type 0
IsGrown was now = take (length was) now ≡ was
