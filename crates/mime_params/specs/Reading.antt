-- Private: what the readers give.
use Rattle.std.specs.Prelude.{◌≡◌, ◌≢◌, ℕ, List, [], ◌∷◌, ◌++◌, Option, Some, None, MatchOption, option_map, Bool, true, ◌==◌}
use Rattle.std.specs.Borrow.{Bor}
use Rattle.mime_params.specs.Gaps.{after_gap}
use Rattle.mime_params.specs.MediaValue.{token}
use Rattle.mime_params.specs.Words.{Word}

-- a word that was read with what follows it, or nothing where none begins
abbrev pub GivesWord : Option Word → Option (List ℕ × Bor (List ℕ)) → Type 0
GivesWord word read = MatchOption read (word ≡ None) (λ r. word ≡ Some (record { octets = r.0; rest = r.1.now }))

-- a word with more octets before its own
abbrev pub with_prefix : List ℕ → Word → Word
with_prefix octets word = record word { octets = octets ++ word.octets }

-- no parameter stands before the next semicolon or the end
abbrev pub is_empty_param : List ℕ → Bool
is_empty_param [] = true
is_empty_param (c ∷ rest) = c == 59

-- what follows a word
abbrev pub after_word : Option Word → Option (List ℕ)
after_word word = option_map (λ w. w.rest) word

-- ---- texts that may go on

-- a word with more after what follows it
abbrev pub with_rest : List ℕ → Word → Word
with_rest more w = record w { rest = w.rest ++ more }

-- the gap that a text begins with ends in the text, before this rest of it, whatever follows the text
pub record GapEnds (text rest : List ℕ) : Type 0 where
  pub some : rest ≢ []
  pub after : (more : List ℕ) → after_gap (text ++ more) ≡ rest ++ more

-- the token that a text begins with ends in the text, or there is none, whatever follows the text
abbrev pub TokenEnds : List ℕ → Type 0
TokenEnds text = (more : List ℕ) → token (text ++ more) ≡ option_map (with_rest more) (token text)
