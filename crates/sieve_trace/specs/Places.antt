-- Where the tokens of a script stand.
use Rattle.std.specs.Prelude.{ℕ, List, ◌++◌, codes, map}
use Rattle.std.specs.Fmt.{decimal}
use Rattle.readable_text.specs.Places.{column, line_number}
use Rattle.sieve_lexer.specs.declared.token.Token.{Token}
use Rattle.sieve_trace.specs.declared.places.Place.{Place}

-- the line and the column of an octet, as explanations of faults count them
abbrev pub place_at : List ℕ → ℕ → Place
place_at script octet = record { line = line_number script octet; column = column script octet }

-- as lines of a trace have them
unfoldable pub place_text : Place → List ℕ
place_text place = codes ":" ++ decimal place.line ++ codes ":" ++ decimal place.column ++ codes ":"

-- those of tokens, where they begin
abbrev pub places_of : List ℕ → List Token → List (List ℕ)
places_of script tokens = map (λ (token : Token). place_text (place_at script token.start)) tokens
