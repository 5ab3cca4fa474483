-- Sentences with blanks, and what fills them.
use Rattle.std.specs.Prelude.{ℕ, ◌==◌, if◌then◌else◌, List, [], ◌∷◌, flat_map}
use Rattle.std.specs.Fmt.{decimal}
use Rattle.sieve_explain.specs.Shown.{named, quoted, tagged}

-- the text with its blanks, and what goes into them: a name, a tag or string, some fixed words, others beside them, a number
pub record Blanks : Type 0 where
  pub text : List ℕ
  pub name : List ℕ
  pub subject : List ℕ
  pub words : List ℕ
  pub others : List ℕ
  pub number : ℕ

-- a sentence without blanks
abbrev pub plain : List ℕ → Blanks
plain text = record { text = text; name = []; subject = []; words = []; others = []; number = 0 }

-- what stands in the sentence for an octet of its text: for `@` the name, for `#` the subject as a
-- tag and for `$` as a string, for `&` the words, for `~` the others, for `%` the number, and for
-- every other octet itself
unfoldable pub filled_octet : Blanks → ℕ → List ℕ
filled_octet blanks octet =
    if octet == 64 then named blanks.name else
    if octet == 35 then tagged blanks.subject else
    if octet == 36 then quoted blanks.subject else
    if octet == 38 then blanks.words else
    if octet == 126 then blanks.others else
    if octet == 37 then decimal blanks.number else
    octet ∷ []

-- the sentence
abbrev pub filled : Blanks → List ℕ
filled blanks = flat_map (filled_octet blanks) blanks.text
