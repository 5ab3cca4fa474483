-- Private: how tables and sentences of the code are seen, and what is told of a fault first.
use Rattle.std.specs.Prelude.{ℕ, List, map, ◌≡◌, ◌≢◌, Option, Some, None}
use Rattle.std.specs.Borrow.{Bor}
use Rattle.sieve_explain.specs.Words.{Hint, hint}
use Rattle.refusals.specs.Scripts.{IsScriptRefusal}
use Rattle.sieve_explain.specs.declared.explanation.Explanation.{Explanation}
use Rattle.sieve_explain.specs.Explaining.{IsExplained, TellsFault}
use Rattle.refusals.specs.declared.refusal.Refusal.TheVariants as refused
use Rattle.sieve_explain.specs.Faults.{Beginning, beginning}
use Rattle.sieve_explain.specs.Hints.{Vocabulary}
use Rattle.sieve_explain.specs.declared.hints.Vocabulary as code
use Rattle.sieve_explain.specs.Notes.{Known, first_named, is_named_by, is_read}
use Rattle.sieve_explain.specs.declared.notes.Known as notes
use Rattle.sieve_explain.specs.declared.words.Names.{Names}
use Rattle.sieve_explain.specs.declared.words.Names.TheVariants.{Commands, Tests, Words}
use Rattle.sieve_check.specs.Rows.{all_commands, all_tests, command_word, test_word}
use Rattle.sieve_lexer.specs.declared.token.Token.{Token}
use Rattle.sieve_explain.specs.declared.sentence.Sentence.{Sentence}
use Rattle.sieve_explain.specs.Sentences.{Blanks}
use Rattle.sieve_explain.specs.Characters.{Piece}
use Rattle.sieve_explain.specs.declared.characters.Piece as read

-- texts of the code, and a row of a table
abbrev pub texts_of : List (Bor (List ℕ)) → List (List ℕ)
texts_of texts = map (λ (text : Bor (List ℕ)). text.now) texts

-- names of one kind
abbrev pub names_of : Names → List (List ℕ)
names_of Commands = map command_word all_commands
names_of Tests = map test_word all_tests
names_of (Words words) = texts_of words.now

abbrev pub hint_of : (Bor (List (Bor (List ℕ))) × Bor (List ℕ)) → Hint
hint_of row = hint (texts_of row.0.now) row.1.now

-- of the refusal alone, before the file's look is told
abbrev pub IsFaultTold : List ℕ → List ℕ → Option Explanation → Type 0
IsFaultTold name script None = IsExplained name script None
IsFaultTold name script (Some found) = (found.refusal ≢ refused.Memory) × IsScriptRefusal script found.refusal
    × TellsFault name script found.refusal found.text.items

-- a row of the code
abbrev pub beginning_of : (Bor (List ℕ) × Bor (List ℕ)) → Beginning
beginning_of row = beginning row.0.now row.1.now

abbrev pub vocabulary_of : code.Vocabulary → Vocabulary
vocabulary_of known = record {
  elsewhere = map hint_of known.elsewhere.now;
  names = names_of known.names;
  lacks = known.lacks.now;
  hinting = known.hinting.now;
  hinting_two = known.hinting_two.now;
  alone = known.alone.now;
}

abbrev pub blanks_of : Sentence → Blanks
blanks_of s = record { text = s.text.now; name = s.name.now; subject = s.subject.now; words = s.words.now; others = s.others.now; number = s.number }

abbrev pub piece_of : read.Piece → Piece
piece_of piece = record { char = piece.found; octets = piece.octets.now }

-- what the code knows of a whole script
abbrev pub known_view : List ℕ → notes.Known → Known
known_view script known = record {
  expands = known.expands;
  matches = known.matches;
  most = known.most;
  has = is_named_by script known.given.now;
  raised = is_named_by script known.raised.now;
  first = first_named script known.given.now;
  read = is_read script known.tokens.now;
}

-- the same strings are the first that may be each name: the code leaves out one whose name another has before it
abbrev pub NameAlike : List ℕ → List Token → List Token → Type 0
NameAlike script a b = (name : List ℕ) → first_named script a name ≡ first_named script b name

-- how many notes are looked for: one more than are printed shows that there are more
abbrev pub max_noted : ℕ
max_noted = 21
