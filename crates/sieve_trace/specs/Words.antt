-- Tests and actions in words.
use Rattle.std.specs.Prelude.{ℕ, Bool, true, false, List, [], ◌++◌, codes, Option, None, Some}
use Rattle.std.specs.Fmt.{decimal}
use Rattle.bytecode_format.specs.declared.question.Question.{Question}
use Rattle.readable_text.specs.Quoted.{quoted_start}
use Rattle.glob_match.specs.declared.match_type.MatchType.{MatchType}
use Rattle.sieve_check.specs.Acts.{act_row, left_by}
use Rattle.sieve_check.specs.Questions.{compared_by, named_by}
use Rattle.sieve_check.specs.Rows.{command_word, test_word}
use Rattle.sieve_check.specs.TagRows.{kind_word}
use Rattle.sieve_check.specs.declared.typed.Act.{Act}
use Rattle.sieve_meaning.specs.Traced.{variable_of}

-- the word of a question: that of its test
abbrev pub question_word : Question → List ℕ
question_word question = test_word (named_by question)

-- how values are compared with keys, in a word; nothing where they aren't
abbrev pub kind_text : Option MatchType → List ℕ
kind_text None = []
kind_text (Some kind) = kind_word kind

abbrev pub comparison_word : Question → List ℕ
comparison_word question = kind_text (compared_by question)

-- what an action is done with: the variable that it sets, with the value that this has then; or its string
abbrev pub object_text : Option (List ℕ) → Bool → List ℕ → List ℕ
object_text (Some name) takes_string value = codes " " ++ quoted_start name ++ codes " " ++ quoted_start value
object_text None true string = codes " " ++ quoted_start string
object_text None false string = []

-- how many loops are left, if any are
abbrev pub left_text : Option ℕ → List ℕ
left_text None = []
left_text (Some loops) = codes " " ++ decimal loops

-- an action with what is told of it
unfoldable pub act_text : Act → List ℕ → List ℕ
act_text act text = command_word (act_row act).name
    ++ object_text (variable_of act) (act_row act).string text
    ++ left_text (left_by (act_row act).bound)
