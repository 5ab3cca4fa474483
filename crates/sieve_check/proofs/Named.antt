-- Questions and acts are called as the tests and commands of which they are made.
use Rattle.std.proofs.Common.{◌≡◌, ℕ, List, [], ◌∷◌, Some, ap, sym, ◌∙◌}
use Rattle.std.proofs.lemmas.Option.{same_Some}
use Rattle.bytecode_format.specs.declared.question.Order.{Order}
use Rattle.bytecode_format.specs.declared.question.Order.TheVariants.{Over}
use Rattle.bytecode_format.specs.declared.question.Question.{Question}
use Rattle.bytecode_format.specs.declared.modifiers.Modifiers.{Modifiers}
use Rattle.sieve_parser.specs.Tree.{ArgumentTree, text}
use Rattle.sieve_check.specs.declared.table.CommandName.{CommandName}
use Rattle.sieve_check.specs.declared.table.CommandName.TheVariants.{Set}
use Rattle.sieve_check.specs.declared.table.TestName.{TestName}
use Rattle.sieve_check.specs.declared.typed.Act.{Act}
use Rattle.sieve_check.specs.Acts.{Acting, act_row, acting, bare, filing, setting, taking, leaving, inactive}
use Rattle.sieve_check.specs.FormOf.{act_by, act_of, number_in, question_by, question_of, setting_in, text_in}
use Rattle.sieve_check.specs.Questions.{Asking, asking, by_number, by_tags, named_by, unasked}
use Rattle.sieve_check.specs.Signatures.{Read}
use Rattle.sieve_check.specs.Surroundings.{Context, loops_left}
use Rattle.sieve_check.specs.Typed.{Template}
use Rattle.sieve_check.proofs.Options.{map_some, step_some}
use Rattle.sieve_check.proofs.Regular.{made_name, name_by, regular, regular_act}

question_called : (how : Asking) (name : TestName) (read : Read) (question : Question) → ((order : Order) (n : ℕ) → made_name how name read.tags order n ≡ name) → question_by how read ≡ Some question → named_by question ≡ name
question_called (by_tags make) name read question h e = ap named_by (sym (same_Some (make read.tags) question e)) ∙ h Over 0
question_called (by_number make) name read question h e =
    let order = step_some read.tags.order _ question e in
    let number = map_some (number_in read.positional) (make order.0) question order.2 in
    ap named_by (sym (same_Some _ question number.2)) ∙ h order.0 number.0
question_called unasked name read question h e = absurd (cc)

pub test_called : (name : TestName) (read : Read) (question : Question) → question_of name read ≡ Some question → named_by question ≡ name
test_called name read question e = question_called (asking name) name read question (λ order n. (regular name read.tags order n).called) e

-- the command of an act with its string
abbrev name_of : Act × Template → CommandName
name_of done = (act_row done.0).name

set_called : (s : Context) (m : Modifiers) (args : List ArgumentTree) (done : Act × Template) → setting_in s.required m args ≡ Some done → name_of done ≡ Set
set_called s m (text name ∷ text value ∷ []) done e = ap name_of (sym (same_Some _ done e))
set_called s m _ done e = absurd (cc)

act_called : (s : Context) (how : Acting) (name : CommandName) (read : Read) (done : Act × Template) → name_by how name ≡ name → act_by s how read ≡ Some done → name_of done ≡ name
act_called s (bare act) name read done h e = ap name_of (sym (same_Some _ done e)) ∙ h
act_called s (filing act) name read done h e =
    ap name_of (sym (same_Some _ done (map_some (text_in read.positional) _ done e).2)) ∙ h
act_called s setting name read done h e = set_called s read.tags.modifiers read.positional done e ∙ h
act_called s taking name read done h e =
    ap name_of (sym (same_Some _ done (map_some (text_in read.positional) _ done e).2)) ∙ h
act_called s leaving name read done h e =
    ap name_of (sym (same_Some _ done (map_some (loops_left read.name s.loops) _ done e).2)) ∙ h
act_called s inactive name read done h e = absurd (cc)

pub command_called : (s : Context) (name : CommandName) (read : Read) (done : Act × Template) → act_of s name read ≡ Some done → name_of done ≡ name
command_called s name read done e = act_called s (acting name) name read done (regular_act name).called e
