-- What a step costs.
use Rattle.std.specs.Prelude.{ℕ, ◌+◌, Option, Some, None, length, min, slice_get, sum_by}
use Rattle.std.specs.Option.{option_map_or}
use Rattle.bytecode_format.specs.declared.instruction.Instruction.{Instruction}
use Rattle.bytecode_format.specs.declared.operation.Operation.{Operation}
use Rattle.bytecode_format.specs.declared.operation.Operation.TheVariants.{Halt, Literal, Variable, Capture, Join, Set, Not, Jump, JumpIfTrue, JumpIfFalse, Keep, Discard, File, Store, Each, Next, Break, Take, Test}
use Rattle.bytecode_format.specs.declared.question.Question.{Question}
use Rattle.bytecode_format.specs.Questions.{counts_in, question_in}
use Rattle.mime_decode.specs.Mail.{Mail, Part}
use Rattle.mail_matching.specs.Questions.{question_cost}
use Rattle.sieve_vm.specs.State.{Referred, State, current_part}
use Rattle.sieve_vm.specs.Stack.{OnTop, Lists, texts_on_top, lists_counted, length_on_top, texts_in}

-- what asking a question of the message costs, with these lists
abbrev pub cost_of_asking : Mail → Option ℕ → Question → Lists → ℕ
cost_of_asking mail current question lists = question_cost mail current question (texts_in lists)

-- how many octets texts have
abbrev pub octets_on_top : OnTop → ℕ
octets_on_top top = sum_by length top.texts

-- how many octets a variable gets of the current part's content, of which it takes so many at most; without one none
abbrev pub octets_taken : ℕ → Mail → Option ℕ → ℕ
octets_taken most mail None = 0
octets_taken most mail (Some current) = option_map_or (λ (part : Part). min most (length part.content))
    (slice_get mail.parts current) 0

-- the charge of an instruction, from the state that it meets
abbrev pub charge_of : Referred → Mail → Operation → Instruction → State → ℕ
charge_of program mail Halt i state = 1
charge_of program mail Literal i state = 1
charge_of program mail Variable i state = 1
charge_of program mail Capture i state = 1
charge_of program mail Join i state = 1 + option_map_or octets_on_top (texts_on_top i.b state.stack) 0
charge_of program mail Set i state = 1 + length_on_top state.stack
charge_of program mail (Test test) i state = 1 + option_map_or
    (λ question. option_map_or (cost_of_asking mail (current_part state.frames) question)
    (lists_counted (counts_in test i) state.stack) 0)
    (question_in program.numbers test i) 0
charge_of program mail Not i state = 1
charge_of program mail Jump i state = 1
charge_of program mail JumpIfTrue i state = 1
charge_of program mail JumpIfFalse i state = 1
charge_of program mail Keep i state = 1
charge_of program mail Discard i state = 1
charge_of program mail File i state = 1 + length_on_top state.stack
charge_of program mail Store i state = 1 + length_on_top state.stack
charge_of program mail Each i state = 1
charge_of program mail Next i state = 1
charge_of program mail Break i state = 1
charge_of program mail Take i state = 1 + octets_taken i.b mail (current_part state.frames)
