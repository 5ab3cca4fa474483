use Rattle.std.proofs.Common.{◌≡◌, ℕ, ◌<◌, ◌^◌, List, All, length, Result, Ok, Err, IfErr, IsOk, refl, sym, ap, subst, ◌∙◌}
use Rattle.bytecode_format.specs.declared.error.FormatError.{FormatError}
use Rattle.bytecode_format.specs.declared.error.FormatError.TheVariants.{Spelling}
use Rattle.bytecode_format.specs.Code.{Code}
use Rattle.bytecode_format.specs.Spelling.{IsProgram}
use Rattle.sieve_check.specs.Typed.{CommandForms}
use Rattle.sieve_check.specs.TypedView.{commands_form}
use Rattle.sieve_compiler.specs.Tables.{Tables, tables_of}
use Rattle.sieve_compiler.specs.Coding.{code_of, written_version}
use Rattle.sieve_compiler.proofs.Fits.{is_program}
use Rattle.sieve_compiler.proofs.compiler.compile_commands.Goals as goal

-- parts that make a program are not refused
is_built : {T : Type 0} (result : Result T FormatError) (code made : Code) → IsProgram made → code ≡ made → IfErr result (λ e. (e ≡ Spelling) × ¬ IsProgram code) → IsOk result
is_built (Ok p) code made fits e refused = refl
is_built (Err x) code made fits e refused = absurd (refused.1 (subst IsProgram (sym e) fits))

pub unwrap-requires : goal.unwrap-requires
unwrap-requires c =
    let cs : CommandForms = commands_form c.args.commands.now in
    let numbers : c.into_numbers-numbers.result.items ≡ (tables_of cs).numbers = c.into_numbers-numbers.ensures.list ∙ ap (λ (t : Tables). t.numbers) c.in_ok-tables.ensures in
    let strings : c.in_ok-strings.strings.items ≡ (tables_of cs).strings = c.in_ok-strings.ensures ∙ ap (λ (t : Tables). t.strings) c.in_ok-tables.ensures in
    let instructions : c.in_ok-instructions.instructions.items ≡ (code_of cs).instructions = c.in_ok-instructions.ensures.code in
    let variables : c.variable_count-variables.result ≡ length (tables_of cs).variables = c.variable_count-variables.ensures ∙ ap (λ (t : Tables). length t.variables) c.in_ok-tables.ensures in
    let made : Code = record { version = written_version; variables = c.variable_count-variables.result; numbers = c.into_numbers-numbers.result.items; strings = c.in_ok-strings.strings.items; instructions = c.in_ok-instructions.instructions.items } in
    let same : made ≡ code_of cs = rw (variables, numbers, strings, instructions) in
    is_built c.build.result made (code_of cs) (is_program cs c.requires (subst (λ (l : List ℕ). All (λ n. n < 2 ^ 64) l) numbers c.into_numbers-numbers.ensures.numbers)) same c.build.ensures.refused
