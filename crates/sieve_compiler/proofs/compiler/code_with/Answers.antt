use Rattle.std.proofs.Common.{◌≡◌, ◌<◌, ◌^◌, length, ap, arith}
use Rattle.sieve_check.specs.Bounded.{IsBounded}
use Rattle.sieve_check.specs.Typed.{CommandForms}
use Rattle.sieve_check.specs.TypedView.{commands_form}
use Rattle.sieve_compiler.specs.Tables.{Tables, tables_of}
use Rattle.sieve_compiler.proofs.LengthsFit.{commands_within, table_within}
use Rattle.sieve_compiler.proofs.StringsFit.{strings_few}
use Rattle.sieve_compiler.proofs.compiler.code_with.Goals as goal

few_numbers : (cs : CommandForms) (tables : Tables) → IsBounded cs → tables ≡ tables_of cs → length tables.numbers < 2 ^ 32
few_numbers cs tables short e = omega (arith, short.octets, commands_within cs, table_within cs, ap (λ (t : Tables). length t.numbers) e)

few_strings : (cs : CommandForms) (tables : Tables) → IsBounded cs → tables ≡ tables_of cs → length tables.strings < 2 ^ 32
few_strings cs tables short e = omega (arith, short.octets, commands_within cs, strings_few cs, ap (λ (t : Tables). length t.strings) e)

pub new-coder-requires-clause-numbers : goal.new-coder-requires-clause-numbers
new-coder-requires-clause-numbers c = few_numbers (commands_form c.args.commands.now) c.args.tables.now c.requires.bounded c.requires.tables

pub new-coder-requires-clause-strings : goal.new-coder-requires-clause-strings
new-coder-requires-clause-strings c = few_strings (commands_form c.args.commands.now) c.args.tables.now c.requires.bounded c.requires.tables

pub put_commands-requires-clause-room : goal.put_commands-requires-clause-room
put_commands-requires-clause-room c = omega (arith, c.requires.bounded.octets, commands_within (commands_form c.args.commands.now), ap length c.new-coder.ensures.instructions)

few_variables : (cs : CommandForms) (tables : Tables) → IsBounded cs → tables ≡ tables_of cs → length tables.variables < 2 ^ 32
few_variables cs tables short e = omega (arith, short.variables, ap (λ (t : Tables). length t.variables) e)

pub new-coder-requires-clause-variables : goal.new-coder-requires-clause-variables
new-coder-requires-clause-variables c = few_variables (commands_form c.args.commands.now) c.args.tables.now c.requires.bounded c.requires.tables
