use Rattle.std.proofs.Common.{◌≡◌, length, refl, arith, rules}
use Rattle.std.specs.List.{flat_map}
use Rattle.bytecode_format.specs.Code.{Code}
use Rattle.bytecode_format.specs.Spelling.{string}
use Rattle.bytecode_format.proofs.Lengths.{length-spelling}
use Rattle.bytecode_format.proofs.program.Program.build.Goals as goal

pub returns-then-rows_len-strings_len-gt-MAX_PROGRAM-clause-refused : goal.returns-then-rows_len-strings_len-gt-MAX_PROGRAM-clause-refused
returns-then-rows_len-strings_len-gt-MAX_PROGRAM-clause-refused c =
    let code : Code = record { version = c.args.version; variables = c.args.variables; numbers = c.args.numbers.items; strings = c.args.strings.items; instructions = c.args.instructions.items } in
    let strings : c.strings_len.result ≡ length (flat_map string c.args.strings.items) = cc in
    (refl, λ fits. omega (arith, length-spelling code, strings, fits.octets))

pub assemble-requires : goal.assemble-requires
assemble-requires c =
    let code : Code = record { version = c.args.version; variables = c.args.variables; numbers = c.args.numbers.items; strings = c.args.strings.items; instructions = c.args.instructions.items } in
    let strings : c.strings_len.result ≡ length (flat_map string c.args.strings.items) = cc in
    record {
      version = search rules;
      variables = search rules;
      numbers = search rules;
      each_number = search rules;
      strings = search rules;
      each_string = search rules;
      instructions = search rules;
      each_instruction = search rules;
      octets = omega (arith, length-spelling code, strings);
    }
