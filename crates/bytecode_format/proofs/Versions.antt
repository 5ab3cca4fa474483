-- A program in another version.
use Rattle.std.proofs.Common.{refl, arith}
use Rattle.bytecode_format.specs.Code.{Code}
use Rattle.bytecode_format.specs.Spelling.{IsProgram}
use Rattle.bytecode_format.proofs.Lengths.{length-spelling}

-- a program is a program in version 2 too: the spelling is as long
pub in_two : (code : Code) → IsProgram code → IsProgram (record code { version = 2 })
in_two code is = record {
  version = refl;
  variables = is.variables;
  numbers = is.numbers;
  each_number = is.each_number;
  strings = is.strings;
  each_string = is.each_string;
  instructions = is.instructions;
  each_instruction = is.each_instruction;
  octets = omega (arith, is.octets, length-spelling code, length-spelling (record code { version = 2 }));
}
