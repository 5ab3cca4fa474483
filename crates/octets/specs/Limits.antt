-- The limits of messages, scripts, programs and entries. Each number stands here alone; whatever refuses or cuts cites it by name.
use Rattle.std.specs.Prelude.{ℕ, ◌^◌, ◌-◌}

-- octets of a message, and the number of its parts
abbrev pub max_message : ℕ
max_message = 2 ^ 26

abbrev pub max_parts : ℕ
max_parts = 4096

-- the depth of a part, the message's own being 1
abbrev pub max_depth : ℕ
max_depth = 32

-- octets of a script; braces and test names that enclose a token, its own included; octets of a string in it
abbrev pub max_script : ℕ
max_script = 65536

abbrev pub max_nesting : ℕ
max_nesting = 32

abbrev pub max_string : ℕ
max_string = 16384

-- strings in the lists of one test
abbrev pub max_test_strings : ℕ
max_test_strings = 512

-- references of a string, with the stretches between them; octets of a variable's name
abbrev pub max_segments : ℕ
max_segments = 256

abbrev pub max_name : ℕ
max_name = 32

-- octets of a variable's value, which is cut there, as a capture is
abbrev pub max_value : ℕ
max_value = 4096

-- octets of a program, its instructions and its variables
abbrev pub max_program : ℕ
max_program = 4194304

abbrev pub max_instructions : ℕ
max_instructions = 65536

abbrev pub max_variables : ℕ
max_variables = 128

-- entries on the machine's stack, and loops open at a place
abbrev pub max_stack : ℕ
max_stack = 1024

abbrev pub max_loops : ℕ
max_loops = 3

-- the number of an entry, and octets of a user's name
abbrev pub max_entry_number : ℕ
max_entry_number = 2 ^ 32 - 1

abbrev pub max_user : ℕ
max_user = 64
