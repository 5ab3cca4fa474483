-- The operations, their octets and their names.
use Rattle.std.specs.Prelude.{ℕ, zero, suc, List, [], ◌∷◌, Option, None, slice_get, codes}
use Rattle.bytecode_format.specs.declared.operation.Operation.{Operation}
use Rattle.bytecode_format.specs.declared.operation.Operation.TheVariants.{Halt, Literal, Variable, Capture, Join, Set, Test, Not, Jump, JumpIfTrue, JumpIfFalse, Keep, Discard, File, Store, Each, Next, Break, Take}
use Rattle.bytecode_format.specs.declared.operation.TestOperation.{TestOperation}
use Rattle.bytecode_format.specs.declared.operation.TestOperation.TheVariants.{Constant, Header, Exists, String, Size, PartSize, PartBody, PartDigest}

-- every operation, in the order of their octets: the first one's octet is 1
abbrev pub operations : List Operation
operations =
    Halt ∷ Literal ∷ Variable ∷ Capture ∷ Join ∷ Set ∷ Test Constant ∷ Not ∷ Jump ∷ JumpIfTrue ∷ JumpIfFalse ∷ Test Header
    ∷ Test Exists ∷ Test String ∷ Test Size ∷ Test PartSize ∷ Test PartBody ∷ Test PartDigest ∷ Keep ∷ Discard ∷ File ∷ Store
    ∷ Each ∷ Next ∷ Break ∷ Take ∷ []

-- the operation of an octet, if it names one
abbrev pub operation_of : ℕ → Option Operation
operation_of zero = None
operation_of (suc n) = slice_get operations n

-- the octet of a test
abbrev pub octet_of_test : TestOperation → ℕ
octet_of_test Constant = 0x07
octet_of_test Header = 0x0C
octet_of_test Exists = 0x0D
octet_of_test String = 0x0E
octet_of_test Size = 0x0F
octet_of_test PartSize = 0x10
octet_of_test PartBody = 0x11
octet_of_test PartDigest = 0x12

-- the octet of an operation
abbrev pub octet_of : Operation → ℕ
octet_of Halt = 0x01
octet_of Literal = 0x02
octet_of Variable = 0x03
octet_of Capture = 0x04
octet_of Join = 0x05
octet_of Set = 0x06
octet_of (Test test) = octet_of_test test
octet_of Not = 0x08
octet_of Jump = 0x09
octet_of JumpIfTrue = 0x0A
octet_of JumpIfFalse = 0x0B
octet_of Keep = 0x13
octet_of Discard = 0x14
octet_of File = 0x15
octet_of Store = 0x16
octet_of Each = 0x17
octet_of Next = 0x18
octet_of Break = 0x19
octet_of Take = 0x1A

-- the name of a test in listings
abbrev pub name_of_test : TestOperation → List ℕ
name_of_test Constant = codes "BOOL"
name_of_test Header = codes "HEADER"
name_of_test Exists = codes "EXISTS"
name_of_test String = codes "STRING"
name_of_test Size = codes "SIZE"
name_of_test PartSize = codes "PARTSIZE"
name_of_test PartBody = codes "PARTBODY"
name_of_test PartDigest = codes "PARTDIGEST"

-- the name of an operation in listings
abbrev pub name_of : Operation → List ℕ
name_of Halt = codes "HALT"
name_of Literal = codes "LIT"
name_of Variable = codes "VAR"
name_of Capture = codes "CAP"
name_of Join = codes "JOIN"
name_of Set = codes "SET"
name_of (Test test) = name_of_test test
name_of Not = codes "NOT"
name_of Jump = codes "JMP"
name_of JumpIfTrue = codes "JT"
name_of JumpIfFalse = codes "JF"
name_of Keep = codes "KEEP"
name_of Discard = codes "DISCARD"
name_of File = codes "FILE"
name_of Store = codes "STORE"
name_of Each = codes "EACH"
name_of Next = codes "NEXT"
name_of Break = codes "BREAK"
name_of Take = codes "TAKE"
