-- What is said of how much a program may charge and file.
use Rattle.std.specs.Prelude.{ℕ, List, ◌++◌, codes, min}
use Rattle.std.specs.Fmt.{decimal}
use Rattle.octets.specs.Limits.{max_message, max_parts}
use Rattle.bytecode_cost.specs.Sums.{budget_at}
use Rattle.bytecode_format.specs.Code.{Code}
use Rattle.bytecode_verifier.specs.Budget.{budget_of}
use Rattle.bytecode_verifier.specs.Counting.{entries_at, octets_at}

-- the three lines, without the end of the last
unfoldable pub limits_text : ℕ → ℕ → ℕ → List ℕ
limits_text charge entries octets =
    codes "charge " ++ decimal charge ++ codes "\nentries " ++ decimal entries ++ codes "\noctets " ++ decimal octets

-- what a program may charge at a message of n octets and p parts; how many entries a delivery of it files at most; and how many
-- octets their contents have together at most, each content once
abbrev pub limit_at : Code → ℕ → ℕ → List ℕ
limit_at code n p = limits_text (budget_at (budget_of code) n p) (entries_at code p) (octets_at code n p)

-- the same of all messages of at most so many octets and parts: a law of bytecode_verifier says that none of them comes to more; and
-- none has more octets or parts than a message may
abbrev pub limit_text : Code → ℕ → ℕ → List ℕ
limit_text code octets parts = limit_at code (min octets max_message) (min parts max_parts)
