-- What commands, tests, tags, capabilities and comparators are called.
use Rattle.std.specs.Prelude.{ℕ, if◌then◌else◌, List, Option, Some, None, option_map, bytes_eq, codes}
use Rattle.std.specs.List.{find}
use Rattle.octets.specs.Ascii.{is_word}
use Rattle.glob_match.specs.declared.comparator.Comparator.{Comparator as ComparatorName}
use Rattle.glob_match.specs.declared.comparator.Comparator.TheVariants.{Octet, Casemap}
use Rattle.sieve_check.specs.declared.table.CommandName.{CommandName}
use Rattle.sieve_check.specs.declared.table.TestName.{TestName}
use Rattle.sieve_check.specs.declared.names.Tag.{Tag}
use Rattle.sieve_check.specs.declared.signature.Ending.{Ending}
use Rattle.sieve_check.specs.Rows.{Row, all_commands, all_tests, command_row, command_word, is_test, test_row, test_word}
use Rattle.sieve_check.specs.TagRows.{all_tags, tag_word}
use Rattle.sieve_check.specs.declared.names.Capability.{Capability}
use Rattle.sieve_check.specs.declared.names.Capability.TheVariants.{FileInto as FileIntoCapability, Variables, Mime, ForEveryPart as ForEveryPartCapability, Depot, OctetComparator, CasemapComparator}

-- the command of that name, if it is known
abbrev pub command_named : List ℕ → Option CommandName
command_named name = find (λ known. is_word name (command_word known)) all_commands

-- the test of that name, if it is known
abbrev pub test_named : List ℕ → Option TestName
test_named name = find (λ known. is_word name (test_word known)) all_tests

-- the tag of that name, if it is known
abbrev pub tag_named : List ℕ → Option Tag
tag_named name = find (λ known. is_word name (tag_word known)) all_tags

-- the capability of that name, if it is known; capabilities are taken as they are written
abbrev pub capability_named : List ℕ → Option Capability
capability_named name =
    if bytes_eq name (codes "fileinto") then Some FileIntoCapability else
    if bytes_eq name (codes "variables") then Some Variables else
    if bytes_eq name (codes "mime") then Some Mime else
    if bytes_eq name (codes "foreverypart") then Some ForEveryPartCapability else
    if bytes_eq name (codes "vnd.depot") then Some Depot else
    if bytes_eq name (codes "comparator-i;octet") then Some OctetComparator else
    if bytes_eq name (codes "comparator-i;ascii-casemap") then Some CasemapComparator else
    None

-- the comparator of that name, if it is known; comparators are taken as they are written
abbrev pub comparator_named : List ℕ → Option ComparatorName
comparator_named name =
    if bytes_eq name (codes "i;octet") then Some Octet else
    if bytes_eq name (codes "i;ascii-casemap") then Some Casemap else
    None

-- what is known of the command or test of that name
abbrev pub command_known : List ℕ → Option Row
command_known word = option_map command_row (command_named word)

abbrev pub test_known : List ℕ → Option Row
test_known word = option_map test_row (test_named word)

-- of what has an ending, which is a command, or of a test
abbrev pub row_named : Option Ending → List ℕ → Option Row
row_named ending word = if is_test ending then test_known word else command_known word
