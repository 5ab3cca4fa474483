-- How the questions of simple tests are made of their tags, and what is told of them.
use Rattle.std.specs.Prelude.{ℕ, Option, Some, None, if◌then◌else◌, unwrap_or}
use Rattle.glob_match.specs.declared.comparator.Comparator.TheVariants.{Casemap}
use Rattle.glob_match.specs.declared.match_type.Match.{Match}
use Rattle.glob_match.specs.declared.match_type.MatchType.{MatchType}
use Rattle.glob_match.specs.declared.match_type.MatchType.TheVariants.{Is}
use Rattle.bytecode_format.specs.declared.question.Order.{Order}
use Rattle.bytecode_format.specs.declared.question.Question.{Question}
use Rattle.bytecode_format.specs.declared.question.Question.TheVariants.{Constant, Header, Exists, Size, String, PartSize, PartBody, PartDigest}
use Rattle.bytecode_format.specs.declared.selection.Scope.{Scope}
use Rattle.bytecode_format.specs.declared.selection.Scope.TheVariants.{Message, Part, PartAndBelow}
use Rattle.sieve_check.specs.declared.signature.Tags.{Tags}
use Rattle.sieve_check.specs.declared.table.TestName.{TestName}
use Rattle.sieve_check.specs.declared.table.TestName.TheVariants as called

-- how values and keys are matched: without a tag by `:is`, and by `i;ascii-casemap`
abbrev pub match_of : Tags → Match
match_of tags = record { kind = unwrap_or tags.kind Is; comparator = unwrap_or tags.comparator Casemap }

-- where a test looks
abbrev pub scope_of : Tags → Scope
scope_of tags = if tags.mime then (if tags.any_child then PartAndBelow else Part) else Message

-- how the question of a simple test is made: of the tags, or of an order and a number; or the test is none
pub data Asking : Type 0 where
  by_tags : (Tags → Question) → Asking
  by_number : (Order → ℕ → Question) → Asking
  unasked : Asking

abbrev pub asking : TestName → Asking
asking (called.Constant value) = by_tags (λ tags. Constant value)
asking called.Header = by_tags
    (λ tags. Header (record { how = match_of tags; scope = scope_of tags; selector = tags.selector }))
asking called.Exists = by_tags (λ tags. Exists (scope_of tags))
asking called.Size = by_number Size
asking called.String = by_tags (λ tags. String (match_of tags))
asking called.PartSize = by_number PartSize
asking called.PartBody = by_tags (λ tags. PartBody (match_of tags))
asking called.PartDigest = by_tags (λ tags. PartDigest)
asking called.Not = unasked
asking called.AllOf = unasked
asking called.AnyOf = unasked

-- the test that asks it
abbrev pub named_by : Question → TestName
named_by (Constant value) = called.Constant value
named_by (Header fields) = called.Header
named_by (Exists scope) = called.Exists
named_by (Size order number) = called.Size
named_by (String how) = called.String
named_by (PartSize order number) = called.PartSize
named_by (PartBody how) = called.PartBody
named_by PartDigest = called.PartDigest

-- in which way values are compared with its keys, if they are: digests are equal or not
abbrev pub compared_by : Question → Option MatchType
compared_by (Constant value) = None
compared_by (Header fields) = Some fields.how.kind
compared_by (Exists scope) = None
compared_by (Size order number) = None
compared_by (String how) = Some how.kind
compared_by (PartSize order number) = None
compared_by (PartBody how) = Some how.kind
compared_by PartDigest = Some Is
