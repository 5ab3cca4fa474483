-- How many contents there are, and how many octets they have.
use Rattle.std.specs.Prelude.{◌≡◌, ℕ, List, length}
use Rattle.std.specs.List.{sum_by}
use Rattle.sqlite_value.specs.declared.value.Value.{Value}
use Rattle.sqlite_value.specs.declared.value.Value.TheVariants.{Blob}
use Rattle.sqlite_value.specs.Order.{Row, column}
use Rattle.part_store.specs.declared.totals.ContentTotal.{ContentTotal}

-- how many octets a value is
abbrev pub octets_in : Value → ℕ
octets_in (Blob octets) = length octets
octets_in _ = 0

-- how many octets the contents of a table have
abbrev pub octets_of : List Row → ℕ
octets_of table = sum_by (λ r. octets_in (column r 2)) table

-- the number of the rows of the table of contents, and the sum of their octets
pub record IsTotalOf (table : List Row) (total : ContentTotal) : Type 0 where
  pub contents : total.contents ≡ length table
  pub octets : total.octets ≡ octets_of table
