-- What comparing costs. All values and keys count, whether or not an earlier one matches.
use Rattle.std.specs.Prelude.{ℕ, ◌+◌, ◌*◌, List, length, max, sum_by}
use Rattle.header_fields.specs.Fields.{Field}
use Rattle.bytecode_format.specs.declared.selection.Selector.{Selector}
use Rattle.bytecode_format.specs.declared.selection.Selector.TheVariants.{Value, Main, Sub, ContentType, Param}

-- how many octets texts have, and one more for each
abbrev pub extent_of : List (List ℕ) → ℕ
extent_of texts = sum_by (λ text. length text + 1) texts

-- the cost of looking for fields by their names: each name with each field, and with one more
abbrev pub names_cost : List Field → List (List ℕ) → ℕ
names_cost fields names = (length fields + 1) * extent_of names

-- the cost of comparing each value with each key
abbrev pub values_cost : List (List ℕ) → List (List ℕ) → ℕ
values_cost values keys = sum_by (λ value. sum_by (λ key. (length value + 1) * (length key + 1)) keys) values

-- how many values are selected of a field at most, and 1 where that is none
abbrev pub values_of_a_field : Selector → List (List ℕ) → ℕ
values_of_a_field Value params = 1
values_of_a_field Main params = 1
values_of_a_field Sub params = 1
values_of_a_field ContentType params = 1
values_of_a_field Param params = max (length params) 1
