-- What is asked of a database's tables, one after another.
use Rattle.std.proofs.Common.{◌≡◌, true, List, [], ◌∷◌, length, get_or, refl, ap, ◌∙◌, arith}
use Rattle.sqlite_schema.specs.declared.schema.Table.{Table}
use Rattle.part_store.specs.Looking.{are_tables, three_tables}
use Rattle.part_store.specs.Tables.{store_schema}

pub stores_pass : are_tables store_schema.tables ≡ true
stores_pass = refl

pub all_three : (tables : List Table) (a b c : Table) → length tables ≡ 3 → a ≡ get_or tables 0 a → b ≡ get_or tables 1 b → c ≡ get_or tables 2 c → three_tables a b c ≡ are_tables tables
all_three [] a b c three first second third = absurd (omega (arith, three))
all_three (x ∷ []) a b c three first second third = absurd (omega (arith, three))
all_three (x ∷ y ∷ []) a b c three first second third = absurd (omega (arith, three))
all_three (x ∷ y ∷ z ∷ []) a b c three first second third = ap (λ t. three_tables t b c) first ∙ ap (λ t. three_tables x t c) second ∙ ap (three_tables x y) third
all_three (x ∷ y ∷ z ∷ w ∷ more) a b c three first second third = absurd (omega (arith, three))
