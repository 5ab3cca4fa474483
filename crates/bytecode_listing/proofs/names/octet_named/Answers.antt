use Rattle.std.proofs.Common.{List, ℕ, sym, ap, ◌∙◌, arith}
use Rattle.std.specs.Prelude.{bytes_eq}
use Rattle.bytecode_listing.proofs.Naming.{named_here, named_on, named_last, known}
use Rattle.bytecode_listing.proofs.names.octet_named.Goals as goal

pub returns-then-eq : goal.returns-then-eq
returns-then-eq c =
    named_here c.table.octet c.in-Some.operation c.args.name.now c.table.invariant.0 (sym c.in-Some.ensures) (ap (λ (t : List ℕ). bytes_eq t c.args.name.now) (sym c.name.ensures) ∙ sym c.if-eq.ensures) ∙ c.table.invariant.2

pub table-preserved : goal.table-preserved
table-preserved c =
    let below = known c.table.octet c.in-Some.operation c.table.invariant.0 (sym c.in-Some.ensures) in
    (omega arith, omega (arith, below), named_on c.table.octet c.in-Some.operation c.args.name.now c.table.invariant.0 (sym c.in-Some.ensures) (ap (λ (t : List ℕ). bytes_eq t c.args.name.now) (sym c.name.ensures) ∙ sym c.if-eq.ensures) ∙ c.table.invariant.2)

pub returns : goal.returns
returns c = named_last c.table.octet c.args.name.now c.table.invariant.0 (sym c.in_default.ensures) ∙ c.table.invariant.2
