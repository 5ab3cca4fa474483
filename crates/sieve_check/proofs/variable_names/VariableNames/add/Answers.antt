use Rattle.std.proofs.Common.{◌≡◌, ◌∙◌, bytes_eq, sym, length, refl, false}
use Rattle.std.proofs.lemmas.Bool.{eqb-true}
use Rattle.octets.specs.Ascii.{lowercase_of}
use Rattle.octets.specs.Once.{is_listed}
use Rattle.sieve_check.specs.Refusing.{listed}
use Rattle.sieve_check.proofs.NameSteps.{added_kept, added_new, full_overflows, shown_push, shown_len}
use Rattle.sieve_check.proofs.variable_names.VariableNames.add.Goals as goal

pub returns-then-has : goal.returns-then-has
returns-then-has c = added_kept (listed c.args.self.now) (lowercase_of c.args.name.now) (sym c.has.ensures ∙ c.if-has.true)

pub returns-then-is_full : goal.returns-then-is_full
returns-then-is_full c =
    let fresh : is_listed bytes_eq (lowercase_of c.args.name.now) (listed c.args.self.now) ≡ false = sym c.has.ensures ∙ c.if-has.false in
    let full : length c.args.self.now.names.items ≡ 128 = eqb-true _ _ (sym c.if-is_full.ensures.value) in
    (refl, full_overflows (listed c.args.self.now) (lowercase_of c.args.name.now) fresh (shown_len c.args.self.now.names.items ∙ full))

pub returns : goal.returns
returns c =
    let fresh : is_listed bytes_eq (lowercase_of c.args.name.now) (listed c.args.self.now) ≡ false = sym c.has.ensures ∙ c.if-has.false in
    shown_push c.args.self.now.names.items c.push.new.self.items c.args.name c.push.ensures.items ∙ added_new (listed c.args.self.now) (lowercase_of c.args.name.now) fresh
