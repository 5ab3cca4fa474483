use Rattle.std.proofs.Common.{◌≡◌, ◌<◌, ℕ, All, List, get_or, length, take, arith, ap, sym, subst, ◌∙◌}
use Rattle.std.specs.Global.{Vec}
use Rattle.std.proofs.Math.ListN.{get_or-map}
use Rattle.std.proofs.lemmas.List.{length-append, length-map, take_all}
use Rattle.sieve_check.specs.Bounded.{IsBoundedString}
use Rattle.sieve_check.specs.declared.typed.Segment.{Segment}
use Rattle.sieve_check.specs.TypedView.{templates_of}
use Rattle.sieve_compiler.specs.Coding.{strings_code}
use Rattle.sieve_compiler.specs.Lengths.{strings_length}
use Rattle.sieve_compiler.proofs.CodeLengths.{strings_code_length}
use Rattle.sieve_compiler.proofs.coder.Coder.put_strings.Goals as goal

bounded_one : (strings : List (Vec Segment)) (i : ℕ) (s : Vec Segment) → All IsBoundedString (templates_of strings) → i < length strings → s ≡ get_or strings i s → IsBoundedString s.items
bounded_one strings i s all lt is =
    subst IsBoundedString (get_or-map (λ (s : Vec Segment). s.items) strings i s ∙ ap (λ (s : Vec Segment). s.items) (sym is))
    (all i s.items (omega (arith, lt, length-map strings (λ (s : Vec Segment). s.items))))

pub put_string-requires : goal.put_string-requires
put_string-requires c =
    subst IsBoundedString (sym c.deref.ensures.value) (bounded_one c.args.strings.now c.loop-string.string-index c.string-item.result c.requires c.loop-string-test.true c.string-item.is)

pub returns-clause-room : goal.returns-clause-room
returns-clause-room c =
    let strings = c.args.strings.now in
    let i = c.loop-string.string-index in
    let tables = c.args.self.now.tables.now in
    let before = c.args.self.now.instructions.items in
    omega (
      arith,
      ap length c.loop-string.invariant.instructions,
      length-append before (strings_code tables (templates_of (take i strings))),
      strings_code_length tables (templates_of (take i strings)),
      ap (λ ss. strings_length (templates_of ss)) (take_all i strings c.loop-string-test.false),
    )
