use Rattle.std.proofs.Common.{◌≡◌, ◌+◌, ◌<◌, ℕ, List, ◌∷◌, get_or, sym, ap, ◌∙◌, add-one, arith, drop, length}
use Rattle.std.specs.Global.{Vec}
use Rattle.std.proofs.Math.Seq.{drop-cons}
use Rattle.std.proofs.lemmas.List.{drop_all}
use Rattle.std.proofs.lemmas.List.Sums.{sum_by-cons}
use Rattle.sieve_check.specs.declared.typed.Segment.{Segment}
use Rattle.sieve_check.specs.TypedView.{templates_of}
use Rattle.sieve_compiler.specs.Lengths.{string_length, strings_length}
use Rattle.sieve_compiler.proofs.lengths.strings_length.Goals as goal

-- the first that is left, and those after it
first_left : (strings : List (Vec Segment)) (i : ℕ) (s : Vec Segment) → i < length strings → s ≡ get_or strings i s
    → strings_length (templates_of (drop i strings)) ≡ string_length s.items + strings_length (templates_of (drop (i + 1) strings))
first_left strings i s lt is =
    ap (λ ss. strings_length (templates_of ss)) (drop-cons strings i s lt ∙ ap (λ n. get_or strings i s ∷ drop n strings) (sym (add-one i)) ∙ ap (λ y. y ∷ drop (i + 1) strings) (sym is))
    ∙ sum_by-cons string_length s.items (templates_of (drop (i + 1) strings))

pub string_length-total-requires : goal.string_length-total-requires
string_length-total-requires c =
    let left = first_left c.args.strings.now c.loop-string.string-index c.string-item.result c.loop-string-test.true c.string-item.is in
    omega (arith, left, c.loop-string.invariant, c.requires, ap string_length c.deref.ensures.value)

pub loop-string-preserved : goal.loop-string-preserved
loop-string-preserved c =
    let left = first_left c.args.strings.now c.loop-string.string-index c.string-item.result c.loop-string-test.true c.string-item.is in
    omega (arith, left, c.loop-string.invariant, c.string_length-total.ensures, ap string_length c.deref.ensures.value)

pub returns : goal.returns
returns c = omega (arith, c.loop-string.invariant, ap (λ ss. strings_length (templates_of ss)) (drop_all c.loop-string.string-index c.args.strings.now c.loop-string-test.false))
