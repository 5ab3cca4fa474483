use Rattle.std.proofs.Common.{◌≡◌, ◌<◌, ◌+◌, All, [], ◌∷◌, ◌++◌, ap, sym, subst, ◌∙◌, arith, length, map, take}
use Rattle.std.proofs.lemmas.List.{length-append, length-take-le, map-append}
use Rattle.std.proofs.lemmas.List.Elements.{All-nil, All-cons, All-append}
use Rattle.sieve_check.specs.TypedView.{templates_of}
use Rattle.sieve_meaning.specs.Meaning.{all_expanded, expanded}
use Rattle.sieve_meaning.specs.Expanded.{octets_of}
use Rattle.sieve_meaning.proofs.Joining.{IsShort, one_more_string}
use Rattle.sieve_meaning.proofs.evaluator.Evaluator.each_expanded.Goals as goal

pub loop-string-preserved : goal.loop-string-preserved
loop-string-preserved c =
    let i = c.loop-string.string-index in
    let strings = c.args.strings.now in
    let texts = map octets_of c.loop-string.texts.items in
    let text = octets_of c.in_ok-text.field-0 in
    let so_far = c.loop-string.invariant in
    let made : map octets_of c.push.new.self.items ≡ texts ++ text ∷ [] =
    ap (map octets_of) c.in_ok-push.ensures.items ∙ map-append octets_of c.loop-string.texts.items (c.in_ok-text.field-0 ∷ []) in
    let lt : i < length strings = c.loop-string-test.true in
    let before : length (take i strings) ≡ i = length-take-le i strings (omega arith) in
    let after : length (take (i + 1) strings) ≡ i + 1 = length-take-le (i + 1) strings (omega arith) in
    record {
      texts_are = λ e stands.
          made ∙ ap (λ ts. ts ++ text ∷ []) (so_far.texts_are e stands)
          ∙ ap (λ t. all_expanded e (templates_of (take i strings)) ++ t ∷ []) (c.in_ok-text.ensures.text e stands ∙ ap (expanded e) c.deref.ensures.value)
          ∙ one_more_string e strings i c.string-item.result lt c.string-item.is;
      count = omega (arith, ap length made, length-append texts (text ∷ []), so_far.count, before, after);
      short = subst (All IsShort) (sym made) (All-append IsShort texts (text ∷ []) so_far.short (All-cons IsShort text [] c.in_ok-text.ensures.short (All-nil IsShort)));
    }
