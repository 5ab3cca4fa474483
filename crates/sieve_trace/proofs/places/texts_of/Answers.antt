use Rattle.std.proofs.Common.{◌≡◌, ◌≤◌, ◌∙◌, ◌++◌, [], ◌∷◌, ap, sym, subst, arith, length, length-append, refl, take}
use Rattle.sieve_trace.specs.declared.places.Place.{Place}
use Rattle.sieve_trace.specs.Places.{place_text, places_of}
use Rattle.sieve_trace.proofs.PieceLemmas.{piece_more, rise_more}
use Rattle.sieve_trace.proofs.PlaceLemmas.{first_place, one_more_place, place_short}
use Rattle.sieve_trace.proofs.places.texts_of.Goals as goal

pub tokens-init : goal.tokens-init
tokens-init c =
    let texts = c.new-texts.ensures.items in
    let bounds = c.in_ok-push.ensures.items ∙ ap (λ l. l ++ 0 ∷ []) c.new-bounds.ensures.items in
    record {
      within = omega arith;
      reached = sym (first_place c.args.script.now);
      so_far = rw bounds refl;
      rise = rw (bounds, texts) refl;
      short = omega (arith, ap length texts);
    }

pub tokens-preserved : goal.tokens-preserved
tokens-preserved c =
    let script = c.args.script.now in
    let tokens = c.args.tokens.now in
    let start = c.start_in-start.result in
    let i = c.tokens.token-index in
    let texts = c.tokens.texts.items in
    let bounds = c.tokens.bounds.items in
    let place = place_text c.moved-place.result in
    let e = c.start_in-start.ensures in
    let rise = c.tokens.invariant.rise in
    let before = c.tokens.invariant.short in
    let grown : c.push_place.new.out.items ≡ texts ++ place = c.in_ok-push_place.ensures in
    let bound : c.push-in-tokens.new.self.items ≡ bounds ++ length (texts ++ place) ∷ [] =
    c.in_ok-push-2.ensures.items ∙ ap (λ n. bounds ++ n ∷ []) (c.len.ensures ∙ c.push_place.new.out.ok.0 ∙ ap length grown) in
    let size : length place ≤ 14 = subst (λ p. length (place_text p) ≤ 14) (sym c.moved-place.ensures) (place_short script start c.requires.short) in
    record {
      within = omega (arith, e);
      reached = c.moved-place.ensures;
      so_far = rw (bound, grown) (piece_more texts place bounds rise ∙ ap (λ l. l ++ place ∷ []) c.tokens.invariant.so_far
          ∙ ap (λ (p : Place). places_of script (take i tokens) ++ place_text p ∷ []) c.moved-place.ensures
          ∙ sym (one_more_place script tokens i _ start c.tokens-test.true e));
      rise = rw (bound, grown) (rise_more texts place bounds rise);
      short = omega (arith, ap length grown, length-append texts place, size, before);
    }

pub overflow_cast-len : goal.overflow_cast-len
overflow_cast-len c =
    let script = c.args.script.now in
    let texts = c.tokens.texts.items in
    let place = place_text c.moved-place.result in
    let before = c.tokens.invariant.short in
    let few = c.requires.few in
    let more = c.tokens-test.true in
    let size : length place ≤ 14 = subst (λ p. length (place_text p) ≤ 14) (sym c.moved-place.ensures) (place_short script c.start_in-start.result c.requires.short) in
    omega (arith, c.len.ensures, c.push_place.new.out.ok.0, ap length c.in_ok-push_place.ensures, length-append texts place, size, before, few, more)
