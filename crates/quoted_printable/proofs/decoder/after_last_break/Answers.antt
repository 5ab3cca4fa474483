use Rattle.std.proofs.Common.{◌≡◌, ◌+◌, ◌++◌, suc, take, drop, ap, ◌∙◌, sym, subst, arith}
use Rattle.std.proofs.lemmas.Bool.{eq-eqb, eqb-true}
use Rattle.quoted_printable.specs.QuotedPrintable.{decoding_of}
use Rattle.quoted_printable.specs.Private.{HasNoFeed}
use Rattle.quoted_printable.proofs.Heads.{decoded-none}
use Rattle.quoted_printable.proofs.Pending.{no_feed_after}
use Rattle.quoted_printable.proofs.Stretches.{broken_past}
use Rattle.quoted_printable.proofs.decoder.after_last_break.Goals as goal

pub returns-in-Some-clause-lines : goal.returns-in-Some-clause-lines
returns-in-Some-clause-lines c = λ after.
    let text = c.args.text.now in
    let place = c.in-Some.place in
    let feed = c.in-Some.ensures in
    let next : place + 1 ≡ suc place = omega arith in
    let front = c.split_at.ensures.front ∙ ap (λ n. take n text) next in
    let back = c.split_at.ensures.back ∙ ap (λ n. drop n text) next in
    broken_past place text after feed.0.high (eqb-true _ _ feed.1)
    ∙ (λ i. decoding_of (sym front i) ++ decoding_of (sym back i ++ after))

pub returns-in-None-clause-lines : goal.returns-in-None-clause-lines
returns-in-None-clause-lines c = λ after.
    λ i. (sym decoded-none ∙ ap decoding_of (sym c.split_at-in-None.ensures.front)) i ++ decoding_of (sym c.split_at-in-None.ensures.back i ++ after)

pub returns-in-Some-clause-no_feed : goal.returns-in-Some-clause-no_feed
returns-in-Some-clause-no_feed c =
    let place = c.in-Some.place in
    subst HasNoFeed (sym c.split_at.ensures.back)
    (no_feed_after c.args.text.now (place + 1) (λ k le lt e. c.in-Some.ensures.0.after k le lt (eq-eqb _ _ e)))

pub returns-in-None-clause-no_feed : goal.returns-in-None-clause-no_feed
returns-in-None-clause-no_feed c =
    subst HasNoFeed (sym c.split_at-in-None.ensures.back)
    (no_feed_after c.args.text.now 0 (λ k le lt e. c.in-None.ensures k (omega arith) lt (eq-eqb _ _ e)))
