use Rattle.std.proofs.Common.{◌++◌, ◌<◌, ◌≢◌, ℕ, length, take, drop, get_or, sym, ap, ◌∙◌, arith}
use Rattle.std.proofs.lemmas.Bool.{eq-eqb}
use Rattle.std.proofs.lemmas.List.{append_assoc}
use Rattle.quoted_printable.specs.QuotedPrintable.{unescaped}
use Rattle.quoted_printable.proofs.Decoded.{ok_then, unescaped-past, unescaped-none}
use Rattle.quoted_printable.proofs.Extended.{extends_if, extends_more, extends_then}
use Rattle.quoted_printable.proofs.decode.append_unescaped.Goals as goal

pub escapes-preserved : goal.escapes-preserved
escapes-preserved c =
    let rest = c.escapes.rest.now in
    let out = c.escapes.out.items in
    let place = c.in-Some.place in
    let first = c.in-Some.ensures in
    let none : (k : ℕ) → k < place → get_or rest k 0 ≢ 61 = λ k lt e. first.0.before k (omega arith) lt (eq-eqb _ _ e) in
    let within : place < length rest = first.0.high in
    let appended = c.in_ok-extend_from_slice.ensures.items ∙ ap (λ l. out ++ l) c.split_at.ensures.front in
    let known = c.first_octets-n.ensures.octets in
    let left = c.first_octets-n.result.2.now in
    let mid = c.append_escape.new.out.items in
    let octets = take c.first_octets-n.result.1 c.first_octets-n.result.0 in
    record {
      done = ap (λ l. l ++ unescaped left) c.in_ok-extend_from_slice-2.ensures.items
          ∙ append_assoc mid octets (unescaped left)
          ∙ ap (λ l. mid ++ l) (sym known.line)
          ∙ c.in_ok-append_escape.ensures.octets
          ∙ (λ i. appended i ++ unescaped (c.split_at.ensures.back i))
          ∙ append_assoc out (take place rest) (unescaped (drop place rest))
          ∙ ap (λ l. out ++ l) (sym (unescaped-past place rest (omega arith) none))
          ∙ c.escapes.invariant.done;
      more = extends_then _ _ _ c.escapes.invariant.more
          (extends_then _ _ _ (extends_more _ _ _ c.in_ok-extend_from_slice.ensures.items)
          (extends_then _ _ _ c.append_escape.ensures.more (extends_more _ _ _ c.in_ok-extend_from_slice-2.ensures.items)));
    }

pub returns-clause-decoded : goal.returns-clause-decoded
returns-clause-decoded c =
    let rest = c.escapes.rest.now in
    let out = c.escapes.out.items in
    let none : (k : ℕ) → k < length rest → get_or rest k 0 ≢ 61 = λ k lt e. c.in_default.ensures k (omega arith) lt (eq-eqb _ _ e) in
    ok_then c.extend_from_slice-2.result c.extend_from_slice-2.new.self.items out rest c.extend_from_slice-2.ensures.items (λ e.
    e ∙ ap (λ l. out ++ l) (sym (unescaped-none rest none)) ∙ c.escapes.invariant.done)

pub returns-in_err-append_escape-clause-more : goal.returns-in_err-append_escape-clause-more
returns-in_err-append_escape-clause-more c =
    extends_then _ _ _ c.escapes.invariant.more (extends_then _ _ _ (extends_more _ _ _ c.in_ok-extend_from_slice.ensures.items) c.append_escape.ensures.more)

pub returns-in_err-extend_from_slice-2-clause-more : goal.returns-in_err-extend_from_slice-2-clause-more
returns-in_err-extend_from_slice-2-clause-more c =
    extends_then _ _ _ c.escapes.invariant.more
    (extends_then _ _ _ (extends_more _ _ _ c.in_ok-extend_from_slice.ensures.items)
    (extends_then _ _ _ c.append_escape.ensures.more (extends_if _ _ _ _ c.extend_from_slice-in-Some.ensures.items)))
