use Rattle.std.proofs.Common.{◌++◌, ◌*◌, drop, sym, ap, ◌∙◌}
use Rattle.std.proofs.lemmas.List.{append_assoc}
use Rattle.octet_lanes.specs.Encoding.{encoding_of, width}
use Rattle.octet_lanes.proofs.Reading.{grown_on}
use Rattle.octet_lanes.proofs.Texts.{encoding_rest}
use Rattle.octet_lanes.proofs.text.append_encoding.Goals as goal

pub whole-preserved : goal.whole-preserved
whole-preserved c =
    let a = c.args.alphabet in
    let rest = c.whole.rest.now in
    let out = c.whole.out.items in
    let now = c.append_symbols.new.out.items in
    let after = c.split_at.ensures.back ∙ ap (λ w. drop (4 * w) rest) c.width-block.ensures in
    let whole = encoding_rest a rest c.in-Some.lanes.now c.in-Some.ensures.cases.same c.in-Some.ensures.cases.enough in
    record {
      text = (λ i. c.in_ok-append_symbols.ensures.text i ++ encoding_of a (after i))
          ∙ append_assoc out _ (encoding_of a (drop (4 * width a) rest))
          ∙ ap (λ l. out ++ l) (sym whole)
          ∙ c.whole.invariant.text;
      grown = grown_on c.args.out.now.items out now c.whole.invariant.grown c.append_symbols.ensures.grown;
    }

pub returns-in_err-append_symbols-clause-grown : goal.returns-in_err-append_symbols-clause-grown
returns-in_err-append_symbols-clause-grown c =
    grown_on c.args.out.now.items c.whole.out.items c.append_symbols.new.out.items c.whole.invariant.grown c.append_symbols.ensures.grown

pub returns-clause-grown : goal.returns-clause-grown
returns-clause-grown c =
    grown_on c.args.out.now.items c.whole.out.items c.append_rest.new.out.items c.whole.invariant.grown c.append_rest.ensures.grown
