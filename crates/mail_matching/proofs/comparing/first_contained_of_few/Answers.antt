use Rattle.std.proofs.Common.{◌≡◌, ◌<◌, false, sym, ◌∙◌, arith, length}
use Rattle.glob_match.specs.Containment.{contains_match}
use Rattle.mail_matching.specs.Findings.{key_of}
use Rattle.mail_matching.specs.FirstMatch.{first_key}
use Rattle.mail_matching.specs.Private.{containing}
use Rattle.mail_matching.proofs.OneByOne.{this_key, later_keys, later_found}
use Rattle.mail_matching.proofs.comparing.first_contained_of_few.Goals as goal

pub returns-then-contains_key-clause-captures : goal.returns-then-contains_key-clause-captures
returns-then-contains_key-clause-captures g c = λ captures.
    sym (this_key c.args.comparator c.args.value.now (g.K.Texts.texts c.args.keys.now) c.places.place c.text-key.result.now (omega arith) c.text-key.ensures captures (sym c.contains_key.ensures ∙ c.if-contains_key.true))
    ∙ c.places.invariant.0 captures

pub places-preserved : goal.places-preserved
places-preserved g c =
    let keys = g.K.Texts.texts c.args.keys.now in
    let within : c.places.place < length keys = omega arith in
    let fails : contains_match c.args.comparator c.args.value.now c.text-key.result.now ≡ false = sym c.contains_key.ensures ∙ c.if-contains_key.false in (
      λ captures. later_keys c.args.comparator c.args.value.now keys c.places.place c.text-key.result.now within c.text-key.ensures captures (first_key (containing c.args.comparator) c.args.value.now keys captures) fails (c.places.invariant.0 captures),
      later_found c.args.comparator c.args.value.now keys c.places.place c.text-key.result.now within c.text-key.ensures (key_of (containing c.args.comparator) c.args.value.now keys) fails c.places.invariant.1,
    )
