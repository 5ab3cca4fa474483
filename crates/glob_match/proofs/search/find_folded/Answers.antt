use Rattle.std.proofs.Common.{◌≡◌, ◌∙◌, ap, subst, length}
use Rattle.std.proofs.lemmas.List.{length-map, take_at}
use Rattle.std.specs.Char.{to_ascii_uppercase}
use Rattle.memchr.specs.Find.{FindsNeedle}
use Rattle.glob_match.specs.declared.comparator.Comparator.TheVariants.{Casemap}
use Rattle.glob_match.specs.Comparison.{compared}
use Rattle.glob_match.proofs.search.find_folded.Goals as goal

pub returns : goal.returns
returns g c =
    let text = c.args.text.now in
    let long : length c.fold.new.folded ≡ length text = ap length c.fold.ensures ∙ length-map text to_ascii_uppercase in
    let needle : c.new-finder.result ≡ compared Casemap text = c.new-finder.ensures ∙ take_at c.fold.new.folded _ (length text) long ∙ c.fold.ensures in
    subst (λ t. FindsNeedle (compared Casemap c.args.value.now) t 0 c.find_in_windows.result) needle c.find_in_windows.ensures
