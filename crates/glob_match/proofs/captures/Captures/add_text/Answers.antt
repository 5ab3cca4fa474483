use Rattle.std.proofs.Common.{◌+◌, ◌++◌, [], ◌∷◌, ap, sym, subst, length, ◌∙◌}
use Rattle.std.proofs.lemmas.List.{length-append}
use Rattle.glob_match.specs.Captures.{LieWithin, texts}
use Rattle.glob_match.proofs.Gathered.{stretch_from, text_added, within_added}
use Rattle.glob_match.proofs.captures.Captures.add_text.Goals as goal

pub returns-clause-texts : goal.returns-clause-texts
returns-clause-texts c =
    let octets = c.args.octets.now.items in
    let text = c.args.text.now in
    let longer = c.in_ok-extend_from_slice.ensures.items in
    let end = c.len.ensures ∙ c.extend_from_slice.new.self.ok.0 ∙ ap length longer ∙ length-append octets text in
    ap (λ o. texts o c.push.new.self.items) longer
    ∙ ap (texts (octets ++ text))
    (c.push.ensures.items
    ∙ ap (λ cs. cs ++ stretch_from c.len-start.result c.len.result ∷ []) c.self.view_is
    ∙ ap (λ n. c.args.self.now ++ stretch_from n c.len.result ∷ []) (c.len-start.ensures ∙ c.args.octets.now.ok.0)
    ∙ ap (λ n. c.args.self.now ++ stretch_from (length octets) n ∷ []) end)
    ∙ text_added octets text c.args.self.now c.requires.within

pub returns-clause-within : goal.returns-clause-within
returns-clause-within c =
    let octets = c.args.octets.now.items in
    let text = c.args.text.now in
    let longer = c.in_ok-extend_from_slice.ensures.items in
    let size = ap length longer ∙ length-append octets text in
    let end = c.len.ensures ∙ c.extend_from_slice.new.self.ok.0 ∙ size in
    let now =
    c.push.ensures.items
    ∙ ap (λ cs. cs ++ stretch_from c.len-start.result c.len.result ∷ []) c.self.view_is
    ∙ ap (λ n. c.args.self.now ++ stretch_from n c.len.result ∷ []) (c.len-start.ensures ∙ c.args.octets.now.ok.0)
    ∙ ap (λ n. c.args.self.now ++ stretch_from (length octets) n ∷ []) end in
    subst (λ cs. LieWithin (length c.extend_from_slice.new.self.items) cs) (sym now)
    (subst (λ n. LieWithin n (c.args.self.now ++ stretch_from (length octets) (length octets + length text) ∷ [])) (sym size)
    (within_added (length octets) (length text) c.args.self.now c.requires.within))
