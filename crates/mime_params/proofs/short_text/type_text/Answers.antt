use Rattle.std.proofs.Common.{◌≡◌, ◌++◌, [], ◌∷◌, ◌∙◌, ap}
use Rattle.std.proofs.lemmas.List.{append_assoc}
use Rattle.mime_params.specs.MediaValue.{type_names}
use Rattle.mime_params.proofs.Naming.{names_written, no_names}
use Rattle.mime_params.proofs.short_text.type_text.Goals as goal

pub returns-in_default : goal.returns-in_default
returns-in_default c = ap type_names (c.from_vec.ensures ∙ c.new.ensures.items) ∙ no_names c.args.text.now c.in_default.ensures

pub returns : goal.returns
returns c =
    let main = c.in-Some.main.now in
    let sub = c.in-Some.sub.now in
    let begun : c.extend_from_slice.new.self.items ≡ main =
    c.in_ok-extend_from_slice.ensures.items ∙ ap (λ t. t ++ main) c.in_ok-short.ensures.items in
    let written : c.from_vec-2.result ≡ main ++ 47 ∷ sub =
    c.from_vec-2.ensures ∙ c.in_ok-extend_from_slice-2.ensures.items
    ∙ ap (λ t. t ++ sub) (c.in_ok-push.ensures.items ∙ ap (λ t. t ++ 47 ∷ []) begun)
    ∙ append_assoc main (47 ∷ []) sub in
    ap type_names written ∙ names_written c.args.text.now main sub c.in-Some.ensures
