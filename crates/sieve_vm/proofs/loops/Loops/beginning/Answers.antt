use Rattle.std.proofs.Common.{◌≡◌, true, false, Some, None, take, slice_get, get_or, sym, ap, subst, ◌∙◌}
use Rattle.std.proofs.lemmas.Option.{get_or_from_slice_get}
use Rattle.std.proofs.lemmas.List.{take-take}
use Rattle.std.proofs.lemmas.Result.{IfOk-weaker}
use Rattle.mime_decode.specs.Content.{is_decoded}
use Rattle.mime_decode.specs.Mail.{Mail, Part}
use Rattle.octets.specs.Limits.{max_value}
use Rattle.sieve_vm.specs.Looks.{Visits}
use Rattle.sieve_vm.specs.Visits.{Learns, part_in}
use Rattle.sieve_vm.proofs.Visiting.{current_at, learnt, learns}
use Rattle.sieve_vm.proofs.loops.Loops.beginning.Goals as goal
use Rattle.sieve_vm.proofs.loops.Loops.beginning.Goals.{then-is_decoded+in_ok-found+in_ok-keep, else-is_decoded}

pub returns-in-Some-clause-octets : goal.returns-in-Some-clause-octets
returns-in-Some-clause-octets c =
    IfOk-weaker c.from_slice.result _ _
    (λ octets same part e.
    let place = c.part-part.result in
    let mail_is = ap (λ (v : Visits). v.mail) c.self.view_is in
    let here = ap (λ (m : Mail). slice_get m.parts place) mail_is ∙ current_at c.args.self.now place part c.part-part.ensures.current e in
    let known = sym (ap (λ xs. get_or xs place None) c.deref.ensures.value) ∙ c.in-Some.ensures.some in
    let found = c.self.invariant.1.beginning_is place c.in-Some.found.now part known here in
    same ∙ c.as_many.ensures ∙ ap (take c.args.most) found ∙ take-take c.args.most 4096 part.content c.requires.few)
    c.from_slice.ensures.items

pub returns-in-Some-clause-kept : goal.returns-in-Some-clause-kept
returns-in-Some-clause-kept c =
    IfOk-weaker c.from_slice.result _ _
    (λ octets same part e decoded.
    let place = c.part-part.result in
    let here = ap (λ (v : Visits). slice_get v.mail.parts place) c.self.view_is ∙ current_at c.args.self.now place part c.part-part.ensures.current e in
    let known = sym (ap (λ xs. get_or xs place None) c.deref.ensures.value) ∙ c.in-Some.ensures.some in
    let found = c.self.invariant.1.beginning_is place c.in-Some.found.now part known here in
    learnt c.args.self.now.beginnings c.args.self.now place (take max_value part.content) c.part-part.ensures.current
    (sym (ap (λ (v : Visits). get_or v.beginnings place None) c.self.view_is) ∙ known ∙ ap Some found))
    c.from_slice.ensures.items

pub returns-clause-kept : goal.returns-clause-kept
returns-clause-kept c = λ part e decoded.
    elim c.if-is_decoded.branch [
      | then-is_decoded+in_ok-found+in_ok-keep w ↦
          let content = c.content-content.ensures part (ap part_in c.in_ok-fetch.ensures.held ∙ e) in
          subst (λ (v : Visits). Learns (take max_value part.content) c.args.self.now.beginnings v.beginnings c.args.self.now) (sym w.self-is)
          (learns w.in_ok-found.found (take max_value part.content) c.args.self.now.beginnings _ _ c.args.self.now c.part-part.result c.part-part.ensures.current w.in_ok-keep.ensures.kept
          (ap (λ (v : Visits). v.beginnings) (c.self-2.view_is ∙ c.in_ok-fetch.ensures.held)) (w.in_ok-found.ensures ∙ ap (take max_value) content))
      | else-is_decoded w ↦
          let here = ap (λ (v : Visits). slice_get v.mail.parts c.part-part.result) (c.self-2.view_is ∙ c.in_ok-fetch.ensures.held) ∙ current_at c.args.self.now c.part-part.result part c.part-part.ensures.current e in
          let encoding = c.encoding.ensures part ∙ ap (λ (p : Part). p.encoding) (get_or_from_slice_get _ c.part-part.result part part here) in
          let told = sym (c.is_decoded.ensures ∙ ap is_decoded encoding ∙ decoded) ∙ w.if-is_decoded.false in
          absurd (let both : true ≡ false = told in cc)
    ]

pub returns-clause-lent : goal.returns-clause-lent
returns-clause-lent c = λ part e lent.
    elim c.if-is_decoded.branch [
      | then-is_decoded+in_ok-found+in_ok-keep w ↦
          let here = ap (λ (v : Visits). slice_get v.mail.parts c.part-part.result) (c.self-2.view_is ∙ c.in_ok-fetch.ensures.held) ∙ current_at c.args.self.now c.part-part.result part c.part-part.ensures.current e in
          let encoding = c.encoding.ensures part ∙ ap (λ (p : Part). p.encoding) (get_or_from_slice_get _ c.part-part.result part part here) in
          let told = sym (c.is_decoded.ensures ∙ ap is_decoded encoding ∙ lent) ∙ w.if-is_decoded.true in
          absurd (let both : false ≡ true = told in cc)
      | else-is_decoded w ↦ ap (λ (v : Visits). v.beginnings) (w.self-is ∙ c.in_ok-fetch.ensures.held)
    ]
