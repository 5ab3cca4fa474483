use Rattle.std.proofs.Common.{◌≡◌, ℕ, ◌-◌, ◌∙◌, ap, arith, length, take}
use Rattle.mime_tree.proofs.Below.{ended_set}
use Rattle.mime_tree.proofs.reader.end_part.Goals as goal

pub returns-clause-parts : goal.returns-clause-parts
returns-clause-parts c =
    let parts = c.args.parts.now in
    let old = c.index_mut-part.result.now in
    let whole : c.len.result ≡ length parts.items = omega (arith, parts.ok.0, c.len.ensures) in
    ended_set parts.items c.args.at c.args.end old c.end.new.self (omega (arith, parts.ok.0, c.requires)) c.index_mut-part.ensures.value
    (c.end.ensures ∙ ap (λ (n : ℕ). record old { below = n - c.args.at - 1; raw = take (c.args.end - old.place) old.raw }) whole)
