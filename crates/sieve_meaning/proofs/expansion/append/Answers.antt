use Rattle.std.proofs.Common.{◌≡◌, ◌-◌, length, min, ap, ◌∙◌}
use Rattle.octets.specs.Limits.{max_string}
use Rattle.sieve_meaning.proofs.Joining.{appended}
use Rattle.sieve_meaning.proofs.expansion.append.Goals as goal

pub returns-clause-text : goal.returns-clause-text
returns-clause-text c =
    let text = c.args.text.now.items in
    let long : c.len-room.result ≡ length text = c.len-room.ensures ∙ c.args.text.now.ok.0 in
    c.in_ok-extend_from_slice.ensures.items ∙ appended max_string text c.args.value.now c.min.result c.requires (c.min.ensures ∙ ap (λ n. min (length c.args.value.now) (max_string - n)) long)
