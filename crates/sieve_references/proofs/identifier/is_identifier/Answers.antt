use Rattle.std.proofs.Common.{◌≡◌, ◌&&◌, ◌∙◌, ap, sym, true}
use Rattle.std.specs.List.{list_all}
use Rattle.sieve_lexer.specs.Classes.{begins_identifier, continues_identifier}
use Rattle.sieve_references.specs.References.{is_identifier}
use Rattle.sieve_references.proofs.identifier.is_identifier.Goals as goal

pub returns-then-begins_identifier : goal.returns-then-begins_identifier
returns-then-begins_identifier c =
    let letter : begins_identifier c.in-Some.octet ≡ true = sym c.begins_identifier.ensures ∙ c.if-begins_identifier.true in
    c.are_word_octets.ensures ∙ sym (ap is_identifier c.in-Some.ensures ∙ ap (λ b. b && list_all continues_identifier c.in-Some.others.now) letter)
