use Rattle.std.proofs.Common.{◌≡◌, List, IfOk, false, true, subst, sym, take}
use Rattle.sieve_lexer.specs.declared.token.Token.{Token}
use Rattle.sieve_explain.specs.Notes.{given_of}
use Rattle.sieve_explain.specs.Private.{NameAlike, max_noted}
use Rattle.sieve_explain.specs.declared.notes.Noted.{Noted}
use Rattle.sieve_explain.proofs.Naming.{known_notes}
use Rattle.sieve_explain.proofs.notes.notes_of.Goals as goal

pub returns : goal.returns
returns c =
    let script = c.args.source.now.octets.now in
    let tokens = c.args.tokens.now in
    let alike : NameAlike script c.deref.result.now (given_of script false tokens) =
    subst (λ (l : List Token). NameAlike script l (given_of script false tokens)) (sym c.deref.ensures.value) c.in_ok-given.ensures in
    let raised : NameAlike script c.deref-2.result.now (given_of script true tokens) =
    subst (λ (l : List Token). NameAlike script l (given_of script true tokens)) (sym c.deref-2.ensures.value) c.in_ok-raised.ensures in
    subst (λ (all : List Noted). IfOk c.notes_from.result (λ found. found.items ≡ take max_noted all))
    (known_notes script tokens c.deref.result.now c.deref-2.result.now c.expands_references.result c.has_tag.result c.most_captures.result
    c.expands_references.ensures c.has_tag.ensures c.most_captures.ensures alike raised) c.notes_from.ensures
