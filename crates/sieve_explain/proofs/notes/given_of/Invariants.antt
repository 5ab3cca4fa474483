use Rattle.std.proofs.Common.{◌++◌, drop}
use Rattle.sieve_explain.specs.Notes.{given_of}
use Rattle.sieve_explain.specs.Private.{NameAlike}
use Rattle.sieve_explain.proofs.notes.given_of.Given as goal

-- those so far, and those of the tokens that are left, are the same names as all
abbrev pub invariant-loop-place : goal.invariant-loop-place
invariant-loop-place l =
    let script = l.source.octets.now in
    NameAlike script (l.given.items ++ given_of script l.raised (drop l.place l.tokens)) (given_of script l.raised l.tokens)
