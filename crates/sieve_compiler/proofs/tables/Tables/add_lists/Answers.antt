use Rattle.std.proofs.Common.{◌≡◌, OnOk, subst}
use Rattle.sieve_check.specs.TypedView.{templates_of}
use Rattle.sieve_compiler.specs.Growing.{strings_uses, with_uses}
use Rattle.sieve_compiler.proofs.NumberingLemmas.{lists_added}
use Rattle.sieve_compiler.proofs.Walks.{lists_are}
use Rattle.sieve_compiler.proofs.tables.Tables.add_lists.Goals as goal

pub returns : goal.returns
returns c =
    let names = c.deref.result.now in
    let params = c.deref-2.result.now in
    let keys = c.deref-3.result.now in
    subst (λ l. OnOk c.add_strings-3.result (c.add_strings-3.new.self ≡ with_uses c.args.self.now (strings_uses l)))
    (lists_are c.args.strings.now names params keys c.deref.ensures.value c.deref-2.ensures.value c.deref-3.ensures.value)
    (lists_added c.add_strings-3.result c.args.self.now c.add_strings.new.self c.add_strings-2.new.self c.add_strings-3.new.self (templates_of names) (templates_of params) (templates_of keys)
    c.in_ok-add_strings.ensures c.in_ok-add_strings-2.ensures c.add_strings-3.ensures)
