use Rattle.std.proofs.Common.{◌++◌, OnOk, All, sym, subst}
use Rattle.sieve_check.specs.Bounded.{IsBoundedString}
use Rattle.sieve_check.specs.TypedView.{templates_of}
use Rattle.sieve_compiler.specs.Coding.{strings_code}
use Rattle.sieve_compiler.specs.Putting.{Puts}
use Rattle.sieve_compiler.proofs.PuttingLemmas.{all_left, all_right, lists_put}
use Rattle.sieve_compiler.proofs.Walks.{lists_are}
use Rattle.sieve_compiler.proofs.coder.Coder.put_lists.Goals as goal

pub put_strings-requires : goal.put_strings-requires
put_strings-requires c =
    let strings = c.args.strings.now in
    let names = templates_of strings.names.items in
    let params = templates_of strings.params.items in
    subst (λ items. All IsBoundedString (templates_of items)) (sym c.deref.ensures.value)
    (all_left IsBoundedString names params (all_left IsBoundedString (names ++ params) (templates_of strings.keys.items) c.requires))

pub put_strings-requires-2 : goal.put_strings-requires-2
put_strings-requires-2 c =
    let strings = c.args.strings.now in
    let names = templates_of strings.names.items in
    let params = templates_of strings.params.items in
    subst (λ items. All IsBoundedString (templates_of items)) (sym c.deref-2.ensures.value)
    (all_right IsBoundedString names params (all_left IsBoundedString (names ++ params) (templates_of strings.keys.items) c.requires))

pub put_strings-requires-3 : goal.put_strings-requires-3
put_strings-requires-3 c =
    let strings = c.args.strings.now in
    let two = templates_of strings.names.items ++ templates_of strings.params.items in
    subst (λ items. All IsBoundedString (templates_of items)) (sym c.deref-3.ensures.value)
    (all_right IsBoundedString two (templates_of strings.keys.items) c.requires)

pub returns-clause-code : goal.returns-clause-code
returns-clause-code c =
    let names = c.deref.result.now in
    let params = c.deref-2.result.now in
    let keys = c.deref-3.result.now in
    subst (λ l. OnOk c.put_strings-3.result (Puts c.args.self.now c.put_strings-3.new.self (strings_code c.args.self.now.tables.now l)))
    (lists_are c.args.strings.now names params keys c.deref.ensures.value c.deref-2.ensures.value c.deref-3.ensures.value)
    (lists_put c.put_strings-3.result c.args.self.now c.put_strings.new.self c.put_strings-2.new.self c.put_strings-3.new.self (templates_of names) (templates_of params) (templates_of keys)
    c.in_ok-put_strings.ensures.code c.in_ok-put_strings-2.ensures.code c.put_strings-3.ensures.code)
