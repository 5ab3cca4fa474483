use Rattle.std.proofs.Common.{◌≡◌, ◌-◌, length, map, reverse, take, refl, sym, ap, ◌∙◌, arith}
use Rattle.sieve_vm.specs.Standing.{held_of, value_of, with_top}
use Rattle.sieve_vm.proofs.Holding.{same_parts}
use Rattle.sieve_vm.proofs.Pushed.{lists_lent}
use Rattle.sieve_vm.proofs.workspace.Workspace.drop_lists.Goals as goal

pub overflow_sub-keys : goal.overflow_sub-keys
overflow_sub-keys c =
    let work = c.args.self.now in
    let counts = c.args.counts in
    let are = lists_lent counts.names counts.params counts.keys work.top work.entries.items (held_of work).stack c.requires.0 refl c.requires.1 in
    let counted : c.len.result ≡ length work.entries.items = c.len.ensures ∙ work.entries.ok.0 in
    omega (arith, are.within, counted)

pub overflow_sub-params : goal.overflow_sub-params
overflow_sub-params c =
    let work = c.args.self.now in
    let counts = c.args.counts in
    let are = lists_lent counts.names counts.params counts.keys work.top work.entries.items (held_of work).stack c.requires.0 refl c.requires.1 in
    let counted : c.len.result ≡ length work.entries.items = c.len.ensures ∙ work.entries.ok.0 in
    omega (arith, are.within, counted)

pub overflow_sub-names : goal.overflow_sub-names
overflow_sub-names c =
    let work = c.args.self.now in
    let counts = c.args.counts in
    let are = lists_lent counts.names counts.params counts.keys work.top work.entries.items (held_of work).stack c.requires.0 refl c.requires.1 in
    let counted : c.len.result ≡ length work.entries.items = c.len.ensures ∙ work.entries.ok.0 in
    omega (arith, are.within, counted)

pub returns : goal.returns
returns c = λ top e.
    let work = c.args.self.now in
    let counts = c.args.counts in
    let items = work.entries.items in
    let are = lists_lent counts.names counts.params counts.keys work.top items (held_of work).stack top refl e in
    let counted : c.len.result ≡ length items = c.len.ensures ∙ work.entries.ok.0 in
    let left = ap (λ es. with_top work.top (map value_of (reverse es))) (c.truncate.ensures.items ∙ ap (λ l. take (l - counts.keys - counts.params - counts.names) items) counted) ∙ sym are.below in
    same_parts _ top.below _ _ left refl refl
