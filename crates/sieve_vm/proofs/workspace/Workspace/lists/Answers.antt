use Rattle.std.proofs.Common.{◌≡◌, ◌-◌, length, map, slice_range, refl, sym, ap, ◌∙◌, arith}
use Rattle.sieve_vm.specs.Standing.{held_of, octets_of}
use Rattle.sieve_vm.proofs.Pushed.{lists_lent}
use Rattle.sieve_vm.proofs.workspace.Workspace.lists.Goals as goal

pub overflow_sub-keys : goal.overflow_sub-keys
overflow_sub-keys c =
    let work = c.args.self.now in
    let counts = c.args.counts in
    let are = lists_lent counts.names counts.params counts.keys work.top work.entries.items (held_of work).stack c.requires.0 refl c.requires.1 in
    let counted : c.len.result ≡ length work.entries.items = c.len.ensures ∙ work.entries.ok.0 in
    omega (arith, are.within, counted)

pub overflow_sub-params : goal.overflow_sub-params
overflow_sub-params c =
    let work = c.args.self.now in
    let counts = c.args.counts in
    let are = lists_lent counts.names counts.params counts.keys work.top work.entries.items (held_of work).stack c.requires.0 refl c.requires.1 in
    let counted : c.len.result ≡ length work.entries.items = c.len.ensures ∙ work.entries.ok.0 in
    omega (arith, are.within, counted)

pub overflow_sub-names : goal.overflow_sub-names
overflow_sub-names c =
    let work = c.args.self.now in
    let counts = c.args.counts in
    let are = lists_lent counts.names counts.params counts.keys work.top work.entries.items (held_of work).stack c.requires.0 refl c.requires.1 in
    let counted : c.len.result ≡ length work.entries.items = c.len.ensures ∙ work.entries.ok.0 in
    omega (arith, are.within, counted)

pub returns-clause-names : goal.returns-clause-names
returns-clause-names c = λ top e.
    let work = c.args.self.now in
    let counts = c.args.counts in
    let items = work.entries.items in
    let are = lists_lent counts.names counts.params counts.keys work.top items (held_of work).stack top refl e in
    let counted : c.len.result ≡ length items = c.len.ensures ∙ work.entries.ok.0 in
    c.between.ensures ∙ ap (λ l. map octets_of (slice_range items (l - counts.keys - counts.params - counts.names) (l - counts.keys - counts.params))) counted ∙ sym are.names_are

pub returns-clause-params : goal.returns-clause-params
returns-clause-params c = λ top e.
    let work = c.args.self.now in
    let counts = c.args.counts in
    let items = work.entries.items in
    let are = lists_lent counts.names counts.params counts.keys work.top items (held_of work).stack top refl e in
    let counted : c.len.result ≡ length items = c.len.ensures ∙ work.entries.ok.0 in
    c.between-2.ensures ∙ ap (λ l. map octets_of (slice_range items (l - counts.keys - counts.params) (l - counts.keys))) counted ∙ sym are.params_are

pub returns-clause-keys : goal.returns-clause-keys
returns-clause-keys c = λ top e.
    let work = c.args.self.now in
    let counts = c.args.counts in
    let items = work.entries.items in
    let are = lists_lent counts.names counts.params counts.keys work.top items (held_of work).stack top refl e in
    let counted : c.len.result ≡ length items = c.len.ensures ∙ work.entries.ok.0 in
    let whole : c.len-2.result ≡ length items = c.len-2.ensures ∙ work.entries.ok.0 in
    c.between-3.ensures ∙ ap (λ l. map octets_of (slice_range items (l - counts.keys) c.len-2.result)) counted ∙ ap (λ l. map octets_of (slice_range items (length items - counts.keys) l)) whole ∙ sym are.keys_are
