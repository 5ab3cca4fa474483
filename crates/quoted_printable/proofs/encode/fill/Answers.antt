use Rattle.std.proofs.Common.{◌+◌, ◌++◌, false, length, take, get_or, sym, ap, ◌∙◌, arith}
use Rattle.quoted_printable.specs.QuotedPrintable.{stands}
use Rattle.quoted_printable.proofs.Filling.{IsFilled, filled_run, filled_token, filled_stops, filled_ended}
use Rattle.quoted_printable.proofs.encode.fill.Goals as goal

pub tokens-preserved : goal.tokens-preserved
tokens-preserved c =
    let octets = c.args.octets.now in
    let rest = c.split_at.result.1.now in
    let back = c.split_at.ensures.back in
    let run = c.put_run-run.result in
    let left = c.split_at.ensures.back_len in
    let fewer = c.put_run-run.ensures.fewer (omega (arith, left)) in
    let same = ap length back in
    let filled : IsFilled octets c.args.room c.put_run-run.new.line (c.tokens.taken + run) (c.tokens.len + run) =
    filled_run octets c.args.room c.tokens.line c.put_run-run.new.line c.tokens.taken c.tokens.len run c.tokens.invariant c.put_run-run.array_long
    (omega (arith, fewer, same)) c.put_run-run.ensures.within
    (λ i lt. ap (λ l. stands (get_or l i 0) false) (sym back) ∙ c.put_run-run.ensures.stand i lt)
    (c.put_run-run.ensures.copied ∙ ap (λ l. take c.tokens.len c.tokens.line ++ take run l) back) in
    filled_token octets c.args.room c.put_run-run.new.line c.put_token-end.new.line (c.tokens.taken + run) (c.tokens.len + run) c.put_token-end.result
    filled (omega (arith, fewer, left)) c.put_token-end.array_long c.put_token-end.ensures.end c.put_token-end.ensures.token c.if-end-room.false

pub returns-after-tokens-clause-tokens : goal.returns-after-tokens-clause-tokens
returns-after-tokens-clause-tokens c = filled_ended c.args.octets.now c.args.room c.tokens.line c.tokens.taken c.tokens.len c.tokens.invariant (omega arith)

pub returns-then-end-room-clause-tokens : goal.returns-then-end-room-clause-tokens
returns-then-end-room-clause-tokens c =
    let octets = c.args.octets.now in
    let back = c.split_at.ensures.back in
    let run = c.put_run-run.result in
    let left = c.split_at.ensures.back_len in
    let fewer = c.put_run-run.ensures.fewer (omega (arith, left)) in
    let same = ap length back in
    let filled : IsFilled octets c.args.room c.put_run-run.new.line (c.tokens.taken + run) (c.tokens.len + run) =
    filled_run octets c.args.room c.tokens.line c.put_run-run.new.line c.tokens.taken c.tokens.len run c.tokens.invariant c.put_run-run.array_long
    (omega (arith, fewer, same)) c.put_run-run.ensures.within
    (λ i lt. ap (λ l. stands (get_or l i 0) false) (sym back) ∙ c.put_run-run.ensures.stand i lt)
    (c.put_run-run.ensures.copied ∙ ap (λ l. take c.tokens.len c.tokens.line ++ take run l) back) in
    (filled_stops octets c.args.room c.put_run-run.new.line c.put_token-end.new.line (c.tokens.taken + run) (c.tokens.len + run) c.put_token-end.result
    filled c.requires (omega (arith, fewer, left)) c.put_token-end.ensures.end c.put_token-end.ensures.token c.if-end-room.true).0

pub returns-then-end-room-clause-octets : goal.returns-then-end-room-clause-octets
returns-then-end-room-clause-octets c =
    let octets = c.args.octets.now in
    let back = c.split_at.ensures.back in
    let run = c.put_run-run.result in
    let left = c.split_at.ensures.back_len in
    let fewer = c.put_run-run.ensures.fewer (omega (arith, left)) in
    let same = ap length back in
    let filled : IsFilled octets c.args.room c.put_run-run.new.line (c.tokens.taken + run) (c.tokens.len + run) =
    filled_run octets c.args.room c.tokens.line c.put_run-run.new.line c.tokens.taken c.tokens.len run c.tokens.invariant c.put_run-run.array_long
    (omega (arith, fewer, same)) c.put_run-run.ensures.within
    (λ i lt. ap (λ l. stands (get_or l i 0) false) (sym back) ∙ c.put_run-run.ensures.stand i lt)
    (c.put_run-run.ensures.copied ∙ ap (λ l. take c.tokens.len c.tokens.line ++ take run l) back) in
    (filled_stops octets c.args.room c.put_run-run.new.line c.put_token-end.new.line (c.tokens.taken + run) (c.tokens.len + run) c.put_token-end.result
    filled c.requires (omega (arith, fewer, left)) c.put_token-end.ensures.end c.put_token-end.ensures.token c.if-end-room.true).1
