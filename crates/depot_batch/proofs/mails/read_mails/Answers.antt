use Rattle.std.proofs.Common.{◌≡◌, ◌∙◌, ◌+◌, ◌<◌, ◌++◌, arith, ap, length-append, refl, subst, sym, length, ℕ, [], ◌∷◌, Vec, Global, map}
use Rattle.std.proofs.Math.ListN.{get_or}
use Rattle.std.proofs.lemmas.List.{get_or-map, length-map}
use Rattle.depot_batch.specs.Effects.{IsDelivery}
use Rattle.depot_batch.specs.Private.{IsPassedOver, command_of, lines_of}
use Rattle.depot_batch.proofs.Grouping.{looked_up, on_none, passed_over, read_more}
use Rattle.depot_batch.proofs.mails.read_mails.Goals as goal

pub returns-in_err-mail-clause-given_up : goal.returns-in_err-mail-clause-given_up
returns-in_err-mail-clause-given_up g c =
    let lines = c.args.lines.now in
    let index = c.loop-line.line-index in
    let line : c.deref.result.now ≡ get_or (lines_of lines) index [] =
    c.deref.ensures.value ∙ ap (λ (l : Vec ℕ Global). l.items) c.line-item.is ∙ sym (get_or-map (λ (l : Vec ℕ Global). l.items) lines index c.line-item.result [] c.loop-line-test.true) in
    let within : index < length (lines_of lines) = rw (length-map lines (λ (l : Vec ℕ Global). l.items)) c.loop-line-test.true in
    on_none c.from_residual.result
    (passed_over (lines_of lines) index [] (map command_of c.loop-line.mails.items) (g.H.Host.state c.args.host.now) (g.H.Host.state c.loop-line.host) (g.H.Host.state c.read_mail.new.host) within c.loop-line.invariant.read
    (subst (λ octets. IsPassedOver octets (g.H.Host.state c.loop-line.host) (g.H.Host.state c.read_mail.new.host)) line c.in_err-mail.ensures.unread))

pub returns-in_default-clause-given_up : goal.returns-in_default-clause-given_up
returns-in_default-clause-given_up g c =
    let lines = c.args.lines.now in
    let index = c.loop-line.line-index in
    let mail = c.in_ok-mail.mail in
    let mails = c.loop-line.mails.items in
    let line : c.deref.result.now ≡ get_or (lines_of lines) index [] =
    c.deref.ensures.value ∙ ap (λ (l : Vec ℕ Global). l.items) c.line-item.is ∙ sym (get_or-map (λ (l : Vec ℕ Global). l.items) lines index c.line-item.result [] c.loop-line-test.true) in
    let within : index < length (lines_of lines) = rw (length-map lines (λ (l : Vec ℕ Global). l.items)) c.loop-line-test.true in
    looked_up (lines_of lines) (index + 1) (map command_of (mails ++ mail ∷ [])) (g.H.Host.state c.args.host.now) (g.H.Host.state c.read_mail.new.host)
    (read_more (lines_of lines) index [] mails (mails ++ mail ∷ []) mail (g.H.Host.state c.args.host.now) (g.H.Host.state c.loop-line.host) (g.H.Host.state c.read_mail.new.host) within c.loop-line.invariant.read
    (subst (λ octets. IsDelivery octets (command_of mail) (g.H.Host.state c.loop-line.host) (g.H.Host.state c.read_mail.new.host)) line c.in_ok-mail.ensures.read) refl)

pub loop-line-preserved : goal.loop-line-preserved
loop-line-preserved g c =
    let lines = c.args.lines.now in
    let index = c.loop-line.line-index in
    let mail = c.in_ok-mail.mail in
    let mails = c.loop-line.mails.items in
    let line : c.deref.result.now ≡ get_or (lines_of lines) index [] =
    c.deref.ensures.value ∙ ap (λ (l : Vec ℕ Global). l.items) c.line-item.is ∙ sym (get_or-map (λ (l : Vec ℕ Global). l.items) lines index c.line-item.result [] c.loop-line-test.true) in
    let within : index < length (lines_of lines) = rw (length-map lines (λ (l : Vec ℕ Global). l.items)) c.loop-line-test.true in
    record {
      number = ap length c.in-Ok.ensures.items ∙ length-append mails (mail ∷ []) ∙ ap (λ n. n + 1) c.loop-line.invariant.number;
      none = λ first. absurd (omega (arith, first));
      read = read_more (lines_of lines) index [] mails c.push.new.self.items mail (g.H.Host.state c.args.host.now) (g.H.Host.state c.loop-line.host) (g.H.Host.state c.read_mail.new.host) within c.loop-line.invariant.read
          (subst (λ octets. IsDelivery octets (command_of mail) (g.H.Host.state c.loop-line.host) (g.H.Host.state c.read_mail.new.host)) line c.in_ok-mail.ensures.read) c.in-Ok.ensures.items;
    }
