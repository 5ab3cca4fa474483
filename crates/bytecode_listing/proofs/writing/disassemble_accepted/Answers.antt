use Rattle.std.proofs.Common.{◌≡◌, ℕ, List, slice_get, option_map, ap, ◌∙◌}
use Rattle.std.proofs.lemmas.Result.{IfOk-weaker}
use Rattle.std.specs.Global.{Vec}
use Rattle.bytecode_format.specs.Code.{Code}
use Rattle.bytecode_verifier.specs.declared.share.Share.{Share}
use Rattle.bytecode_listing.specs.Listing.{accepted_listing, listing_with, share_text}
use Rattle.bytecode_listing.proofs.Noting.{shares_listed}
use Rattle.bytecode_listing.proofs.writing.disassemble_accepted.Goals as goal

pub returns-clause-text : goal.returns-clause-text
returns-clause-text c =
    let noted : List Share → Code → List ℕ = λ shares code. listing_with (λ place. option_map share_text (slice_get shares place)) code in
    let same : noted c.deref.result.now c.program.result.now ≡ accepted_listing c.args.program.now =
    ap (λ (shares : List Share). noted shares c.program.result.now) c.deref.ensures.value
    ∙ ap (noted c.in_ok-shares.shares.items) c.program.ensures.value
    ∙ shares_listed c.args.program.now c.in_ok-shares.shares.items c.in_ok-shares.ensures.each in
    IfOk-weaker c.listing_with.result (λ (v : Vec ℕ). v.items ≡ noted c.deref.result.now c.program.result.now) (λ (v : Vec ℕ). v.items ≡ accepted_listing c.args.program.now) (λ v e. e ∙ same) c.listing_with.ensures.text
