use Rattle.std.proofs.Common.{◌≤◌, subst}
use Rattle.std.specs.Prelude.{sum_by}
use Rattle.octets.specs.Limits.{max_message}
use Rattle.header_fields.specs.Extent.{fields_extent}
use Rattle.mail_matching.proofs.Scopes.{headers_within}
use Rattle.mail_matching.proofs.headers.Headers.count.Goals as goal

pub returns-clause-few : goal.returns-clause-few
returns-clause-few c =
    subst (λ headers. sum_by fields_extent headers ≤ max_message) c.self.view_is (headers_within c.self.inside.first c.self.inside.number c.self.inside.message.now c.self.invariant.1)
