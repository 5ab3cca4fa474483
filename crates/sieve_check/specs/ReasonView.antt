-- Causes and reasons, as the definitions see them.
use Rattle.sieve_check.specs.declared.causes.Reason.{Reason}
use Rattle.sieve_check.specs.declared.causes.Refused.{Refused}
use Rattle.sieve_check.specs.Causes as causes

abbrev pub reason_view : Reason → causes.Reason
reason_view reason = record { kind = reason.kind; name = reason.name.now; subject = reason.subject.now }

abbrev pub refused_view : Refused → causes.Refused
refused_view refused = record { token = refused.token; reason = reason_view refused.reason }
