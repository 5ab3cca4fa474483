use Rattle.std.proofs.Common.{◌≡◌, ◌⊎◌, IsTrue, inl, inr, subst, sym}
use Rattle.sqlite.specs.Closing.{IsCopied}
use Rattle.sqlite.specs.Files.{file_state, IsClosed}
use Rattle.sqlite.specs.declared.error.Error.{Error}
use Rattle.sqlite.specs.declared.error.Error.TheVariants.{SqliteFailure}
use Rattle.sqlite.specs.declared.error.ErrorCode.TheVariants.{OutOfMemory}
use Rattle.part_store.specs.Refusals.{refusal_of}
use Rattle.part_store.specs.declared.error.StoreError.{StoreError}
use Rattle.part_store.specs.declared.error.StoreError.TheVariants.{Memory, Database}
use Rattle.part_store.proofs.Crashed.{files_leave_committed, keeps_state}
use Rattle.part_store.proofs.Opened.{keeps, keeps_database}
use Rattle.part_store.proofs.store.PartStore+FileStore+D.close_files.Goals as goal

told : (error : Error) (e : StoreError) → e ≡ refusal_of error → (e ≡ Memory) ⊎ (e ≡ Database)
told (SqliteFailure OutOfMemory) e is = inl is
told _ e is = inr is

pub returns-in-Ok-clause-holds : goal.returns-in-Ok-clause-holds
returns-in-Ok-clause-holds g c clean held =
    let copied = subst (λ h. IsCopied h c.in-Ok.files) c.known_connection-conn.ensures.same (c.in-Ok.ensures.copied clean) in
    keeps c.args.self c.in-Ok.files (keeps_database c.args.self c.in-Ok.files copied c.known_connection-conn.ensures.live c.known_connection-conn.ensures.settled) held

pub returns-in-Ok-clause-same : goal.returns-in-Ok-clause-same
returns-in-Ok-clause-same g c clean =
    let copied = subst (λ h. IsCopied h c.in-Ok.files) c.known_connection-conn.ensures.same (c.in-Ok.ensures.copied clean) in
    keeps_database c.args.self c.in-Ok.files copied c.known_connection-conn.ensures.live c.known_connection-conn.ensures.settled

pub returns-in-Ok-clause-open : goal.returns-in-Ok-clause-open
returns-in-Ok-clause-open g c clean = subst (λ h. IsTrue (file_state h).is_open) c.known_connection-conn.ensures.same (c.in-Ok.ensures.copied clean).was_open

pub returns-in-Ok-clause-given : goal.returns-in-Ok-clause-given
returns-in-Ok-clause-given g c =
    let ok = c.in-Ok.ensures.ok in
    (ok.0, ok.1, subst (λ h. IsClosed h ok.0) c.known_connection-conn.ensures.same ok.2)

pub returns-in-Err-clause-closed : goal.returns-in-Err-clause-closed
returns-in-Err-clause-closed g c = subst (λ h. IsClosed h c.in-Err.store) c.known_connection-conn.ensures.same c.in-Err.ensures.err.0

pub returns-in-Err-clause-survives : goal.returns-in-Err-clause-survives
returns-in-Err-clause-survives g c is_open held stands =
    keeps_state c.args.self c.in-Err.store (files_leave_committed c.args.self g.met.D.Disk.seen_may_stay) (returns-in-Err-clause-closed g c) held
    (stands, sym (c.known_connection-conn.ensures.settled is_open), is_open)

pub returns-in-Err-clause-refused : goal.returns-in-Err-clause-refused
returns-in-Err-clause-refused g c = told c.in-Err.error c.from.result c.from.ensures
