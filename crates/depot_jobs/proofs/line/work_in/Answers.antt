use Rattle.std.proofs.Common.{List, Some, ap, ℕ}
use Rattle.clap.specs.Words.{found_of, rows_of}
use Rattle.depot_jobs.proofs.line.work_in.Goals as goal

pub returns-in-disassemble : goal.returns-in-disassemble
returns-in-disassemble c =
    let rows = rows_of (found_of c.args.found.now) in
    (rows, ap (λ (name : List ℕ). Some (name, rows)) c.in-disassemble.is, c.file-program.ensures)
