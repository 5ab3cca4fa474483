use Rattle.std.specs.Path.{path_buf_bytes}
use Rattle.depot_jobs.specs.Files.{IsReached}
use Rattle.depot_jobs.proofs.new_file.without_links.Given as goal

abbrev pub invariant-loop : goal.invariant-loop
invariant-loop g l = IsReached l.name (path_buf_bytes l.path)
