use Rattle.std.proofs.Common.{◌∙◌, ◌∷◌, ap}
use Rattle.std.specs.Path.{path_with_file_name}
use Rattle.depot_jobs.proofs.new_file.without_links.Goals as goal

pub loop-preserved : goal.loop-preserved
loop-preserved g c =
    let link = c.as_str-in-Ok.result.now in
    (link ∷ c.loop.invariant.0, c.in_ok-path-in-Ok.ensures ∙ ap (λ path. path_with_file_name path link) c.loop.invariant.1)
