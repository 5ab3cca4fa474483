use Rattle.std.proofs.Common.{◌≡◌, ◌∙◌, IfOk, List, ℕ, subst}
use Rattle.std.specs.Path.{path_buf_bytes, path_with_file_name}
use Rattle.depot_jobs.proofs.new_file.path_beside.Goals as goal

pub returns : goal.returns
returns c =
    let name = c.as_str.ensures.value ∙ c.in_ok-name.ensures.ok in
    subst (λ (text : List ℕ). IfOk c.with_file_name.result (λ path. path_buf_bytes path ≡ path_with_file_name (path_buf_bytes c.args.kept.now) text)) name c.with_file_name.ensures
