-- Texts that a type is read in.
use Rattle.std.proofs.Common.{◌≡◌, ℕ, List, ◌++◌, sym, ap, ◌∙◌}
use Rattle.header_fields.specs.Header.{beginning_of}
use Rattle.header_fields.proofs.Starts.{beginning_rest}
use Rattle.mime_params.specs.MediaValue.{disposition_name, type_names, SettlesDisposition, SettlesType}

pub settled_media : (most : ℕ) (value text : List ℕ) → text ≡ beginning_of most value → SettlesType text → type_names text ≡ type_names value
settled_media most value text is settles =
    let rest = beginning_rest most value in
    sym (settles rest.0) ∙ ap type_names (ap (λ t. t ++ rest.0) is ∙ sym rest.1)

pub settled_name : (most : ℕ) (value text : List ℕ) → text ≡ beginning_of most value → SettlesDisposition text → disposition_name text ≡ disposition_name value
settled_name most value text is settles =
    let rest = beginning_rest most value in
    sym (settles rest.0) ∙ ap disposition_name (ap (λ t. t ++ rest.0) is ∙ sym rest.1)
