-- The object of a message is that of its outline.
use Rattle.std.proofs.Common.{◌≡◌, ◌∙◌, ap, length, List, ℕ}
use Rattle.std.proofs.lemmas.List.{length-map}
use Rattle.mime_decode.specs.Mail.{Mail, Part}
use Rattle.sha2.specs.Sha256.{sha256}
use Rattle.serde_json.specs.Data.{Data}
use Rattle.serde_json.specs.View.{view}
use Rattle.catalog.specs.Fields.{fields_value, own_fields}
use Rattle.catalog.specs.Keeping.{Outlined, outlined, outlined_as}
use Rattle.catalog.specs.Lines.{message_object, message_value}
use Rattle.catalog.specs.Rows.{Row}
use Rattle.catalog.specs.declared.entry.Place.{Place}
use Rattle.catalog.specs.declared.outline.Outline.{Outline}

pub of_outline : (row : Row) (outline : Outline) (mail : Mail) (stored : List Place) → outlined_as outline ≡ outlined mail
    → message_object row (length outline.digests.items) (view outline.fields) stored ≡ message_value row mail stored
of_outline row outline mail stored is =
    ap (λ (o : Outlined). message_object row (length o.digests) o.fields stored) is
    ∙ ap (λ n. message_object row n (fields_value (own_fields mail.parts)) stored) (length-map mail.parts (λ (part : Part). sha256 part.content))

pub same_outline : (digests others : List (List ℕ)) (fields values : Data) → digests ≡ others → fields ≡ values
    → (let r : Outlined = record { digests = digests; fields = fields } in r) ≡ record { digests = others; fields = values }
same_outline digests others fields values one two =
    ap (λ d. let r : Outlined = record { digests = d; fields = fields } in r) one ∙ ap (λ f. let r : Outlined = record { digests = others; fields = f } in r) two
