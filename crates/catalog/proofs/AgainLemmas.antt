-- What is kept of an entry that has the content of another one.
use Rattle.std.proofs.Common.{◌≡◌, ℕ, List, Bool, true, false, if◌then◌else◌, Option, Some, None, is_some, length, not, option_map, true≢false, refl, sym, ap, ◌∙◌}
use mathlib.Core.Bool.{beq}
use Rattle.sha2.specs.Sha256.{sha256}
use Rattle.mime_decode.specs.Mail.{mail_of}
use Rattle.catalog.specs.Catalog.{Filed}
use Rattle.catalog.specs.Keeping.{Known, Outlined, filed_as, known_of, outlined}
use Rattle.catalog.specs.declared.entry.Listed.{Listed}

some_mapped : {A B : Type 0} (f : A → B) (o : Option A) → is_some (option_map f o) ≡ is_some o
some_mapped f None = refl
some_mapped f (Some x) = refl

some_if : (b : Bool) (v : Outlined) → is_some (if b then Some v else None) ≡ b
some_if true v = refl
some_if false v = refl

pub same_kind : (a b : Bool) → not (beq a b) ≡ false → a ≡ b
same_kind true true h = refl
same_kind true false h = absurd (true≢false h)
same_kind false true h = absurd (true≢false h)
same_kind false false h = refl

abbrev known_with : Listed → ℕ → List ℕ → Option Outlined → Known
known_with listed size digest outline =
    record {
      row = record { number = listed.number; folder = listed.folder.now; name = listed.name.now; media = listed.media.now; octets = size; digest = digest };
      outline = outline;
    }

-- the entry is of the same kind, and what was kept of the other one's content is kept of it
pub known_again : {O P : Type 0} (f : P → Outlined) (g : O → P) (kept again : Option O) (known : Known) (listed : Listed) (filed : Filed) (size : ℕ) (digest : List ℕ) → known ≡ known_of filed
    → is_some kept ≡ listed.is_message → option_map g again ≡ option_map g kept → known.row.octets ≡ size → known.row.digest ≡ digest → known.outline ≡ option_map f (option_map g kept)
    → known_with listed size digest (option_map f (option_map g again)) ≡ known_of (filed_as listed filed.octets)
known_again f g kept again known listed filed size digest same kind shared sizes digests outlines =
    let octets = filed.octets in
    let v = outlined (mail_of octets) in
    let n : size ≡ length octets = sym sizes ∙ ap (λ (k : Known). k.row.octets) same in
    let d : digest ≡ sha256 octets = sym digests ∙ ap (λ (k : Known). k.row.digest) same in
    let o : option_map f (option_map g kept) ≡ (if filed.is_message then Some v else None) = sym outlines ∙ ap (λ (k : Known). k.outline) same in
    let message : filed.is_message ≡ listed.is_message =
    sym (some_if filed.is_message v) ∙ sym (ap is_some o) ∙ some_mapped f (option_map g kept) ∙ some_mapped g kept ∙ kind in
    ap (λ s. known_with listed s digest (option_map f (option_map g again))) n
    ∙ ap (λ h. known_with listed (length octets) h (option_map f (option_map g again))) d
    ∙ ap (λ u. known_with listed (length octets) (sha256 octets) u) (ap (option_map f) shared ∙ o ∙ ap (λ b. if b then Some v else None) message)
