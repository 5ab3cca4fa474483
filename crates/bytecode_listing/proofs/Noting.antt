-- The notes that the writer of listings is given.
use Rattle.std.proofs.Common.{◌≡◌, ℕ, suc, ◌+◌, ◌<◌, ◌≤◌, List, [], ◌∷◌, ◌++◌, length, Option, Some, None, refl, ap, ◌∙◌, arith, codes}
use Rattle.std.specs.Prelude.{slice_get, option_map}
use Rattle.std.specs.List.{flat_map}
use Rattle.std.specs.Fmt.{decimal}
use Rattle.bytecode_format.specs.Code.{Code}
use Rattle.bytecode_format.specs.declared.instruction.Instruction.{Instruction}
use Rattle.bytecode_verifier.specs.Budget.{share_at}
use Rattle.bytecode_verifier.specs.declared.share.Share.{Share}
use Rattle.bytecode_listing.specs.Listing.{line, number_line, string_line, Notes, share_text, share_notes, instruction_line, instruction_lines, listing_with, accepted_listing}
use Rattle.bytecode_listing.specs.Noted.{notes_in}
use Rattle.bytecode_listing.specs.declared.notes.Notes as given
use Rattle.bytecode_listing.specs.declared.notes.Notes.TheVariants.{Without, Shares, Refusal}
use Rattle.bytecode_listing.proofs.Skipped.{AreLines, share_text_line, refusal_line}

-- each stands on one line
pub notes_line : (notes : given.Notes) (place : ℕ) → AreLines (notes_in notes place)
notes_line Without place = tt
notes_line (Shares shares) place = found (slice_get shares.now place)
  where
    found : (o : Option Share) → AreLines (option_map share_text o)
    found None = tt
    found (Some share) = share_text_line share
notes_line (Refusal refusal) place = refusal_line refusal.now place

-- notes that are the same at each instruction make the same lines
same_lines : (f g : Notes) (code : Code) (most : ℕ) → ((p : ℕ) → p < most → f p ≡ g p) → (is : List Instruction) (place : ℕ) → place + length is ≤ most → instruction_lines f code place is ≡ instruction_lines g code place is
same_lines f g code most same [] place within = refl
same_lines f g code most same (i ∷ is) place within =
    ap (λ (note : Option (List ℕ)). instruction_line code place i note ++ instruction_lines f code (suc place) is) (same place (omega arith))
    ∙ ap (λ (rest : List ℕ). instruction_line code place i (g place) ++ rest) (same_lines f g code most same is (suc place) (omega arith))

-- those of an accepted program's shares
pub shares_listed : (code : Code) (shares : List Share) → ((place : ℕ) → place < length code.instructions → slice_get shares place ≡ Some (share_at code place))
    → listing_with (λ place. option_map share_text (slice_get shares place)) code ≡ accepted_listing code
shares_listed code shares each =
    ap (λ (lines : List ℕ). head ++ lines)
    (same_lines (λ place. option_map share_text (slice_get shares place)) (share_notes code) code (length code.instructions) (λ p below. ap (option_map share_text) (each p below)) code.instructions 0 (omega arith))
  where
    head : List ℕ
    head =
        line (codes "version " ++ decimal code.version)
        ++ line (codes "variables " ++ decimal code.variables)
        ++ flat_map number_line code.numbers
        ++ flat_map string_line code.strings
