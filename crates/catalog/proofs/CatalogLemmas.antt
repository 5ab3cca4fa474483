-- The entries of a list and what is kept of them, one after another.
use Rattle.std.proofs.Common.{◌≡◌, ◌<◌, ◌≤◌, ◌+◌, ◌||◌, ℕ, zero, suc, List, [], ◌∷◌, ◌++◌, Bool, true, false, if◌then◌else◌, Option, Some, None, bytes_eq, filter_map, flat_map, get_or, length, map, nat_lt, option_map, take, refl, sym, ap, ◌∙◌, arith}
use Rattle.std.specs.List.{cons_option, slice_get}
use Rattle.std.proofs.lemmas.Grind.{flat_map-append}
use Rattle.std.proofs.lemmas.List.{append-nil, length-map, map-append, take_all, take_more}
use Rattle.std.proofs.lemmas.List.Elements.{filter_map-append}
use Rattle.std.proofs.lemmas.Option.{get_or_from_slice_get, none-some, same_Some, slice_get-get_or, slice_get-map, slice_get_within}
use Rattle.std.proofs.lemmas.Slice.Eq.{bytes_eq-Decides}
use Rattle.sha2.specs.Sha256.{sha256}
use Rattle.mime_decode.specs.Mail.{mail_of}
use Rattle.catalog.specs.Catalog.{Filed, catalog, line_among, messages_of, numbered, part_entry, parts_of, piece_of, row_of_filed}
use Rattle.catalog.specs.Index.{is_stored}
use Rattle.catalog.specs.Keeping.{Known, Outlined, known_as, known_of, outlined}
use Rattle.catalog.specs.Making.{HasPart, message_in, messages_in, part_beside, part_in, parts_above, parts_in}
use Rattle.catalog.specs.Rows.{Row}
use Rattle.catalog.specs.Stored.{Numbered, digests_of}
use Rattle.catalog.specs.declared.entry.PartEntry.{PartEntry}
use Rattle.catalog.specs.declared.keeping.Kept.{Kept}

-- ---- one more of a list

pub one_taken : {A : Type 0} (all : List A) (at : ℕ) (x : A) → slice_get all at ≡ Some x → take (at + 1) all ≡ take at all ++ x ∷ []
one_taken all at x found =
    take_more all at x (slice_get_within all at x found) ∙ ap (λ y. take at all ++ y ∷ []) (get_or_from_slice_get all at x x found)

pub got_at : {A : Type 0} (all : List A) (at : ℕ) (x : A) → at < length all → x ≡ get_or all at x → slice_get all at ≡ Some x
got_at all at x within is = slice_get-get_or all at x within ∙ ap (λ y. Some y) (sym is)

pub more_picked : {A B C : Type 0} (f : A → B) (g : B → Option C) (all : List A) (at : ℕ) (x : A) → slice_get all at ≡ Some x
    → filter_map g (map f (take at all)) ++ filter_map g (f x ∷ []) ≡ filter_map g (map f (take (at + 1) all))
more_picked f g all at x found =
    sym (
    ap (λ l. filter_map g (map f l)) (one_taken all at x found)
    ∙ ap (filter_map g) (map-append f (take at all) (x ∷ []))
    ∙ filter_map-append g (map f (take at all)) (f x ∷ [])
    )

pub of_option : {A B : Type 0} (f : A → B) (o : Option A) (b : B) → Some b ≡ option_map f o → (a : A) × (o ≡ Some a) × (b ≡ f a)
of_option f None b is = absurd (none-some b (sym is))
of_option f (Some a) b is = (a, refl, same_Some b (f a) is)

-- what is kept of an entry is that of the filed one at the same place
pub filed_at : (kept : List Kept) (all : List Filed) (at : ℕ) (item : Kept) → map known_as kept ≡ map known_of all → slice_get kept at ≡ Some item
    → (filed : Filed) × (slice_get all at ≡ Some filed) × (known_as item ≡ known_of filed)
filed_at kept all at item same found =
    of_option known_of (slice_get all at) (known_as item)
    (sym (ap (option_map known_as) found) ∙ sym (slice_get-map known_as kept at) ∙ ap (λ l. slice_get l at) same ∙ slice_get-map known_of all at)

-- ---- the entries that are parts or messages

same_part : (message : Bool) (row : Row) (outline : Outlined)
    → part_beside row (if message then Some outline else None) ≡ (if message then None else Some (record { number = row.number; digest = row.digest }))
same_part true row outline = refl
same_part false row outline = refl

pub same_parts : (all : List Filed) → parts_in (map known_of all) ≡ parts_of all
same_parts [] = refl
same_parts (filed ∷ all) =
    ap (λ o. cons_option o (parts_in (map known_of all))) (same_part filed.is_message (row_of_filed filed) (outlined (mail_of filed.octets)))
    ∙ ap (cons_option (part_entry filed)) (same_parts all)

same_message : (message : Bool) (number : ℕ) (outline : Outlined)
    → option_map (λ (o : Outlined). let r : Numbered = record { number = number; digests = o.digests } in r) (if message then Some outline else None)
    ≡ (if message then Some (record { number = number; digests = outline.digests }) else None)
same_message true number outline = refl
same_message false number outline = refl

pub same_messages : (all : List Filed) → messages_in (map known_of all) ≡ messages_of all
same_messages [] = refl
same_messages (filed ∷ all) =
    ap (λ o. cons_option o (messages_in (map known_of all))) (same_message filed.is_message filed.number (outlined (mail_of filed.octets)))
    ∙ ap (cons_option (numbered filed)) (same_messages all)

-- ---- a part that gets a line is among those above the number

or_true : (a b : Bool) → b ≡ true → (a || b) ≡ true
or_true true b h = refl
or_true false b h = h

kept_on : (above : Bool) (entry : PartEntry) (parts : List PartEntry) (digest : List ℕ) → is_stored parts digest ≡ true → is_stored (if above then entry ∷ parts else parts) digest ≡ true
kept_on true entry parts digest stored = or_true (bytes_eq entry.digest digest) (is_stored parts digest) stored
kept_on false entry parts digest stored = stored

later : (message : Bool) (after : ℕ) (entry : PartEntry) (parts : List PartEntry) (digest : List ℕ) → is_stored (parts_above after parts) digest ≡ true
    → is_stored (parts_above after (cons_option (if message then None else Some entry) parts)) digest ≡ true
later true after entry parts digest stored = stored
later false after entry parts digest stored = kept_on (nat_lt after entry.number) entry (parts_above after parts) digest stored

pub part_is_stored : (after : ℕ) (all : List Filed) (at : ℕ) (filed : Filed) → slice_get all at ≡ Some filed → nat_lt after filed.number ≡ true → HasPart (parts_above after (parts_of all)) filed
part_is_stored after [] at filed found above part = absurd (none-some filed found)
part_is_stored after (first ∷ all) zero filed found above part =
    let same = same_Some first filed found in
    let message = ap (λ (f : Filed). f.is_message) same ∙ part in
    let first_above = ap (λ (f : Filed). nat_lt after f.number) same ∙ above in
    let digest = (bytes_eq-Decides (sha256 first.octets) (sha256 filed.octets)).1 (ap (λ (f : Filed). sha256 f.octets) same) in
    rw (message, first_above, digest) refl
part_is_stored after (first ∷ all) (suc at) filed found above part =
    later first.is_message after (record { number = first.number; digest = sha256 first.octets }) (parts_of all) (sha256 filed.octets) (part_is_stored after all at filed found above part)

-- ---- one more line

pub piece_more : (after : ℕ) (all few : List Filed) (at : ℕ) (filed : Filed) (text : List ℕ) → slice_get few at ≡ Some filed → text ≡ flat_map (piece_of after all) (take at few)
    → text ++ piece_of after all filed ≡ flat_map (piece_of after all) (take (at + 1) few)
piece_more after all few at filed text found so_far =
    ap (λ t. t ++ piece_of after all filed) so_far
    ∙ ap (λ p. flat_map (piece_of after all) (take at few) ++ p) (sym (append-nil (piece_of after all filed)))
    ∙ sym (ap (flat_map (piece_of after all)) (one_taken few at filed found) ∙ flat_map-append (piece_of after all) (take at few) (filed ∷ []))

-- the piece of an entry is its line if its number is above the other, and else nothing
pub line_piece : (after : ℕ) (all : List Filed) (filed : Filed) (text old : List ℕ) → nat_lt after filed.number ≡ true → text ≡ old ++ line_among all filed → text ≡ old ++ piece_of after all filed
line_piece after all filed text old above is = is ∙ ap (λ b. old ++ (if b then line_among all filed else [])) (sym above)

pub no_piece : (after : ℕ) (all : List Filed) (filed : Filed) (text old : List ℕ) → nat_lt after filed.number ≡ false → text ≡ old → text ≡ old ++ piece_of after all filed
no_piece after all filed text old below is = is ∙ sym (append-nil old) ∙ ap (λ b. old ++ (if b then line_among all filed else [])) (sym below)

pub whole_text : (after : ℕ) (kept : List Kept) (at : ℕ) (all : List Filed) (text : List ℕ) → length kept ≤ at → map known_as kept ≡ map known_of all → text ≡ flat_map (piece_of after all) (take at all) → text ≡ catalog after all
whole_text after kept at all text whole same is =
    let long : length all ≡ length kept = sym (length-map all known_of) ∙ sym (ap length same) ∙ length-map kept known_as in
    is ∙ ap (flat_map (piece_of after all)) (take_all at all (omega (arith, long, whole)))
