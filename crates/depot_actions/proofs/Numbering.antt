-- Lists whose elements are changed one after another, and the rows of new entries.
use Rattle.std.proofs.Common.{◌≡◌, ℕ, zero, suc, ◌+◌, ◌<◌, ◌≤◌, List, [], ◌∷◌, ◌++◌, length, map, set, take, drop, get_or, min, take_all, append-nil, refl, ap, ◌∙◌, arith}
use Rattle.std.proofs.lemmas.List.{drop_all}
use Rattle.octets.specs.Limits.{max_entry_number}
use Rattle.part_store.specs.Entries.{Draft, Listing, entry_of, listing_of, numbered}
use Rattle.part_store.specs.Standing.{listed}
use Rattle.part_store.specs.declared.entry.EntryRow.{EntryRow}
use Rattle.depot_actions.specs.Filing.{unnumbered}

-- the row has this number, or the last one that there is
abbrev pub with_number : ℕ → EntryRow → EntryRow
with_number number row = record row { number = min number max_entry_number }

-- the rows are numbered from a number on
abbrev pub numbered_rows : ℕ → List EntryRow → List EntryRow
numbered_rows number [] = []
numbered_rows number (row ∷ rows) = with_number number row ∷ numbered_rows (number + 1) rows

-- the first of the rows are numbered
abbrev pub numbered_up_to : ℕ → ℕ → List EntryRow → List EntryRow
numbered_up_to number i rows = numbered_rows number (take i rows) ++ drop i rows

pub one_more_numbered : (number i : ℕ) (rows : List EntryRow) (row : EntryRow) → i < length rows → row ≡ get_or (numbered_up_to number i rows) i row
    → set (numbered_up_to number i rows) i (with_number (number + i) row) ≡ numbered_up_to number (i + 1) rows
one_more_numbered number i [] row within is = absurd (omega arith)
one_more_numbered number zero (first ∷ rows) row within is = let e : number + 0 ≡ number = omega arith in rw (e, is) refl
one_more_numbered number (suc i) (first ∷ rows) row within is =
    let e : number + suc i ≡ number + 1 + i = omega arith in
    let f : suc i + 1 ≡ suc (i + 1) = omega arith in
    rw (e, f) (ap (λ others. with_number number first ∷ others) (one_more_numbered (number + 1) i rows row (omega (arith, within)) is))

pub all_numbered : (user : List ℕ) (drafts : List Draft) (number : ℕ) (rows : List EntryRow) → map listed rows ≡ map unnumbered drafts → number + length drafts ≤ max_entry_number + 1
    → map listed (numbered_rows number rows) ≡ map listing_of (numbered user number drafts)
all_numbered user [] number [] same room = refl
all_numbered user [] number (row ∷ rows) same room = absurd (cc)
all_numbered user (draft ∷ drafts) number [] same room = absurd (cc)
all_numbered user (draft ∷ drafts) number (row ∷ rows) same room =
    let small : min number max_entry_number ≡ number = omega (arith, room) in
    let first : listed row ≡ unnumbered draft = cc in
    let others : map listed rows ≡ map unnumbered drafts = cc in
    let here : listed (with_number number row) ≡ listing_of (entry_of user number draft) = rw small (ap (λ (l : Listing). record l { number = number }) first) in
    rw here (ap (λ ls. listing_of (entry_of user number draft) ∷ ls) (all_numbered user drafts (number + 1) rows others (omega (arith, room))))

-- the next of the rows is numbered
pub next_numbered : (first i n : ℕ) (items rows : List EntryRow) (row : EntryRow) → i < length rows → items ≡ numbered_up_to first i rows → row ≡ get_or items i row → n ≡ min (first + i) max_entry_number
    → set items i (record {
      number = n;
      kind = (get_or items i row).kind;
      folder = (get_or items i row).folder;
      name = (get_or items i row).name;
      media = (get_or items i row).media;
      octets = (get_or items i row).octets;
    }) ≡ numbered_up_to first (i + 1) rows
next_numbered first i n items rows row within so_far here is =
    let found : row ≡ get_or (numbered_up_to first i rows) i row = here ∙ ap (λ rs. get_or rs i row) so_far in
    rw (← here, is, so_far) (one_more_numbered first i rows row within found)

take_front : (new rest : List EntryRow) (n : ℕ) → length new ≡ n → take n (new ++ rest) ≡ new
take_front [] rest n is = rw (← is) refl
take_front (row ∷ new) rest n is = rw (← is) (ap (λ rows. row ∷ rows) (take_front new rest (length new) refl))

-- all of them are
pub numbered_whole : (user : List ℕ) (drafts : List Draft) (first i n : ℕ) (items rows rest : List EntryRow) → length rows ≤ i → length items ≡ n → items ≡ numbered_up_to first i rows
    → map listed rows ≡ map unnumbered drafts → first + length drafts ≤ max_entry_number + 1 → map listed (take n (items ++ rest)) ≡ map listing_of (numbered user first drafts)
numbered_whole user drafts first i n items rows rest past number so_far same room =
    let whole : numbered_up_to first i rows ≡ numbered_rows first rows = rw (take_all i rows past, drop_all i rows past) (append-nil (numbered_rows first rows)) in
    ap (map listed) (take_front items rest n number ∙ so_far ∙ whole) ∙ all_numbered user drafts first rows same room
