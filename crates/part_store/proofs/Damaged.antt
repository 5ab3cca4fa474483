-- Which contents a scrub finds damaged.
use Rattle.std.proofs.Common.{◌≡◌, ◌≢◌, inl, inr, ℕ, suc, ◌<◌, Bool, true, false, not, ◌&&◌, ◌||◌, ◌+◌, cond, List, [], ◌∷◌, ◌++◌, length, map, filter, take, get_or, sum_by, Vec, refl, sym, ap, ap₂, subst, ◌∙◌, bytes_eq, arith}
use Rattle.std.specs.declared.alloc.Global.{Global}
use Rattle.std.specs.List.{AllByRecursion, list_any}
use Rattle.std.proofs.lemmas.Bool.{cases_Bool, true≢false, false_from_ne_true, and_parts, and_from}
use Rattle.std.proofs.lemmas.List.{append-nil, map-append, take_more}
use Rattle.std.proofs.lemmas.List.Elements.{filter-append}
use Rattle.std.proofs.lemmas.List.Sums.{sum_by-cons}
use Rattle.std.proofs.lemmas.List.Sorted.{sum_by-IsPermutation}
use Rattle.sha2.specs.Sha256.{sha256}
use Rattle.sqlite_value.specs.declared.value.Value.TheVariants.{Blob}
use Rattle.sqlite_value.specs.Order.{Row, column}
use Rattle.sqlite_trees.specs.Tree.{Trees}
use Rattle.sqlite_rules.specs.Lists.{Has}
use Rattle.sqlite_rules.proofs.ListLemmas.{all_has, all_from, some_has, some_from, has_filtered, has_kept, has_at}
use Rattle.sqlite_rules.proofs.ProbeLemmas.{mapped_has}
use Rattle.part_store.specs.Changes.{every, sized, IsListed}
use Rattle.part_store.specs.Entries.{Entries}
use Rattle.part_store.specs.Scanning.{AreDamagedDigests, ShowsContent, damaged_in, digest_in, is_one_of, texts_of}
use Rattle.part_store.specs.Scrubbing.{blob_in, is_damaged, is_damaged_under}
use Rattle.part_store.specs.Standing.{HasContent, HaveDigests, IsContentRow, StandsFor, content_row}
use Rattle.part_store.specs.Tables.{contents_tree}
use Rattle.part_store.proofs.Apart.{bytes_same, same_bytes}
use Rattle.part_store.proofs.Rows.{has_permuted}
use Rattle.part_store.proofs.Shown.{from_table}

-- ---- row after row

damaged_more : (db : Trees) (rows : List Row) (place : ℕ) (row : Row) → place < length rows → row ≡ get_or rows place row
    → damaged_in db (take (place + 1) rows) ≡ damaged_in db (take place rows) ++ damaged_in db (row ∷ [])
damaged_more db rows place row lt is =
    let P = is_damaged_under (db contents_tree) in
    ap (damaged_in db) (take_more rows place row lt ∙ ap (λ r. take place rows ++ r ∷ []) (sym is))
    ∙ ap (filter P) (map-append digest_in (take place rows) (row ∷ [])) ∙ filter-append P (map digest_in (take place rows)) (digest_in row ∷ [])

pub noted_more : (db : Trees) (rows : List Row) (place : ℕ) (row : Row) (old new : List (Vec ℕ Global)) → place < length rows → row ≡ get_or rows place row → AllByRecursion (ShowsContent db) rows
    → texts_of old ≡ damaged_in db (take place rows) → (ShowsContent db row → texts_of new ≡ texts_of old ++ damaged_in db (row ∷ [])) → texts_of new ≡ damaged_in db (take (place + 1) rows)
noted_more db rows place row old new lt is shows was more =
    more (all_has (ShowsContent db) rows row shows (has_at rows place row lt is)) ∙ ap (λ ds. ds ++ damaged_in db (row ∷ [])) was ∙ sym (damaged_more db rows place row lt is)

module _ (db : Trees) (e : Entries) (stands : StandsFor db e) where
  abbrev contents : List Row
  contents = db contents_tree

  abbrev test : List ℕ → Row → Bool
  test digest r = bytes_eq (blob_in (column r 1)) digest && is_damaged r

  -- a row under the digest has the content that is under it
  row_damaged : (digest octets : List ℕ) → HasContent contents digest octets → (r : Row) → Has contents r → bytes_eq (blob_in (column r 1)) digest ≡ true
      → is_damaged r ≡ not (bytes_eq (sha256 octets) digest)
  row_damaged digest octets h r there is =
      let c = all_has IsContentRow contents r stands.contents there in
      let name : c.1 ≡ digest = same_bytes c.1 digest (sym (ap (λ (x : Row). bytes_eq (blob_in (column x 1)) digest) c.3) ∙ is) in
      let held : HasContent contents digest c.2 = (c.0, subst (Has contents) (c.3 ∙ ap (λ d. content_row c.0 d c.2) name) there) in
      let same : c.2 ≡ octets = stands.single digest c.2 octets held h in
      ap is_damaged c.3 ∙ ap₂ (λ o d. not (bytes_eq (sha256 o) d)) same name

  pub under_damaged : (digest octets : List ℕ) → HasContent contents digest octets → is_damaged_under contents digest ≡ not (bytes_eq (sha256 octets) digest)
  under_damaged digest octets h = elim (cases_Bool (is_damaged_under contents digest)) [
    | inl on ↦
        let r = some_has (test digest) contents on in
        let parts = and_parts _ _ r.2 in
        on ∙ sym (sym (row_damaged digest octets h r.0 r.1 parts.0) ∙ parts.1)
    | inr off ↦ elim (cases_Bool (not (bytes_eq (sha256 octets) digest))) [
      | inl bad ↦ absurd (true≢false (sym (some_from (test digest) contents (content_row h.0 digest octets) h.1 (and_from _ _ (bytes_same digest) bad)) ∙ off))
      | inr good ↦ off ∙ sym good
    ]
  ]

  -- ---- how many

  abbrev one_if : Row → ℕ
  one_if r = cond (is_damaged_under contents (digest_in r)) 1 0

  by_row : (rows : List Row) → length (damaged_in db rows) ≡ sum_by one_if rows
  by_row [] = refl
  by_row (r ∷ rows) = elim (cases_Bool (is_damaged_under contents (digest_in r))) [
    | inl on ↦
        let here : one_if r ≡ 1 = rw on refl in
        let more : length (damaged_in db (r ∷ rows)) ≡ suc (length (damaged_in db rows)) = rw on refl in
        omega (arith, sum_by-cons one_if r rows, here, more, by_row rows)
    | inr off ↦
        let here : one_if r ≡ 0 = rw off refl in
        let more : length (damaged_in db (r ∷ rows)) ≡ length (damaged_in db rows) = rw off refl in
        omega (arith, sum_by-cons one_if r rows, here, more, by_row rows)
  ]

  of_rows : (rows : List Row) → ((r : Row) → Has rows r → Has contents r) → sum_by one_if (map sized (filter every rows)) ≡ length (filter is_damaged rows)
  of_rows [] all = refl
  of_rows (r ∷ rows) all =
      let c = all_has IsContentRow contents r stands.contents (all r (inl refl)) in
      let held : HasContent contents c.1 c.2 = (c.0, subst (Has contents) c.3 (all r (inl refl))) in
      let named : digest_in (sized r) ≡ c.1 = ap (λ (x : Row). blob_in (column x 1)) c.3 in
      let same : is_damaged_under contents (digest_in (sized r)) ≡ is_damaged r = ap (is_damaged_under contents) named ∙ under_damaged c.1 c.2 held ∙ sym (ap is_damaged c.3) in
      let counted : one_if (sized r) ≡ cond (is_damaged r) 1 0 = ap (λ b. cond b 1 0) same in
      let rest = of_rows rows (λ x there. all x (inr there)) in
      elim (cases_Bool (is_damaged r)) [
        | inl on ↦
            let here : one_if (sized r) ≡ 1 = counted ∙ ap (λ b. cond b 1 0) on in
            let more : length (filter is_damaged (r ∷ rows)) ≡ suc (length (filter is_damaged rows)) = ap (λ b. length (cond b (r ∷ filter is_damaged rows) (filter is_damaged rows))) on in
            omega (arith, sum_by-cons one_if (sized r) (map sized (filter every rows)), here, more, rest)
        | inr off ↦
            let here : one_if (sized r) ≡ 0 = counted ∙ ap (λ b. cond b 1 0) off in
            let more : length (filter is_damaged (r ∷ rows)) ≡ length (filter is_damaged rows) = ap (λ b. length (cond b (r ∷ filter is_damaged rows) (filter is_damaged rows))) off in
            omega (arith, sum_by-cons one_if (sized r) (map sized (filter every rows)), here, more, rest)
      ]

  pub damaged_counted : (rows : List Row) → IsListed contents_tree every sized rows db → length (damaged_in db rows) ≡ length (filter is_damaged contents)
  damaged_counted rows listed =
      by_row rows ∙ sum_by-IsPermutation one_if (map sized (filter every contents)) rows listed.same ∙ of_rows contents (λ r there. there)

  -- ---- row by row

  pub contents_show : (rows : List Row) → IsListed contents_tree every sized rows db → AllByRecursion (ShowsContent db) rows
  contents_show rows listed = all_from _ rows (λ row there.
      let r = from_table contents_tree every sized rows db row listed there in
      let c = all_has IsContentRow contents r.0 stands.contents r.1 in
      let wide : 0 < length row = subst (λ (x : Row). 0 < length x) (sym r.3) (omega arith) in
      let shown : ShowsContent db row = (wide, (c.1, c.2, ap (λ (x : Row). column x 0) r.3 ∙ ap (λ (x : Row). column x 1) c.3, (c.0, subst (Has contents) c.3 r.1))) in
      shown)

  one_row : (row : Row) (digest octets : List ℕ) (b : Bool) → column row 0 ≡ Blob digest → HasContent contents digest octets → bytes_eq (sha256 octets) digest ≡ b
      → damaged_in db (row ∷ []) ≡ cond (not b) (digest ∷ []) []
  one_row row digest octets b shown h is =
      let named : digest_in row ≡ digest = ap blob_in shown in
      ap (λ d. filter (is_damaged_under contents) (d ∷ [])) named ∙ ap (λ b. cond b (digest ∷ []) []) (under_damaged digest octets h ∙ ap not is)

  -- a content that has its digest isn't noted
  pub none_noted : (row : Row) (digest octets : List ℕ) (noted : List (Vec ℕ Global)) → column row 0 ≡ Blob digest → HasContent contents digest octets → sha256 octets ≡ digest
      → texts_of noted ≡ texts_of noted ++ damaged_in db (row ∷ [])
  none_noted row digest octets noted shown h is =
      sym (ap (λ ds. texts_of noted ++ ds) (one_row row digest octets true shown h (ap (λ d. bytes_eq d digest) is ∙ bytes_same digest)) ∙ append-nil (texts_of noted))

  -- any other is
  pub one_noted : (row : Row) (digest octets : List ℕ) (noted : List (Vec ℕ Global)) (v : Vec ℕ Global) → column row 0 ≡ Blob digest → HasContent contents digest octets → sha256 octets ≢ digest → v.items ≡ digest
      → texts_of (noted ++ v ∷ []) ≡ texts_of noted ++ damaged_in db (row ∷ [])
  one_noted row digest octets noted v shown h other is =
      pushed noted ∙ ap (λ d. texts_of noted ++ d ∷ []) is ∙ sym (ap (λ ds. texts_of noted ++ ds) (one_row row digest octets false shown h (false_from_ne_true _ (λ same. other (same_bytes (sha256 octets) digest same)))))
    where
      pushed : (vs : List (Vec ℕ Global)) → texts_of (vs ++ v ∷ []) ≡ texts_of vs ++ v.items ∷ []
      pushed [] = refl
      pushed (w ∷ vs) = ap (λ ds. w.items ∷ ds) (pushed vs)

  -- ---- the digests that were noted

  one_of : (digests : List (Vec ℕ Global)) (digest : List ℕ) → is_one_of digests digest ≡ list_any (λ d. bytes_eq d digest) (texts_of digests)
  one_of [] digest = refl
  one_of (v ∷ digests) digest = ap (λ b. bytes_eq v.items digest || b) (one_of digests digest)

  is_noted : (rows : List Row) → IsListed contents_tree every sized rows db → (digest : List ℕ) → list_any (λ d. bytes_eq d digest) (damaged_in db rows) ≡ is_damaged_under contents digest
  is_noted rows listed digest = elim (cases_Bool (is_damaged_under contents digest)) [
    | inl on ↦
        let r = some_has (test digest) contents on in
        let parts = and_parts _ _ r.2 in
        let row = has_permuted (map sized (filter every contents)) rows (sized r.0) listed.same (mapped_has sized (filter every contents) r.0 (has_kept every contents r.0 r.1 refl)) in
        let named : digest_in (sized r.0) ≡ digest = same_bytes (digest_in (sized r.0)) digest parts.0 in
        let there = mapped_has digest_in rows (sized r.0) row in
        let kept = has_kept (is_damaged_under contents) (map digest_in rows) (digest_in (sized r.0)) there (ap (is_damaged_under contents) named ∙ on) in
        some_from (λ d. bytes_eq d digest) (damaged_in db rows) (digest_in (sized r.0)) kept (ap (λ d. bytes_eq d digest) named ∙ bytes_same digest) ∙ sym on
    | inr off ↦ false_from_ne_true _ (λ some.
        let d = some_has (λ (d : List ℕ). bytes_eq d digest) (damaged_in db rows) some in
        let kept = has_filtered (is_damaged_under contents) (map digest_in rows) d.0 d.1 in
        true≢false (sym (ap (is_damaged_under contents) (sym (same_bytes d.0 digest d.2)) ∙ kept.1) ∙ off)) ∙ sym off
  ]

  pub are_damaged : (rows : List Row) → IsListed contents_tree every sized rows db → (digests : List (Vec ℕ Global)) → texts_of digests ≡ damaged_in db rows → AreDamagedDigests db digests
  are_damaged rows listed digests is digest = one_of digests digest ∙ ap (list_any (λ (d : List ℕ). bytes_eq d digest)) is ∙ is_noted rows listed digest

  -- ---- a store whose contents have their digests

  row_sound : HaveDigests db → (r : Row) → Has contents r → is_damaged r ≡ false
  row_sound have r there =
      let c = all_has IsContentRow contents r stands.contents there in
      let is = have c.1 c.2 (c.0, subst (Has contents) c.3 there) in
      ap is_damaged c.3 ∙ ap not (ap (λ d. bytes_eq d c.1) is ∙ bytes_same c.1)

  none_kept : (rows : List Row) → ((r : Row) → Has rows r → is_damaged r ≡ false) → filter is_damaged rows ≡ []
  none_kept [] all = refl
  none_kept (r ∷ rows) all = ap (λ b. cond b (r ∷ filter is_damaged rows) (filter is_damaged rows)) (all r (inl refl)) ∙ none_kept rows (λ x there. all x (inr there))

  pub none_damaged : HaveDigests db → filter is_damaged contents ≡ []
  none_damaged have = none_kept contents (row_sound have)

  pub never_under : HaveDigests db → (digest : List ℕ) → is_damaged_under contents digest ≡ true → ⊥
  never_under have digest is =
      let r = some_has (test digest) contents is in
      true≢false (sym (and_parts _ _ r.2).1 ∙ row_sound have r.0 r.1)

  pub all_sound : length (filter is_damaged contents) ≡ 0 → HaveDigests db
  all_sound none digest octets h = elim (cases_Bool (bytes_eq (sha256 octets) digest)) [
    | inl same ↦ same_bytes (sha256 octets) digest same
    | inr other ↦
        let there = has_kept is_damaged contents (content_row h.0 digest octets) h.1 (ap not other) in
        absurd (some_there (filter is_damaged contents) (content_row h.0 digest octets) there none)
  ]
    where
      some_there : (rows : List Row) (r : Row) → Has rows r → length rows ≡ 0 → ⊥
      some_there [] r there long = there
      some_there (x ∷ rows) r there long = absurd (omega (arith, long))
