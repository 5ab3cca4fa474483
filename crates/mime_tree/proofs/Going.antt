-- What the parts become where a line ends some of them.
use Rattle.std.proofs.Common.{◌≡◌, ℕ, ◌+◌, Bool, false, ◌&&◌, List, [], ◌∷◌, ◌++◌, refl, sym, ◌∙◌, ap, subst, length, take, drop, get_or, set, inl, inr, if◌then◌else◌, Some, None}
use Rattle.std.specs.Prelude.{slice_get}
use Rattle.std.proofs.lemmas.Bool.{cases_Bool}
use Rattle.std.proofs.lemmas.List.{append_assoc, length-append}
use Rattle.std.proofs.Math.Seq.{take-append_seam, drop-append_seam}
use Rattle.text_lines.specs.Lines.{TextLine, lines_of, AreLines}
use Rattle.text_lines.proofs.Broken.{lines_of-octets_of, AreLines-lines_of}
use Rattle.header_fields.specs.Header.{line_length}
use Rattle.mime_tree.specs.PartTree.{Part, default_media}
use Rattle.mime_tree.specs.Enclosing.{first_ends_any}
use Rattle.mime_tree.specs.OpenParts.{OpenPart, boundaries_in, is_last, all_ended, finished, lines_at, parts_begun, break_alone}
use Rattle.mime_tree.specs.Reading.{IsMark, IsMet, IsHit, BeginsChild, wanted_from}
use Rattle.mime_tree.specs.declared.delimiter.Mark.TheVariants.{Delimiter, Closing}
use Rattle.mime_tree.specs.declared.hit.Hit.{Hit}
use Rattle.mime_tree.specs.declared.reader.Beginning.{Beginning}
use Rattle.mime_tree.proofs.Enclosing.{break_from}
use Rattle.mime_tree.proofs.Hits.{break_are, hit_closes, hit_begins, hit_begins_last}

-- ---- the part that is met, and those around it

taken : {A : Type 0} (outer inner : List A) (this : A) → take (length outer + 1) (outer ++ this ∷ inner) ≡ outer ++ this ∷ []
taken outer inner this =
    ap (λ n. take n (outer ++ this ∷ inner)) (sym (length-append outer (this ∷ []))) ∙ ap (take (length (outer ++ this ∷ []))) (sym (append_assoc outer (this ∷ []) inner))
    ∙ take-append_seam (outer ++ this ∷ []) inner

dropped : {A : Type 0} (outer inner : List A) (this : A) → drop (length outer + 1) (outer ++ this ∷ inner) ≡ inner
dropped outer inner this =
    ap (λ n. drop n (outer ++ this ∷ inner)) (sym (length-append outer (this ∷ []))) ∙ ap (drop (length (outer ++ this ∷ []))) (sym (append_assoc outer (this ∷ []) inner))
    ∙ drop-append_seam (outer ++ this ∷ []) inner

got : {A : Type 0} (outer : List A) (this other : A) → get_or (outer ++ this ∷ []) (length outer) other ≡ this
got [] this other = refl
got (part ∷ outer) this other = got outer this other

found : {A : Type 0} (outer : List A) (this : A) → slice_get (outer ++ this ∷ []) (length outer) ≡ Some this
found [] this = refl
found (part ∷ outer) this = found outer this

changed : {A : Type 0} (outer : List A) (this new : A) → set (outer ++ this ∷ []) (length outer) new ≡ outer ++ new ∷ []
changed [] this new = refl
changed (part ∷ outer) this new = ap (λ os. part ∷ os) (changed outer this new)

-- the parts and open parts once those within the part that is met have ended
pub record Ended (opened kept : List OpenPart) (parts ended : List Part) (hit : Hit) : Type 0 where
  pub parts_as : ended ≡ all_ended hit.end (drop (hit.met.place + 1) opened) parts
  pub opened_as : kept ≡ take (hit.met.place + 1) opened

kept_is : (preamble : Bool) (opened kept : List OpenPart) (parts ended : List Part) (line : List ℕ) (hit : Hit) → (m : IsMet preamble opened line hit.met) → Ended opened kept parts ended hit → kept ≡ m.outer ++ m.this ∷ []
kept_is preamble opened kept parts ended line hit m e =
    e.opened_as ∙ ap (λ n. take (n + 1) opened) m.place ∙ ap (take (length m.outer + 1)) m.all ∙ taken m.outer m.inner m.this

ended_is : (preamble : Bool) (opened kept : List OpenPart) (parts ended : List Part) (line : List ℕ) (hit : Hit) → (m : IsMet preamble opened line hit.met) → Ended opened kept parts ended hit → ended ≡ all_ended hit.end m.inner parts
ended_is preamble opened kept parts ended line hit m e =
    e.parts_as ∙ ap (λ n. all_ended hit.end (drop (n + 1) opened) parts) m.place ∙ ap (λ os. all_ended hit.end (drop (length m.outer + 1) os) parts) m.all
    ∙ ap (λ os. all_ended hit.end os parts) (dropped m.outer m.inner m.this)

hit_is : (preamble : Bool) (opened : List OpenPart) (text : List ℕ) (place end : ℕ) (parts : List Part) (hit : Hit) → (h : IsHit preamble opened text place end hit)
    → finished preamble [] place end (lines_at text place) opened parts
    ≡ finished preamble [] hit.line.start hit.end (h.line ∷ lines_at text hit.line.stop) (h.met.outer ++ h.met.this ∷ h.met.inner) parts
hit_is preamble opened text place end parts hit h =
    h.same parts ∙ ap (λ ls. finished preamble [] hit.line.start hit.end ls opened parts) h.lines
    ∙ ap (λ os. finished preamble [] hit.line.start hit.end (h.line ∷ lines_at text hit.line.stop) os parts) h.met.all

line_are : (preamble : Bool) (opened : List OpenPart) (text : List ℕ) (place end : ℕ) (hit : Hit) → (h : IsHit preamble opened text place end hit) → AreLines (h.line ∷ lines_at text hit.line.stop)
line_are preamble opened text place end hit h = subst AreLines h.lines (AreLines-lines_of (drop hit.line.start text))

-- ---- after a closing line

pub closed_on : (preamble : Bool) (opened kept : List OpenPart) (text : List ℕ) (place end : ℕ) (parts ended : List Part) (hit : Hit) (that closed : OpenPart) → IsHit preamble opened text place end hit
    → hit.met.mark ≡ Closing → Ended opened kept parts ended hit → that ≡ get_or kept hit.met.place that → closed ≡ record that { boundary = None }
    → finished false [] hit.line.stop hit.line.end (lines_at text hit.line.stop) (set kept hit.met.place closed) ended ≡ finished preamble [] place end (lines_at text place) opened parts
closed_on preamble opened kept text place end parts ended hit that closed h mark e is made =
    let m = h.met in
    let kept_as = kept_is preamble opened kept parts ended h.line.content hit m e in
    let which : that ≡ m.this = is ∙ ap (λ os. get_or os hit.met.place that) kept_as ∙ ap (λ n. get_or (m.outer ++ m.this ∷ []) n that) m.place ∙ got m.outer m.this that in
    let new : closed ≡ record m.this { boundary = None } = made ∙ ap (λ (o : OpenPart). record o { boundary = None }) which in
    let now : set kept hit.met.place closed ≡ m.outer ++ record m.this { boundary = None } ∷ [] =
    ap (λ os. set os hit.met.place closed) kept_as ∙ ap (λ n. set (m.outer ++ m.this ∷ []) n closed) m.place ∙ changed m.outer m.this closed ∙ ap (λ o. m.outer ++ o ∷ []) new in
    let closing : IsMark (is_last m.inner && preamble) m.boundary h.line.content Closing = subst (IsMark (is_last m.inner && preamble) m.boundary h.line.content) mark m.mark in
    let left = lines_at text hit.line.stop in
    let becomes : ℕ → ℕ → List OpenPart → List Part → List Part = λ p q os ps. finished false [] p q left os ps in
    ap (λ os. becomes hit.line.stop hit.line.end os ended) now
    ∙ ap (becomes hit.line.stop hit.line.end (m.outer ++ record m.this { boundary = None } ∷ [])) (ended_is preamble opened kept parts ended h.line.content hit m e)
    ∙ ap (λ n. becomes n hit.line.end (m.outer ++ record m.this { boundary = None } ∷ []) (all_ended hit.end m.inner parts)) h.after
    ∙ ap (λ n. becomes (hit.line.start + line_length h.line) n (m.outer ++ record m.this { boundary = None } ∷ []) (all_ended hit.end m.inner parts)) h.content
    ∙ sym (hit_closes preamble m.outer m.this m.inner m.boundary hit.line.start hit.end h.line left parts (line_are preamble opened text place end hit h) m.none m.has closing.0 closing.1)
    ∙ sym (hit_is preamble opened text place end parts hit h)

-- ---- after a delimiter line

-- the lines from the end of a line on
from_end : (text : List ℕ) (place : ℕ) (line : TextLine) (lines : List TextLine) → lines_at text place ≡ line ∷ lines → AreLines (break_alone line ∷ lines) → lines_at text (place + length line.content) ≡ break_alone line ∷ lines
from_end text place line lines here alone = ap lines_of (break_from text place line lines here) ∙ lines_of-octets_of (break_alone line ∷ lines) alone

pub begun_on : (preamble : Bool) (opened kept lent : List OpenPart) (text : List ℕ) (place end : ℕ) (parts ended : List Part) (hit : Hit) (child : Beginning) → IsHit preamble opened text place end hit
    → hit.met.mark ≡ Delimiter → Ended opened kept parts ended hit → lent ≡ kept → BeginsChild text hit lent child
    → wanted_from text child kept ended ≡ finished preamble [] place end (lines_at text place) opened parts
begun_on preamble opened kept lent text place end parts ended hit child h mark e same begins =
    let m = h.met in
    let kept_as : kept ≡ m.outer ++ m.this ∷ [] = kept_is preamble opened kept parts ended h.line.content hit m e in
    let lent_as = same ∙ kept_as in
    let part_is : Some begins.part ≡ Some m.this = sym begins.is ∙ ap (λ os. slice_get os hit.met.place) lent_as ∙ ap (slice_get (m.outer ++ m.this ∷ [])) m.place ∙ found m.outer m.this in
    let this : begins.part ≡ m.this = cc in
    let levels : child.levels ≡ m.this.levels = begins.levels ∙ ap (λ (o : OpenPart). o.levels) this in
    let default : default_media child.default ≡ m.this.default = begins.default ∙ ap (λ (o : OpenPart). o.default) this in
    let outer : take hit.met.place lent ≡ m.outer = ap (take hit.met.place) lent_as ∙ ap (λ n. take n (m.outer ++ m.this ∷ [])) m.place ∙ take-append_seam m.outer (m.this ∷ []) in
    let left = lines_at text hit.line.stop in
    let where_is : child.place ≡ (if first_ends_any (boundaries_in [] m.outer) left then hit.line.end else hit.line.stop) =
    begins.place ∙ ap (λ os. if first_ends_any (boundaries_in [] os) left then hit.line.end else hit.line.stop) outer in
    let delimiter : IsMark (is_last m.inner && preamble) m.boundary h.line.content Delimiter = subst (IsMark (is_last m.inner && preamble) m.boundary h.line.content) mark m.mark in
    let are = line_are preamble opened text place end hit h in
    let now = m.outer ++ m.this ∷ [] in
    let inner = all_ended hit.end m.inner parts in
    let becomes : ℕ → ℕ → List TextLine → List Part = λ p q ls. finished false [] p q ls now (inner ++ parts_begun (boundaries_in [] now) m.this.levels m.this.default p ls) in
    let start = hit.line.start in
    let plain : wanted_from text child kept ended ≡ becomes child.place hit.line.end (lines_at text child.place) =
    ap (λ os. wanted_from text child os ended) kept_as ∙ ap (wanted_from text child now) (ended_is preamble opened kept parts ended h.line.content hit m e)
    ∙ ap (λ n. finished false [] child.place child.end (lines_at text child.place) now (inner ++ parts_begun (boundaries_in [] now) n (default_media child.default) child.place (lines_at text child.place))) levels
    ∙ ap (λ d. finished false [] child.place child.end (lines_at text child.place) now (inner ++ parts_begun (boundaries_in [] now) m.this.levels d child.place (lines_at text child.place))) default
    ∙ ap (λ n. becomes child.place n (lines_at text child.place)) begins.end in
    plain ∙ elim (cases_Bool (first_ends_any (boundaries_in [] m.outer) left)) [
      | inl ends ↦
          let at : child.place ≡ start + length h.line.content = where_is ∙ ap (λ b. if b then hit.line.end else hit.line.stop) ends ∙ h.content in
          ap (λ n. becomes n hit.line.end (lines_at text n)) at
          ∙ ap (λ n. becomes (start + length h.line.content) n (lines_at text (start + length h.line.content))) h.content
          ∙ ap (becomes (start + length h.line.content) (start + length h.line.content)) (from_end text start h.line left h.lines (break_are (boundaries_in [] m.outer) h.line left are ends))
          ∙ sym (hit_begins_last preamble m.outer m.this m.inner m.boundary start hit.end h.line left parts are m.none m.has delimiter ends)
          ∙ sym (hit_is preamble opened text place end parts hit h)
      | inr later ↦
          let at : child.place ≡ hit.line.stop = where_is ∙ ap (λ b. if b then hit.line.end else hit.line.stop) later in
          ap (λ n. becomes n hit.line.end (lines_at text n)) at
          ∙ ap (λ n. becomes n hit.line.end left) h.after
          ∙ ap (λ n. becomes (start + line_length h.line) n left) h.content
          ∙ sym (hit_begins preamble m.outer m.this m.inner m.boundary start hit.end h.line left parts are m.none m.has delimiter later)
          ∙ sym (hit_is preamble opened text place end parts hit h)
    ]
