-- What calls of a sink come to, one after another.
use Rattle.std.proofs.Common.{◌≡◌, ◌∙◌, ◌+◌, ◌-◌, ◌≤◌, ap, refl, ℕ, List, [], ◌++◌, sym, subst, arith, length, take, drop, take_all, length-drop, append_assoc, append-nil, take-append-drop, Result, Ok, Err, OnErr}
use Rattle.std.proofs.KnownBytes.{Appends-kept, Appends-nil, Appends-trans}
use Rattle.std.proofs.Math.Seq.{take-add}
use Rattle.devices.specs.Device.{HasBegun, HasBroken, HasFailed, HasTaken, Output, counted}

-- what holds anyway holds of an error
pub on_err : {T E P : Type 0} (r : Result T E) → P → OnErr r P
on_err (Ok x) p = tt
on_err (Err e) p = p

-- nothing is taken by doing nothing
pub taken_none : (s : Output) → HasTaken [] s s
taken_none s = record { written = Appends-nil s.written; faults = refl }

-- the rest of a text from a place on, whole
pub rest_whole : (done : ℕ) (text : List ℕ) → take (length text - done) (drop done text) ≡ drop done text
rest_whole done text = take_all (length text - done) (drop done text) (let l = length-drop done text in omega (arith, l))

-- octets of the rest lie within the text
pub next_within : (text : List ℕ) (done n : ℕ) → done ≤ length text → n ≤ length (take (length text - done) (drop done text)) → done + n ≤ length text
next_within text done n within fits =
    let l = length-drop done text in
    let small : n ≤ length (drop done text) = subst (λ octets. n ≤ length octets) (rest_whole done text) fits in
    omega (arith, l)

module _ {s0 s1 s2 : Output} where
  -- a text was taken, and then another
  pub taken_both : (xs ys : List ℕ) → HasTaken xs s0 s1 → HasTaken ys s1 s2 → HasTaken (xs ++ ys) s0 s2
  taken_both xs ys first later = record {
    written = Appends-trans s0.written s1.written s2.written xs ys first.written later.written;
    faults = later.faults ∙ first.faults;
  }

  -- a text was taken, and the sink broke in the next one
  pub broken_later : (xs ys : List ℕ) → HasTaken xs s0 s1 → HasBroken ys s1 s2 → HasBroken (xs ++ ys) s0 s2
  broken_later xs ys first later = record {
    prefix = xs ++ later.prefix;
    rest = later.rest;
    whole = ap (λ text. xs ++ text) later.whole ∙ sym (append_assoc xs later.prefix later.rest);
    written = Appends-trans s0.written s1.written s2.written xs later.prefix first.written later.written;
    faults = later.faults ∙ ap (counted 1) first.faults;
  }

  -- the first octets of a text were taken, and then a call failed
  pub broken_at_place : (text : List ℕ) (done : ℕ) → HasTaken (take done text) s0 s1 → HasFailed s1 s2 → HasBroken text s0 s2
  broken_at_place text done first failed = record {
    prefix = take done text;
    rest = drop done text;
    whole = sym (take-append-drop done text);
    written = Appends-kept s0.written s1.written s2.written (take done text) first.written failed.written;
    faults = failed.faults ∙ ap (counted 1) first.faults;
  }

  -- the first octets of a text were taken, and then some of the rest
  pub taken_next : (text : List ℕ) (done n : ℕ) → HasTaken (take done text) s0 s1 → HasTaken (take n (take (length text - done) (drop done text))) s1 s2 → HasTaken (take (done + n) text) s0 s2
  taken_next text done n first later =
      rw (take-add done n text)
      (taken_both (take done text) (take n (drop done text)) first (subst (λ octets. HasTaken (take n octets) s1 s2) (rest_whole done text) later))

-- the sink broke in a text, before what follows it
pub broken_first : {s0 s1 : Output} (xs ys : List ℕ) → HasBroken xs s0 s1 → HasBroken (xs ++ ys) s0 s1
broken_first xs ys first = record {
  prefix = first.prefix;
  rest = first.rest ++ ys;
  whole = ap (λ text. text ++ ys) first.whole ∙ append_assoc first.prefix first.rest ys;
  written = first.written;
  faults = first.faults;
}

-- ---- a text in pieces

-- some of a text was taken, and this is what is left
abbrev pub Leaves : List ℕ → List ℕ → Output → Output → Type 0
Leaves text left old new = (begun : HasBegun text old new) × (begun.rest ≡ left)

-- before the first piece
pub leaves_all : (text : List ℕ) (s : Output) → Leaves text text s s
leaves_all text s = (record { prefix = []; rest = text; whole = refl; taken = taken_none s }, refl)

-- after the last one
pub leaves_none : (text left : List ℕ) (s0 s1 : Output) → Leaves text left s0 s1 → left ≡ [] → HasTaken text s0 s1
leaves_none text left s0 s1 before none =
    let begun = before.0 in
    let whole : text ≡ begun.prefix = begun.whole ∙ ap (λ l. begun.prefix ++ l) (before.1 ∙ none) ∙ append-nil begun.prefix in
    subst (λ l. HasTaken l s0 s1) (sym whole) begun.taken

module _ {s0 s1 : Output} (text left xs ys : List ℕ) (before : Leaves text left s0 s1) (is : left ≡ xs ++ ys) where
  whole_is : text ≡ before.0.prefix ++ (xs ++ ys)
  whole_is = before.0.whole ∙ ap (λ l. before.0.prefix ++ l) (before.1 ∙ is)

  -- the next piece was taken
  pub leaves_rest : {s2 : Output} → HasTaken xs s1 s2 → Leaves text ys s0 s2
  leaves_rest later = (
    record {
      prefix = before.0.prefix ++ xs;
      rest = ys;
      whole = whole_is ∙ sym (append_assoc before.0.prefix xs ys);
      taken = taken_both before.0.prefix xs before.0.taken later;
    },
    refl,
  )

  -- the sink broke in the next piece
  pub broken_in_piece : {s2 : Output} → HasBroken xs s1 s2 → HasBroken text s0 s2
  broken_in_piece {s2} later = subst (λ l. HasBroken l s0 s2) (sym whole_is) (broken_later before.0.prefix (xs ++ ys) before.0.taken (broken_first xs ys later))
