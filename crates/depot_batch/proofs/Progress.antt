-- Turns that make progress, one after another.
use Rattle.std.proofs.Common.{◌≡◌, ◌⊎◌, ◌<◌, ◌≤◌, ◌+◌, ◌*◌, ◌++◌, ◌∷◌, append-nil, arith, inl, inr, length, length-append, subst, sym, take, [], List, ℕ, suc, zero}
use Rattle.std.specs.List.{All}
use Rattle.std.proofs.lemmas.List.Elements.{All-cons, All-head, All-nil, All-tail}
use Rattle.depot_batch.specs.Private.{ComesLast, ComesNext}
use Rattle.depot_batch.specs.Turns.{Alone, IsAlone, MakeProgress, Together, Turn, Withdrawn, lines_answered}

-- of the lines that turns tried in vain, no more than so many are to be done alone after them
abbrev pub Owe : ℕ → List Turn → Type 0
Owe alone [] = Unit {0}
Owe alone (Alone line outcome ∷ turns) = Owe alone turns
Owe alone (Together lines ∷ turns) = Owe alone turns
Owe alone (Withdrawn lines ∷ turns) = (length lines ≤ length turns + alone) × Owe alone turns

-- ---- one turn more

-- a turn does one line alone at most
one_at_most : (turn : Turn) (alone later : ℕ) → ComesNext alone turn later → alone ≤ later + 1
one_at_most (Alone line outcome) alone later next = next
one_at_most (Together lines) alone later next = let none : alone ≡ 0 = next.0 in omega (arith, none)
one_at_most (Withdrawn lines) alone later next = let none : alone ≡ 0 = next.0 in omega (arith, none)

pub owe_next : (turns : List Turn) (turn : Turn) (alone later : ℕ) → Owe alone turns → ComesNext alone turn later → Owe later (turns ++ turn ∷ [])
owe_next [] (Alone line outcome) alone later owed next = tt
owe_next [] (Together lines) alone later owed next = tt
owe_next [] (Withdrawn lines) alone later owed next = let all : length lines ≤ later = next.2 in (omega (arith, all), tt)
owe_next (Alone line outcome ∷ turns) turn alone later owed next = owe_next turns turn alone later owed next
owe_next (Together lines ∷ turns) turn alone later owed next = owe_next turns turn alone later owed next
owe_next (Withdrawn lines ∷ turns) turn alone later owed next =
    let enough : length lines ≤ length turns + alone = owed.0 in
    let one : alone ≤ later + 1 = one_at_most turn alone later next in
    let more : length (turns ++ turn ∷ []) ≡ length turns + 1 = length-append turns (turn ∷ []) in
    (omega (arith, enough, one, more), owe_next turns turn alone later owed.1 next)

-- either no line is to be done alone after turns, or the next turn does one
covered : (turn : Turn) (alone later n m : ℕ) → n ≤ m + alone → ComesNext alone turn later → (n ≤ m) ⊎ IsAlone turn
covered (Alone line outcome) alone later n m enough next = inr tt
covered (Together lines) alone later n m enough next = let none : alone ≡ 0 = next.0 in inl (omega (arith, enough, none))
covered (Withdrawn lines) alone later n m enough next = let none : alone ≡ 0 = next.0 in inl (omega (arith, enough, none))

none_alone : (n : ℕ) → All IsAlone (take n [])
none_alone zero = All-nil IsAlone
none_alone (suc n) = All-nil IsAlone

alone_next : (n : ℕ) (turns : List Turn) (turn : Turn) → (n ≤ length turns) ⊎ IsAlone turn → All IsAlone (take n turns) → All IsAlone (take n (turns ++ turn ∷ []))
alone_next zero turns turn either are = All-nil IsAlone
alone_next (suc n) [] turn (inl past) are = absurd (omega (arith, past))
alone_next (suc n) [] turn (inr is) are = All-cons IsAlone turn (take n []) is (none_alone n)
alone_next (suc n) (first ∷ turns) turn (inl past) are =
    All-cons IsAlone first (take n (turns ++ turn ∷ [])) (All-head IsAlone first (take n turns) are) (alone_next n turns turn (inl (omega (arith, past))) (All-tail IsAlone first (take n turns) are))
alone_next (suc n) (first ∷ turns) turn (inr is) are =
    All-cons IsAlone first (take n (turns ++ turn ∷ [])) (All-head IsAlone first (take n turns) are) (alone_next n turns turn (inr is) (All-tail IsAlone first (take n turns) are))

pub progress_next : (turns : List Turn) (turn : Turn) (alone later : ℕ) → MakeProgress turns → Owe alone turns → ComesNext alone turn later → MakeProgress (turns ++ turn ∷ [])
progress_next [] (Alone line outcome) alone later made owed next = tt
progress_next [] (Together lines) alone later made owed next = (next.1, tt)
progress_next [] (Withdrawn lines) alone later made owed next = (next.1, none_alone (length lines), tt)
progress_next (Alone line outcome ∷ turns) turn alone later made owed next = progress_next turns turn alone later made owed next
progress_next (Together lines ∷ turns) turn alone later made owed next = (made.0, progress_next turns turn alone later made.1 owed next)
progress_next (Withdrawn lines ∷ turns) turn alone later made owed next = (
  made.0,
  alone_next (length lines) turns turn (covered turn alone later (length lines) (length turns) owed.0 next) made.1,
  progress_next turns turn alone later made.2 owed.1 next,
)

pub progress_last : (turns last : List Turn) (alone later : ℕ) → MakeProgress turns → Owe alone turns → ComesLast alone last later → MakeProgress (turns ++ last)
progress_last turns [] alone later made owed next = subst MakeProgress (sym (append-nil turns)) made
progress_last turns (turn ∷ []) alone later made owed next = progress_next turns turn alone later made owed next
progress_last turns (turn ∷ other ∷ others) alone later made owed next = absurd next

-- ---- how many turns there are

pub twice_at_most : (turns : List Turn) → MakeProgress turns → length turns ≤ 2 * length (lines_answered turns) + 1
twice_at_most [] made = omega arith
twice_at_most (Alone line outcome ∷ turns) made = let more = twice_at_most turns made in omega (arith, more)
twice_at_most (Together lines ∷ turns) made =
    let some : 0 < length lines = made.0 in
    let more = twice_at_most turns made.1 in
    let both : length (lines ++ lines_answered turns) ≡ length lines + length (lines_answered turns) = length-append lines (lines_answered turns) in
    omega (arith, some, more, both)
twice_at_most (Withdrawn lines ∷ []) made = omega arith
twice_at_most (Withdrawn lines ∷ Alone line outcome ∷ turns) made = let more = twice_at_most turns made.2 in omega (arith, more)
twice_at_most (Withdrawn [] ∷ Together others ∷ turns) made = absurd (omega (arith, made.0))
twice_at_most (Withdrawn [] ∷ Withdrawn others ∷ turns) made = absurd (omega (arith, made.0))
twice_at_most (Withdrawn (line ∷ lines) ∷ Together others ∷ turns) made = absurd (All-head IsAlone (Together others) (take (length lines) turns) made.1)
twice_at_most (Withdrawn (line ∷ lines) ∷ Withdrawn others ∷ turns) made = absurd (All-head IsAlone (Withdrawn others) (take (length lines) turns) made.1)
