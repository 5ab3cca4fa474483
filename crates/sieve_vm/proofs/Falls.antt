-- The potential: what is left of the open loops' bodies, and of the program.
use Rattle.std.proofs.Common.{◌≡◌, ◌==◌, ℕ, zero, suc, ◌+◌, ◌-◌, ◌*◌, ◌^◌, ◌<◌, ◌≤◌, Bool, true, false, nat_le, nat_eq, cond, List, [], ◌∷◌, Some, drop, length, refl, sym, ap, subst, ◌∙◌, inl, inr, mul-add, arith}
use Rattle.std.proofs.lemmas.Bool.{cases_lt, le-leb, leb-true}
use Rattle.std.proofs.Math.Nat.{mul-le-mul}
use Rattle.bytecode_cost.specs.Sums.{chains, turns, powers_left, turns_left}
use Rattle.bytecode_cost.proofs.Chains.{chains_more, powers_are_left}
use Rattle.bytecode_format.specs.Code.{Code}
use Rattle.bytecode_verifier.specs.Places.{sum_below}
use Rattle.bytecode_verifier.specs.Loops.{open_loops}
use Rattle.bytecode_verifier.specs.Budget.{cap_at, sum_inside}
use Rattle.bytecode_verifier.specs.Counting.{counted_at, number_inside, times_at}
use Rattle.bytecode_verifier.specs.declared.counting.Counted.{Counted}
use Rattle.bytecode_verifier.proofs.Nesting.{Nesting}
use Rattle.mime_decode.specs.Mail.{Mail, size_of}
use Rattle.mime_decode.specs.Visited.{numbers_from, visited}
use Rattle.sieve_vm.specs.State.{Frame, start, current_part}
use Rattle.sieve_vm.specs.Potential.{charge_at, weight_at, stretch, visits_now, left_from, potential, limit_of}

-- ---- sums over places

sum-equal : (f g : ℕ → ℕ) (n : ℕ) → ((p : ℕ) → p < n → f p ≡ g p) → sum_below f n ≡ sum_below g n
sum-equal f g zero h = refl
sum-equal f g (suc n) h = omega (arith, sum-equal f g n (λ p lt. h p (omega arith)), h n (omega arith))

sum-zero : (n : ℕ) → sum_below (λ p. 0) n ≡ 0
sum-zero zero = refl
sum-zero (suc n) = omega (arith, sum-zero n)

-- the sum of f over the places from a first one on, below n
abbrev pub from : (ℕ → ℕ) → ℕ → ℕ → ℕ
from f first n = sum_below (λ p. cond (nat_le first p) (f p) 0) n

pub counted : (f : ℕ → ℕ) (first p : ℕ) → first ≤ p → cond (nat_le first p) (f p) 0 ≡ f p
counted f first p le = rw (le-leb first p le) refl

pub uncounted : (f : ℕ → ℕ) (first p : ℕ) → p < first → cond (nat_le first p) (f p) 0 ≡ 0
uncounted f first p lt = go (nat_le first p) refl
  where
    go : (b : Bool) → nat_le first p ≡ b → cond b (f p) 0 ≡ 0
    go true e = absurd (omega (arith, leb-true first p e))
    go false e = refl

pub from-none : (f : ℕ → ℕ) (first n : ℕ) → n ≤ first → from f first n ≡ 0
from-none f first n le = sum-equal (λ p. cond (nat_le first p) (f p) 0) (λ p. 0) n (λ p lt. uncounted f first p (omega arith)) ∙ sum-zero n

from-all : (f : ℕ → ℕ) (n : ℕ) → from f 0 n ≡ sum_below f n
from-all f n = sum-equal (λ p. cond (nat_le 0 p) (f p) 0) f n (λ p lt. counted f 0 p (omega arith))

pub from-first : (f : ℕ → ℕ) (first n : ℕ) → first < n → from f first n ≡ f first + from f (suc first) n
from-first f first zero lt = absurd (omega arith)
from-first f first (suc n) lt =
    elim (cases_lt first n) [
      | inl below ↦ omega (arith, from-first f first n below, counted f first n (omega arith), counted f (suc first) n (omega arith))
      | inr le ↦
          let same : n ≡ first = omega arith in
          let here : cond (nat_le first n) (f n) 0 ≡ f first = counted f first n (omega arith) ∙ ap f same in
          omega (arith, from-none f first n (omega arith), from-none f (suc first) n (omega arith), here, uncounted f (suc first) n (omega arith))
    ]

from-later : (f : ℕ → ℕ) (first later n : ℕ) → first ≤ later → from f later n ≤ from f first n
from-later f first later zero le = omega arith
from-later f first later (suc n) le =
    elim (cases_lt n later) [
      | inl lt ↦ omega (arith, from-later f first later n le, uncounted f later n lt)
      | inr ge ↦ omega (arith, from-later f first later n le, counted f later n ge, counted f first n (omega arith))
    ]

from-split : (f : ℕ → ℕ) (first middle n : ℕ) → first ≤ middle → middle ≤ n → from f first n ≡ from f first middle + from f middle n
from-split f first middle zero before after = omega (arith, from-none f first middle (omega arith))
from-split f first middle (suc n) before after =
    elim (cases_lt n middle) [
      | inl past ↦
          let same : middle ≡ suc n = omega arith in
          omega (arith, from-none f middle (suc n) (omega arith), ap (from f first) same)
      | inr within ↦ omega (arith, from-split f first middle n before within, counted f first n (omega arith), counted f middle n within)
    ]

-- each two of them no more than a third
from-below : (f g h : ℕ → ℕ) (first n : ℕ) → ((p : ℕ) → first ≤ p → p < n → f p + g p ≤ h p) → from f first n + from g first n ≤ from h first n
from-below f g h first zero each = omega arith
from-below f g h first (suc n) each =
    let before = from-below f g h first n (λ p le lt. each p le (omega arith)) in
    elim (cases_lt n first) [
      | inl lt ↦ omega (arith, before, uncounted f first n lt, uncounted g first n lt, uncounted h first n lt)
      | inr le ↦ omega (arith, before, counted f first n le, counted g first n le, counted h first n le, each n le (omega arith))
    ]

-- the sums of two columns, where a test passes
sum-linear : (f g : ℕ → ℕ) (test : ℕ → Bool) (m k n : ℕ) → (sum_below (λ p. cond (test p) (f p) 0) n + sum_below (λ p. cond (test p) (g p) 0) n * m) * k ≡ sum_below (λ p. cond (test p) ((f p + g p * m) * k) 0) n
sum-linear f g test m k zero = omega arith
sum-linear f g test m k (suc n) = go (test n) refl (sum-linear f g test m k n)
  where
    a : ℕ
    a = sum_below (λ p. cond (test p) (f p) 0) n

    b : ℕ
    b = sum_below (λ p. cond (test p) (g p) 0) n

    go : (t : Bool) → test n ≡ t → (a + b * m) * k ≡ sum_below (λ p. cond (test p) ((f p + g p * m) * k) 0) n → (a + cond (test n) (f n) 0 + (b + cond (test n) (g n) 0) * m) * k ≡ sum_below (λ p. cond (test p) ((f p + g p * m) * k) 0) n + cond (test n) ((f n + g n * m) * k) 0
    go true e before =
        let split : (a + f n + (b + g n) * m) * k ≡ (a + b * m) * k + (f n + g n * m) * k = grind arith in
        rw e (omega (arith, split, before))
    go false e before =
        let same : (a + 0 + (b + 0) * m) * k ≡ (a + b * m) * k = grind arith in
        rw e (omega (arith, same, before))

-- the sum of one column
sum-times : (f : ℕ → ℕ) (test : ℕ → Bool) (k n : ℕ) → sum_below (λ p. cond (test p) (f p) 0) n * k ≡ sum_below (λ p. cond (test p) (f p * k) 0) n
sum-times f test k zero = omega arith
sum-times f test k (suc n) = go (test n) (sum-times f test k n)
  where
    a : ℕ
    a = sum_below (λ p. cond (test p) (f p) 0) n

    go : (t : Bool) → a * k ≡ sum_below (λ p. cond (test p) (f p * k) 0) n → (a + cond t (f n) 0) * k ≡ sum_below (λ p. cond (test p) (f p * k) 0) n + cond t (f n * k) 0
    go true before = let split : (a + f n) * k ≡ a * k + f n * k = grind arith in omega (arith, split, before)
    go false before = let same : (a + 0) * k ≡ a * k = grind arith in omega (arith, same, before)

-- the sum of four columns
sum-four : (w a b c d : ℕ → ℕ) (n : ℕ) → ((p : ℕ) → w p ≡ a p + b p + c p + d p) → sum_below w n ≡ sum_below a n + sum_below b n + sum_below c n + sum_below d n
sum-four w a b c d zero h = omega arith
sum-four w a b c d (suc n) h = omega (arith, sum-four w a b c d n h, h n)

-- what a place adds, to the column of its own number of loops alone
four_columns : (turn : ℕ → ℕ) (cost l : ℕ) → l ≤ 3 → cost * turn l ≡ cond (nat_eq l 0) (cost * turn 0) 0 + cond (nat_eq l 1) (cost * turn 1) 0 + cond (nat_eq l 2) (cost * turn 2) 0 + cond (nat_eq l 3) (cost * turn 3) 0
four_columns turn cost zero few = omega arith
four_columns turn cost (suc zero) few = omega arith
four_columns turn cost (suc (suc zero)) few = omega arith
four_columns turn cost (suc (suc (suc zero))) few = omega arith
four_columns turn cost (suc (suc (suc (suc l)))) few = absurd (omega (arith, few))

-- ---- turns

turns-none : (version parts visits : ℕ) → turns_left version parts visits 0 ≡ 1
turns-none version parts visits = pick (version == 2)
  where
    pick : (b : Bool) → cond b (chains visits 0) (powers_left parts visits 0) ≡ 1
    pick true = refl
    pick false = refl

turns-more : (version parts a b k : ℕ) → a ≤ b → turns_left version parts a k ≤ turns_left version parts b k
turns-more version parts a b k le = pick (version == 2)
  where
    powers : (j : ℕ) → powers_left parts a j ≤ powers_left parts b j
    powers zero = omega arith
    powers (suc j) = let same : parts ^ j ≤ parts ^ j = omega arith in mul-le-mul le same

    pick : (c : Bool) → cond c (chains a k) (powers_left parts a k) ≤ cond c (chains b k) (powers_left parts b k)
    pick true = chains_more a b k le
    pick false = powers k

-- the turns of a part and of those that are left then are no more than those of all that were left: what the part has inside is among
-- those after it, where turns are chains
turn-taken : (version parts inside left k : ℕ) → ((version == 2) ≡ true → inside ≤ left) → ((version == 2) ≡ false → inside ≡ parts)
    → turns_left version parts inside k + turns_left version parts left (suc k) ≤ turns_left version parts (suc left) (suc k)
turn-taken version parts inside left k among all = pick (version == 2) refl
  where
    pick : (c : Bool) → (version == 2) ≡ c
        → cond c (chains inside k) (powers_left parts inside k) + cond c (chains left (suc k)) (powers_left parts left (suc k)) ≤ cond c (chains (suc left) (suc k)) (powers_left parts (suc left) (suc k))
    pick true e = let more = chains_more inside left k (among e) in omega (arith, more)
    pick false e =
        let whole : powers_left parts inside k ≡ parts ^ k = ap (λ n. powers_left parts n k) (all e) ∙ powers_are_left parts k in
        let one : suc left * parts ^ k ≡ parts ^ k + left * parts ^ k = grind arith in
        omega (arith, whole, one)

times-both : (cap a b c : ℕ) → a + b ≤ c → cap * a + cap * b ≤ cap * c
times-both cap a b c le =
    let same : cap ≤ cap = omega arith in
    let whole : cap * (a + b) ≤ cap * c = mul-le-mul same le in
    omega (arith, whole, mul-add cap a b)

pub numbers-length : (first n : ℕ) → length (numbers_from first n) ≡ n
numbers-length first zero = refl
numbers-length first (suc n) = ap suc (numbers-length (suc first) n)

-- ---- what is left

module _ (code : Code) (mail : Mail) where
  -- how many loops are open at a place
  abbrev pub depth_at : ℕ → ℕ
  depth_at place = length (open_loops code place)

  abbrev parts : ℕ
  parts = length mail.parts

  -- what the instruction at a place may charge each time
  abbrev pub cap_there : ℕ → ℕ
  cap_there place = charge_at code mail place

  -- what counts for a loop is all parts, or those that it would visit
  visits-all : (frames : List Frame) → (code.version == 2) ≡ false → visits_now code mail frames ≡ parts
  visits-all frames e = rw e refl

  visits-few : (frames : List Frame) (n : ℕ) → length (visited (current_part frames) mail) ≤ n → (code.version == 2) ≡ true → visits_now code mail frames ≤ n
  visits-few frames n le e = rw e le

  visits-some : (frames : List Frame) (n : ℕ) → n ≤ length (visited (current_part frames) mail) → n ≤ parts → n ≤ visits_now code mail frames
  visits-some frames n here there = pick (code.version == 2)
    where
      pick : (c : Bool) → n ≤ cond c (length (visited (current_part frames) mail)) parts
      pick true = here
      pick false = there

  visits-start : visits_now code mail [] ≡ parts
  visits-start = pick (code.version == 2)
    where
      pick : (c : Bool) → cond c (length (numbers_from 0 parts)) parts ≡ parts
      pick true = numbers-length 0 parts
      pick false = refl

  -- the place after the innermost body
  abbrev pub end_of : List Frame → ℕ
  end_of [] = length code.instructions
  end_of (frame ∷ frames) = suc frame.next

  module _ (price : ℕ → ℕ) where
    -- the weights of the places of the innermost body
    abbrev pub weights : List Frame → ℕ → ℕ
    weights frames = weight_at code mail price (visits_now code mail frames) (length frames)

    pub weight-here : (visits depth place : ℕ) → depth_at place ≡ depth → weight_at code mail price visits depth place ≡ price place
    weight-here visits depth place same =
        let none : depth_at place - depth ≡ 0 = omega (arith, same) in
        let once : turns_left code.version parts visits (depth_at place - depth) ≡ 1 = ap (turns_left code.version parts visits) none ∙ turns-none code.version parts visits in
        ap (λ t. price place * t) once ∙ omega arith

    -- deeper inside, for a part and for those that are left then
    weight-taken : (visits inside left depth place : ℕ) → suc depth ≤ depth_at place → suc left ≤ visits → ((code.version == 2) ≡ true → inside ≤ left) → ((code.version == 2) ≡ false → inside ≡ parts)
        → weight_at code mail price inside (suc depth) place + weight_at code mail price left depth place ≤ weight_at code mail price visits depth place
    weight-taken visits inside left depth place deeper few among all =
        let k : ℕ = depth_at place - suc depth in
        let more : depth_at place - depth ≡ suc k = omega (arith, deeper) in
        let t : ℕ → ℕ → ℕ = turns_left code.version parts in
        let turns : t inside k + t left (suc k) ≤ t visits (suc k) = omega (arith, turn-taken code.version parts inside left k among all, turns-more code.version parts (suc left) visits (suc k) few) in
        subst (λ n. price place * t inside k + price place * t left n ≤ price place * t visits n) (sym more) (times-both (price place) (t inside k) (t left (suc k)) (t visits (suc k)) turns)

    -- what is left up to a later place, and from it on
    pub potential-split : (frames : List Frame) (place later : ℕ) → place ≤ later → later ≤ end_of frames
        → left_from code mail price place frames ≡ stretch code mail price (visits_now code mail frames) (length frames) place later + left_from code mail price later frames
    potential-split [] place later before after = from-split (weights []) place later (length code.instructions) before after
    potential-split (frame ∷ frames) place later before after =
        omega (arith, from-split (weights (frame ∷ frames)) place later (suc frame.next) before after)

    -- on from a place to a later one of the same body: the cap of the instruction there falls away at least
    pub potential-forward : (frames : List Frame) (place later : ℕ) → depth_at place ≡ length frames → place < end_of frames → place < later
        → left_from code mail price later frames + price place ≤ left_from code mail price place frames
    potential-forward [] place later depth within forward =
        let weight : ℕ → ℕ = weights [] in
        omega (arith, from-first weight place (length code.instructions) within, weight-here (visits_now code mail []) 0 place depth, from-later weight (suc place) later (length code.instructions) forward)
    potential-forward (frame ∷ frames) place later depth within forward =
        let weight : ℕ → ℕ = weights (frame ∷ frames) in
        omega (arith, from-first weight place (suc frame.next) within, weight-here (visits_now code mail (frame ∷ frames)) (suc (length frames)) place depth, from-later weight (suc place) later (suc frame.next) forward)

    -- an instruction that is there may still charge its cap
    pub potential-here : (frames : List Frame) (place : ℕ) → depth_at place ≡ length frames → place < end_of frames → price place ≤ left_from code mail price place frames
    potential-here frames place depth within = omega (arith, potential-forward frames place (suc place) depth within (omega arith))

    -- the body of a loop, for its current part and for those that it has left, is no more than it is for all
    body-taken : (frame : Frame) (frames : List Frame) (visits : ℕ) → ((p : ℕ) → frame.each < p → p ≤ frame.next → suc (length frames) ≤ depth_at p)
        → suc (length frame.rest) ≤ visits → length (visited (Some frame.part) mail) ≤ length frame.rest
        → stretch code mail price (visits_now code mail (frame ∷ frames)) (suc (length frames)) (suc frame.each) (suc frame.next) + stretch code mail price (length frame.rest) (length frames) (suc frame.each) (suc frame.next)
        ≤ stretch code mail price visits (length frames) (suc frame.each) (suc frame.next)
    body-taken frame frames visits deeper few below =
        from-below (weights (frame ∷ frames)) (weight_at code mail price (length frame.rest) (length frames)) (weight_at code mail price visits (length frames)) (suc frame.each) (suc frame.next)
        (λ p le lt. weight-taken visits (visits_now code mail (frame ∷ frames)) (length frame.rest) (length frames) p (deeper p (omega (arith, le)) (omega (arith, lt))) few (visits-few (frame ∷ frames) (length frame.rest) below) (visits-all (frame ∷ frames)))

    -- a loop is opened
    pub potential-enter : (frames : List Frame) (place next part : ℕ) (rest : List ℕ) → depth_at place ≡ length frames → place < next → suc next ≤ end_of frames
        → ((p : ℕ) → place < p → p ≤ next → suc (length frames) ≤ depth_at p) → visited (current_part frames) mail ≡ part ∷ rest → suc (length rest) ≤ parts → length (visited (Some part) mail) ≤ length rest
        → left_from code mail price (suc place) (record { each = place; next = next; part = part; rest = rest } ∷ frames) + price place ≤ left_from code mail price place frames
    potential-enter frames place next part rest depth before within deeper all few below =
        let number : suc (length rest) ≤ visits_now code mail frames = visits-some frames (suc (length rest)) (omega (arith, ap length all)) few in
        omega (
          arith,
          body-taken (record { each = place; next = next; part = part; rest = rest }) frames (visits_now code mail frames) deeper number below,
          potential-split frames (suc place) (suc next) (omega (arith, before)) within,
          potential-forward frames place (suc place) depth (omega (arith, before, within)) (omega arith),
        )

    -- a loop goes on with its next part
    pub potential-again : (frame : Frame) (frames : List Frame) (part : ℕ) (rest : List ℕ) → depth_at frame.next ≡ suc (length frames) → ((p : ℕ) → frame.each < p → p ≤ frame.next → suc (length frames) ≤ depth_at p)
        → frame.rest ≡ part ∷ rest → length (visited (Some part) mail) ≤ length rest
        → left_from code mail price (suc frame.each) (record frame { part = part; rest = rest } ∷ frames) + price frame.next ≤ left_from code mail price frame.next (frame ∷ frames)
    potential-again frame frames part rest depth deeper left below =
        omega (
          arith,
          body-taken (record frame { part = part; rest = rest }) frames (length frame.rest) deeper (omega (arith, ap length left)) below,
          from-first (weights (frame ∷ frames)) frame.next (suc frame.next) (omega arith),
          weight-here (visits_now code mail (frame ∷ frames)) (suc (length frames)) frame.next depth,
        )

    -- a loop is closed
    pub potential-leave : (frame : Frame) (frames : List Frame) (place : ℕ) → depth_at place ≡ suc (length frames) → place ≤ frame.next
        → left_from code mail price (suc frame.next) frames + price place ≤ left_from code mail price place (frame ∷ frames)
    potential-leave frame frames place depth within =
        omega (arith, from-first (weights (frame ∷ frames)) place (suc frame.next) (omega (arith, within)), weight-here (visits_now code mail (frame ∷ frames)) (suc (length frames)) place depth)

    potential-outer : (number : ℕ) (frames : List Frame) (frame : Frame) (outer : List Frame) (place : ℕ) → drop number frames ≡ frame ∷ outer
        → left_from code mail price (suc frame.next) outer ≤ left_from code mail price place frames
    potential-outer zero [] frame outer place e = absurd cc
    potential-outer zero (f ∷ fs) frame outer place e =
        let first : f ≡ frame = cc in
        let others : fs ≡ outer = cc in
        rw (← first, ← others) (omega arith)
    potential-outer (suc number) [] frame outer place e = absurd cc
    potential-outer (suc number) (f ∷ fs) frame outer place e = omega (arith, potential-outer number fs frame outer (suc f.next) e)

    -- some are
    pub potential-break : (number : ℕ) (frames : List Frame) (frame : Frame) (outer : List Frame) (place : ℕ) → depth_at place ≡ length frames → place < end_of frames → drop number frames ≡ frame ∷ outer
        → left_from code mail price (suc frame.next) outer + price place ≤ left_from code mail price place frames
    potential-break zero [] frame outer place depth within e = absurd cc
    potential-break zero (f ∷ fs) frame outer place depth within e =
        let first : f ≡ frame = cc in
        let others : fs ≡ outer = cc in
        rw (← first, ← others) (potential-leave f fs place depth (omega (arith, within)))
    potential-break (suc number) [] frame outer place depth within e = absurd cc
    potential-break (suc number) (f ∷ fs) frame outer place depth within e =
        omega (arith, potential-outer number fs frame outer (suc f.next) e, potential-leave f fs place depth (omega (arith, within)))

    -- what a place comes to, in the column of its own number of loops alone
    abbrev pub column : ℕ → ℕ → ℕ
    column k place = cond (nat_eq (depth_at place) k) (price place * turns code.version parts k) 0

    -- at the start it is what all places come to, by the number of their loops
    pub left-start : Nesting code → left_from code mail price 0 [] ≡ sum_below (column 0) (length code.instructions) + sum_below (column 1) (length code.instructions) + sum_below (column 2) (length code.instructions) + sum_below (column 3) (length code.instructions)
    left-start nesting =
        let n : ℕ = length code.instructions in
        let turn : ℕ → ℕ = turns code.version parts in
        let all : left_from code mail price 0 [] ≡ sum_below (weights []) n = from-all (weights []) n in
        let each : (p : ℕ) → weights [] p ≡ price p * turn (depth_at p) =
        λ p. ap (λ v. price p * turns_left code.version parts v (depth_at p - 0)) visits-start ∙ ap (λ l. price p * turn l) (omega arith) in
        let four = sum-four (weights []) (column 0) (column 1) (column 2) (column 3) n (λ p. each p ∙ four_columns turn (price p) (depth_at p) (nesting.few p)) in
        omega (arith, all, four)

  -- at the start the potential is the budget
  pub potential-start : Nesting code → potential code mail (start code) ≡ limit_of code mail
  potential-start nesting =
      let inside : (k : ℕ) → (sum_inside (λ cap. cap.fixed) code k + sum_inside (λ cap. cap.scaled) code k * (size_of mail + 1)) * turns code.version parts k ≡ sum_below (column cap_there k) (length code.instructions) =
      λ k. sum-linear (λ p. (cap_at code p).fixed) (λ p. (cap_at code p).scaled) (λ p. nat_eq (depth_at p) k) (size_of mail + 1) (turns code.version parts k) (length code.instructions) in
      omega (arith, left-start cap_there nesting, inside 0, inside 1, inside 2, inside 3)

  -- and with the instructions that are counted it is how often they may run
  pub counted-start : (counted : Counted) → Nesting code → left_from code mail (counted_at counted code) 0 [] ≡ times_at counted code parts
  counted-start counted nesting =
      let inside : (k : ℕ) → number_inside counted code k * turns code.version parts k ≡ sum_below (column (counted_at counted code) k) (length code.instructions) =
      λ k. sum-times (counted_at counted code) (λ p. nat_eq (depth_at p) k) (turns code.version parts k) (length code.instructions) in
      omega (arith, left-start (counted_at counted code) nesting, inside 0, inside 1, inside 2, inside 3)
