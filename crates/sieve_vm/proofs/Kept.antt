-- In programs of version 2 a turn lowers the potential by no more than a cap, where what a part has below it is all that is left after it.
use Rattle.std.proofs.Common.{◌≡◌, ℕ, zero, suc, ◌+◌, ◌-◌, ◌*◌, ◌<◌, ◌≤◌, List, [], ◌∷◌, Some, length, refl, sym, ap, subst, ◌∙◌, inl, inr, mul-add, arith}
use Rattle.std.proofs.lemmas.Bool.{cases_lt}
use Rattle.std.proofs.Math.Nat.{mul-le-mul}
use Rattle.bytecode_cost.specs.Sums.{chains, turns_left}
use Rattle.bytecode_cost.proofs.Chains.{chains_more}
use Rattle.bytecode_format.specs.Code.{Code}
use Rattle.mime_decode.specs.Mail.{Mail}
use Rattle.mime_decode.specs.Visited.{visited}
use Rattle.sieve_vm.specs.State.{Frame, current_part}
use Rattle.sieve_vm.specs.Potential.{weight_at, stretch, visits_now, potential_from}
use Rattle.sieve_vm.proofs.Falls.{from, counted, uncounted, from-none, from-first, depth_at, cap_there, weights, weight-here, end_of, potential-split}

-- ---- sums over places

-- each no more than two others
from-above : (f g h : ℕ → ℕ) (first n : ℕ) → ((p : ℕ) → first ≤ p → p < n → h p ≤ f p + g p) → from h first n ≤ from f first n + from g first n
from-above f g h first zero each = omega arith
from-above f g h first (suc n) each =
    let before = from-above f g h first n (λ p le lt. each p le (omega arith)) in
    elim (cases_lt n first) [
      | inl lt ↦ omega (arith, before, uncounted f first n lt, uncounted g first n lt, uncounted h first n lt)
      | inr le ↦ omega (arith, before, counted f first n le, counted g first n le, counted h first n le, each n le (omega arith))
    ]

from-zero : (f : ℕ → ℕ) (first n : ℕ) → ((p : ℕ) → first ≤ p → p < n → f p ≡ 0) → from f first n ≡ 0
from-zero f first zero each = refl
from-zero f first (suc n) each =
    let before = from-zero f first n (λ p le lt. each p le (omega arith)) in
    elim (cases_lt n first) [
      | inl lt ↦ omega (arith, before, uncounted f first n lt)
      | inr le ↦ omega (arith, before, counted f first n le, each n le (omega arith))
    ]

-- ---- what is left

module _ (code : Code) (mail : Mail) (two : code.version ≡ 2) where
  abbrev price : ℕ → ℕ
  price = cap_there code mail

  abbrev left_of : ℕ → ℕ → ℕ
  left_of = turns_left code.version (length mail.parts)

  turns-two : (visits k : ℕ) → left_of visits k ≡ chains visits k
  turns-two visits k = ap (λ v. turns_left v (length mail.parts) visits k) two

  visits-two : (frames : List Frame) → visits_now code mail frames ≡ length (visited (current_part frames) mail)
  visits-two frames = rw two refl

  -- deeper inside, for a part and for those that are left then
  weight-kept : (visits inside left depth place : ℕ) → suc depth ≤ depth_at code mail place → visits ≤ suc left → left ≤ inside
      → weight_at code mail price visits depth place ≤ weight_at code mail price inside (suc depth) place + weight_at code mail price left depth place
  weight-kept visits inside left depth place deeper few below =
      let cap : ℕ = cap_there code mail place in
      let k : ℕ = depth_at code mail place - suc depth in
      let more : depth_at code mail place - depth ≡ suc k = omega (arith, deeper) in
      let turns : chains visits (suc k) ≤ chains inside k + chains left (suc k) = omega (arith, chains_more visits (suc left) (suc k) few, chains_more left inside k below) in
      let same : cap ≤ cap = omega arith in
      let whole : cap * chains visits (suc k) ≤ cap * (chains inside k + chains left (suc k)) = mul-le-mul same turns in
      let a : cap * left_of visits (suc k) ≡ cap * chains visits (suc k) = ap (λ t. cap * t) (turns-two visits (suc k)) in
      let b : cap * left_of inside k ≡ cap * chains inside k = ap (λ t. cap * t) (turns-two inside k) in
      let c : cap * left_of left (suc k) ≡ cap * chains left (suc k) = ap (λ t. cap * t) (turns-two left (suc k)) in
      subst (λ n. cap * left_of visits n ≤ cap * left_of inside k + cap * left_of left n) (sym more) (omega (arith, whole, mul-add cap (chains inside k) (chains left (suc k)), a, b, c))

  -- deeper inside, for no part
  weight-none : (depth place : ℕ) → suc depth ≤ depth_at code mail place → weight_at code mail price 0 depth place ≡ 0
  weight-none depth place deeper =
      let cap : ℕ = cap_there code mail place in
      let k : ℕ = depth_at code mail place - suc depth in
      let more : depth_at code mail place - depth ≡ suc k = omega (arith, deeper) in
      ap (λ n. cap * left_of 0 n) more ∙ ap (λ t. cap * t) (turns-two 0 (suc k)) ∙ omega arith

  -- on to the next place
  pub kept-on : (frames : List Frame) (place : ℕ) → depth_at code mail place ≡ length frames → place < end_of code mail frames
      → potential_from code mail place frames ≤ potential_from code mail (suc place) frames + cap_there code mail place
  kept-on [] place depth within =
      omega (arith, from-first (weights code mail price []) place (length code.instructions) within, weight-here code mail price (visits_now code mail []) 0 place depth)
  kept-on (frame ∷ frames) place depth within =
      omega (arith, from-first (weights code mail price (frame ∷ frames)) place (suc frame.next) within, weight-here code mail price (visits_now code mail (frame ∷ frames)) (suc (length frames)) place depth)

  -- at the last instruction
  pub kept-last : (place : ℕ) → depth_at code mail place ≡ 0 → suc place ≡ length code.instructions → potential_from code mail place [] ≤ cap_there code mail place
  kept-last place depth last =
      let n : ℕ = length code.instructions in
      omega (
        arith,
        from-first (weights code mail price []) place n (omega (arith, last)),
        from-none (weights code mail price []) (suc place) n (omega (arith, last)),
        weight-here code mail price (visits_now code mail []) 0 place depth,
      )

  body-kept : (frame : Frame) (frames : List Frame) (visits : ℕ) → ((p : ℕ) → frame.each < p → p ≤ frame.next → suc (length frames) ≤ depth_at code mail p)
      → visits ≤ suc (length frame.rest) → length frame.rest ≤ length (visited (Some frame.part) mail)
      → stretch code mail price visits (length frames) (suc frame.each) (suc frame.next)
      ≤ stretch code mail price (visits_now code mail (frame ∷ frames)) (suc (length frames)) (suc frame.each) (suc frame.next) + stretch code mail price (length frame.rest) (length frames) (suc frame.each) (suc frame.next)
  body-kept frame frames visits deeper few below =
      from-above (weights code mail price (frame ∷ frames)) (weight_at code mail price (length frame.rest) (length frames)) (weight_at code mail price visits (length frames)) (suc frame.each) (suc frame.next)
      (λ p le lt. weight-kept visits (visits_now code mail (frame ∷ frames)) (length frame.rest) (length frames) p (deeper p (omega (arith, le)) (omega (arith, lt))) few (omega (arith, visits-two (frame ∷ frames), below)))

  -- a loop is opened
  pub kept-enter : (frames : List Frame) (place next part : ℕ) (rest : List ℕ) → depth_at code mail place ≡ length frames → place < next → suc next ≤ end_of code mail frames
      → ((p : ℕ) → place < p → p ≤ next → suc (length frames) ≤ depth_at code mail p) → visited (current_part frames) mail ≡ part ∷ rest → length rest ≤ length (visited (Some part) mail)
      → potential_from code mail place frames ≤ potential_from code mail (suc place) (record { each = place; next = next; part = part; rest = rest } ∷ frames) + cap_there code mail place
  kept-enter frames place next part rest depth before within deeper all below =
      omega (
        arith,
        body-kept (record { each = place; next = next; part = part; rest = rest }) frames (visits_now code mail frames) deeper (omega (arith, visits-two frames, ap length all)) below,
        potential-split code mail price frames (suc place) (suc next) (omega (arith, before)) within,
        kept-on frames place depth (omega (arith, before, within)),
      )

  -- a loop without parts is passed over
  pub kept-pass : (frames : List Frame) (place next : ℕ) → depth_at code mail place ≡ length frames → place < next → suc next ≤ end_of code mail frames
      → ((p : ℕ) → place < p → p ≤ next → suc (length frames) ≤ depth_at code mail p) → visited (current_part frames) mail ≡ []
      → potential_from code mail place frames ≤ potential_from code mail (suc next) frames + cap_there code mail place
  kept-pass frames place next depth before within deeper none =
      let visits : visits_now code mail frames ≡ 0 = visits-two frames ∙ ap length none in
      let weight : (p : ℕ) → suc place ≤ p → p < suc next → weights code mail price frames p ≡ 0 =
      λ p le lt. ap (λ v. weight_at code mail price v (length frames) p) visits ∙ weight-none (length frames) p (deeper p (omega (arith, le)) (omega (arith, lt))) in
      omega (
        arith,
        from-zero (weights code mail price frames) (suc place) (suc next) weight,
        potential-split code mail price frames (suc place) (suc next) (omega (arith, before)) within,
        kept-on frames place depth (omega (arith, before, within)),
      )

  -- a loop goes on with its next part
  pub kept-again : (frame : Frame) (frames : List Frame) (part : ℕ) (rest : List ℕ) → depth_at code mail frame.next ≡ suc (length frames) → ((p : ℕ) → frame.each < p → p ≤ frame.next → suc (length frames) ≤ depth_at code mail p)
      → frame.rest ≡ part ∷ rest → length rest ≤ length (visited (Some part) mail)
      → potential_from code mail frame.next (frame ∷ frames) ≤ potential_from code mail (suc frame.each) (record frame { part = part; rest = rest } ∷ frames) + cap_there code mail frame.next
  kept-again frame frames part rest depth deeper left below =
      omega (
        arith,
        body-kept (record frame { part = part; rest = rest }) frames (length frame.rest) deeper (omega (arith, ap length left)) below,
        from-first (weights code mail price (frame ∷ frames)) frame.next (suc frame.next) (omega arith),
        from-none (weights code mail price (frame ∷ frames)) (suc frame.next) (suc frame.next) (omega arith),
        weight-here code mail price (visits_now code mail (frame ∷ frames)) (suc (length frames)) frame.next depth,
      )

  -- it is closed after its last part
  pub kept-leave : (frame : Frame) (frames : List Frame) → depth_at code mail frame.next ≡ suc (length frames) → ((p : ℕ) → frame.each < p → p ≤ frame.next → suc (length frames) ≤ depth_at code mail p)
      → frame.rest ≡ [] → potential_from code mail frame.next (frame ∷ frames) ≤ potential_from code mail (suc frame.next) frames + cap_there code mail frame.next
  kept-leave frame frames depth deeper none =
      let left : weight_at code mail price (length frame.rest) (length frames) ≡ weight_at code mail price 0 (length frames) = ap (λ (r : List ℕ). weight_at code mail price (length r) (length frames)) none in
      let body : stretch code mail price 0 (length frames) (suc frame.each) (suc frame.next) ≡ 0 =
      from-zero (weight_at code mail price 0 (length frames)) (suc frame.each) (suc frame.next) (λ p le lt. weight-none (length frames) p (deeper p (omega (arith, le)) (omega (arith, lt)))) in
      omega (
        arith,
        ap (λ (w : ℕ → ℕ). from w (suc frame.each) (suc frame.next)) left,
        body,
        from-first (weights code mail price (frame ∷ frames)) frame.next (suc frame.next) (omega arith),
        from-none (weights code mail price (frame ∷ frames)) (suc frame.next) (suc frame.next) (omega arith),
        weight-here code mail price (visits_now code mail (frame ∷ frames)) (suc (length frames)) frame.next depth,
      )
