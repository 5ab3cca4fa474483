-- The parts that a loop visits, by the number of those below its part.
use Rattle.std.proofs.Common.{◌≡◌, ℕ, suc, ◌+◌, ◌-◌, ◌<◌, ◌≤◌, List, [], ◌∷◌, Some, get_or, length, slice_get, ap, ◌∙◌, arith}
use Rattle.std.proofs.lemmas.Option.{slice_get-get_or}
use Rattle.std.specs.List.{HoldsAt}
use Rattle.mime_decode.specs.Mail.{Mail, Part, IsMail}
use Rattle.mime_decode.specs.Visited.{numbers_from, visited}

pub some_part : (parts : List Part) → 0 < length parts → Part
some_part [] some = absurd (omega (arith, some))
some_part (part ∷ parts) some = part

module _ (mail : Mail) (place found : ℕ) (known : IsMail mail) (lt : place < length mail.parts) (at : HoldsAt (λ (p : Part). found ≡ p.below) mail.parts place) where
  abbrev part_there : Part
  part_there = get_or mail.parts place (some_part mail.parts known.has_root)

  here : slice_get mail.parts place ≡ Some part_there
  here = slice_get-get_or mail.parts place (some_part mail.parts known.has_root) lt

  below_is : found ≡ part_there.below
  below_is = at (some_part mail.parts known.has_root)

  pub below_visited : numbers_from (place + 1) (place + 1 + found - (place + 1)) ≡ visited (Some place) mail
  below_visited =
      let number : place + 1 + found - (place + 1) ≡ part_there.below = omega (arith, below_is) in
      let next : place + 1 ≡ suc place = omega arith in
      rw here (ap (numbers_from (place + 1)) number ∙ ap (λ n. numbers_from n part_there.below) next)

  pub below_few : place + 1 + found ≤ length mail.parts
  below_few = let nests = known.nests place part_there here in omega (arith, nests.within, below_is)
