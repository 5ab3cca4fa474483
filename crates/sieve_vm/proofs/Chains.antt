-- What a loop has left on a chain of parts is all below the part that it is at.
use Rattle.std.proofs.Common.{◌≡◌, ℕ, suc, ◌+◌, ◌-◌, ◌≤◌, List, [], ◌∷◌, Option, Some, None, length, slice_get, refl, sym, ap, ◌∙◌, arith}
use Rattle.std.specs.Option.{option_map_or}
use Rattle.mime_decode.specs.Mail.{Mail, Part, IsMail}
use Rattle.mime_decode.specs.Visited.{numbers_from, visited}
use Rattle.sieve_vm.specs.Plain.{IsChain}
use Rattle.sieve_vm.specs.State.{Frame}
use Rattle.sieve_vm.proofs.Falls.{numbers-length}
use Rattle.sieve_vm.proofs.Opened.{IsPart, end_inside, end_of_part, visited-inside, is_first}
use Rattle.sieve_vm.proofs.Reached.{part_there}

module _ (mail : Mail) (known : IsMail mail) (chain : IsChain mail) where
  end_is : (part : ℕ) → IsPart mail part → end_of_part mail part ≡ length mail.parts
  end_is part within = go (slice_get mail.parts part) refl
    where
      go : (found : Option Part) → slice_get mail.parts part ≡ found → option_map_or (λ (p : Part). suc (part + p.below)) found 0 ≡ length mail.parts
      go None e = absurd (let some : None ≡ Some (part_there mail.parts part within).0 = sym e ∙ (part_there mail.parts part within).1 in cc)
      go (Some p) e = chain part p e

  end_most : (frames : List Frame) → end_inside mail frames ≤ length mail.parts
  end_most [] = omega arith
  end_most (frame ∷ frames) = go (slice_get mail.parts frame.part) refl
    where
      go : (found : Option Part) → slice_get mail.parts frame.part ≡ found → option_map_or (λ (p : Part). suc (frame.part + p.below)) found 0 ≤ length mail.parts
      go None e = omega arith
      go (Some p) e = omega (arith, chain frame.part p e)

  -- what a loop has left after a part is all below it
  pub all_below : (frames : List Frame) (part : ℕ) (rest : List ℕ) (first : ℕ) → IsPart mail part → numbers_from first (end_inside mail frames - first) ≡ part ∷ rest → length rest ≤ length (visited (Some part) mail)
  all_below frames part rest first within e =
      let others = (is_first first (end_inside mail frames) part rest e).others in
      let frame : Frame = record { each = 0; next = 0; part = part; rest = [] } in
      let below : length (visited (Some part) mail) ≡ end_of_part mail part - suc part =
      ap length (visited-inside mail (frame ∷ [])) ∙ numbers-length (suc part) (end_of_part mail part - suc part) in
      let left : length rest ≡ end_inside mail frames - suc part = ap length others ∙ numbers-length (suc part) (end_inside mail frames - suc part) in
      omega (arith, below, left, end_is part within, end_most frames)
