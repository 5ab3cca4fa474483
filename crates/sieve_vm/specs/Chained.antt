-- How the parts of the open loops stand to each other.
use Rattle.std.specs.Prelude.{◌<◌, List, [], ◌∷◌, Some, All, Contains}
use Rattle.mime_decode.specs.Mail.{Mail}
use Rattle.mime_decode.specs.Visited.{visited}
use Rattle.sieve_vm.specs.State.{Frame, current_part}

-- a loop inside of these has come to a part that such a loop visits: one below the current part of
-- the loop around it, or any where none is; the parts that it has left come after that part, and
-- those below the part are among them
pub record IsAt (mail : Mail) (frame : Frame) (frames : List Frame) : Type 0 where
  pub inside : Contains (visited (current_part frames) mail) frame.part
  pub later : All (λ part. frame.part < part) frame.rest
  pub below : All (Contains frame.rest) (visited (Some frame.part) mail)

-- the current parts of the open loops, the innermost first: each is below that of the loop around it
abbrev pub AreChained : Mail → List Frame → Type 0
AreChained mail [] = Unit {0}
AreChained mail (frame ∷ frames) = IsAt mail frame frames × AreChained mail frames
