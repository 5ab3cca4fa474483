-- Places that were counted by hand.
use Rattle.std.proofs.Common.{◌≡◌, [], refl}
use Rattle.std.specs.Prelude.{codes}
use Rattle.readable_text.specs.Places.{column, line_at, line_number, octets_after, octets_before, without_return}

-- a line ends with its LF, after the last of which comes one more line, in which nothing stands
places :
    (line_number (codes "keep;\nstop;\n") 4 ≡ 1)
    × (line_number (codes "keep;\nstop;\n") 5 ≡ 1)
    × (line_number (codes "keep;\nstop;\n") 6 ≡ 2)
    × (column (codes "keep;\nstop;\n") 10 ≡ 5)
    × (line_at (codes "keep;\n") 6 ≡ [])
    × (line_at (codes "keep;\r\nstop") 2 ≡ codes "keep;")
unfolding line_number octets_before octets_after without_return
places = (refl, refl, refl, refl, refl, refl)
