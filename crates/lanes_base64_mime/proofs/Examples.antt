-- The definitions at small texts, by computation.
use Rattle.std.proofs.Common.{◌≡◌, refl}
use Rattle.std.specs.Prelude.{codes}
use Rattle.lanes_base64_mime.specs.MimeBase64.{bits_left}

one_symbol_left : bits_left (codes "Z") ≡ 6
one_symbol_left = refl

two_symbols_left : bits_left (codes "Zg") ≡ 4
two_symbols_left = refl

three_symbols_left : bits_left (codes "Z!m9=v") ≡ 2
three_symbols_left = refl

nothing_left : bits_left (codes "Zm9v") ≡ 0
nothing_left = refl
