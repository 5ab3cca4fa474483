-- How long a spelling is.
use Rattle.std.proofs.Common.{◌≡◌, ℕ, ◌+◌, ◌*◌, List, [], ◌∷◌, ◌++◌, length, refl, ap, ◌∙◌, arith}
use Rattle.std.specs.List.{flat_map}
use Rattle.std.proofs.lemmas.List.{length-append}
use Rattle.std.proofs.lemmas.List.Concat.{flat_map-cons}
use Rattle.bytecode_format.specs.Code.{Code}
use Rattle.bytecode_format.specs.Spelling.{eight_octets, string, instruction, heading, spelling}

-- items of eight octets each
length-eights : {A : Type 0} (text : A → List ℕ) → ((x : A) → length (text x) ≡ 8) → (xs : List A) → length (flat_map text xs) ≡ length xs * 8
length-eights text eight [] = refl
length-eights text eight (x ∷ xs) =
    let step : length (flat_map text (x ∷ xs)) ≡ length (text x) + length (flat_map text xs) = ap length (flat_map-cons text x xs) ∙ length-append (text x) (flat_map text xs) in
    omega (arith, step, eight x, length-eights text eight xs)

pub length-spelling : (code : Code) → length (spelling code) ≡ 15 + (length code.numbers + length code.instructions) * 8 + length (flat_map string code.strings)
length-spelling code =
    let ns : List ℕ = flat_map eight_octets code.numbers in
    let ss : List ℕ = flat_map string code.strings in
    let is : List ℕ = flat_map instruction code.instructions in
    let a : length (spelling code) ≡ length (heading code ++ ns ++ ss) + length is = length-append (heading code ++ ns ++ ss) is in
    let b : length (heading code ++ ns ++ ss) ≡ length (heading code ++ ns) + length ss = length-append (heading code ++ ns) ss in
    let c : length (heading code ++ ns) ≡ length (heading code) + length ns = length-append (heading code) ns in
    let fifteen : length (heading code) ≡ 15 = refl in
    let n : length ns ≡ length code.numbers * 8 = length-eights eight_octets (λ _. refl) code.numbers in
    let i : length is ≡ length code.instructions * 8 = length-eights instruction (λ _. refl) code.instructions in
    omega (arith, a, b, c, fifteen, n, i)
