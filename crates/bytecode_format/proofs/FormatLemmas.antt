-- The two laws: what is read is spelled so, and what is spelled so is read.
use Rattle.std.proofs.Common.{◌≡◌, ◌≢◌, ℕ, suc, ◌^◌, ◌<◌, ◌≤◌, Bool, true, false, cond, eqb, ltb, List, [], ◌∷◌, ◌++◌, length, drop, take, Option, Some, None, refl, sym, ap, subst, ◌∙◌, append_assoc, arith, All}
use Rattle.std.specs.Prelude.{◌||◌, nat_eq}
use Rattle.std.specs.List.{flat_map, AllByRecursion}
use Rattle.std.specs.Int.{w16, w32, w64}
use Rattle.std.specs.Cmp.Lexicographic.{pointwise}
use Rattle.std.proofs.lemmas.Bool.{ltb-false, le-ltb, eqb-true}
use Rattle.std.proofs.lemmas.List.{append-nil, nil_from_length, take-append-drop, take_at, drop_at}
use Rattle.std.proofs.lemmas.Slice.Eq.{bytes_eq-Decides}
use Rattle.std.proofs.lemmas.List.Elements.{All-from_recursion}
use Rattle.bytecode_format.specs.declared.instruction.Instruction.{Instruction}
use Rattle.bytecode_format.specs.declared.error.FormatError.{FormatError}
use Rattle.bytecode_format.specs.declared.error.FormatError.TheVariants.{Memory, Spelling}
use Rattle.bytecode_format.specs.Code.{Code}
use Rattle.bytecode_format.specs.Spelling.{two_octets, four_octets, eight_octets, string, instruction, spelling, octet, is_version, Fits, IsProgram}
use Rattle.bytecode_format.specs.Readers.{◌>>=◌, Fails, after, opening, number_at, string_at, instruction_at, many_at, Counts, counts_at, octet_at, version_at, tables_at, program_at}
use Rattle.bytecode_format.proofs.Fields.{AreOctets, AreOctets-drop, bind_some, guard_some, some_is, neither, Takes, Takes-then, reads_octet, reads_two, reads_four, reads_eight, reads_string, reads_instruction, many_takes, many_again}

-- what holds of each place holds along the list
pub All-to_recursion : {A : Type 0} (P : A → Type 0) (xs : List A) → All P xs → AllByRecursion P xs
All-to_recursion P [] h = tt
All-to_recursion P (x ∷ xs) h = (h 0 x (omega arith), All-to_recursion P xs (λ k d lt. h (suc k) d (omega arith)))

-- the counts, as they are spelled
abbrev counts_text : Counts → List ℕ
counts_text counts = two_octets counts.variables ++ two_octets counts.numbers ++ two_octets counts.strings ++ four_octets counts.instructions

record CountsFit (counts : Counts) : Type 0 where
  pub variables : counts.variables ≤ 128
  pub numbers : counts.numbers < 2 ^ 16
  pub strings : counts.strings < 2 ^ 16
  pub instructions : counts.instructions ≤ 65536

counts_takes : (octets : List ℕ) (x : Counts × List ℕ) → AreOctets octets → counts_at octets ≡ Some x → Takes octets (counts_text x.0) x.1 × CountsFit x.0
unfolding counts_at
counts_takes octets x fits e =
    let last : (v n s i : ℕ × List ℕ) → Option (Counts × List ℕ) = λ v n s i. cond (ltb 128 v.0 || ltb 65536 i.0) None (Some (record { variables = v.0; numbers = n.0; strings = s.0; instructions = i.0 }, i.1)) in
    let v = bind_some (number_at w16 octets) (λ v. number_at w16 v.1 >>= λ n. number_at w16 n.1 >>= λ s. number_at w32 s.1 >>= λ i. last v n s i) x e in
    let n = bind_some (number_at w16 v.0.1) (λ n. number_at w16 n.1 >>= λ s. number_at w32 s.1 >>= λ i. last v.0 n s i) x v.2 in
    let s = bind_some (number_at w16 n.0.1) (λ s. number_at w32 s.1 >>= λ i. last v.0 n.0 s i) x n.2 in
    let i = bind_some (number_at w32 s.0.1) (λ i. last v.0 n.0 s.0 i) x s.2 in
    let made : Counts × List ℕ = (record { variables = v.0.0; numbers = n.0.0; strings = s.0.0; instructions = i.0.0 }, i.0.1) in
    let g = guard_some (ltb 128 v.0.0 || ltb 65536 i.0.0) (Some made) x i.2 in
    let limits = neither (ltb 128 v.0.0) (ltb 65536 i.0.0) g.0 in
    let t0 = reads_two.takes octets v.0 fits v.1 in
    let t1 = reads_two.takes v.0.1 n.0 t0.0.rest_fits n.1 in
    let t2 = reads_two.takes n.0.1 s.0 t1.0.rest_fits s.1 in
    let t3 = reads_four.takes s.0.1 i.0 t2.0.rest_fits i.1 in
    let u1 = Takes-then octets (two_octets v.0.0) v.0.1 (two_octets n.0.0) n.0.1 t0.0 t1.0 in
    let u2 = Takes-then octets (two_octets v.0.0 ++ two_octets n.0.0) n.0.1 (two_octets s.0.0) s.0.1 u1 t2.0 in
    let u3 = Takes-then octets (two_octets v.0.0 ++ two_octets n.0.0 ++ two_octets s.0.0) s.0.1 (four_octets i.0.0) i.0.1 u2 t3.0 in
    subst (λ (y : Counts × List ℕ). Takes octets (counts_text y.0) y.1 × CountsFit y.0) (some_is made x g.1) (u3, record { variables = ltb-false _ _ limits.0; numbers = t1.1; strings = t2.1; instructions = ltb-false _ _ limits.1 })

counts_again : (counts : Counts) (rest : List ℕ) → CountsFit counts → counts_at (counts_text counts ++ rest) ≡ Some (counts, rest)
unfolding counts_at
counts_again counts rest fits =
    let i : List ℕ = four_octets counts.instructions ++ rest in
    let s : List ℕ = two_octets counts.strings ++ i in
    let n : List ℕ = two_octets counts.numbers ++ s in
    let regrouped : counts_text counts ++ rest ≡ two_octets counts.variables ++ n = simp append_assoc in
    let few : ltb 128 counts.variables ≡ false = le-ltb _ _ fits.variables in
    let short : ltb 65536 counts.instructions ≡ false = le-ltb _ _ fits.instructions in
    ap counts_at regrouped
    ∙ rw (reads_two.again counts.variables n (omega (arith, fits.variables)), reads_two.again counts.numbers s fits.numbers, reads_two.again counts.strings i fits.strings, reads_four.again counts.instructions rest (omega (arith, fits.instructions)), few, short) refl

-- ---- what stands before the counts

guard_then : {A : Type 0} (b : Bool) (x y : A) → cond b (Some x) None ≡ Some y → (b ≡ true) × (x ≡ y)
guard_then true x y h = (refl, cc)
guard_then false x y h = absurd cc

after_takes : (text octets rest : List ℕ) → AreOctets octets → after text octets ≡ Some rest → Takes octets text rest
unfolding after
after_takes text octets rest fits e =
    let g = guard_then (pointwise nat_eq (take (length text) octets) text) (drop (length text) octets) rest e in
    let prefix : take (length text) octets ≡ text = (bytes_eq-Decides (take (length text) octets) text).0 g.0 in
    record { parts = sym (take-append-drop (length text) octets) ∙ ap (λ (t : List ℕ). t ++ drop (length text) octets) prefix ∙ ap (λ (t : List ℕ). text ++ t) g.1; rest_fits = rw (← g.1) (AreOctets-drop (length text) octets fits) }

after_again : (text rest : List ℕ) → after text (text ++ rest) ≡ Some rest
unfolding after
after_again text rest =
    let same : pointwise nat_eq text text ≡ true = (bytes_eq-Decides text text).1 refl in
    rw (take_at text rest (length text) refl, same, drop_at text rest (length text) refl) refl

-- ---- the version

version_takes : (octets : List ℕ) (x : ℕ × List ℕ) → AreOctets octets → version_at octets ≡ Some x → Takes octets (octet x.0) x.1 × (is_version x.0 ≡ true)
unfolding version_at
version_takes octets x fits e =
    let b = bind_some (octet_at octets) (λ v. cond (is_version v.0) (Some v) None) x e in
    let g = guard_then (is_version b.0.0) b.0 x b.2 in
    let t = reads_octet.takes octets b.0 fits b.1 in
    subst (λ (y : ℕ × List ℕ). Takes octets (octet y.0) y.1 × (is_version y.0 ≡ true)) g.1 (t.0, g.0)

version_again : (version : ℕ) (rest : List ℕ) → is_version version ≡ true → version_at (octet version ++ rest) ≡ Some (version, rest)
unfolding version_at
version_again version rest is = ap (λ b. cond b (Some (version, rest)) None) is

-- ---- programs

-- the counts of a program's tables
abbrev counts_of : Code → Counts
counts_of code = record { variables = code.variables; numbers = length code.numbers; strings = length code.strings; instructions = length code.instructions }

-- the octets of a program's tables, and of all of it, by its readers
abbrev tables_text : Code → List ℕ
tables_text code = counts_text (counts_of code) ++ (flat_map eight_octets code.numbers ++ (flat_map string code.strings ++ flat_map instruction code.instructions))

abbrev parts_of : Code → List ℕ
parts_of code = opening ++ (octet code.version ++ tables_text code)

regroup : (o w v n s i a b c : List ℕ) → (o ++ w ++ v ++ n ++ s ++ i) ++ a ++ b ++ c ≡ o ++ (w ++ ((v ++ n ++ s ++ i) ++ (a ++ (b ++ c))))
regroup o w v n s i a b c = simp append_assoc

spelling-parts : (code : Code) → spelling code ≡ parts_of code
spelling-parts code =
    regroup opening (octet code.version) (two_octets code.variables) (two_octets (length code.numbers)) (two_octets (length code.strings)) (four_octets (length code.instructions)) (flat_map eight_octets code.numbers) (flat_map string code.strings) (flat_map instruction code.instructions)

ended : {A : Type 0} (rest : List ℕ) (x y : A) → cond (eqb (length rest) 0) (Some x) None ≡ Some y → (rest ≡ []) × (x ≡ y)
ended rest x y e =
    let g = guard_then (eqb (length rest) 0) x y e in
    (nil_from_length rest (eqb-true _ _ g.0), g.1)

counts_equal : (counts : Counts) (n s i : ℕ) → n ≡ counts.numbers → s ≡ counts.strings → i ≡ counts.instructions → (let k : Counts = record { variables = counts.variables; numbers = n; strings = s; instructions = i } in k) ≡ counts
counts_equal counts n s i p q r = rw (p, q, r) refl

-- the tables of a program are within its limits, and are all of the octets
record HasTables (v : ℕ) (octets : List ℕ) (code : Code) : Type 0 where
  pub version : code.version ≡ v
  pub variables : code.variables ≤ 128
  pub numbers : length code.numbers < 2 ^ 16
  pub each_number : All (λ n. n < 2 ^ 64) code.numbers
  pub strings : length code.strings < 2 ^ 16
  pub each_string : All (λ text. length text ≤ 16384) code.strings
  pub instructions : length code.instructions ≤ 65536
  pub each_instruction : All Fits code.instructions
  pub text : octets ≡ tables_text code

tables_takes : (version : ℕ) (octets : List ℕ) (code : Code) → AreOctets octets → tables_at version octets ≡ Some code → HasTables version octets code
unfolding tables_at
tables_takes version octets code fits e =
    let made : (c : Counts) (ns : List ℕ) (ss : List (List ℕ)) (is : List Instruction) → Code = λ c ns ss is. record { version = version; variables = c.variables; numbers = ns; strings = ss; instructions = is } in
    let read4 : (c : Counts × List ℕ) (n : List ℕ × List ℕ) (s : List (List ℕ) × List ℕ) (i : List Instruction × List ℕ) → Option Code = λ c n s i. cond (eqb (length i.1) 0) (Some (made c.0 n.0 s.0 i.0)) None in
    let read3 : (c : Counts × List ℕ) (n : List ℕ × List ℕ) (s : List (List ℕ) × List ℕ) → Option Code = λ c n s. many_at instruction_at c.0.instructions s.1 >>= λ i. read4 c n s i in
    let read2 : (c : Counts × List ℕ) (n : List ℕ × List ℕ) → Option Code = λ c n. many_at string_at c.0.strings n.1 >>= λ s. read3 c n s in
    let read1 : (c : Counts × List ℕ) → Option Code = λ c. many_at (number_at w64) c.0.numbers c.1 >>= λ n. read2 c n in
    let c = bind_some (counts_at octets) read1 code e in
    let n = bind_some (many_at (number_at w64) c.0.0.numbers c.0.1) (read2 c.0) code c.2 in
    let s = bind_some (many_at string_at c.0.0.strings n.0.1) (read3 c.0 n.0) code n.2 in
    let i = bind_some (many_at instruction_at c.0.0.instructions s.0.1) (read4 c.0 n.0 s.0) code s.2 in
    let end = ended i.0.1 (made c.0.0 n.0.0 s.0.0 i.0.0) code i.2 in
    let t1 = counts_takes octets c.0 fits c.1 in
    let t2 = many_takes reads_eight c.0.0.numbers c.0.1 n.0 t1.0.rest_fits n.1 in
    let t3 = many_takes reads_string c.0.0.strings n.0.1 s.0 t2.0.rest_fits s.1 in
    let t4 = many_takes reads_instruction c.0.0.instructions s.0.1 i.0 t3.0.rest_fits i.1 in
    let o2 : octets ≡ counts_text c.0.0 ++ c.0.1 = t1.0.parts in
    let o3 : octets ≡ counts_text c.0.0 ++ (flat_map eight_octets n.0.0 ++ n.0.1) = o2 ∙ ap (λ (t : List ℕ). counts_text c.0.0 ++ t) t2.0.parts in
    let o4 : octets ≡ counts_text c.0.0 ++ (flat_map eight_octets n.0.0 ++ (flat_map string s.0.0 ++ s.0.1)) = o3 ∙ ap (λ (t : List ℕ). counts_text c.0.0 ++ (flat_map eight_octets n.0.0 ++ t)) t3.0.parts in
    let all : s.0.1 ≡ flat_map instruction i.0.0 = t4.0.parts ∙ ap (λ (t : List ℕ). flat_map instruction i.0.0 ++ t) end.0 ∙ append-nil (flat_map instruction i.0.0) in
    let o5 : octets ≡ counts_text c.0.0 ++ (flat_map eight_octets n.0.0 ++ (flat_map string s.0.0 ++ flat_map instruction i.0.0)) = o4 ∙ ap (λ (t : List ℕ). counts_text c.0.0 ++ (flat_map eight_octets n.0.0 ++ (flat_map string s.0.0 ++ t))) all in
    let p : Code = made c.0.0 n.0.0 s.0.0 i.0.0 in
    let counted : counts_of p ≡ c.0.0 = counts_equal c.0.0 (length n.0.0) (length s.0.0) (length i.0.0) t2.1 t3.1 t4.1 in
    let spelt : octets ≡ tables_text p = o5 ∙ ap (λ (k : Counts). counts_text k ++ (flat_map eight_octets n.0.0 ++ (flat_map string s.0.0 ++ flat_map instruction i.0.0))) (sym counted) in
    subst (λ (k : Code). HasTables version octets k) end.1 (
    record {
      version = refl;
      variables = t1.1.variables;
      numbers = rw t2.1 t1.1.numbers;
      each_number = All-from_recursion (λ x. x < 2 ^ 64) n.0.0 t2.2;
      strings = rw t3.1 t1.1.strings;
      each_string = All-from_recursion (λ text. length text ≤ 16384) s.0.0 t3.2;
      instructions = rw t4.1 t1.1.instructions;
      each_instruction = All-from_recursion Fits i.0.0 t4.2;
      text = spelt;
    }
    )

pub program_takes : (octets : List ℕ) (code : Code) → AreOctets octets → program_at octets ≡ Some code → IsProgram code × (octets ≡ spelling code)
unfolding program_at
program_takes octets code fits e =
    let read1 : (v : ℕ × List ℕ) → Option Code = λ v. tables_at v.0 v.1 in
    let g = guard_some (ltb 4194304 (length octets)) (after opening octets >>= λ x. version_at x >>= λ v. read1 v) code e in
    let o = bind_some (after opening octets) (λ x. version_at x >>= λ v. read1 v) code g.1 in
    let v = bind_some (version_at o.0) read1 code o.2 in
    let t = after_takes opening octets o.0 fits o.1 in
    let t0 = version_takes o.0 v.0 t.rest_fits v.1 in
    let tables : HasTables v.0.0 v.0.1 code = tables_takes v.0.0 v.0.1 code t0.0.rest_fits v.2 in
    let o1 : octets ≡ opening ++ (octet v.0.0 ++ v.0.1) = t.parts ∙ ap (λ (t : List ℕ). opening ++ t) t0.0.parts in
    let o2 : octets ≡ opening ++ (octet v.0.0 ++ tables_text code) = o1 ∙ ap (λ (t : List ℕ). opening ++ (octet v.0.0 ++ t)) tables.text in
    let o3 : octets ≡ parts_of code = o2 ∙ ap (λ (n : ℕ). opening ++ (octet n ++ tables_text code)) (sym tables.version) in
    let spelt : octets ≡ spelling code = o3 ∙ sym (spelling-parts code) in
    let short : length octets ≤ 4194304 = ltb-false _ _ g.0 in
    let known : is_version code.version ≡ true = subst (λ (n : ℕ). is_version n ≡ true) (sym tables.version) t0.1 in (
      record {
        version = known;
        variables = tables.variables;
        numbers = tables.numbers;
        each_number = tables.each_number;
        strings = tables.strings;
        each_string = tables.each_string;
        instructions = tables.instructions;
        each_instruction = tables.each_instruction;
        octets = subst (λ (t : List ℕ). length t ≤ 4194304) spelt short;
      },
      spelt,
    )

tables_again : (code : Code) → IsProgram code → tables_at code.version (tables_text code) ≡ Some code
unfolding tables_at
tables_again code fits =
    let is : List ℕ = flat_map instruction code.instructions in
    let ss : List ℕ = flat_map string code.strings ++ is in
    let ns : List ℕ = flat_map eight_octets code.numbers ++ ss in
    let counts : CountsFit (counts_of code) = record { variables = fits.variables; numbers = fits.numbers; strings = fits.strings; instructions = fits.instructions } in
    let last : many_at instruction_at (length code.instructions) is ≡ Some (code.instructions, []) =
    ap (many_at instruction_at (length code.instructions)) (sym (append-nil is)) ∙ many_again reads_instruction code.instructions [] (All-to_recursion Fits code.instructions fits.each_instruction) in
    rw (counts_again (counts_of code) ns counts, many_again reads_eight code.numbers ss (All-to_recursion (λ n. n < 2 ^ 64) code.numbers fits.each_number), many_again reads_string code.strings is (All-to_recursion (λ text. length text ≤ 16384) code.strings fits.each_string), last) refl

pub program_again : (code : Code) → IsProgram code → program_at (spelling code) ≡ Some code
unfolding program_at
program_again code fits =
    let short : ltb 4194304 (length (spelling code)) ≡ false = le-ltb _ _ fits.octets in
    let opened : after opening (spelling code) ≡ Some (octet code.version ++ tables_text code) = ap (after opening) (spelling-parts code) ∙ after_again opening (octet code.version ++ tables_text code) in
    rw (short, opened, version_again code.version (tables_text code) fits.version) (tables_again code fits)

-- ---- what a caller of the reader learns

pub is_refused : (e : FormatError) (octets : List ℕ) → Fails e (program_at octets) → e ≡ Spelling → (code : Code) → IsProgram code → octets ≢ spelling code
is_refused Memory octets given is code fits same = absurd cc
is_refused Spelling octets given is code fits same =
    let none : program_at (spelling code) ≡ None = subst (λ (t : List ℕ). program_at t ≡ None) same given in
    let some : program_at (spelling code) ≡ Some code = program_again code fits in
    absurd cc

-- octets spell at most one program
pub one_program : (p q : Code) → IsProgram p → IsProgram q → spelling p ≡ spelling q → p ≡ q
one_program p q first second same = some_is p q (sym (program_again p first) ∙ ap program_at same ∙ program_again q second)
