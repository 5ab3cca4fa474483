-- Lines and lists of lines, read as they were written.
use Rattle.std.proofs.Common.{◌≡◌, ℕ, suc, ◌+◌, ◌-◌, ◌^◌, ◌<◌, ◌≤◌, ◌==◌, ◌&&◌, ◌||◌, Bool, true, false, if◌then◌else◌, List, [], ◌∷◌, ◌++◌, length, All, Option, Some, None, Result, Ok, Err, refl, sym, ap, subst, ◌∙◌, append_assoc, arith, eqb-true, codes}
use Rattle.std.specs.Prelude.{bytes_eq, is_ok, is_some, nat_le, unwrap_or}
use Rattle.std.specs.List.{flat_map, AllByRecursion}
use Rattle.std.specs.Fmt.{decimal}
use Rattle.std.specs.Char.{is_ascii_digit}
use Rattle.std.proofs.lemmas.Bool.Decides.{nat_tests}
use Rattle.std.proofs.lemmas.List.Elements.{recursion_from_All}
use Rattle.bytecode_format.specs.Code.{Code}
use Rattle.bytecode_format.specs.Operations.{operation_of}
use Rattle.bytecode_format.specs.Spelling.{Fits, IsProgram}
use Rattle.bytecode_format.specs.declared.instruction.Instruction.{Instruction}
use Rattle.bytecode_listing.specs.Listing.{line, operation_text, field_text, fields_text, instruction_text, comment, meant, instruction_line, instruction_lines, number_line, string_line, Notes, listing_with, AreOctets}
use Rattle.readable_text.specs.Quoted.{quoted}
use Rattle.bytecode_listing.specs.Tokens.{is_word_octet, tokens_from, tokens_of}
use Rattle.bytecode_listing.specs.Labels.{◌>>=◌, count, double_after, instructions_of, unless_double, instructions_in, strings_in}
use Rattle.bytecode_listing.specs.declared.drafts.Target.{Target}
use Rattle.bytecode_listing.specs.declared.drafts.Target.TheVariants.{Number, Name, Quoted}
use Rattle.bytecode_listing.specs.declared.drafts.Draft.{Draft}
use Rattle.bytecode_listing.specs.declared.drafts.Line.{Line}
use Rattle.bytecode_listing.specs.declared.drafts.Line.TheVariants.{Label, Step}
use Rattle.bytecode_listing.specs.Items.{Tokens, Drafted, code_from, is_word, is_left, word_at, text_at, begins_with, begins_number, left_at, keyword_at, number_at, operation_at, field_number, field_at, Fields, round_at, fields_at, words_at, a_value, a_field, a_at, keys_after, counts_at, counted_at, name_at, target_at, target_field, c_at, place_at, draft_at, label_at, line_at, number_item, string_item, onto, many_at, all_at, items_at, said_by, Lists}
use Rattle.bytecode_listing.proofs.Lexing.{after_white}
use Rattle.bytecode_listing.proofs.Loop.{IsItem, from_place, unrolled, stops}
use Rattle.bytecode_listing.proofs.Shorter.{line_leaves, number_item_leaves, string_item_leaves}
use Rattle.bytecode_listing.proofs.Words.{Stops, IsWord, word_reads, word_then, same_word, keyword_reads, number_word, number_reads, number_begins, number_is_other}
use Rattle.bytecode_listing.proofs.Skipped.{AreLines, comments_skipped, comments_stop}
use Rattle.bytecode_listing.proofs.Written.{read_on, operation_reads, text_reads}

-- ---- fields

-- a field as it is read: none where it is 0
abbrev given : ℕ → Option ℕ
given n = if n == 0 then None else Some n

given_is : (n : ℕ) → unwrap_or (given n) 0 ≡ n
given_is n = by_zero (n == 0) refl
  where
    by_zero : (b : Bool) → (n == 0) ≡ b → unwrap_or (if b then None else Some n) 0 ≡ n
    by_zero true e = sym (eqb-true n 0 e)
    by_zero false e = refl

field_skipped : (name : List ℕ) (highest : ℕ) (read : Option ℕ) (tokens : Tokens) → begins_with name tokens ≡ false → field_at name highest read tokens ≡ Ok (read, tokens)
unfolding field_at
field_skipped name highest read tokens h =
    ap (λ b. let r : Result (Option ℕ × Tokens) ℕ = if b then (if is_some read then Err (left_at tokens) else (field_number name highest tokens >>= λ n. Ok (Some n.0, n.1))) else Ok (read, tokens) in r) h

field_found : (name : List ℕ) (highest n : ℕ) (tokens named rest : Tokens) → n ≤ highest → highest < 2 ^ 64 → word_at tokens ≡ Ok (name, named) → word_at named ≡ Ok (decimal n, rest) → field_at name highest None tokens ≡ Ok (Some n, rest)
unfolding field_at field_number
field_found name highest n tokens named rest within small first second =
    let here : begins_with name tokens ≡ true = ap (is_word name) first ∙ same_word name in
    ap (λ b. let r : Result (Option ℕ × Tokens) ℕ = if b then (keyword_at name tokens >>= (λ rest. number_at 0 highest rest) >>= λ n. Ok (Some n.0, n.1)) else Ok (None, tokens) in r) here
    ∙ ap (λ r. r >>= (λ rest. number_at 0 highest rest) >>= λ n. let s : Result (Option ℕ × Tokens) ℕ = Ok (Some n.0, n.1) in s) (keyword_reads name tokens named first)
    ∙ ap (λ r. r >>= λ n. let s : Result (Option ℕ × Tokens) ℕ = Ok (Some n.0, n.1) in s) (number_reads 0 highest n named rest (omega arith) within small second)

-- the text of a field, word by word
field_words : (name : List ℕ) (n : ℕ) (rest : List ℕ) → (codes " " ++ name ++ codes " " ++ decimal n) ++ rest ≡ 32 ∷ (name ++ 32 ∷ (decimal n ++ rest))
field_words name n rest = ap (λ (t : List ℕ). 32 ∷ t) (append_assoc (name ++ 32 ∷ []) (decimal n) rest ∙ append_assoc name (32 ∷ []) (decimal n ++ rest))

-- the tokens from a field on
field_tokens : (name : List ℕ) (n : ℕ) (rest : List ℕ) → tokens_of ((codes " " ++ name ++ codes " " ++ decimal n) ++ rest) ≡ tokens_of (name ++ 32 ∷ (decimal n ++ rest))
field_tokens name n rest = ap tokens_of (field_words name n rest) ∙ after_white 32 (name ++ 32 ∷ (decimal n ++ rest)) refl

field_reads : (name : List ℕ) (highest n : ℕ) (rest : List ℕ) → IsWord name → n ≤ highest → highest < 2 ^ 64 → Stops rest → begins_with name (tokens_of rest) ≡ false
    → field_at name highest None (tokens_of (field_text name n ++ rest)) ≡ Ok (given n, tokens_of rest)
field_reads name highest n rest w within small s other = by_zero (n == 0)
  where
    by_zero : (b : Bool) → field_at name highest None (tokens_of ((if b then [] else codes " " ++ name ++ codes " " ++ decimal n) ++ rest)) ≡ Ok ((if b then None else Some n), tokens_of rest)
    by_zero true = field_skipped name highest None (tokens_of rest) other
    by_zero false =
        ap (field_at name highest None) (field_tokens name n rest)
        ∙ field_found name highest n (tokens_of (name ++ 32 ∷ (decimal n ++ rest))) (tokens_of (decimal n ++ rest)) (tokens_of rest) within small
        (word_then name 32 (decimal n ++ rest) w refl refl)
        (word_reads (decimal n) rest (number_word n (omega arith)) s)

a_skipped : (op : ℕ) (read : Option ℕ) (tokens : Tokens) → begins_with (codes "a") tokens ≡ false → a_at op read tokens ≡ Ok (read, tokens)
unfolding a_at
a_skipped op read tokens h =
    ap (λ b. let r : Result (Option ℕ × Tokens) ℕ = if b then (if is_some read then Err (left_at tokens) else (a_field op tokens >>= λ n. Ok (Some n.0, n.1))) else Ok (read, tokens) in r) h

a_found : (op n : ℕ) (tokens named rest : Tokens) → n ≤ 255 → word_at tokens ≡ Ok (codes "a", named) → word_at named ≡ Ok (decimal n, rest) → a_at op None tokens ≡ Ok (Some n, rest)
unfolding a_at a_field a_value
a_found op n tokens named rest within first second =
    let some : ℕ × Tokens → Result (Option ℕ × Tokens) ℕ = λ n. Ok (Some n.0, n.1) in
    let here : begins_with (codes "a") tokens ≡ true = ap (is_word (codes "a")) first ∙ same_word (codes "a") in
    let begun : begins_number (word_at named) ≡ true = ap begins_number second ∙ number_begins n rest (omega arith) in
    let read : a_value op named ≡ Ok (n, rest) =
    ap (λ b. let r : Result (ℕ × Tokens) ℕ = if b then number_at 0 255 named else words_at (operation_of op) named in r) begun
    ∙ number_reads 0 255 n named rest (omega arith) within (omega arith) second in
    ap (λ b. let r : Result (Option ℕ × Tokens) ℕ = if b then (a_field op tokens >>= some) else Ok (None, tokens) in r) here
    ∙ ap (λ r. r >>= (λ rest. a_value op rest) >>= some) (keyword_reads (codes "a") tokens named first)
    ∙ ap (λ r. r >>= some) read

a_reads : (op n : ℕ) (rest : List ℕ) → n ≤ 255 → Stops rest → begins_with (codes "a") (tokens_of rest) ≡ false
    → a_at op None (tokens_of (field_text (codes "a") n ++ rest)) ≡ Ok (given n, tokens_of rest)
a_reads op n rest within s other = by_zero (n == 0)
  where
    by_zero : (b : Bool) → a_at op None (tokens_of ((if b then [] else codes " " ++ codes "a" ++ codes " " ++ decimal n) ++ rest)) ≡ Ok ((if b then None else Some n), tokens_of rest)
    by_zero true = a_skipped op None (tokens_of rest) other
    by_zero false =
        ap (a_at op None) (field_tokens (codes "a") n rest)
        ∙ a_found op n (tokens_of (codes "a" ++ 32 ∷ (decimal n ++ rest))) (tokens_of (decimal n ++ rest)) (tokens_of rest) within
        (word_then (codes "a") 32 (decimal n ++ rest) (record { some = omega arith; octets = refl }) refl refl)
        (word_reads (decimal n) rest (number_word n (omega arith)) s)

abbrev given_c : ℕ → Option Target
given_c n = if n == 0 then None else Some (Number n)

given_c_is : (n : ℕ) → unwrap_or (given_c n) (Number 0) ≡ Number n
given_c_is n = by_zero (n == 0) refl
  where
    by_zero : (b : Bool) → (n == 0) ≡ b → unwrap_or (if b then None else Some (Number n)) (Number 0) ≡ Number n
    by_zero true e = ap Number (sym (eqb-true n 0 e))
    by_zero false e = refl

c_skipped : (read : Option Target) (tokens : Tokens) → begins_with (codes "c") tokens ≡ false → c_at read tokens ≡ Ok (read, tokens)
unfolding c_at
c_skipped read tokens h =
    ap (λ b. let r : Result (Option Target × Tokens) ℕ = if b then (if is_some read then Err (left_at tokens) else (target_field tokens >>= λ c. Ok (Some c.0, c.1))) else Ok (read, tokens) in r) h

-- no word of counts
pub record IsNoCount (tokens : Tokens) : Type 0 where
  pub params : begins_with (codes "params") tokens ≡ false
  pub keys : begins_with (codes "keys") tokens ≡ false

counts_skipped : (n : ℕ) (tokens : Tokens) → IsNoCount tokens → counts_at n tokens ≡ Ok (n, tokens)
unfolding counts_at
counts_skipped n tokens none =
    ap (λ b. let r : Result (ℕ × Tokens) ℕ = if b && nat_le n 65535 then keys_after n tokens else if begins_with (codes "keys") tokens then (keyword_at (codes "keys") tokens >>= λ rest. Ok (n, rest)) else Ok (n, tokens) in r) none.params
    ∙ ap (λ b. let r : Result (ℕ × Tokens) ℕ = if b then (keyword_at (codes "keys") tokens >>= λ rest. Ok (n, rest)) else Ok (n, tokens) in r) none.keys

counted_reads : (n : ℕ) (tokens rest : Tokens) → n ≤ 4294967295 → IsNoCount rest → word_at tokens ≡ Ok (decimal n, rest) → counted_at tokens ≡ Ok (n, rest)
unfolding counted_at
counted_reads n tokens rest within none second =
    ap (λ r. r >>= λ n. counts_at n.0 n.1) (number_reads 0 4294967295 n tokens rest (omega arith) within (omega arith) second) ∙ counts_skipped n rest none

c_found : (n : ℕ) (tokens named rest : Tokens) → n ≤ 4294967295 → IsNoCount rest → word_at tokens ≡ Ok (codes "c", named) → word_at named ≡ Ok (decimal n, rest) → c_at None tokens ≡ Ok (Some (Number n), rest)
unfolding c_at target_field target_at
c_found n tokens named rest within none first second =
    let number : ℕ × Tokens → Result (Target × Tokens) ℕ = λ n. Ok (Number n.0, n.1) in
    let some : Target × Tokens → Result (Option Target × Tokens) ℕ = λ c. Ok (Some c.0, c.1) in
    let here : begins_with (codes "c") tokens ≡ true = ap (is_word (codes "c")) first ∙ same_word (codes "c") in
    let begun : begins_number (word_at named) ≡ true = ap begins_number second ∙ number_begins n rest (omega arith) in
    let read : target_at named ≡ Ok (Number n, rest) =
    ap (λ b. let r : Result (Target × Tokens) ℕ = if b then (counted_at named >>= number) else if is_ok (word_at named) then (name_at named >>= λ name. Ok (Name name.0 (left_at named), name.1)) else (text_at named >>= λ text. Ok (Quoted text.0 (left_at named), text.1)) in r) begun
    ∙ ap (λ r. r >>= number) (counted_reads n named rest within none second) in
    ap (λ b. let r : Result (Option Target × Tokens) ℕ = if b then (target_field tokens >>= some) else Ok (None, tokens) in r) here
    ∙ ap (λ r. r >>= target_at >>= some) (keyword_reads (codes "c") tokens named first)
    ∙ ap (λ r. r >>= some) read

c_reads : (n : ℕ) (rest : List ℕ) → n ≤ 4294967295 → Stops rest → IsNoCount (tokens_of rest) → begins_with (codes "c") (tokens_of rest) ≡ false
    → c_at None (tokens_of (field_text (codes "c") n ++ rest)) ≡ Ok (given_c n, tokens_of rest)
c_reads n rest within s none other = by_zero (n == 0)
  where
    by_zero : (b : Bool) → c_at None (tokens_of ((if b then [] else codes " " ++ codes "c" ++ codes " " ++ decimal n) ++ rest)) ≡ Ok ((if b then None else Some (Number n)), tokens_of rest)
    by_zero true = c_skipped None (tokens_of rest) other
    by_zero false =
        ap (c_at None) (field_tokens (codes "c") n rest)
        ∙ c_found n (tokens_of (codes "c" ++ 32 ∷ (decimal n ++ rest))) (tokens_of (decimal n ++ rest)) (tokens_of rest) within none
        (word_then (codes "c") 32 (decimal n ++ rest) (record { some = omega arith; octets = refl }) refl refl)
        (word_reads (decimal n) rest (number_word n (omega arith)) s)

-- another field's name doesn't begin where a field stands, unless it begins after it
field_other : (name sought : List ℕ) (n : ℕ) (rest : List ℕ) → IsWord name → bytes_eq name sought ≡ false → begins_with sought (tokens_of rest) ≡ false → begins_with sought (tokens_of (field_text name n ++ rest)) ≡ false
field_other name sought n rest w different other = by_zero (n == 0)
  where
    by_zero : (b : Bool) → begins_with sought (tokens_of ((if b then [] else codes " " ++ name ++ codes " " ++ decimal n) ++ rest)) ≡ false
    by_zero true = other
    by_zero false = ap (begins_with sought) (field_tokens name n rest) ∙ ap (is_word sought) (word_then name 32 (decimal n ++ rest) w refl refl) ∙ different

field_stops : (name : List ℕ) (n : ℕ) (rest : List ℕ) → Stops rest → Stops (field_text name n ++ rest)
field_stops name n rest s = by_zero (n == 0)
  where
    by_zero : (b : Bool) → Stops ((if b then [] else codes " " ++ name ++ codes " " ++ decimal n) ++ rest)
    by_zero true = s
    by_zero false = refl

-- what may stand after the fields: no octet of a word first, and no field
pub record Ends (rest : List ℕ) : Type 0 where
  pub stops : Stops rest
  pub a : begins_with (codes "a") (tokens_of rest) ≡ false
  pub b : begins_with (codes "b") (tokens_of rest) ≡ false
  pub c : begins_with (codes "c") (tokens_of rest) ≡ false
  pub counts : IsNoCount (tokens_of rest)

letter : (x : ℕ) → is_word_octet x ≡ true → IsWord (x ∷ [])
letter x h = record { some = omega arith; octets = ap (λ b. b && true) h }

round_skipped : (op : ℕ) (read : Fields) (rest : List ℕ) → Ends rest → round_at op read (tokens_of rest) ≡ Ok (read, tokens_of rest)
unfolding round_at
round_skipped op read rest ends =
    let tokens : Tokens = tokens_of rest in
    let made : Option ℕ × Tokens → Option ℕ × Tokens → Option Target × Tokens → Result (Fields × Tokens) ℕ = λ a b c. Ok (record { a = a.0; b = b.0; c = c.0 }, c.1) in
    read_on (a_at op read.a tokens) (read.a, tokens) (λ a. field_at (codes "b") 65535 read.b a.1 >>= λ b. c_at read.c b.1 >>= λ c. made a b c) (Ok (read, tokens)) (a_skipped op read.a tokens ends.a)
    (read_on (field_at (codes "b") 65535 read.b tokens) (read.b, tokens) (λ b. c_at read.c b.1 >>= λ c. made (read.a, tokens) b c) (Ok (read, tokens)) (field_skipped (codes "b") 65535 read.b tokens ends.b)
    (read_on (c_at read.c tokens) (read.c, tokens) (λ c. made (read.a, tokens) (read.b, tokens) c) (Ok (read, tokens)) (c_skipped read.c tokens ends.c) refl))

abbrev given_fields : Instruction → Fields
given_fields i = record { a = given i.a; b = given i.b; c = given_c i.c }

fields_grouped : (i : Instruction) (rest : List ℕ) → fields_text i ++ rest ≡ field_text (codes "a") i.a ++ (field_text (codes "b") i.b ++ (field_text (codes "c") i.c ++ rest))
fields_grouped i rest =
    append_assoc (field_text (codes "a") i.a ++ field_text (codes "b") i.b) (field_text (codes "c") i.c) rest
    ∙ append_assoc (field_text (codes "a") i.a) (field_text (codes "b") i.b) (field_text (codes "c") i.c ++ rest)

fields_stop : (i : Instruction) (rest : List ℕ) → Stops rest → Stops (fields_text i ++ rest)
fields_stop i rest s =
    let at_c : List ℕ = field_text (codes "c") i.c ++ rest in
    let at_b : List ℕ = field_text (codes "b") i.b ++ at_c in
    subst Stops (sym (fields_grouped i rest)) (field_stops (codes "a") i.a at_b (field_stops (codes "b") i.b at_c (field_stops (codes "c") i.c rest s)))

fields_read : (i : Instruction) (rest : List ℕ) → Fits i → Ends rest → fields_at i.op (tokens_of (fields_text i ++ rest)) ≡ Ok (given_fields i, tokens_of rest)
unfolding fields_at round_at
fields_read i rest fits ends =
    let none : Fields = record { a = None; b = None; c = None } in
    let at_c : List ℕ = field_text (codes "c") i.c ++ rest in
    let at_b : List ℕ = field_text (codes "b") i.b ++ at_c in
    let at_a : List ℕ = field_text (codes "a") i.a ++ at_b in
    let word_b : IsWord (codes "b") = letter 98 refl in
    let word_c : IsWord (codes "c") = letter 99 refl in
    let b_after : begins_with (codes "b") (tokens_of at_c) ≡ false = field_other (codes "c") (codes "b") i.c rest word_c refl ends.b in
    let a_in_c : begins_with (codes "a") (tokens_of at_c) ≡ false = field_other (codes "c") (codes "a") i.c rest word_c refl ends.a in
    let a_after : begins_with (codes "a") (tokens_of at_b) ≡ false = field_other (codes "b") (codes "a") i.b at_c word_b refl a_in_c in
    let stops_c : Stops at_c = field_stops (codes "c") i.c rest ends.stops in
    let stops_b : Stops at_b = field_stops (codes "b") i.b at_c stops_c in
    let made : Option ℕ × Tokens → Option ℕ × Tokens → Option Target × Tokens → Result (Fields × Tokens) ℕ = λ a b c. Ok (record { a = a.0; b = b.0; c = c.0 }, c.1) in
    let a : Option ℕ × Tokens = (given i.a, tokens_of at_b) in
    let b : Option ℕ × Tokens = (given i.b, tokens_of at_c) in
    let all : Result (Fields × Tokens) ℕ = Ok (given_fields i, tokens_of rest) in
    let first : round_at i.op none (tokens_of at_a) ≡ all =
    read_on (a_at i.op None (tokens_of at_a)) a (λ a. field_at (codes "b") 65535 None a.1 >>= λ b. c_at None b.1 >>= λ c. made a b c) all (a_reads i.op i.a at_b (omega (arith, fits.a)) stops_b a_after)
    (read_on (field_at (codes "b") 65535 None (tokens_of at_b)) b (λ b. c_at None b.1 >>= λ c. made a b c) all (field_reads (codes "b") 65535 i.b at_c word_b (omega (arith, fits.b)) (omega arith) stops_c b_after)
    (read_on (c_at None (tokens_of at_c)) (given_c i.c, tokens_of rest) (λ c. made a b c) all (c_reads i.c rest (omega (arith, fits.c)) ends.stops ends.counts ends.c) refl)) in
    ap (λ (t : List ℕ). fields_at i.op (tokens_of t)) (fields_grouped i rest)
    ∙ read_on (round_at i.op none (tokens_of at_a)) (given_fields i, tokens_of rest) (λ first. round_at i.op first.0 first.1 >>= λ second. round_at i.op second.0 second.1) all first
    (read_on (round_at i.op (given_fields i) (tokens_of rest)) (given_fields i, tokens_of rest) (λ second. round_at i.op second.0 second.1) all (round_skipped i.op (given_fields i) rest ends) (round_skipped i.op (given_fields i) rest ends))

-- ---- an instruction

place_reads : (place : ℕ) (rest : List ℕ) → place < 2 ^ 64 → place_at place (tokens_of (decimal place ++ 32 ∷ rest)) ≡ Ok (tokens_of rest)
unfolding place_at
place_reads place rest h =
    let tokens : Tokens = tokens_of (decimal place ++ 32 ∷ rest) in
    let word : word_at tokens ≡ Ok (decimal place, tokens_of rest) = word_then (decimal place) 32 rest (number_word place h) refl refl in
    ap (λ b. let r : Result Tokens ℕ = if b then (number_at place place tokens >>= λ n. Ok n.1) else Ok tokens in r) (ap begins_number word ∙ number_begins place (tokens_of rest) h)
    ∙ ap (λ r. r >>= λ n. let s : Result Tokens ℕ = Ok n.1 in s) (number_reads place place place tokens (tokens_of rest) (omega arith) (omega arith) h word)

-- an instruction as it is read: its c is a number
abbrev draft_of : Instruction → Draft
draft_of i = record { op = i.op; a = i.a; b = i.b; c = Number i.c }

draft_is : (i : Instruction) → (let made : Draft = record { op = i.op; a = unwrap_or (given i.a) 0; b = unwrap_or (given i.b) 0; c = unwrap_or (given_c i.c) (Number 0) } in made) ≡ draft_of i
draft_is i = rw (given_is i.a, given_is i.b, given_c_is i.c) refl

draft_reads : (place : ℕ) (i : Instruction) (rest : List ℕ) → place < 2 ^ 64 → Fits i → Ends rest → draft_at place (tokens_of (instruction_text place i ++ rest)) ≡ Ok (draft_of i, tokens_of rest)
unfolding draft_at
draft_reads place i rest small fits ends =
    let after_operation : List ℕ = fields_text i ++ rest in
    let at_operation : List ℕ = operation_text i.op ++ after_operation in
    let regrouped : instruction_text place i ++ rest ≡ decimal place ++ 32 ∷ at_operation = simp append_assoc in
    let made : ℕ × Tokens → Fields × Tokens → Result (Draft × Tokens) ℕ =
    λ operation fields. Ok (record { op = operation.0; a = unwrap_or fields.0.a 0; b = unwrap_or fields.0.b 0; c = unwrap_or fields.0.c (Number 0) }, fields.1) in
    let all : Result (Draft × Tokens) ℕ = Ok (draft_of i, tokens_of rest) in
    let stops : Stops after_operation = fields_stop i rest ends.stops in
    ap (λ (t : List ℕ). draft_at place (tokens_of t)) regrouped
    ∙ read_on (place_at place (tokens_of (decimal place ++ 32 ∷ at_operation))) (tokens_of at_operation) (λ rest. operation_at rest >>= λ operation. fields_at operation.0 operation.1 >>= λ fields. made operation fields) all (place_reads place at_operation small)
    (read_on (operation_at (tokens_of at_operation)) (i.op, tokens_of after_operation) (λ operation. fields_at operation.0 operation.1 >>= λ fields. made operation fields) all (operation_reads i.op after_operation (omega (arith, fits.op)) stops)
    (read_on (fields_at i.op (tokens_of after_operation)) (given_fields i, tokens_of rest) (λ fields. made (i.op, tokens_of after_operation) fields) all (fields_read i rest fits ends)
    (ap (λ (j : Draft). let r : Result (Draft × Tokens) ℕ = Ok (j, tokens_of rest) in r) (draft_is i))))

-- ---- lists of lines

word_is_left : (tokens : Tokens) (read : List ℕ × Tokens) → word_at tokens ≡ Ok read → is_left tokens ≡ true
word_is_left [] read e = absurd cc
word_is_left (t ∷ tokens) read e = refl

-- an item reads its own line, whatever follows
record Reads {A : Type 0} (begins : Tokens → Bool) (item : List A → Tokens → Result (A × Tokens) ℕ) (text : A → List ℕ) (Within : A → Type 0) : Type 0 where
  is_item : IsItem begins item
  here : (x : A) (rest : List ℕ) → Within x → begins (tokens_of (text x ++ rest)) ≡ true
  reads : (place : List A) (x : A) (rest : List ℕ) → Within x → item place (tokens_of (text x ++ rest)) ≡ Ok (x, tokens_of rest)

many_read : {A : Type 0} (begins : Tokens → Bool) (item : List A → Tokens → Result (A × Tokens) ℕ) (text : A → List ℕ) (Within : A → Type 0) → Reads begins item text Within → (xs : List A) (place : List A) (rest : List ℕ) → AllByRecursion Within xs → begins (tokens_of rest) ≡ false
    → from_place begins item place (tokens_of (flat_map text xs ++ rest)) ≡ Ok (xs, tokens_of rest)
many_read begins item text Within is [] place rest within ended = stops begins item (length (tokens_of rest)) place (tokens_of rest) ended
many_read begins item text Within is (x ∷ xs) place rest within ended =
    let more : List ℕ = flat_map text xs ++ rest in
    ap (λ (t : List ℕ). from_place begins item place (tokens_of t)) (append_assoc (text x) (flat_map text xs) rest)
    ∙ unrolled begins item is.is_item place (tokens_of (text x ++ more)) (tokens_of more) x (is.here x more within.0) (is.reads place x more within.0)
    ∙ ap (onto x) (many_read begins item text Within is xs (place ++ x ∷ []) rest within.1 ended)

number_word_is : IsWord (codes "number")
number_word_is = record { some = omega arith; octets = refl }

string_word_is : IsWord (codes "string")
string_word_is = record { some = omega arith; octets = refl }

number_text : (n : ℕ) (rest : List ℕ) → number_line n ++ rest ≡ codes "number" ++ 32 ∷ (decimal n ++ 10 ∷ rest)
number_text n rest = ap (λ (t : List ℕ). codes "number" ++ 32 ∷ t) (append_assoc (decimal n) (10 ∷ []) rest)

number_here : (n : ℕ) (rest : List ℕ) → word_at (tokens_of (number_line n ++ rest)) ≡ Ok (codes "number", tokens_of (decimal n ++ 10 ∷ rest))
number_here n rest = ap (λ (t : List ℕ). word_at (tokens_of t)) (number_text n rest) ∙ word_then (codes "number") 32 (decimal n ++ 10 ∷ rest) number_word_is refl refl

numbers : Reads (begins_with (codes "number")) number_item number_line (λ n. n < 2 ^ 64)
unfolding number_item
numbers = record {
  is_item = record { none = refl; leaves = number_item_leaves };
  here = λ n rest h. ap (is_word (codes "number")) (number_here n rest);
  reads = λ place n rest h. read_on (keyword_at (codes "number") (tokens_of (number_line n ++ rest))) (tokens_of (decimal n ++ 10 ∷ rest)) (λ rest. number_at 0 (2 ^ 64 - 1) rest) (Ok (n, tokens_of rest))
      (keyword_reads (codes "number") (tokens_of (number_line n ++ rest)) (tokens_of (decimal n ++ 10 ∷ rest)) (number_here n rest))
      (number_reads 0 (2 ^ 64 - 1) n (tokens_of (decimal n ++ 10 ∷ rest)) (tokens_of rest) (omega arith) (omega (arith, h)) (omega arith) (word_then (decimal n) 10 rest (number_word n h) refl refl));
}

-- a string that a program may have
abbrev pub IsText : List ℕ → Type 0
IsText text = AllByRecursion (λ octet. octet < 256) text × (length text ≤ 16384)

string_text : (text rest : List ℕ) → string_line text ++ rest ≡ codes "string" ++ 32 ∷ (quoted text ++ 10 ∷ rest)
string_text text rest = ap (λ (t : List ℕ). codes "string" ++ 32 ∷ t) (append_assoc (quoted text) (10 ∷ []) rest)

string_here : (text rest : List ℕ) → word_at (tokens_of (string_line text ++ rest)) ≡ Ok (codes "string", tokens_of (quoted text ++ 10 ∷ rest))
string_here text rest = ap (λ (t : List ℕ). word_at (tokens_of t)) (string_text text rest) ∙ word_then (codes "string") 32 (quoted text ++ 10 ∷ rest) string_word_is refl refl

strings : Reads (begins_with (codes "string")) string_item string_line IsText
unfolding string_item
strings = record {
  is_item = record { none = refl; leaves = string_item_leaves };
  here = λ text rest h. ap (is_word (codes "string")) (string_here text rest);
  reads = λ place text rest h. read_on (keyword_at (codes "string") (tokens_of (string_line text ++ rest))) (tokens_of (quoted text ++ 10 ∷ rest)) (λ rest. text_at rest) (Ok (text, tokens_of rest))
      (keyword_reads (codes "string") (tokens_of (string_line text ++ rest)) (tokens_of (quoted text ++ 10 ∷ rest)) (string_here text rest))
      (text_reads text (10 ∷ rest) h.0 h.1 ∙ ap (λ (t : Tokens). let r : Result (List ℕ × Tokens) ℕ = Ok (text, t) in r) (after_white 10 rest refl));
}

-- ---- instructions

instruction_here : (place : ℕ) (i : Instruction) (rest : List ℕ) → place < 2 ^ 64 → word_at (tokens_of (instruction_text place i ++ rest)) ≡ Ok (decimal place, tokens_of (operation_text i.op ++ (fields_text i ++ rest)))
instruction_here place i rest small =
    let regrouped : instruction_text place i ++ rest ≡ decimal place ++ 32 ∷ (operation_text i.op ++ (fields_text i ++ rest)) = simp append_assoc in
    ap (λ (t : List ℕ). word_at (tokens_of t)) regrouped ∙ word_then (decimal place) 32 (operation_text i.op ++ (fields_text i ++ rest)) (number_word place small) refl refl

-- a line: its instruction, its comments and LF
one_line : (code : Code) (place : ℕ) (i : Instruction) (note : Option (List ℕ)) (rest : List ℕ) → instruction_line code place i note ++ rest ≡ instruction_text place i ++ (comment (meant code i) ++ (comment note ++ 10 ∷ rest))
one_line code place i note rest =
    append_assoc (instruction_text place i ++ comment (meant code i) ++ comment note) (10 ∷ []) rest
    ∙ append_assoc (instruction_text place i ++ comment (meant code i)) (comment note) (10 ∷ rest)
    ∙ append_assoc (instruction_text place i) (comment (meant code i)) (comment note ++ 10 ∷ rest)

-- instructions begin with a number, if there are any
lines_other : (notes : Notes) (code : Code) (x : ℕ) (name : List ℕ) → is_ascii_digit x ≡ false → (is : List Instruction) (place : ℕ) → place + length is < 2 ^ 64 → begins_with (x ∷ name) (tokens_of (instruction_lines notes code place is)) ≡ false
unfolding tokens_from
lines_other notes code x name other [] place small = refl
lines_other notes code x name other (i ∷ is) place small =
    let rest : List ℕ = instruction_lines notes code (suc place) is in
    ap (λ (t : List ℕ). begins_with (x ∷ name) (tokens_of t)) (one_line code place i (notes place) rest)
    ∙ ap (is_word (x ∷ name)) (instruction_here place i (comment (meant code i) ++ (comment (notes place) ++ 10 ∷ rest)) (omega arith))
    ∙ number_is_other place x name (omega arith) other

line_ends : (notes : Notes) (code : Code) (i : Instruction) (note : Option (List ℕ)) → AreLines note → (is : List Instruction) (place : ℕ) → place + length is < 2 ^ 64 → Ends (comment (meant code i) ++ (comment note ++ 10 ∷ instruction_lines notes code place is))
line_ends notes code i note one is place small =
    let rest : List ℕ = instruction_lines notes code place is in
    let end : List ℕ = comment (meant code i) ++ (comment note ++ 10 ∷ rest) in
    let other : (x : ℕ) (name : List ℕ) → is_ascii_digit x ≡ false → begins_with (x ∷ name) (tokens_of end) ≡ false = λ x name h. ap (begins_with (x ∷ name)) (comments_skipped code i note rest one) ∙ lines_other notes code x name h is place small in
    record { stops = comments_stop (meant code i) note rest; a = other 97 [] refl; b = other 98 [] refl; c = other 99 [] refl; counts = record { params = other 112 (codes "arams") refl; keys = other 107 (codes "eys") refl } }

-- instructions as lines without labels
abbrev pub steps_of : List Instruction → List Line
steps_of [] = []
steps_of (i ∷ is) = Step (draft_of i) ∷ steps_of is

count_more : (before : List Line) (draft : Draft) → count (before ++ Step draft ∷ []) ≡ suc (count before)
count_more [] draft = refl
count_more (Label name left ∷ before) draft = count_more before draft
count_more (Step other ∷ before) draft = ap suc (count_more before draft)

line_reads : (before : List Line) (place : ℕ) (i : Instruction) (rest : List ℕ) → count before ≡ place → place < 2 ^ 64 → Fits i → Ends rest → line_at before (tokens_of (instruction_text place i ++ rest)) ≡ Ok (Step (draft_of i), tokens_of rest)
unfolding line_at
line_reads before place i rest counted small fits ends =
    let tokens : Tokens = tokens_of (instruction_text place i ++ rest) in
    let step : Draft × Tokens → Result (Line × Tokens) ℕ = λ x. Ok (Step x.0, x.1) in
    let other : begins_with (codes "label") tokens ≡ false = ap (is_word (codes "label")) (instruction_here place i rest small) ∙ number_is_other place 108 (codes "abel") small refl in
    ap (λ b. let r : Result (Line × Tokens) ℕ = if b then label_at tokens else (draft_at (count before) tokens >>= step) in r) other
    ∙ ap (λ n. draft_at n tokens >>= step) counted
    ∙ ap (λ r. r >>= step) (draft_reads place i rest small fits ends)

lines_read : (notes : Notes) → ((place : ℕ) → AreLines (notes place)) → (code : Code) (is : List Instruction) (before : List Line) (place : ℕ) → count before ≡ place → place + length is < 2 ^ 64 → AllByRecursion Fits is → from_place is_left line_at before (tokens_of (instruction_lines notes code place is)) ≡ Ok (steps_of is, [])
unfolding tokens_from many_at
lines_read notes one code [] before place counted small fits = refl
lines_read notes one code (i ∷ is) before place counted small fits =
    let rest : List ℕ = instruction_lines notes code (suc place) is in
    let end : List ℕ = comment (meant code i) ++ (comment (notes place) ++ 10 ∷ rest) in
    let text : List ℕ = instruction_text place i ++ end in
    let fewer : suc place + length is < 2 ^ 64 = omega arith in
    let more : List Line = before ++ Step (draft_of i) ∷ [] in
    ap (λ (t : List ℕ). from_place is_left line_at before (tokens_of t)) (one_line code place i (notes place) rest)
    ∙ unrolled is_left line_at (record { none = refl; leaves = line_leaves }) before (tokens_of text) (tokens_of end) (Step (draft_of i))
    (word_is_left (tokens_of text) _ (instruction_here place i end (omega arith)))
    (line_reads before place i end counted (omega arith) fits.0 (line_ends notes code i (notes place) (one place) is (suc place) fewer))
    ∙ ap (λ t. onto (Step (draft_of i)) (from_place is_left line_at more t)) (comments_skipped code i (notes place) rest (one place))
    ∙ ap (onto (Step (draft_of i))) (lines_read notes one code is more (suc place) (count_more before (draft_of i) ∙ ap suc counted) fewer fits.1)

-- steps without labels have no double label, and are the instructions that they were
steps_single : (before : List Line) (is : List Instruction) → double_after before (steps_of is) ≡ None
steps_single before [] = refl
steps_single before (i ∷ is) = steps_single (before ++ Step (draft_of i) ∷ []) is

steps_found : (table : List (List ℕ)) (all : List Line) (is : List Instruction) → instructions_of table all (steps_of is) ≡ Ok is
steps_found table all [] = refl
steps_found table all (i ∷ is) = ap (λ r. r >>= λ others. let s : Result (List Instruction) ℕ = Ok (i ∷ others) in s) (steps_found table all is)

steps_read : (table : List (List ℕ)) (is : List Instruction) → instructions_in table (steps_of is) ≡ Ok is
steps_read table is =
    ap (λ o. unless_double o (instructions_of table (steps_of is) (steps_of is))) (steps_single [] is)
    ∙ steps_found table (steps_of is) is

steps_strings : (table : List (List ℕ)) (is : List Instruction) → strings_in table (steps_of is) ≡ table
steps_strings table [] = refl
steps_strings table (i ∷ is) = steps_strings table is

-- ---- the whole

-- strings begin with their word, or the instructions follow
strings_other : (notes : Notes) (code : Code) (texts : List (List ℕ)) (is : List Instruction) → length is < 2 ^ 64 → begins_with (codes "number") (tokens_of (flat_map string_line texts ++ instruction_lines notes code 0 is)) ≡ false
strings_other notes code [] is small = lines_other notes code 110 (codes "umber") refl is 0 (omega arith)
strings_other notes code (text ∷ texts) is small =
    let rest : List ℕ = flat_map string_line texts ++ instruction_lines notes code 0 is in
    ap (λ (t : List ℕ). begins_with (codes "number") (tokens_of t)) (append_assoc (string_line text) (flat_map string_line texts) (instruction_lines notes code 0 is))
    ∙ ap (is_word (codes "number")) (string_here text rest)

-- the parts of a listing, each before the next
parts_of_listing : (version variables numbers strings instructions : List ℕ) → line (codes "version " ++ version) ++ line (codes "variables " ++ variables) ++ numbers ++ strings ++ instructions
    ≡ codes "version" ++ 32 ∷ (version ++ 10 ∷ (codes "variables" ++ 32 ∷ (variables ++ 10 ∷ (numbers ++ (strings ++ instructions)))))
parts_of_listing version variables numbers strings instructions =
    let first : List ℕ = line (codes "version " ++ version) in
    let second : List ℕ = line (codes "variables " ++ variables) in
    let tables : List ℕ = numbers ++ (strings ++ instructions) in
    append_assoc (first ++ second ++ numbers) strings instructions
    ∙ append_assoc (first ++ second) numbers (strings ++ instructions)
    ∙ append_assoc first second tables
    ∙ ap (λ (t : List ℕ). codes "version" ++ 32 ∷ t) (append_assoc version (10 ∷ []) (second ++ tables))
    ∙ ap (λ (t : List ℕ). codes "version" ++ 32 ∷ (version ++ 10 ∷ (codes "variables" ++ 32 ∷ t))) (append_assoc variables (10 ∷ []) tables)

-- what has a listing that is read again
record IsListed (code : Code) : Type 0 where
  pub low : 1 ≤ code.version
  pub high : code.version ≤ 2
  pub variables : code.variables ≤ 128
  pub numbers : AllByRecursion (λ n. n < 2 ^ 64) code.numbers
  pub strings : AllByRecursion IsText code.strings
  pub instructions : AllByRecursion Fits code.instructions
  pub places : length code.instructions < 2 ^ 64

says_itself : (notes : Notes) → ((place : ℕ) → AreLines (notes place)) → (code : Code) → IsListed code → said_by (listing_with notes code) ≡ Ok code
unfolding items_at
says_itself notes one code is =
    let at_instructions : List ℕ = instruction_lines notes code 0 code.instructions in
    let at_strings : List ℕ = flat_map string_line code.strings ++ at_instructions in
    let at_numbers : List ℕ = flat_map number_line code.numbers ++ at_strings in
    let at_count : List ℕ = decimal code.variables ++ 10 ∷ at_numbers in
    let at_variables : List ℕ = codes "variables" ++ 32 ∷ at_count in
    let at_version : List ℕ = decimal code.version ++ 10 ∷ at_variables in
    let regrouped : listing_with notes code ≡ codes "version" ++ 32 ∷ at_version = parts_of_listing (decimal code.version) (decimal code.variables) (flat_map number_line code.numbers) (flat_map string_line code.strings) at_instructions in
    let whole : List ℕ = codes "version" ++ 32 ∷ at_version in
    let version_word : keyword_at (codes "version") (tokens_of whole) ≡ Ok (tokens_of at_version) = keyword_reads (codes "version") (tokens_of whole) (tokens_of at_version) (word_then (codes "version") 32 at_version (record { some = omega arith; octets = refl }) refl refl) in
    let version : number_at 1 2 (tokens_of at_version) ≡ Ok (code.version, tokens_of at_variables) = number_reads 1 2 code.version (tokens_of at_version) (tokens_of at_variables) is.low is.high (omega arith) (word_then (decimal code.version) 10 at_variables (number_word code.version (omega (arith, is.high))) refl refl) in
    let variables_word : keyword_at (codes "variables") (tokens_of at_variables) ≡ Ok (tokens_of at_count) = keyword_reads (codes "variables") (tokens_of at_variables) (tokens_of at_count) (word_then (codes "variables") 32 at_count (record { some = omega arith; octets = refl }) refl refl) in
    let variables : number_at 0 128 (tokens_of at_count) ≡ Ok (code.variables, tokens_of at_numbers) = number_reads 0 128 code.variables (tokens_of at_count) (tokens_of at_numbers) (omega arith) is.variables (omega arith) (word_then (decimal code.variables) 10 at_numbers (number_word code.variables (omega (arith, is.variables))) refl refl) in
    let all_numbers : all_at (begins_with (codes "number")) number_item (tokens_of at_numbers) ≡ Ok (code.numbers, tokens_of at_strings) = many_read (begins_with (codes "number")) number_item number_line (λ n. n < 2 ^ 64) numbers code.numbers [] at_strings is.numbers (strings_other notes code code.strings code.instructions is.places) in
    let all_strings : all_at (begins_with (codes "string")) string_item (tokens_of at_strings) ≡ Ok (code.strings, tokens_of at_instructions) = many_read (begins_with (codes "string")) string_item string_line IsText strings code.strings [] at_instructions is.strings (lines_other notes code 115 (codes "tring") refl code.instructions 0 (omega (arith, is.places))) in
    let all_lines : all_at is_left line_at (tokens_of at_instructions) ≡ Ok (steps_of code.instructions, []) = lines_read notes one code code.instructions [] 0 refl (omega (arith, is.places)) is.instructions in
    let drafted : Drafted = record { version = code.version; variables = code.variables; numbers = code.numbers; strings = code.strings; lines = steps_of code.instructions } in
    let read : items_at (tokens_of whole) ≡ Ok drafted = rw (version_word, version, variables_word, variables, all_numbers, all_strings, all_lines) refl in
    ap said_by regrouped ∙ ap (λ r. r >>= code_from) read ∙ rw (steps_strings code.strings code.instructions, steps_read code.strings code.instructions) refl

low_version : (n : ℕ) → (n == 1) || (n == 2) ≡ true → 1 ≤ n
low_version n h = grind (arith, nat_tests)

high_version : (n : ℕ) → (n == 1) || (n == 2) ≡ true → n ≤ 2
high_version n h = grind (arith, nat_tests)

is_listed : (code : Code) → IsProgram code → All AreOctets code.strings → IsListed code
is_listed code program octets = record {
  low = low_version code.version program.version;
  high = high_version code.version program.version;
  variables = program.variables;
  numbers = recursion_from_All (λ n. n < 2 ^ 64) code.numbers program.each_number;
  strings = recursion_from_All IsText code.strings (λ k d h. (recursion_from_All (λ octet. octet < 256) _ (octets k d h), program.each_string k d h));
  instructions = recursion_from_All Fits code.instructions program.each_instruction;
  places = omega (arith, program.instructions);
}

pub lists_itself : (notes : Notes) → ((place : ℕ) → AreLines (notes place)) → (code : Code) → IsProgram code → All AreOctets code.strings → Lists (listing_with notes code) code
lists_itself notes one code program octets = record { says = says_itself notes one code (is_listed code program octets); within = program }
