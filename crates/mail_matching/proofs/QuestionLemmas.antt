-- What holds of each question: what it costs at most, how its answer and what it finds agree, and which captures it leaves.
use Rattle.std.proofs.Common.{◌≡◌, ℕ, ◌+◌, ◌*◌, ◌≤◌, max, true, false, All, List, [], ◌∷◌, length, Option, None, Some, IfSome, is_some, slice_get, refl, arith}
use Rattle.std.proofs.Math.Nat.{mul-le-mul, mul-le-mul_left}
use Rattle.glob_match.specs.Matching.{max_capture, max_captures}
use Rattle.bytecode_format.specs.declared.question.Question.{Question}
use Rattle.bytecode_format.specs.declared.question.Question.TheVariants.{Header, Exists, String, PartSize, PartBody, PartDigest}
use Rattle.bytecode_format.specs.declared.question.Sizes.{Sizes}
use Rattle.bytecode_format.specs.Questions.{digest_length, most_of, operation_asking}
use Rattle.mime_decode.specs.Content.{digest_of}
use Rattle.mime_decode.specs.Mail.{IsMail, Mail, Part, size_of}
use Rattle.mail_matching.specs.Costs.{extent_of, names_cost, values_cost, values_of_a_field}
use Rattle.mail_matching.specs.Findings.{is_pair}
use Rattle.mail_matching.specs.HeaderTests.{fields_in_scope}
use Rattle.mail_matching.specs.PartTests.{exactly}
use Rattle.mail_matching.specs.QuestionCosts.{AreWithin, value_of}
use Rattle.mail_matching.specs.Questions.{Asked, Texts, answer, answered, asked, compared_cost, compares, current, decides, finding_in, found, is_size, of_part, question_cost}
use Rattle.mail_matching.specs.Selection.{selected_values}
use Rattle.mail_matching.proofs.Extents.{body_cost-within, digest_cost-is, names_cost-within, values_cost-product, values_cost-within, values_few}
use Rattle.mail_matching.proofs.Pairs.{finding_holds}
use Rattle.mail_matching.proofs.TenCaptures.{stay_short, stay_ten}

-- ---- what asking costs at most

-- octets that are looked at once for each octet of the message
each_octet : (octets extent most cost : ℕ) → cost ≤ (octets + 1) * extent → extent ≤ most → cost ≤ most * (octets + 1)
each_octet octets extent most cost within le =
    let same : octets + 1 ≤ octets + 1 = omega arith in
    let more : (octets + 1) * extent ≤ (octets + 1) * most = mul-le-mul same le in
    omega arith

-- names that are looked for, and values that are compared
names_and_values : (octets names keys number values most_names most_keys most_number most_values looked compared : ℕ) → looked ≤ (octets + 1) * names → compared ≤ number * values * octets * keys → names ≤ most_names → keys ≤ most_keys → number ≤ most_number → values ≤ most_values
    → looked + compared ≤ (most_names + most_number * most_values * most_keys) * (octets + 1)
names_and_values octets names keys number values most_names most_keys most_number most_values looked compared look compare less fewer few selected =
    let first = each_octet octets names most_names looked look less in
    let each : number * values ≤ most_number * most_values = mul-le-mul few selected in
    let whole : number * values * octets ≤ most_number * most_values * (octets + 1) = let up : octets ≤ octets + 1 = omega arith in mul-le-mul each up in
    let second : number * values * octets * keys ≤ most_number * most_values * (octets + 1) * most_keys = mul-le-mul whole fewer in
    let turned : most_number * most_values * (octets + 1) * most_keys ≡ most_number * most_values * most_keys * (octets + 1) = grind arith in
    let split : (most_names + most_number * most_values * most_keys) * (octets + 1) ≡ most_names * (octets + 1) + most_number * most_values * most_keys * (octets + 1) = grind arith in
    omega (arith, first, compare, second, turned, split)

-- what is asked of the current part costs no more than of any
of_part_within : (mail : Mail) (asks : Part → Asked) (keys : List (List ℕ)) (most : ℕ) → ((place : ℕ) (part : Part) → slice_get mail.parts place ≡ Some part → compared_cost (asks part) keys ≤ most)
    → (at : Option ℕ) → compared_cost (of_part asks (current mail at)) keys ≤ most
of_part_within mail asks keys most each None = omega arith
of_part_within mail asks keys most each (Some place) = go (slice_get mail.parts place) refl
  where
    go : (part : Option Part) → slice_get mail.parts place ≡ part → compared_cost (of_part asks part) keys ≤ most
    go None here = omega arith
    go (Some part) here = each place part here

pub question_within : (mail : Mail) → IsMail mail → (at : Option ℕ) (q : Question) (texts : Texts) (sizes : Sizes) → AreWithin sizes texts → question_cost mail at q texts ≤ value_of (most_of (operation_asking q) sizes) (size_of mail)
question_within mail is at (Header fields) texts sizes are =
    let both = names_and_values (size_of mail) (extent_of texts.names) (extent_of texts.keys) (length texts.names) (values_of_a_field fields.selector texts.params) sizes.names sizes.keys sizes.number (max sizes.params 1)
    (names_cost (fields_in_scope fields.scope at mail) texts.names) (values_cost (selected_values fields.scope at fields.selector texts.params texts.names mail) texts.keys)
    (names_cost-within mail is fields.scope at texts.names)
    (values_cost-within mail is fields.scope at fields.selector texts.params texts.names texts.keys)
    are.names are.keys are.number (values_few fields.selector texts.params sizes.params are.params) in
    omega (arith, both)
question_within mail is at (Exists scope) texts sizes are =
    omega (arith, each_octet (size_of mail) (extent_of texts.names) sizes.names _ (names_cost-within mail is scope at texts.names) are.names)
question_within mail is at (String how) texts sizes are =
    let most : extent_of texts.names * extent_of texts.keys ≤ sizes.names * sizes.keys = mul-le-mul are.names are.keys in
    omega (arith, values_cost-product texts.names texts.keys, most)
question_within mail is at (PartSize order number) texts sizes are =
    omega (arith, of_part_within mail (λ part. decides (is_size order number (length part.content))) texts.keys 0 (λ place part here. omega arith) at)
question_within mail is at (PartBody how) texts sizes are =
    let cost = of_part_within mail (λ part. compares how (part.content ∷ [])) texts.keys ((size_of mail + 1) * extent_of texts.keys) (λ place part here. body_cost-within mail is place part here texts.keys) at in
    omega (arith, each_octet (size_of mail) (extent_of texts.keys) sizes.keys _ cost are.keys)
question_within mail is at PartDigest texts sizes are =
    let cost = of_part_within mail (λ part. compares exactly (digest_of part.content ∷ [])) texts.keys ((digest_length + 1) * extent_of texts.keys) (λ place part here. omega (arith, digest_cost-is part texts.keys)) at in
    omega (arith, cost, mul-le-mul_left (digest_length + 1) are.keys)
question_within mail is at _ texts sizes are = omega arith

-- ---- what is found agrees with the answer

finding_in_holds : (what : Asked) (keys captures : List (List ℕ)) → IfSome (finding_in what keys) (λ finding. is_pair finding ≡ is_some (answered what keys captures))
finding_in_holds (compares how values) keys captures = finding_holds how values keys captures
finding_in_holds (decides value) keys captures = tt

pub found_holds : (mail : Mail) (at : Option ℕ) (q : Question) (texts : Texts) (captures : List (List ℕ)) → IfSome (found mail at q texts) (λ finding. is_pair finding ≡ is_some (answer mail at q texts captures))
found_holds mail at q texts captures = finding_in_holds (asked mail at q texts) texts.keys captures

-- ---- the captures after it: ten, and none of them long

pub answered_ten : (what : Asked) (keys captures after : List (List ℕ)) → length captures ≡ max_captures → answered what keys captures ≡ Some after → length after ≡ max_captures
answered_ten (compares how values) keys captures after ten is = stay_ten how values keys captures after ten is
answered_ten (decides true) keys captures after ten is = let same : captures ≡ after = cc in rw (← same) ten
answered_ten (decides false) keys captures after ten is = absurd cc

pub answered_short : (what : Asked) (keys captures after : List (List ℕ)) → All (λ capture. length capture ≤ max_capture) captures → answered what keys captures ≡ Some after → All (λ capture. length capture ≤ max_capture) after
answered_short (compares how values) keys captures after short is = stay_short how values keys captures after short is
answered_short (decides true) keys captures after short is = let same : captures ≡ after = cc in rw (← same) short
answered_short (decides false) keys captures after short is = absurd cc

pub answer_ten : (mail : Mail) (at : Option ℕ) (q : Question) (texts : Texts) (captures after : List (List ℕ)) → length captures ≡ max_captures → answer mail at q texts captures ≡ Some after → length after ≡ max_captures
answer_ten mail at q texts captures after ten is = answered_ten (asked mail at q texts) texts.keys captures after ten is

pub answer_short : (mail : Mail) (at : Option ℕ) (q : Question) (texts : Texts) (captures after : List (List ℕ)) → All (λ capture. length capture ≤ max_capture) captures → answer mail at q texts captures ≡ Some after → All (λ capture. length capture ≤ max_capture) after
answer_short mail at q texts captures after short is = answered_short (asked mail at q texts) texts.keys captures after short is
