-- Values without floats that nest to few levels, and whose text has no control character.
use Rattle.std.proofs.Common.{◌≡◌, ◌≤◌, ◌/◌, ◌%◌, ◌==◌, ℕ, zero, suc, List, [], ◌∷◌, ◌++◌, Bool, true, false, cond, nat_lt, Ordering, Less, Equal, Greater, decimal, refl, arith}
use Rattle.std.proofs.lemmas.Bool.{ltb-false}
use Rattle.std.proofs.lemmas.Bool.Decides.{nat_tests}
use Rattle.std.specs.Prelude.{⊤, flat_map}
use Rattle.std.specs.List.{AllByRecursion}
use Rattle.std.specs.Ordering.{match_ordering, nat_cmp}
use Rattle.std.specs.Cmp.Lexicographic.{slice_cmp}
use Rattle.std.specs.Char.{digit_char}
use Rattle.std.specs.Fmt.{digit_glyph, digits, digits_onto}
use Rattle.json.specs.Print.{escape_byte, escape_letter, quoted}
use Rattle.serde_json.specs.Data.{Data, number, unsigned, string, array, object, Members, no_members, member, put, depth, items_depth, members_depth}
use Rattle.serde_json.specs.View.{items_of}
use Rattle.serde_json.specs.Written.{comma_if, compact_text, has_float, items_have_float, items_text, members_have_float, members_text}

-- ---- texts without control characters

abbrev pub IsVisible : List ℕ → Type 0
IsVisible text = AllByRecursion (λ octet. 32 ≤ octet) text

both_visible : (xs ys : List ℕ) → IsVisible xs → IsVisible ys → IsVisible (xs ++ ys)
both_visible [] ys p q = q
both_visible (x ∷ xs) ys p q = (p.0, both_visible xs ys p.1 q)

either_visible : (b : Bool) (xs ys : List ℕ) → (b ≡ true → IsVisible xs) → (b ≡ false → IsVisible ys) → IsVisible (cond b xs ys)
either_visible true xs ys p q = p refl
either_visible false xs ys p q = q refl

letter_visible : (x : ℕ) → nat_lt 0 (escape_letter x) ≡ true → 32 ≤ escape_letter x
letter_visible x h = grind (arith, nat_tests)

digit_visible : (d : ℕ) → 32 ≤ digit_char d
digit_visible d = grind (arith, nat_tests)

glyph_visible : (d : ℕ) → 32 ≤ digit_glyph false d
glyph_visible d = grind (arith, nat_tests)

escape_visible : (x : ℕ) → IsVisible (escape_byte x)
unfolding escape_byte
escape_visible x =
    let other : nat_lt x 32 ≡ false → 32 ≤ x = ltb-false x 32 in
    either_visible (nat_lt 0 (escape_letter x)) _ _ (λ t. (omega arith, (letter_visible x t, tt)))
    (λ f. either_visible (nat_lt x 32) _ _
    (λ t. (omega arith, (omega arith, (omega arith, (omega arith, (digit_visible (x / 16), (digit_visible (x % 16), tt)))))))
    (λ g. (other g, tt)))

escapes_visible : (xs : List ℕ) → IsVisible (flat_map escape_byte xs)
escapes_visible [] = tt
escapes_visible (x ∷ xs) = both_visible (escape_byte x) (flat_map escape_byte xs) (escape_visible x) (escapes_visible xs)

quoted_visible : (xs : List ℕ) → IsVisible (quoted xs)
quoted_visible xs = (omega arith, both_visible (flat_map escape_byte xs) (34 ∷ []) (escapes_visible xs) (omega arith, tt))

digits_visible : (k n : ℕ) (acc : List ℕ) → IsVisible acc → IsVisible (digits_onto k 10 false n acc)
digits_visible zero n acc p = p
digits_visible (suc k) n acc p =
    let more : IsVisible (digit_glyph false (n % 10) ∷ acc) = (glyph_visible (n % 10), p) in
    either_visible (n / 10 == 0) _ _ (λ t. more) (λ f. digits_visible k (n / 10) (digit_glyph false (n % 10) ∷ acc) more)

decimal_visible : (n : ℕ) → IsVisible (decimal n)
unfolding digits
decimal_visible n = digits_visible 64 n [] tt

comma_visible : (later : Bool) → IsVisible (comma_if later)
comma_visible true = (omega arith, tt)
comma_visible false = tt

-- ---- values

pub record IsPlain (levels : ℕ) (value : Data) : Type 0 where
  pub whole : has_float value ≡ false
  pub shallow : depth value ≤ levels
  pub visible : IsVisible (compact_text value)

abbrev pub ArePlain : ℕ → Members → Type 0
ArePlain levels no_members = ⊤
ArePlain levels (member name value members) = IsPlain levels value × ArePlain levels members

abbrev pub AllPlain : ℕ → List Data → Type 0
AllPlain levels values = AllByRecursion (IsPlain levels) values

pub string_plain : (levels : ℕ) (octets : List ℕ) → IsPlain levels (string octets)
string_plain levels octets = record { whole = refl; shallow = omega arith; visible = quoted_visible octets }

pub number_plain : (levels n : ℕ) → IsPlain levels (number (unsigned n))
number_plain levels n = record { whole = refl; shallow = omega arith; visible = decimal_visible n }

members_whole : (levels : ℕ) (members : Members) → ArePlain levels members → members_have_float members ≡ false
members_whole levels no_members p = refl
members_whole levels (member name value members) p = rw p.0.whole (members_whole levels members p.1)

members_shallow : (levels : ℕ) (members : Members) → ArePlain levels members → members_depth members ≤ levels
members_shallow levels no_members p = omega arith
members_shallow levels (member name value members) p = omega (arith, p.0.shallow, members_shallow levels members p.1)

members_visible : (levels : ℕ) (later : Bool) (members : Members) → ArePlain levels members → IsVisible (members_text later members)
members_visible levels later no_members p = (omega arith, tt)
members_visible levels later (member name value members) p =
    both_visible (comma_if later) _ (comma_visible later)
    (both_visible (quoted name) _ (quoted_visible name)
    (omega arith, both_visible (compact_text value) _ p.0.visible (members_visible levels true members p.1)))

pub object_plain : (levels : ℕ) (members : Members) → ArePlain levels members → IsPlain (suc levels) (object members)
object_plain levels members p =
    record {
      whole = members_whole levels members p;
      shallow = omega (arith, members_shallow levels members p);
      visible = (omega arith, members_visible levels false members p);
    }

items_whole : (levels : ℕ) (values : List Data) → AllPlain levels values → items_have_float (items_of values) ≡ false
items_whole levels [] p = refl
items_whole levels (value ∷ values) p = rw p.0.whole (items_whole levels values p.1)

items_shallow : (levels : ℕ) (values : List Data) → AllPlain levels values → items_depth (items_of values) ≤ levels
items_shallow levels [] p = omega arith
items_shallow levels (value ∷ values) p = omega (arith, p.0.shallow, items_shallow levels values p.1)

items_visible : (levels : ℕ) (later : Bool) (values : List Data) → AllPlain levels values → IsVisible (items_text later (items_of values))
items_visible levels later [] p = (omega arith, tt)
items_visible levels later (value ∷ values) p =
    both_visible (comma_if later) _ (comma_visible later) (both_visible (compact_text value) _ p.0.visible (items_visible levels true values p.1))

pub array_plain : (levels : ℕ) (values : List Data) → AllPlain levels values → IsPlain (suc levels) (array (items_of values))
array_plain levels values p =
    record {
      whole = items_whole levels values p;
      shallow = omega (arith, items_shallow levels values p);
      visible = (omega arith, items_visible levels false values p);
    }

-- ---- members that were put

chosen_plain : (levels : ℕ) (o : Ordering) (a b c : Members) → ArePlain levels a → ArePlain levels b → ArePlain levels c → ArePlain levels (match_ordering o a b c)
chosen_plain levels Less a b c p q r = p
chosen_plain levels Equal a b c p q r = q
chosen_plain levels Greater a b c p q r = r

pub put_plain : (levels : ℕ) (name : List ℕ) (value : Data) (members : Members) → IsPlain levels value → ArePlain levels members → ArePlain levels (put name value members)
put_plain levels name value no_members p q = (p, tt)
put_plain levels name value (member other here members) p q =
    chosen_plain levels (slice_cmp nat_cmp name other) (member name value (member other here members)) (member other value members) (member other here (put name value members))
    (p, q) (p, q.1) (q.0, put_plain levels name value members p q.1)
