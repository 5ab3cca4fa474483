-- What the questions of simple tests come to on a message, what they find there, and what asking them costs.
use Rattle.std.specs.Prelude.{◌≡◌, ◌⊎◌, All, ℕ, ◌+◌, ◌≤◌, Bool, false, nat_lt, List, [], ◌∷◌, Option, None, Some, length, slice_get}
use Rattle.std.specs.Bool.{then_some}
use Rattle.std.specs.Cow.{IsBorrowedSlice, cow_slice_items}
use Rattle.octets.specs.Limits.{max_message}
use Rattle.glob_match.specs.declared.match_type.Match.{Match}
use Rattle.bytecode_format.specs.declared.question.Order.{Order}
use Rattle.bytecode_format.specs.declared.question.Order.TheVariants.{Over, Under}
use Rattle.bytecode_format.specs.declared.question.Question.{Question}
use Rattle.bytecode_format.specs.declared.question.Question.TheVariants.{Constant, Header, Exists, Size, String, PartSize, PartBody, PartDigest}
use Rattle.bytecode_format.specs.declared.selection.Selector.TheVariants.{Value}
use Rattle.mime_decode.specs.Content.{digest_of}
use Rattle.mime_decode.specs.Mail.{Mail, Part, size_of}
use Rattle.mail_matching.specs.Costs.{names_cost, values_cost}
use Rattle.mail_matching.specs.Findings.{finding_of}
use Rattle.mail_matching.specs.FirstMatch.{KeepsCaptures, first_match}
use Rattle.mail_matching.specs.HeaderTests.{AreUnfolded, exists_in, fields_in_scope, headers_in_scope}
use Rattle.mail_matching.specs.PartTests.{exactly}
use Rattle.mail_matching.specs.Selection.{selected_values}
use Rattle.mail_matching.specs.declared.finding.Finding.{Finding}
use Rattle.mail_matching.specs.declared.questions.Need.{Need}
use Rattle.mail_matching.specs.declared.questions.Need.TheVariants as need
use Rattle.mail_matching.specs.declared.questions.Shown.{Shown}
use Rattle.mail_matching.specs.declared.questions.Shown.TheVariants as shown

-- the texts of a test: its names or sources, the names of parameters, and its keys
pub record Texts : Type 0 where
  pub names : List (List ℕ)
  pub params : List (List ℕ)
  pub keys : List (List ℕ)

abbrev pub texts_of : List (List ℕ) → List (List ℕ) → List (List ℕ) → Texts
texts_of names params keys = record { names = names; params = params; keys = keys }

-- the current part, that of the innermost loop, by its number; none outside of loops
abbrev pub current : Mail → Option ℕ → Option Part
current mail None = None
current mail (Some number) = slice_get mail.parts number

-- whether the message or a part is over or under a number of octets (RFC 5228, section 5.9)
abbrev pub is_size : Order → ℕ → ℕ → Bool
is_size Over number octets = nat_lt number octets
is_size Under number octets = nat_lt octets number

-- what is asked: whether one of these values matches one of the keys; or something that is decided without keys
pub data Asked : Type 0 where
  compares : Match → List (List ℕ) → Asked
  decides : Bool → Asked

-- what is asked of the current part; where there is none, as in no checked script, it is false
abbrev pub of_part : (Part → Asked) → Option Part → Asked
of_part asks None = decides false
of_part asks (Some part) = asks part

-- what each question asks of a message (RFC 5228, section 5; RFC 5229, section 5; those of the current part are ours)
abbrev pub asked : Mail → Option ℕ → Question → Texts → Asked
asked mail part (Constant value) texts = decides value
asked mail part (Header fields) texts =
    compares fields.how (selected_values fields.scope part fields.selector texts.params texts.names mail)
asked mail part (Exists scope) texts = decides (exists_in scope part texts.names mail)
asked mail part (Size order number) texts = decides (is_size order number (size_of mail))
-- the values are those of its sources
asked mail part (String how) texts = compares how texts.names
-- the size of its content, its content and the digest of its content
asked mail part (PartSize order number) texts = of_part (λ p. decides (is_size order number (length p.content))) (current mail part)
asked mail part (PartBody how) texts = of_part (λ p. compares how (p.content ∷ [])) (current mail part)
asked mail part PartDigest texts = of_part (λ p. compares exactly (digest_of p.content ∷ [])) (current mail part)

-- the captures after it, from those before it, with these keys; None where it isn't true
abbrev pub answered : Asked → List (List ℕ) → List (List ℕ) → Option (List (List ℕ))
answered (compares how values) keys captures = first_match how values keys captures
answered (decides value) keys captures = then_some value captures

-- the captures after a question that is true of the message, from those before it; None where it isn't true
abbrev pub answer : Mail → Option ℕ → Question → Texts → List (List ℕ) → Option (List (List ℕ))
answer mail part question texts captures = answered (asked mail part question texts) texts.keys captures

-- what it finds, if it compares values with keys
abbrev pub finding_in : Asked → List (List ℕ) → Option Finding
finding_in (compares how values) keys = Some (finding_of how values keys)
finding_in (decides value) keys = None

-- what a question finds that compares values with keys: the first of its values and of its keys that match, or how many
-- values there are, none of which matches. The others find nothing, nor do those of the current part, where there is none
abbrev pub found : Mail → Option ℕ → Question → Texts → Option Finding
found mail part question texts = finding_in (asked mail part question texts) texts.keys

-- what comparing costs
abbrev pub compared_cost : Asked → List (List ℕ) → ℕ
compared_cost (compares how values) keys = values_cost values keys
compared_cost (decides value) keys = 0

-- what looking for fields by their names costs
abbrev pub looked_cost : Mail → Option ℕ → Question → Texts → ℕ
looked_cost mail part (Constant value) texts = 0
looked_cost mail part (Header fields) texts = names_cost (fields_in_scope fields.scope part mail) texts.names
looked_cost mail part (Exists scope) texts = names_cost (fields_in_scope scope part mail) texts.names
looked_cost mail part (Size order number) texts = 0
looked_cost mail part (String how) texts = 0
looked_cost mail part (PartSize order number) texts = 0
looked_cost mail part (PartBody how) texts = 0
looked_cost mail part PartDigest texts = 0

-- what asking costs
abbrev pub question_cost : Mail → Option ℕ → Question → Texts → ℕ
question_cost mail part question texts =
    looked_cost mail part question texts + compared_cost (asked mail part question texts) texts.keys

-- ---- what is looked at of the current part

-- what a question needs of its content
abbrev pub need_of : Question → Need
need_of (Constant value) = need.Nothing
need_of (Header fields) = need.Nothing
need_of (Exists scope) = need.Nothing
need_of (Size order number) = need.Nothing
need_of (String how) = need.Nothing
need_of (PartSize order number) = need.Length
need_of (PartBody how) = need.Content
need_of PartDigest = need.Digest

-- this is what is needed of it; nothing, where there is no part
abbrev pub IsShown : Need → Option Part → Shown → Type 0
IsShown needed None known = known ≡ shown.Nothing
IsShown need.Nothing (Some part) known = Unit {0}
IsShown need.Length (Some part) known = known ≡ shown.Length (length part.content)
IsShown need.Content (Some part) (shown.Content content) =
    (cow_slice_items content.now ≡ part.content) × (length part.content ≤ max_message)
IsShown need.Digest (Some part) (shown.Digest digest) = digest.now ≡ digest_of part.content
IsShown _ (Some part) _ = ⊥

-- it is decided without keys to be this, looking for fields costs so much, and none of the part's content is needed
pub record IsDecidedAs (mail : Mail) (part : Option ℕ) (question : Question) (names : List (List ℕ)) (value : Bool) (looked : ℕ) : Type 0 where
  pub asks : (params keys : List (List ℕ)) → asked mail part question (texts_of names params keys) ≡ decides value
  pub costs : (params keys : List (List ℕ)) → looked_cost mail part question (texts_of names params keys) ≡ looked
  pub needs : need_of question ≡ need.Content → ⊥

-- ---- whether asking takes memory

-- content that the message lends
abbrev pub IsLent : Shown → Type 0
IsLent shown.Nothing = ⊥
IsLent (shown.Length octets) = ⊥
IsLent (shown.Content content) = IsBorrowedSlice content.now
IsLent (shown.Digest digest) = ⊥

-- none is taken: of fields whole values are compared, of which none is folded; of texts, and of content that was decoded,
-- nothing is captured
abbrev pub TakesNoMemory : Mail → Option ℕ → Question → Texts → Shown → Type 0
TakesNoMemory mail part (Constant value) texts known = Unit {0}
TakesNoMemory mail part (Header fields) texts known =
    (fields.selector ≡ Value) × All (AreUnfolded texts.names) (headers_in_scope fields.scope part mail)
TakesNoMemory mail part (Exists scope) texts known = Unit {0}
TakesNoMemory mail part (Size order number) texts known = Unit {0}
TakesNoMemory mail part (String how) texts known = KeepsCaptures (answer mail part (String how) texts)
TakesNoMemory mail part (PartSize order number) texts known = Unit {0}
TakesNoMemory mail part (PartBody how) texts known = KeepsCaptures (answer mail part (PartBody how) texts) ⊎ IsLent known
TakesNoMemory mail part PartDigest texts known = Unit {0}
