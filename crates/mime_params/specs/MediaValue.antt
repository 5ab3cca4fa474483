-- Media types, dispositions and parameters (RFC 2045, section 5.1; RFC 2183, section 2).
use Rattle.std.specs.Prelude.{ℕ, zero, suc, Bool, not, ◌==◌, List, [], ◌∷◌, ◌++◌, codes, Option, Some, None, option_map, length, drop, if◌then◌else◌, ◌≡◌}
use Rattle.std.specs.List.{take_while, find}
use Rattle.std.specs.Option.{option_map_or}
use Rattle.octets.specs.Ascii.{lowercase_of}
use Rattle.mime_params.specs.declared.params.Parameter.{Parameter}
use Rattle.mime_params.specs.declared.media.MediaType.{MediaType}
use Rattle.mime_params.specs.declared.media.Disposition.{Disposition}
use Rattle.mime_params.specs.Gaps.{after_gap}
use Rattle.mime_params.specs.Words.{Word, word, is_token_octet, value}

infixl 10 ◌>>=◌
abbrev pub ◌>>=◌ : {A B : Type 0} → Option A → (A → Option B) → Option B
(Some x) >>= f = f x
None >>= f = None

-- what follows an octet, if the text begins with it
abbrev pub after_octet : ℕ → List ℕ → Option (List ℕ)
after_octet octet [] = None
after_octet octet (c ∷ rest) = if c == octet then Some rest else None

abbrev pub token : List ℕ → Option Word
token text = word is_token_octet text

-- a parameter, and what follows it
pub record ReadParam : Type 0 where
  pub param : Parameter
  pub rest : List ℕ

-- a parameter after its semicolon and a gap: token, gap, `=`, gap, value
unfoldable pub param_at : List ℕ → Option ReadParam
param_at text = do
  name ← token text
  after ← after_octet 61 (after_gap name.rest)
  given ← value (after_gap after)
  Some (record { param = record { name = name.octets; value = given.octets }; rest = given.rest })

-- the parameter that was read, before those of what follows it; none where it is malformed
abbrev pub before_others : Option ReadParam → (List ℕ → List Parameter) → List Parameter
before_others None others = []
before_others (Some read) others = read.param ∷ others (after_gap read.rest)

-- the parameters after a semicolon and a gap; an empty one is passed over
abbrev pub after_semicolon : List ℕ → (List ℕ → List Parameter) → List Parameter
after_semicolon [] others = []
after_semicolon (c ∷ rest) others = if c == 59 then others (c ∷ rest) else before_others (param_at (c ∷ rest)) others

-- the parameters of at most so many octets, each after a semicolon, up to the first that is malformed or something other
abbrev pub params_of : ℕ → List ℕ → List Parameter
params_of zero text = []
params_of (suc n) [] = []
params_of (suc n) (c ∷ rest) = if c == 59 then after_semicolon (after_gap rest) (λ more. params_of n more) else []

-- the parameters that a text begins with
abbrev pub params_in : List ℕ → List Parameter
params_in text = params_of (length text) text

-- the parameters of a field's value begin at its first semicolon
abbrev pub parameters_of : List ℕ → List Parameter
parameters_of text = params_in (drop (length (take_while (λ c. not (c == 59)) text)) text)

-- a media type: gap, token, gap, `/`, gap, token, gap, parameters
unfoldable pub media_type_of : List ℕ → Option MediaType
media_type_of text = do
  main ← token (after_gap text)
  after ← after_octet 47 (after_gap main.rest)
  sub ← token (after_gap after)
  Some (record { main = main.octets; sub = sub.octets; params = params_in (after_gap sub.rest) })

-- a disposition: gap, token, gap, parameters
unfoldable pub disposition_of : List ℕ → Option Disposition
disposition_of text = do
  main ← token (after_gap text)
  Some (record { main = main.octets; params = params_in (after_gap main.rest) })

-- two names are equal but for ASCII case
abbrev pub is_named : List ℕ → Parameter → Bool
is_named name param = Rattle.std.specs.Prelude.bytes_eq (lowercase_of param.name) (lowercase_of name)

-- the value of the first parameter of that name
abbrev pub value_named : List ℕ → List Parameter → Option (List ℕ)
value_named name [] = None
value_named name (param ∷ params) = if is_named name param then Some param.value else value_named name params

-- ---- less than the whole of a value

-- the type and the subtype
abbrev pub names_of : MediaType → List ℕ × List ℕ
names_of media = (media.main, media.sub)

abbrev pub type_names : List ℕ → Option (List ℕ × List ℕ)
type_names text = option_map names_of (media_type_of text)

-- the disposition, without its parameters
abbrev pub disposition_name : List ℕ → Option (List ℕ)
disposition_name text = option_map (λ (disposition : Disposition). disposition.main) (disposition_of text)

-- the value of the first parameter of that name of a media type
abbrev pub type_param : List ℕ → List ℕ → Option (List ℕ)
type_param name text = media_type_of text >>= λ media. value_named name media.params

-- that of a disposition
abbrev pub disposition_param : List ℕ → List ℕ → Option (List ℕ)
disposition_param name text = disposition_of text >>= λ disposition. value_named name disposition.params

-- the parameters of a media type; none where there is none
abbrev pub type_params : List ℕ → List Parameter
type_params text = option_map_or (λ (media : MediaType). media.params) (media_type_of text) []

-- those of a disposition
abbrev pub disposition_params : List ℕ → List Parameter
disposition_params text = option_map_or (λ (disposition : Disposition). disposition.params) (disposition_of text) []

-- a media type without its parameters, in lower case
abbrev pub media_text : MediaType → List ℕ
media_text media = lowercase_of media.main ++ codes "/" ++ lowercase_of media.sub

-- a text has the same type and subtype, as the beginning of a value, whatever follows it
abbrev pub SettlesType : List ℕ → Type 0
SettlesType text = (more : List ℕ) → type_names (text ++ more) ≡ type_names text

-- the same of a disposition
abbrev pub SettlesDisposition : List ℕ → Type 0
SettlesDisposition text = (more : List ℕ) → disposition_name (text ++ more) ≡ disposition_name text
