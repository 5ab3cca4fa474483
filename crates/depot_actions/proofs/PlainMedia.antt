-- No media type in a depot has a line break.
use Rattle.std.proofs.Common.{◌≡◌, ℕ, zero, suc, ◌+◌, ◌-◌, ◌==◌, Bool, true, false, not, cond, ◌&&◌, List, [], ◌∷◌, ◌++◌, codes, drop, filter, length, Option, Some, None, slice_get, refl, sym, ap, subst, ◌∙◌, inl, inr, arith}
use Rattle.std.specs.Prelude.{IfSome}
use Rattle.std.specs.Char.{to_ascii_lowercase}
use Rattle.std.specs.List.{flat_map, list_all, take_while}
use Rattle.std.proofs.lemmas.Bool.{cases_lt, ne_eqb, true≢false}
use Rattle.std.proofs.lemmas.List.Folds.{list_all-append, list_all-map}
use Rattle.std.proofs.lemmas.List.Sums.{take_while-cons}
use Rattle.std.proofs.lemmas.Str.Ascii.{lowercase_is}
use Rattle.octets.specs.Ascii.{is_word, lowercase_of}
use Rattle.octets.specs.Limits.{max_depth}
use Rattle.bytecode_format.specs.declared.action.Action.{Action}
use Rattle.bytecode_format.specs.declared.action.Action.TheVariants.{Keep, File, Store}
use Rattle.header_fields.specs.Fields.{first_value}
use Rattle.header_fields.specs.Header.{header_of}
use Rattle.mime_params.specs.Gaps.{after_gap}
use Rattle.mime_params.specs.MediaValue.{◌>>=◌, after_octet, media_text, media_type_of, params_in, token}
use Rattle.mime_params.specs.Words.{Word, is_token_octet}
use Rattle.mime_params.specs.declared.media.MediaType.{MediaType}
use Rattle.mime_tree.specs.PartTree.{Stretch, children_of, default_below, media_or, message_rfc822, or_text_plain, part_at, parts_of, text_plain, tree_of}
use Rattle.mime_tree.specs.PartTree as tree
use Rattle.mime_decode.specs.Mail.{Part, mail_of, part_of}
use Rattle.part_store.specs.Entries.{Draft, Entries, Entry, is_at, numbered}
use Rattle.depot_actions.specs.DepotState.{Accepts, Catalog, Command, Deliver, Export, ListAll, ListSince, Migrate, ProgramOf, Remove, Reply, SetCode, SetScript, filed}
use Rattle.depot_actions.specs.Drafts.{draft_of_action, drafts_of, stored_draft}
use Rattle.depot_actions.specs.History.{AreSteps, Call, IsStep}
use Rattle.depot_actions.specs.PlainMedia.{HavePlainMedia, is_one_line}
use Rattle.depot_actions.specs.Runs.{AreSessionSteps, IsSessionStep, NotOpened, Past, Ran, Session}

-- ---- lists

both : (a b : Bool) → (a && b) ≡ true → (a ≡ true) × (b ≡ true)
both true b e = (refl, e)
both false b e = absurd (true≢false (sym e))

joined : (a b : Bool) → a ≡ true → b ≡ true → (a && b) ≡ true
joined a b first second = ap (λ c. c && b) first ∙ second

appended : {A : Type 0} (p : A → Bool) (xs ys : List A) → list_all p xs ≡ true → list_all p ys ≡ true → list_all p (xs ++ ys) ≡ true
appended p xs ys first second = list_all-append p xs ys ∙ joined (list_all p xs) (list_all p ys) first second

flattened : {A B : Type 0} (p : B → Bool) (f : A → List B) → ((x : A) → list_all p (f x) ≡ true) → (xs : List A) → list_all p (flat_map f xs) ≡ true
flattened p f each [] = refl
flattened p f each (x ∷ xs) = appended p (f x) (flat_map f xs) (each x) (flattened p f each xs)

filtered : {A : Type 0} (p keep : A → Bool) (xs : List A) → list_all p xs ≡ true → list_all p (filter keep xs) ≡ true
filtered p keep [] all = refl
filtered p keep (x ∷ xs) all = let parts = both (p x) (list_all p xs) all in go (keep x) parts.0 (filtered p keep xs parts.1)
  where
    go : (b : Bool) → p x ≡ true → list_all p (filter keep xs) ≡ true → list_all p (cond b (x ∷ filter keep xs) (filter keep xs)) ≡ true
    go true here rest = joined (p x) (list_all p (filter keep xs)) here rest
    go false here rest = rest

-- one of them, if it is there
one_of : {A : Type 0} (p : A → Bool) (xs : List A) (place : ℕ) → list_all p xs ≡ true → IfSome (slice_get xs place) (λ x. p x ≡ true)
one_of p [] place all = tt
one_of p (x ∷ xs) zero all = (both (p x) (list_all p xs) all).0
one_of p (x ∷ xs) (suc place) all = one_of p xs place (both (p x) (list_all p xs) all).1

taken_pass : (p : ℕ → Bool) (text : List ℕ) → list_all p (take_while p text) ≡ true
taken_pass p [] = refl
taken_pass p (octet ∷ text) =
    subst (λ t. list_all p t ≡ true) (sym (take_while-cons p octet text)) (go (p octet) refl (taken_pass p text))
  where
    go : (b : Bool) → p octet ≡ b → list_all p (take_while p text) ≡ true → list_all p (cond b (octet ∷ take_while p text) []) ≡ true
    go true passes rest = joined (p octet) (list_all p (take_while p text)) passes rest
    go false stops rest = refl

-- ---- tokens

-- an octet of a token is no line break, nor is it one in lower case
no_break : (octet : ℕ) → is_token_octet octet ≡ true → to_ascii_lowercase octet ≡ 10 → ⊥
no_break octet passes is = elim (cases_lt octet 65) [
  | inl below ↦
      let here : octet ≡ 10 = sym ((lowercase_is octet).1 below) ∙ is in
      true≢false (sym (subst (λ c. is_token_octet c ≡ true) here passes))
  | inr above ↦ let cases = lowercase_is octet in grind (arith, cases, is, above)
]

token_line : (text : List ℕ) → list_all is_token_octet text ≡ true → is_one_line (lowercase_of text) ≡ true
token_line [] all = refl
token_line (octet ∷ text) all =
    let parts = both (is_token_octet octet) (list_all is_token_octet text) all in
    joined (not (to_ascii_lowercase octet == 10)) (is_one_line (lowercase_of text)) (ap not (ne_eqb (to_ascii_lowercase octet) 10 (no_break octet parts.0))) (token_line text parts.1)

abbrev IsToken : Word → Type 0
IsToken w = list_all is_token_octet w.octets ≡ true

token_passes : (text : List ℕ) → IfSome (token text) IsToken
token_passes text = go (length (take_while is_token_octet text) == 0)
  where
    go : (b : Bool)
        → IfSome (cond b None (Some (record { octets = take_while is_token_octet text; rest = drop (length (take_while is_token_octet text)) text }))) IsToken
    go true = tt
    go false = taken_pass is_token_octet text

-- ---- media types

abbrev is_plain : MediaType → Bool
is_plain media = is_one_line (media_text media)

names_plain : (media : MediaType) → list_all is_token_octet media.main ≡ true → list_all is_token_octet media.sub ≡ true → is_plain media ≡ true
names_plain media main sub =
    appended (λ octet. not (octet == 10)) (lowercase_of media.main ++ codes "/") (lowercase_of media.sub)
    (appended (λ octet. not (octet == 10)) (lowercase_of media.main) (codes "/") (token_line media.main main) refl)
    (token_line media.sub sub)

with_sub : (main : Word) → IsToken main → (o : Option Word) → IfSome o IsToken
    → is_plain (or_text_plain (o >>= λ sub. Some (record { main = main.octets; sub = sub.octets; params = params_in (after_gap sub.rest) }))) ≡ true
with_sub main is None passes = refl
with_sub main is (Some sub) passes = names_plain (record { main = main.octets; sub = sub.octets; params = params_in (after_gap sub.rest) }) is passes

with_slash : (main : Word) → IsToken main → (o : Option (List ℕ))
    → is_plain (or_text_plain (o >>= λ after. token (after_gap after) >>= λ sub. Some (record { main = main.octets; sub = sub.octets; params = params_in (after_gap sub.rest) }))) ≡ true
with_slash main is None = refl
with_slash main is (Some after) = with_sub main is (token (after_gap after)) (token_passes (after_gap after))

with_main : (o : Option Word) → IfSome o IsToken
    → is_plain (or_text_plain (o >>= λ main. after_octet 47 (after_gap main.rest) >>= λ after. token (after_gap after) >>= λ sub. Some (record { main = main.octets; sub = sub.octets; params = params_in (after_gap sub.rest) }))) ≡ true
with_main None passes = refl
with_main (Some main) passes = with_slash main passes (after_octet 47 (after_gap main.rest))

read_plain : (text : List ℕ) → is_plain (or_text_plain (media_type_of text)) ≡ true
unfolding media_type_of
read_plain text = with_main (token (after_gap text)) (token_passes (after_gap text))

media_plain : (default : MediaType) → is_plain default ≡ true → (value : Option (List ℕ)) → is_plain (media_or default value) ≡ true
media_plain default plain None = plain
media_plain default plain (Some value) = read_plain value

below_plain : (media : MediaType) → is_plain (default_below media) ≡ true
below_plain media = go (is_word media.main (codes "multipart") && is_word media.sub (codes "digest"))
  where
    go : (b : Bool) → is_plain (cond b message_rfc822 text_plain) ≡ true
    go true = refl
    go false = refl

-- ---- the parts of a message

abbrev is_plain_part : tree.Part → Bool
is_plain_part part = is_plain part.media

part_plain : (depth : ℕ) (default : MediaType) → is_plain default ≡ true → (stretch : Stretch) → is_plain (part_at depth default stretch).media ≡ true
part_plain depth default plain stretch = media_plain default plain (first_value (codes "Content-Type") (header_of stretch.octets).fields)

parts_plain : (levels : ℕ) (default : MediaType) → is_plain default ≡ true → (stretch : Stretch) → list_all is_plain_part (parts_of levels default stretch) ≡ true
unfolding parts_of
parts_plain zero default plain stretch = joined (is_plain (part_at max_depth default stretch).media) true (part_plain max_depth default plain stretch) refl
parts_plain (suc levels) default plain stretch =
    let part = part_at (max_depth - suc levels) default stretch in
    let below = parts_of levels (default_below part.media) in
    joined (is_plain part.media) (list_all is_plain_part (flat_map below (children_of part))) (part_plain (max_depth - suc levels) default plain stretch)
    (flattened is_plain_part below (parts_plain levels (default_below part.media) (below_plain part.media)) (children_of part))

mail_plain : (octets : List ℕ) → list_all (λ (part : Part). is_plain part.media) (mail_of octets).parts ≡ true
unfolding mail_of
mail_plain octets =
    list_all-map (λ (part : Part). is_plain part.media) part_of (tree_of octets)
    ∙ parts_plain (max_depth - 1) text_plain refl (record { place = 0; octets = octets })

-- ---- what a delivery files

abbrev is_plain_draft : Draft → Bool
is_plain_draft draft = is_one_line draft.media

stored_plain : (folder : List ℕ) (part : Option Part) → IfSome part (λ part. is_plain part.media ≡ true) → is_plain_draft (stored_draft folder part) ≡ true
stored_plain folder None plain = refl
stored_plain folder (Some part) plain = plain

draft_plain : (octets : List ℕ) (action : Action) → is_plain_draft (draft_of_action (mail_of octets) action) ≡ true
draft_plain octets Keep = refl
draft_plain octets (File folder) = refl
draft_plain octets (Store folder part) =
    stored_plain folder (slice_get (mail_of octets).parts part) (one_of (λ (part : Part). is_plain part.media) (mail_of octets).parts part (mail_plain octets))

drafts_plain : (octets : List ℕ) (actions : List Action) → list_all is_plain_draft (drafts_of (mail_of octets) actions) ≡ true
drafts_plain octets [] = refl
drafts_plain octets (action ∷ actions) =
    joined (is_plain_draft (draft_of_action (mail_of octets) action)) (list_all is_plain_draft (drafts_of (mail_of octets) actions)) (draft_plain octets action) (drafts_plain octets actions)

abbrev is_plain_entry : Entry → Bool
is_plain_entry entry = is_one_line entry.media

numbered_plain : (user : List ℕ) (number : ℕ) (drafts : List Draft) → list_all is_plain_draft drafts ≡ true → list_all is_plain_entry (numbered user number drafts) ≡ true
numbered_plain user number [] plain = refl
numbered_plain user number (draft ∷ drafts) plain =
    let parts = both (is_plain_draft draft) (list_all is_plain_draft drafts) plain in
    joined (is_plain_draft draft) (list_all is_plain_entry (numbered user (number + 1) drafts)) parts.0 (numbered_plain user (number + 1) drafts parts.1)

filed_plain : (user : List ℕ) (drafts : List Draft) (before : Entries) → list_all is_plain_draft drafts ≡ true → HavePlainMedia before → HavePlainMedia (filed user drafts before)
filed_plain user [] before plain have = have
filed_plain user (draft ∷ drafts) before plain have =
    let first = before.lasts user + 1 in
    appended is_plain_entry before.entries (numbered user first (draft ∷ drafts)) have (numbered_plain user first (draft ∷ drafts) plain)

-- ---- what commands leave

-- where the entries are those of before
same_plain : (before after : Entries) → after.entries ≡ before.entries → HavePlainMedia before → HavePlainMedia after
same_plain before after same have = ap (list_all is_plain_entry) same ∙ have

pub accepted_plain : (before after : Entries) (command : Command) (reply : Reply) → Accepts before command reply after → HavePlainMedia before → HavePlainMedia after
accepted_plain before after (SetScript user script) reply accepts have =
    same_plain before after (ap (λ (e : Entries). e.entries) accepts.step.3) have
accepted_plain before after (SetCode user program) reply accepts have =
    same_plain before after (ap (λ (e : Entries). e.entries) accepts.step.3) have
accepted_plain before after (Deliver user message) reply accepts have =
    let drafts = drafts_of (mail_of message) accepts.step.actions in
    subst HavePlainMedia (sym accepts.step.filed) (filed_plain user drafts before (drafts_plain message accepts.step.actions) have)
accepted_plain before after (ListAll user) reply accepts have = subst HavePlainMedia (sym accepts.step.1) have
accepted_plain before after (ListSince user number) reply accepts have = subst HavePlainMedia (sym accepts.step.1) have
accepted_plain before after (Catalog user number) reply accepts have = subst HavePlainMedia (sym accepts.step.1) have
accepted_plain before after (ProgramOf user) reply accepts have = subst HavePlainMedia (sym accepts.step.1) have
accepted_plain before after (Export user number encoding) reply accepts have = subst HavePlainMedia (sym accepts.step.3) have
accepted_plain before after (Remove user number) reply accepts have =
    subst HavePlainMedia (sym accepts.step.3) (filtered is_plain_entry (λ x. not (is_at user number x)) before.entries have)
accepted_plain before after Migrate reply accepts have = same_plain before after accepts.step.entries have

step_plain : (command : Command) (reply : Option Reply) (before after : Entries) → IsStep command reply before after → HavePlainMedia before → HavePlainMedia after
step_plain command None before after same have = subst HavePlainMedia (sym same) have
step_plain command (Some reply) before after accepts have = accepted_plain before after command reply accepts have

pub calls_plain : (calls : List Call) (before after : Entries) → AreSteps calls before after → HavePlainMedia before → HavePlainMedia after
calls_plain [] before after same have = subst HavePlainMedia (sym same) have
calls_plain (call ∷ calls) before after (mid, step, others) have =
    calls_plain calls mid after others (step_plain call.command call.reply before mid step have)

session_plain : (session : Session) (before after : Entries) → IsSessionStep session before after → HavePlainMedia before → HavePlainMedia after
session_plain NotOpened before after same have = subst HavePlainMedia (sym same) have
session_plain (Ran command reply is_open) before after step have = elim step.either [
  | inl same ↦ subst HavePlainMedia (sym same) have
  | inr (told, accepts) ↦ accepted_plain before after command told accepts have
]

pub sessions_plain : (past : List Past) (before after : Entries) → AreSessionSteps past before after → HavePlainMedia before → HavePlainMedia after
sessions_plain [] before after same have = subst HavePlainMedia (sym same) have
sessions_plain (one ∷ others) before after (mid, step, more) have =
    sessions_plain others mid after more (session_plain one.session before mid step have)
