-- What is said of a name that isn't known where it stands. ASCII case doesn't count.
use Rattle.std.specs.Prelude.{ℕ, if◌then◌else◌, List, [], ◌∷◌, is_some, map, codes}
use Rattle.sieve_check.specs.Names.{command_named, test_named}
use Rattle.sieve_check.specs.Rows.{all_commands, all_tests, command_word, test_word}
use Rattle.sieve_check.specs.TagRows.{all_tags, tag_word}
use Rattle.sieve_explain.specs.Words.{Hint, hint, nearest, nearest_but, with_words, words_for}
use Rattle.sieve_explain.specs.Sentences.{Blanks, plain}

-- ---- what depot lacks

-- why depot lacks a command, a test, a tag or a capability that Sieve has elsewhere, or what there is in its place
abbrev pub lacking_rows : List Hint
lacking_rows =
    hint (codes "vacation" ∷ codes "vacation-seconds" ∷ codes "redirect" ∷ codes "reject" ∷ codes "ereject"
    ∷ codes "notify" ∷ codes "enotify" ∷ [])
    (codes "it sends no mail, the mail server can do that")
    ∷ hint (codes "addflag" ∷ codes "setflag" ∷ codes "removeflag" ∷ codes "hasflag" ∷ codes "flags"
    ∷ codes "imap4flags" ∷ codes "imapflags" ∷ [])
    (codes "its entries have no flags, file into a folder instead")
    ∷ hint (codes "addheader" ∷ codes "deleteheader" ∷ codes "editheader" ∷ codes "replace" ∷ codes "enclose" ∷ [])
    (codes "it doesn't change messages")
    ∷ hint (codes "extracttext" ∷ [])
    (codes "`take` sets a variable to the content of a part, inside a `foreverypart`")
    ∷ hint (codes "include" ∷ []) (codes "a script is a single file, put all commands into it")
    ∷ hint (codes "copy" ∷ []) (codes "a `keep` and a `fileinto` together file a message twice")
    ∷ hint (codes "address" ∷ codes "subaddress" ∷ codes "localpart" ∷ codes "domain" ∷ codes "detail" ∷ [])
    (codes "`header` tests the whole value of a field, as in `header :matches \"From\" [\"a@b\", \"*<a@b>*\"]`")
    ∷ hint (codes "index" ∷ []) (codes "`header` tests all fields of a name")
    ∷ hint (codes "envelope" ∷ [])
    (codes "it sees only the message, `header` can test \"Delivered-To\" if the mail server adds it")
    ∷ hint (codes "environment" ∷ []) (codes "it sees only the message")
    ∷ hint (codes "body" ∷ [])
    (codes "`partbody` tests the content of a part, inside a `foreverypart`")
    ∷ hint (codes "date" ∷ codes "currentdate" ∷ []) (codes "it doesn't compare times")
    ∷ hint (codes "relational" ∷ codes "count" ∷ codes "value" ∷ codes "comparator-i;ascii-numeric" ∷ [])
    (codes "only `size` and `partsize` compare numbers")
    ∷ hint (codes "regex" ∷ []) (codes "use the wildcards of `:matches`")
    ∷ hint (codes "spamtest" ∷ codes "spamtestplus" ∷ codes "virustest" ∷ [])
    (codes "`header` can test the field that a scanner adds")
    ∷ hint (codes "mailbox" ∷ codes "mailboxexists" ∷ codes "create" ∷ [])
    (codes "a folder exists once something is filed into it")
    ∷ hint (codes "duplicate" ∷ []) (codes "a script doesn't see earlier messages")
    ∷ hint (codes "ihave" ∷ []) (codes "every capability that a script requires has to exist")
    ∷ hint (codes "encoded-character" ∷ []) (codes "write the character itself, strings can contain any")
    ∷ []

unfoldable pub lacking : List ℕ → List ℕ
lacking name = words_for name lacking_rows

-- ---- what there is

-- the names of one kind, and what stands elsewhere for some of them; then the sentences for a name that is none of them:
-- for one that depot lacks, for one by which one of them is meant, or one of two, and for any other
pub record Vocabulary : Type 0 where
  pub elsewhere : List Hint
  pub names : List (List ℕ)
  pub lacks : List ℕ
  pub hinting : List ℕ
  pub hinting_two : List ℕ
  pub alone : List ℕ

abbrev pub known_commands : Vocabulary
known_commands = record {
  elsewhere =
      hint (codes "elseif" ∷ codes "elif" ∷ codes "else_if" ∷ []) (codes "elsif")
      ∷ hint (codes "file" ∷ codes "move" ∷ []) (codes "fileinto")
      ∷ hint (codes "delete" ∷ codes "drop" ∷ []) (codes "discard")
      ∷ hint (codes "foreach" ∷ codes "for" ∷ []) (codes "foreverypart")
      ∷ hint (codes "save" ∷ []) (codes "store")
      ∷ hint (codes "exit" ∷ codes "return" ∷ []) (codes "stop")
      ∷ [];
  names = map command_word all_commands;
  lacks = codes "depot has no @: &";
  hinting = codes "unknown command @, did you mean `&`?";
  hinting_two = codes "unknown command @, did you mean `&` or `~`?";
  alone = codes "unknown command @";
}

abbrev pub known_tests : Vocabulary
known_tests = record {
  elsewhere =
      hint (codes "all" ∷ codes "and" ∷ []) (codes "allof")
      ∷ hint (codes "any" ∷ codes "or" ∷ []) (codes "anyof")
      ∷ hint (codes "subject" ∷ codes "from" ∷ codes "to" ∷ codes "is" ∷ codes "contains" ∷ codes "matches" ∷ [])
      (codes "header")
      ∷ hint (codes "filesize" ∷ []) (codes "size")
      ∷ [];
  names = map test_word all_tests;
  lacks = codes "depot has no @: &";
  hinting = codes "unknown test @, did you mean `&`?";
  hinting_two = codes "unknown test @, did you mean `&` or `~`?";
  alone = codes "unknown test @";
}

abbrev pub known_tags : Vocabulary
known_tags = record {
  elsewhere = [];
  names = map tag_word all_tags;
  lacks = codes "depot has no #: &";
  hinting = codes "unknown tag #, did you mean `:&`?";
  hinting_two = codes "unknown tag #, did you mean `:&` or `:~`?";
  alone = codes "unknown tag #";
}

-- all of them are listed where none comes near
abbrev pub known_capabilities : Vocabulary
known_capabilities = record {
  elsewhere = [];
  names =
      codes "fileinto" ∷ codes "variables" ∷ codes "mime" ∷ codes "foreverypart" ∷ codes "vnd.depot" ∷ codes "comparator-i;octet"
      ∷ codes "comparator-i;ascii-casemap" ∷ [];
  lacks = codes "depot has no $: &";
  hinting = codes "unknown capability $, did you mean \"&\"?";
  hinting_two = codes "unknown capability $, did you mean \"&\" or \"~\"?";
  alone = codes "unknown capability $: depot has \"fileinto\", \"variables\", \"mime\", \"foreverypart\", \"vnd.depot\", \"comparator-i;octet\" and \"comparator-i;ascii-casemap\"";
}

-- ---- sentences

-- the name that is meant, or nothing where none comes near
unfoldable pub meant : List ℕ → Vocabulary → List ℕ
meant name known = let elsewhere = words_for name known.elsewhere in with_words elsewhere elsewhere (nearest name known.names)

-- another name that may be meant, where one comes as near
unfoldable pub meant_too : List ℕ → Vocabulary → List ℕ
meant_too name known = let elsewhere = words_for name known.elsewhere in
    with_words elsewhere [] (nearest_but name (nearest name known.names) known.names)

-- a name that nothing has: with why it is lacking, else with what is meant by it, where there is either
abbrev pub hinting_text : List ℕ → Vocabulary → List ℕ
hinting_text name known = with_words (meant_too name known) known.hinting_two known.hinting

abbrev pub unknown_text : List ℕ → Vocabulary → List ℕ
unknown_text name known = with_words (lacking name) known.lacks (with_words (meant name known) (hinting_text name known) known.alone)

abbrev pub unknown_words : List ℕ → Vocabulary → List ℕ
unknown_words name known = with_words (lacking name) (lacking name) (meant name known)

abbrev pub unknown : List ℕ → Vocabulary → Blanks
unknown name known = record {
  text = unknown_text name known;
  name = name;
  subject = name;
  words = unknown_words name known;
  others = meant_too name known;
  number = 0;
}

-- a name in a command's place
unfoldable pub unknown_command : List ℕ → Blanks
unknown_command name =
    if is_some (test_named name) then record (plain (codes "@ is a test: is an `if` missing before it?")) { name = name }
    else unknown name known_commands

-- a name in a test's place
unfoldable pub unknown_test : List ℕ → Blanks
unknown_test name =
    if is_some (command_named name) then record (plain (codes "@ is a command, but a test is needed here")) { name = name }
    else unknown name known_tests

-- a tag
unfoldable pub unknown_tag : List ℕ → Blanks
unknown_tag tag = unknown tag known_tags

-- a capability
unfoldable pub unknown_capability : List ℕ → Blanks
unknown_capability capability = unknown capability known_capabilities
