-- What octets may stand for between tokens and in identifiers (RFC 5228, section 8.1).
use Rattle.std.specs.Prelude.{ℕ, Bool, not, ◌==◌, ◌||◌}
use Rattle.std.specs.Char.{is_ascii_alphabetic, is_ascii_alphanumeric}

-- white space between tokens: SP, TAB, CR or LF
abbrev pub is_white_space : ℕ → Bool
is_white_space octet = ((octet == 32) || (octet == 9)) || ((octet == 13) || (octet == 10))

-- what an identifier begins with: a letter or `_`
abbrev pub begins_identifier : ℕ → Bool
begins_identifier octet = is_ascii_alphabetic octet || (octet == 95)

-- what an identifier consists of: letters, digits and `_`
abbrev pub continues_identifier : ℕ → Bool
continues_identifier octet = is_ascii_alphanumeric octet || (octet == 95)

-- any octet but LF
abbrev pub is_not_line_feed : ℕ → Bool
is_not_line_feed octet = not (octet == 10)
