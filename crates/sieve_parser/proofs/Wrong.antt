-- What a symbol doesn't expand to, told by what a lexeme isn't.
use Rattle.std.proofs.Common.{◌≡◌, ◌≢◌, ℕ, suc, List, refl}
use Rattle.std.specs.Prelude.{None}
use Rattle.sieve_parser.specs.Lexemes.{Lexeme, identifier, string, semicolon, comma, opening_brace, closing_brace, closing_parenthesis, closing_bracket}
use Rattle.sieve_parser.specs.TokenMachine.{command_end, test_end, body, tests, strings, more_strings, ended_by, expand}

pub no_string_first : (d : ℕ) (l : Lexeme) → ((s : List ℕ) → l ≡ string s → ⊥) → expand (strings d) l ≡ None
no_string_first d (string s) ne = absurd (ne s refl)
no_string_first d _ ne = refl

pub no_more_string : (d : ℕ) (l : Lexeme) → l ≢ comma → l ≢ closing_bracket → expand (more_strings d) l ≡ None
no_more_string d comma ne close = absurd (ne refl)
no_more_string d closing_bracket ne close = absurd (close refl)
no_more_string d _ ne close = refl

pub no_test : (d : ℕ) (l : Lexeme) → ((n : ℕ) (name : List ℕ) → l ≡ identifier n name → ⊥) → expand (tests d) l ≡ None
no_test d (identifier n name) ne = absurd (ne n name refl)
no_test d _ ne = refl

pub no_command_end : (d : ℕ) (l : Lexeme) → l ≢ semicolon → l ≢ opening_brace → ended_by (command_end d) l ≡ None
no_command_end d semicolon ne brace = absurd (ne refl)
no_command_end d opening_brace ne brace = absurd (brace refl)
no_command_end d _ ne brace = refl

pub no_test_end : (d : ℕ) (l : Lexeme) → l ≢ comma → l ≢ closing_parenthesis → ended_by (test_end d) l ≡ None
no_test_end d comma ne close = absurd (ne refl)
no_test_end d closing_parenthesis ne close = absurd (close refl)
no_test_end d _ ne close = refl

pub no_body : (d : ℕ) (l : Lexeme) → ((n : ℕ) (name : List ℕ) → l ≡ identifier n name → ⊥) → l ≢ closing_brace → expand (body (suc d)) l ≡ None
no_body d (identifier n name) ne close = absurd (ne n name refl)
no_body d closing_brace ne close = absurd (close refl)
no_body d _ ne close = refl

pub no_command_first : (l : Lexeme) → ((n : ℕ) (name : List ℕ) → l ≡ identifier n name → ⊥) → expand (body 0) l ≡ None
no_command_first (identifier n name) ne = absurd (ne n name refl)
no_command_first _ ne = refl
