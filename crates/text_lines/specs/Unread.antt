-- A text that is read line by line.
use Rattle.std.specs.Prelude.{ℕ, List}

-- a text of which the lines before a place were given
pub record Unread : Type 0 where
  pub text : List ℕ
  pub place : ℕ
