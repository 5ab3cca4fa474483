-- White space and comments between the words of a value (RFC 2045, section 5.1; RFC 822, section 3.4.3).
use Rattle.std.specs.Prelude.{ℕ, zero, suc, ◌+◌, ◌-◌, ◌==◌, List, [], ◌∷◌, Option, Some, None, length, if◌then◌else◌}
use Rattle.octets.specs.Blank.{is_blank}

-- what follows the octet that closes so many brackets beside the outermost one, and it too, or None where none does; a
-- backslash takes the next octet
abbrev pub after_comment : ℕ → List ℕ → Option (List ℕ)
after_comment depth [] = None
after_comment depth (c ∷ []) = if c == 41 then (if depth == 0 then Some [] else None) else None
after_comment depth (c ∷ d ∷ rest) =
    if c == 41 then (if depth == 0 then Some (d ∷ rest) else after_comment (depth - 1) (d ∷ rest))
    else if c == 92 then after_comment depth rest
    else if c == 40 then after_comment (depth + 1) (d ∷ rest)
    else after_comment depth (d ∷ rest)

-- what follows a comment that is opened before these octets; where it isn't closed there is no comment, and the bracket stands
abbrev pub unless_closed : List ℕ → Option (List ℕ) → (List ℕ → List ℕ) → List ℕ
unless_closed all None more = all
unless_closed all (Some rest) more = more rest

-- what follows a run of SP, TAB and comments, of at most so many octets
abbrev pub after_gap_of : ℕ → List ℕ → List ℕ
after_gap_of zero text = text
after_gap_of (suc n) [] = []
after_gap_of (suc n) (c ∷ rest) =
    if is_blank c then after_gap_of n rest
    else if c == 40 then unless_closed (c ∷ rest) (after_comment 0 rest) (λ more. after_gap_of n more)
    else c ∷ rest

-- what follows the gap that a text begins with
abbrev pub after_gap : List ℕ → List ℕ
after_gap text = after_gap_of (length text) text
