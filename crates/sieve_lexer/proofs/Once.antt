-- A script is read in one way: the tokens up to where nothing further begins, and that place, are unique.
use Rattle.std.proofs.Common.{◌≡◌, ℕ, List, [], ◌∷◌, ◌++◌, refl, sym, ◌∙◌, ap, subst, inl, inr, arith, length, get_or}
use Rattle.std.proofs.lemmas.List.{get_or_past}
use Rattle.sieve_lexer.specs.Chain.{Stops}
use Rattle.sieve_lexer.specs.Separators.{IsSeparator, IsGap}
use Rattle.sieve_lexer.specs.Tokens.{IsToken, NoToken, TokensUpTo}
use Rattle.sieve_lexer.specs.declared.token.Token.{Token}
use Rattle.sieve_lexer.proofs.Steps.{leads_meet}
use Rattle.sieve_lexer.proofs.Unique.{separator_unique}
use Rattle.sieve_lexer.proofs.Beginnings.{token_unique, token_no_separator, begins_with, apart}

-- at the place begins neither a token nor a separator
pub record IsEnd (s : List ℕ) (place : ℕ) : Type 0 where
  pub no_separator : Stops (IsSeparator s) place
  pub no_token : NoToken s place

end_stops : (s : List ℕ) → get_or s (length s) 0 ≡ 0 → Stops (IsSeparator s) (length s)
end_stops s past b (inl w) = omega arith
end_stops s past b (inr (inl h)) = omega arith
end_stops s past b (inr (inr (c, h))) = omega arith

pub script_end : (s : List ℕ) → IsEnd s (length s)
script_end s =
    let past = get_or_past s (length s) 0 (omega arith) in
    record {
      no_separator = end_stops s past;
      no_token = λ t at p. apart t.kind (get_or s t.start 0) 0 (ap (λ i. get_or s i 0) at ∙ past) refl (begins_with s t.kind t.start t.end p.text);
    }

module _ (s : List ℕ) where
  gaps_meet : (a b c : ℕ) → IsGap s a b → Stops (IsSeparator s) b → IsGap s a c → Stops (IsSeparator s) c → b ≡ c
  gaps_meet = leads_meet (IsSeparator s) (separator_unique s)

  module _ (p q : ℕ) (end_p : IsEnd s p) (end_q : IsEnd s q) where
    pub read_once : (ts us : List Token) (a b c : ℕ) → TokensUpTo s a ts b → IsGap s b p → TokensUpTo s a us c → IsGap s c q → (ts ≡ us) × (p ≡ q)
    read_once [] [] a b c e g f h =
        (refl, gaps_meet a p q (subst (λ x. IsGap s x p) (sym e) g) end_p.no_separator (subst (λ x. IsGap s x q) (sym f) h) end_q.no_separator)
    read_once [] (u ∷ us) a b c e g (gap, token, rest) h =
        absurd (end_p.no_token u (gaps_meet a u.start p gap (token_no_separator s u token) (subst (λ x. IsGap s x p) (sym e) g) end_p.no_separator) token)
    read_once (t ∷ ts) [] a b c (gap, token, rest) g f h =
        absurd (end_q.no_token t (gaps_meet a t.start q gap (token_no_separator s t token) (subst (λ x. IsGap s x q) (sym f) h) end_q.no_separator) token)
    read_once (t ∷ ts) (u ∷ us) a b c (gap, token, rest) g (gap', token', rest') h =
        let start = gaps_meet a t.start u.start gap (token_no_separator s t token) gap' (token_no_separator s u token') in
        let same : t ≡ u = token_unique s t u start token token' in
        let more = read_once ts us t.end b c rest g (subst (λ (x : Token). TokensUpTo s x.end us c) (sym same) rest') h in
        (ap (λ (x : Token). x ∷ ts) same ∙ ap (λ xs. u ∷ xs) more.0, more.1)

-- one token more
pub tokens_push : (s : List ℕ) (ts : List Token) (a b : ℕ) (t : Token) → TokensUpTo s a ts b → IsGap s b t.start → IsToken s t → TokensUpTo s a (ts ++ t ∷ []) t.end
tokens_push s [] a b t e gap token = (subst (λ x. IsGap s x t.start) (sym e) gap, token, refl)
tokens_push s (u ∷ us) a b t (g, tok, rest) gap token = (g, tok, tokens_push s us u.end b t rest gap token)
