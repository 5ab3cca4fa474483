-- A script has no more tokens than octets.
use Rattle.std.proofs.Common.{◌+◌, ◌≤◌, ℕ, List, [], ◌∷◌, length, arith, inl, inr}
use Rattle.sieve_lexer.specs.Chain.{Chain}
use Rattle.sieve_lexer.specs.Separators.{IsGap, IsSeparator}
use Rattle.sieve_lexer.specs.Tokens.{AreTokens, TokensUpTo}
use Rattle.sieve_lexer.specs.declared.token.Token.{Token}

separator_forward : (script : List ℕ) (a b : ℕ) → IsSeparator script a b → a ≤ b
separator_forward script a b (inl white) = omega (arith, white.0)
separator_forward script a b (inr (inl comment)) = comment.1.from
separator_forward script a b (inr (inr (end, comment))) = omega (arith, comment.0, comment.1)

chain_forward : (script : List ℕ) (places : List ℕ) (a b : ℕ) → Chain (IsSeparator script) places a b → a ≤ b
chain_forward script [] a b chain = omega (arith, chain)
chain_forward script (m ∷ places) a b chain = omega (arith, separator_forward script a m chain.0, chain_forward script places m b chain.1)

gap_forward : (script : List ℕ) (a b : ℕ) → IsGap script a b → a ≤ b
gap_forward script a b gap = chain_forward script gap.0 a b gap.1

few_up_to : (script : List ℕ) (a : ℕ) (tokens : List Token) (b : ℕ) → TokensUpTo script a tokens b → a + length tokens ≤ b
few_up_to script a [] b up_to = omega (arith, up_to)
few_up_to script a (token ∷ tokens) b up_to =
    omega (arith, gap_forward script a token.start up_to.0, up_to.1.some, few_up_to script token.end tokens b up_to.2)

pub few_tokens : (script : List ℕ) (tokens : List Token) → AreTokens script tokens → length tokens ≤ length script
few_tokens script tokens are = omega (arith, few_up_to script 0 tokens are.0 are.1.0, gap_forward script are.0 (length script) are.1.1)
