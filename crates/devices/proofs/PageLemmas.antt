-- What is written to pages, one text after another.
use Rattle.std.proofs.Common.{◌≡◌, ◌∙◌, ◌+◌, ◌-◌, ap, subst, ℕ, List, ◌++◌, append_assoc, length, take, drop}
use Rattle.std.proofs.Math.Seq.{take-add}
use Rattle.devices.specs.Pages.{PageView, writes}
use Rattle.devices.proofs.Outputs.{rest_whole}

-- a text, and then another
pub writes_both : (xs ys : List ℕ) (s : PageView) → writes ys (writes xs s) ≡ writes (xs ++ ys) s
writes_both xs ys s = ap (λ octets. record s { text = octets }) (append_assoc s.text xs ys)

-- the first octets of a text, and then some of the rest
pub wrote_next : (text : List ℕ) (done n : ℕ) (a b c : PageView) → b ≡ writes (take done text) a → c ≡ writes (take n (take (length text - done) (drop done text))) b → c ≡ writes (take (done + n) text) a
wrote_next text done n a b c first later =
    let rest : c ≡ writes (take n (drop done text)) b = subst (λ octets. c ≡ writes (take n octets) b) (rest_whole done text) later in
    rw (take-add done n text)
    (rest ∙ ap (writes (take n (drop done text))) first ∙ writes_both (take done text) (take n (drop done text)) a)
