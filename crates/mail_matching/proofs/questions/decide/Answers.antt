use Rattle.std.proofs.Common.{inl, inr, not, ap, refl, subst, sym}
use Rattle.bytecode_format.specs.Questions.{row_of}
use Rattle.bytecode_format.specs.declared.question.Question.{Question}
use Rattle.mail_matching.specs.Questions.{IsShown, current, need_of}
use Rattle.mail_matching.proofs.questions.decide.Goals as goal

pub returns-in-PartSize-clause-value : goal.returns-in-PartSize-clause-value
returns-in-PartSize-clause-value g c =
    let mail = c.args.message.now in
    let part = c.args.current in
    let known = subst (λ q. IsShown (need_of q) (current mail part) c.args.shown) c.in-PartSize.is c.requires.shown in
    rw c.in-PartSize.is (record { asks = λ params keys. c.part_is_size.ensures (current mail part) known; costs = λ params keys. refl; needs = λ e. absurd cc })

pub returns-in-Header-clause-keys : goal.returns-in-Header-clause-keys
returns-in-Header-clause-keys g c = elim c.in-Header.is [
  | inl (test, is) ↦ sym (ap (λ (q : Question). not (row_of q).takes.keys) is)
  | inr (inl (how, is)) ↦ sym (ap (λ (q : Question). not (row_of q).takes.keys) is)
  | inr (inr (inl (how, is))) ↦ sym (ap (λ (q : Question). not (row_of q).takes.keys) is)
  | inr (inr (inr is)) ↦ sym (ap (λ (q : Question). not (row_of q).takes.keys) is)
]
