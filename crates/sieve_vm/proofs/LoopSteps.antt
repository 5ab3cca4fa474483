-- What the operations of loops do to the machine.
use Rattle.std.proofs.Common.{◌≡◌, suc, ◌<◌, ◌≤◌, Bool, true, false, cond, List, [], ◌∷◌, Some, drop, ◌-◌, length, slice_get, refl, sym, ap, subst, ◌∙◌, arith}
use Rattle.bytecode_format.specs.declared.instruction.Instruction.{Instruction}
use Rattle.bytecode_format.specs.declared.operation.Operation.TheVariants.{Each, Next, Break}
use Rattle.bytecode_format.specs.Operations.{operation_of}
use Rattle.bytecode_format.specs.Code.{Code}
use Rattle.octets.specs.Limits.{max_instructions, max_loops}
use Rattle.bytecode_verifier.specs.Loops.{open_loops}
use Rattle.bytecode_verifier.specs.Acceptance.{IsAccepted}
use Rattle.bytecode_verifier.proofs.Consequences.{break_known}
use Rattle.bytecode_format.specs.Spelling.{IsProgram}
use Rattle.mime_decode.specs.Visited.{visited}
use Rattle.mime_decode.specs.Mail.{Mail, IsMail}
use Rattle.sieve_vm.specs.declared.machine.Machine.{Machine}
use Rattle.sieve_vm.specs.declared.machine.Position.{Position}
use Rattle.sieve_vm.specs.declared.machine.Done.{Done}
use Rattle.sieve_vm.specs.State.{Frame, State, current_part}
use Rattle.sieve_vm.specs.Machine.{Effect, jumps, fails, open_loop, next_part, next, close, effect, referred_in}
use Rattle.sieve_vm.specs.Standing.{Represents, IsIn, HasDone}
use Rattle.sieve_vm.proofs.Reached.{IsReached, Leads}
use Rattle.sieve_vm.proofs.Leading.{nested}
use Rattle.sieve_vm.proofs.Opened.{loop_of, AreOpen, open-length, is_among, some_left, close-is}
use Rattle.sieve_vm.proofs.Bounds.{reached}
use Rattle.sieve_vm.proofs.Steps.{fine}

module _ (code : Code) (mail : Mail) (is : IsAccepted code) (known : IsMail mail) (pos : Position) (m : Machine) (s : State) (at : IsIn code mail s pos m) where
  abbrev there : IsReached code mail s
  there = reached code mail is known at.steps s at.run

  module _ (i : Instruction) (here : slice_get code.instructions pos.place ≡ Some i) where
    here_is : slice_get code.instructions s.place ≡ Some i
    here_is = ap (slice_get code.instructions) (sym at.stands.place) ∙ here

    -- what is guarded by a test that leads on is done
    guarded : (b : Bool) (x : Effect) → Leads code mail s (cond b x fails) → cond b x fails ≡ x
    guarded true x fits = refl
    guarded false x fits = absurd fits

    pub room_there : operation_of i.op ≡ Some Each → length m.loops.frames < max_loops
    room_there e = rw at.stands.holds.frames (omega (arith, (nested code mail is known).room s.place i here_is e, open-length mail s.frames (open_loops code s.place) there.opened))

    pub had_each : operation_of i.op ≡ Some Each → (done : Done) (m' : Machine) → ((t : State) → Represents mail t m → pos.place ≡ t.place → HasDone mail (open_loop i.c (visited (current_part t.frames) mail) t) 1 done m') → HasDone mail (effect (referred_in code) mail Each i s) 1 done m'
    had_each e done m' opens = rw (guarded _ _ (fine code mail is known pos m s at i here Each e)) (opens s at.stands.holds at.stands.place)

    -- a loop is open, and its Each is one of the program's
    next_frame : operation_of i.op ≡ Some Next → (f : Frame) × ((fs : List Frame) × (s.frames ≡ f ∷ fs) × (f.each < length code.instructions))
    next_frame e = go s.frames refl (fine code mail is known pos m s at i here Next e) there.opened
      where
        go : (fs : List Frame) → s.frames ≡ fs → Leads code mail s (next (referred_in code) i.c s fs) → AreOpen mail fs (open_loops code s.place) → (f : Frame) × ((gs : List Frame) × (s.frames ≡ f ∷ gs) × (f.each < length code.instructions))
        go [] same leads opened = absurd leads
        go (f ∷ fs) same leads opened = (f, (fs, same, omega (arith, ((nested code mail is known).within s.place opened.0 (loop_of f) [] opened.1).0, there.within)))

    pub next_some : IsProgram code → operation_of i.op ≡ Some Next → (f : Frame) × ((fs : List Frame) × ((m.loops.frames ≡ f ∷ fs) × (f.each < max_instructions)))
    next_some fits e = let n = next_frame e in (n.0, (n.1.0, (at.stands.holds.frames ∙ n.1.1, omega (arith, n.1.2, fits.instructions))))

    pub had_next : operation_of i.op ≡ Some Next → (done : Done) (m' : Machine)
        → ((t : State) (f : Frame) (fs : List Frame) → Represents mail t m → t.frames ≡ f ∷ fs → HasDone mail (next_part f fs f.rest t) 1 done m') → HasDone mail (effect (referred_in code) mail Next i s) 1 done m'
    had_next e done m' onward =
        let n = next_frame e in
        let fits : Leads code mail s (next (referred_in code) i.c s (n.0 ∷ n.1.0)) = subst (λ fs. Leads code mail s (next (referred_in code) i.c s fs)) n.1.1 (fine code mail is known pos m s at i here Next e) in
        let same : effect (referred_in code) mail Next i s ≡ next_part n.0 n.1.0 n.0.rest s = ap (next (referred_in code) i.c s) n.1.1 ∙ guarded _ _ fits in
        subst (λ x. HasDone mail x 1 done m') (sym same) (onward s n.0 n.1.0 at.stands.holds n.1.1)

    break_number : operation_of i.op ≡ Some Break → (1 ≤ i.a) × (i.a ≤ length (open_loops code s.place))
    break_number e = break_known code is s.place i here_is e

    pub break_some : operation_of i.op ≡ Some Break → 0 < i.a
    break_some e = omega (arith, (break_number e).0)

    -- so many loops are open, and their Next are the program's
    break_frame : operation_of i.op ≡ Some Break → (f : Frame) × ((fs : List Frame) × (drop (i.a - 1) s.frames ≡ f ∷ fs) × (f.next < length code.instructions))
    break_frame e =
        let a = break_number e in
        let left = some_left (i.a - 1) s.frames (omega (arith, a.0, a.1, open-length mail s.frames (open_loops code s.place) there.opened)) in
        let among = is_among mail (i.a - 1) s.frames (open_loops code s.place) left.0 left.1 there.opened left.2 in
        let within = (nested code mail is known).within s.place among.outer (loop_of left.0) among.inner among.split in
        (left.0, (left.1, left.2, omega (arith, within.2)))

    pub break_there : IsProgram code → operation_of i.op ≡ Some Break → (f : Frame) × ((fs : List Frame) × ((drop (i.a - 1) m.loops.frames ≡ f ∷ fs) × (f.next < max_instructions)))
    break_there fits e = let b = break_frame e in (b.0, (b.1.0, (ap (drop (i.a - 1)) at.stands.holds.frames ∙ b.1.1, omega (arith, b.1.2, fits.instructions))))

    pub had_break : operation_of i.op ≡ Some Break → (done : Done) (m' : Machine)
        → ((t : State) (f : Frame) (fs : List Frame) → Represents mail t m → drop (i.a - 1) t.frames ≡ f ∷ fs → HasDone mail (jumps (suc f.next) (record t { frames = fs })) 1 done m') → HasDone mail (effect (referred_in code) mail Break i s) 1 done m'
    had_break e done m' closes =
        let b = break_frame e in
        let number : i.a ≡ suc (i.a - 1) = omega (arith, break_some e) in
        rw (ap (λ n. close n s s.frames) number ∙ close-is (i.a - 1) s s.frames b.0 b.1.0 b.1.1) (closes s b.0 b.1.0 at.stands.holds b.1.1)
