-- Lines that are to be done together.
use Rattle.std.proofs.Common.{◌≡◌, ◌++◌, ◌∙◌, ◌+◌, ◌<◌, ◌≤◌, suc, zero, arith, append-nil, ap, inl, inr, refl, subst, sym, ℕ, IfNone, List, [], ◌∷◌, None, Option, Some, length, map, take, drop, Vec, Global}
use Rattle.std.specs.List.{flat_map}
use Rattle.std.proofs.Math.ListN.{get_or}
use Rattle.std.proofs.lemmas.List.{drop_more, length-map, map-append, take-append-drop, take-map, take_more}
use Rattle.sqlite_trees.specs.declared.store.Store.{Ghosts}
use Rattle.sqlite.specs.Held.{Held, state}
use Rattle.sqlite.specs.State.{HasCleanDisk, State, Survives}
use Rattle.part_store.specs.Entries.{Listing}
use Rattle.part_store.specs.Standing.{LeavesUnchanged}
use Rattle.part_store.specs.declared.entry.EntryRow.{EntryRow}
use Rattle.depot_actions.specs.Deliveries.{DoesAll, MayLeaveAll, reply_of}
use Rattle.depot_actions.specs.DepotState.{Command, Listed}
use Rattle.depot_jobs.specs.Host.{HostState}
use Rattle.depot_batch.specs.Batch.{Happens, MayLeaveIn}
use Rattle.depot_batch.specs.Effects.{AreDeliveries, AreLookedUp, DepotAndOutput, HasWritten, IsDelivery, most_together}
use Rattle.depot_batch.specs.Said.{Suits, Wording, filed_in}
use Rattle.depot_batch.specs.declared.format.Format.{Format}
use Rattle.depot_batch.specs.Private.{IsPassedOver, command_of, filed_by, lines_of}
use Rattle.depot_batch.specs.Turns.{Together, Whole, Withdrawn, Writing}
use Rattle.depot_batch.specs.declared.mails.Mail.{Mail}
use Rattle.depot_batch.proofs.LineLemmas.{more_left}
use Rattle.depot_batch.proofs.Readying.{first_few}

-- ---- messages that were read

-- one line more was read
deliveries_more : (lines : List (List ℕ)) (commands : List Command) (line : List ℕ) (command : Command) (host mid host2 : HostState)
    → AreDeliveries lines commands host mid → IsDelivery line command mid host2 → AreDeliveries (lines ++ line ∷ []) (commands ++ command ∷ []) host host2
deliveries_more [] [] line command host mid host2 are is = (host2, subst (λ (h : HostState). IsDelivery line command h host2) are is, refl)
deliveries_more [] (c ∷ commands) line command host mid host2 are is = absurd are
deliveries_more (l ∷ lines) [] line command host mid host2 are is = absurd are
deliveries_more (l ∷ lines) (c ∷ commands) line command host mid host2 are is = (are.0, are.1, deliveries_more lines commands line command are.0 mid host2 are.2 is)

pub read_more : (lines : List (List ℕ)) (i : ℕ) (d : List ℕ) (mails mails2 : List Mail) (mail : Mail) (host mid host2 : HostState) → i < length lines
    → AreDeliveries (take i lines) (map command_of mails) host mid → IsDelivery (get_or lines i d) (command_of mail) mid host2 → mails2 ≡ mails ++ mail ∷ []
    → AreDeliveries (take (i + 1) lines) (map command_of mails2) host host2
read_more lines i d mails mails2 mail host mid host2 within are is more =
    subst (λ (ls : List (List ℕ)). AreDeliveries ls (map command_of mails2) host host2) (sym (take_more lines i d within))
    (subst (λ (cs : List Command). AreDeliveries (take i lines ++ get_or lines i d ∷ []) cs host host2) (sym (ap (map command_of) more ∙ map-append command_of mails (mail ∷ [])))
    (deliveries_more (take i lines) (map command_of mails) (get_or lines i d) (command_of mail) host mid host2 are is))

-- so many lines were read
pub looked_up : (lines : List (List ℕ)) (k : ℕ) (commands : List Command) (host host2 : HostState) → AreDeliveries (take k lines) commands host host2 → AreLookedUp lines host host2
looked_up lines k commands host host2 are = record {
  read = take k lines;
  later = drop k lines;
  are = sym (take-append-drop k lines);
  commands = commands;
  mid = host2;
  files = are;
  stops = inl refl;
}

-- and the next was passed over
pub passed_over : (lines : List (List ℕ)) (i : ℕ) (d : List ℕ) (commands : List Command) (host mid host2 : HostState) → i < length lines
    → AreDeliveries (take i lines) commands host mid → IsPassedOver (get_or lines i d) mid host2 → AreLookedUp lines host host2
passed_over lines i d commands host mid host2 within are passed = record {
  read = take i lines;
  later = drop i lines;
  are = sym (take-append-drop i lines);
  commands = commands;
  mid = mid;
  files = are;
  stops = elim passed [ inl same ↦ inl same | inr unread ↦ inr (get_or lines i d, drop (i + 1) lines, drop_more lines i d within, unread) ];
}

-- as many are asked for as there are lines
pub as_many : (lines : List (List ℕ)) (commands : List Command) (host host2 : HostState) → AreDeliveries lines commands host host2 → length commands ≡ length lines
as_many [] [] host host2 are = refl
as_many (line ∷ lines) (command ∷ commands) host host2 are = ap suc (as_many lines commands are.0 host2 are.2)
as_many [] (command ∷ commands) host host2 are = absurd are
as_many (line ∷ lines) [] host host2 are = absurd are

-- the first of lines, by their octets
pub cut_lines : (lines shown cut : List (Vec ℕ Global)) (n k : ℕ) → cut ≡ take n lines → n ≡ k → shown ≡ lines → take k (lines_of shown) ≡ lines_of cut
cut_lines lines shown cut n k is count same =
    ap (λ (ls : List (Vec ℕ Global)). take k (lines_of ls)) same ∙ ap (λ m. take m (lines_of lines)) (sym count)
    ∙ take-map (λ (l : Vec ℕ Global). l.items) n lines ∙ sym (ap lines_of is)

pub cut_rest : (lines cut : List (Vec ℕ Global)) (n : ℕ) → cut ≡ take n lines → lines ≡ cut ++ drop n lines
cut_rest lines cut n is = sym (take-append-drop n lines) ∙ ap (λ (ls : List (Vec ℕ Global)). ls ++ drop n lines) (sym is)

first_some : (lines : List (Vec ℕ Global)) (n : ℕ) → 0 < n → 0 < length (lines_of lines) → 0 < length (lines_of (take n lines))
first_some [] n some all = absurd (omega (arith, all))
first_some (line ∷ lines) zero some all = absurd (omega (arith, some))
first_some (line ∷ lines) (suc n) some all = omega arith

pub cut_some : (lines cut : List (Vec ℕ Global)) (n k : ℕ) → cut ≡ take n lines → n ≡ k → 0 < k → 0 < length (lines_of lines) → 0 < length (lines_of cut)
cut_some lines cut n k is count some all =
    subst (λ (ls : List (Vec ℕ Global)). 0 < length (lines_of ls)) (sym is) (first_some lines n (omega (arith, count, some)) all)

-- ---- on a depot

-- The lines were cut to as many as there are mails, all of whose files were read, and the depot was asked for them.
module _ {S : Type 0} (g : Ghosts S) {lines shown cut : List (Vec ℕ Global)} {n : ℕ} {mails mails2 : List Mail} (name : List ℕ) (format : Format) (old new : DepotAndOutput (Held S))
    (is : cut ≡ take n lines) (count : n ≡ length mails) (same : shown ≡ lines) (same2 : mails2 ≡ mails) (few : length (lines_of lines) ≤ most_together)
    (files : AreDeliveries (take (length mails) (lines_of shown)) (map command_of mails) old.host new.host)
    (survives : Survives (state g old.depot) (state g new.depot) (MayLeaveAll (map command_of mails2) (state g old.depot))) where
  cut_files : AreDeliveries (lines_of cut) (map command_of mails) old.host new.host
  cut_files = subst (λ (ls : List (List ℕ)). AreDeliveries ls (map command_of mails) old.host new.host) (cut_lines lines shown cut n (length mails) is count same) files

  cut_few : length (lines_of cut) ≤ most_together
  cut_few = first_few lines cut (drop n lines) (cut_rest lines cut n is) most_together few

  lasts : Survives (state g old.depot) (state g new.depot) (MayLeaveIn (Together (lines_of cut)) (state g old.depot) old.host new.host)
  lasts =
      more_left (state g old.depot) (state g new.depot) (λ db made. (map command_of mails, cut_files, made))
      (subst (λ (ms : List Mail). Survives (state g old.depot) (state g new.depot) (MayLeaveAll (map command_of ms) (state g old.depot))) same2 survives)

  -- they were withdrawn since it refused them
  pub withdrawn_late : 0 < length mails → (HasCleanDisk (state g new.depot) → LeavesUnchanged (state g old.depot) (state g new.depot)) → new.out ≡ old.out → Happens g name format (Withdrawn (lines_of cut)) Whole old new
  withdrawn_late some unchanged out = record {
    come = record {
      some = omega (arith, some, length-map mails command_of, as_many (lines_of cut) (map command_of mails) old.host new.host cut_files);
      few = cut_few;
      files = record { read = lines_of cut; later = []; are = sym (append-nil (lines_of cut)); commands = map command_of mails; mid = new.host; files = cut_files; stops = inl refl };
      unchanged = unchanged;
      out = out;
    };
    outlasts = lasts;
  }

  -- they were done
  pub answered_together : (writing : Writing) (filed : List (List Listing))
      → (HasCleanDisk (state g new.depot) → DoesAll (map command_of mails2) (map Listed filed) (state g old.depot) (state g new.depot))
      → (wording : Wording) → Suits format wording → HasWritten writing (flat_map (filed_in wording) filed) old.out new.out
      → Happens g name format (Together (lines_of cut)) writing old new
  answered_together writing filed done wording suits written = record {
    come = record {
      few = cut_few;
      commands = map command_of mails;
      files = cut_files;
      filed = filed;
      done = subst (λ (ms : List Mail). HasCleanDisk (state g new.depot) → DoesAll (map command_of ms) (map Listed filed) (state g old.depot) (state g new.depot)) same2 done;
      wording = wording;
      suits = suits;
      written = written;
    };
    outlasts = lasts;
  }

-- ---- answers

-- what holds anyway holds where there is nothing
pub on_none : {A P : Type 0} (r : Option A) → P → IfNone r P
on_none None p = p
on_none (Some x) p = tt

-- replies of deliveries list what was filed
replies_filed : (replies : List (Vec EntryRow Global)) → map reply_of replies ≡ map Listed (map filed_by replies)
replies_filed [] = refl
replies_filed (rows ∷ replies) = ap (λ others. Listed (filed_by rows) ∷ others) (replies_filed replies)

pub done_as : (commands commands2 : List Command) (replies : List (Vec EntryRow Global)) (old new : State) → commands ≡ commands2 → DoesAll commands (map reply_of replies) old new
    → DoesAll commands2 (map Listed (map filed_by replies)) old new
done_as commands commands2 replies old new same does =
    subst (λ rs. DoesAll commands2 rs old new) (replies_filed replies) (subst (λ cs. DoesAll cs (map reply_of replies) old new) same does)
