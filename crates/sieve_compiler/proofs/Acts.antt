-- The instruction of each act: it is no bracket, it keeps the rules at its place, and its effect is what the act does.
use Rattle.std.proofs.Common.{◌≡◌, ℕ, ◌<◌, ◌≤◌, ◌^◌, Bool, true, false, bytes_eq, nat_lt, List, [], ◌∷◌, ◌++◌, Option, Some, map, take, length, refl, sym, ap, subst, ◌∙◌, arith, if◌then◌else◌}
use Rattle.std.proofs.lemmas.Bool.{lt-ltb, le-leb}
use Rattle.std.proofs.lemmas.List.{length-map}
use Rattle.std.proofs.lemmas.Option.{slice_get_within}
use Rattle.octets.specs.Limits.{max_loops, max_value}
use Rattle.octets.specs.Once.{is_listed}
use Rattle.octets.proofs.Once.{place_within}
use Rattle.bytecode_format.specs.declared.action.Action.{Action}
use Rattle.bytecode_format.specs.declared.action.Action.TheVariants as action
use Rattle.bytecode_format.specs.declared.instruction.Instruction.{Instruction}
use Rattle.bytecode_format.specs.Modifiers.{modified}
use Rattle.bytecode_format.specs.Operations.{operation_of}
use Rattle.bytecode_format.specs.Spelling.{Fits}
use Rattle.bytecode_format.proofs.ModifierLemmas.{number_again, number_small}
use Rattle.bytecode_verifier.specs.Rows.{row_named, is_well_formed, is_jump}
use Rattle.bytecode_verifier.specs.Shape.{Entries}
use Rattle.bytecode_verifier.proofs.Open.{inside}
use Rattle.mime_decode.specs.Mail.{Mail}
use Rattle.sieve_check.specs.declared.typed.Act.{Act}
use Rattle.sieve_check.specs.declared.typed.Act.TheVariants.{Keep, Set, Take, Store, Leave, Stop}
use Rattle.sieve_check.specs.Acts.{act_row, act_strings}
use Rattle.sieve_check.specs.Bounded.{IsBoundedAct}
use Rattle.sieve_check.specs.Typed.{Template, CommandForms}
use Rattle.sieve_check.specs.Variables.{commands_variables}
use Rattle.mail_matching.specs.Questions.{current}
use Rattle.sieve_meaning.specs.Meaning.{Effects, expanded, all_expanded, with_taken, with_value, Ending, normal, stopped, broken, stored, act_does}
use Rattle.sieve_vm.specs.State.{State, current_part}
use Rattle.sieve_vm.specs.Machine.{Effect, on, referred_in, store_part, set_content}
use Rattle.sieve_compiler.specs.Growing.{uses_with}
use Rattle.sieve_compiler.specs.Tables.{Tables, tables_of, place_of_variable}
use Rattle.sieve_compiler.specs.Coding.{act_code, code_of, written_version}
use Rattle.sieve_compiler.proofs.Known.{Has, found_variable}
use Rattle.sieve_compiler.proofs.OnStack.{effect_of, OnPart, with_part_is, onto}
use Rattle.sieve_compiler.proofs.PushedTexts.{bound_of, pushed}
use Rattle.sieve_compiler.proofs.Values.{variable_set, name_itself}
use Rattle.sieve_compiler.proofs.Sound.{is_bracket, left_by, leaves, standing, IsKnown, KeepsLoops, IsSound, TurnsInto}

pub one_at_most : (act : Act) (string : Template) → length (act_strings act string) ≤ 1
one_at_most act string = go (act_row act).string
  where
    go : (b : Bool) → length (if b then string ∷ [] else []) ≤ 1
    go true = omega arith
    go false = omega arith

module _ (tables : Tables) where
  pub act_flat : (act : Act) → is_bracket (operation_of (act_code tables act).op) ≡ false
  act_flat Keep = refl
  act_flat _ = refl

  no_jump : (act : Act) → is_jump (row_named written_version (act_code tables act).op) ≡ false
  no_jump Keep = refl
  no_jump _ = refl

  -- it leaves no entry
  pub act_leaves : (act : Act) (entries : Entries) → left_by tables (Some (act_code tables act)) entries ≡ []
  act_leaves Keep entries = refl
  act_leaves _ entries = refl

  -- the variable that it sets is in its table
  known_index : (act : Act) → Has tables (uses_with [] [] (act_row act).sets) → IsKnown tables (operation_of (act_code tables act).op) (act_code tables act)
  known_index (Set modifiers name) has = (name, found_variable tables name [] [] has)
  known_index (Take most name) has = (name, found_variable tables name [] [] has)
  known_index _ has = tt

  -- it has the loops that it needs
  keeps_loops : (all : List Instruction) (place : ℕ) (act : Act) → (act_row act).loops ≤ length (inside all place) → KeepsLoops all place (operation_of (act_code tables act).op) (act_code tables act)
  keeps_loops all place (Take most name) deep = omega (arith, deep)
  keeps_loops all place Store deep = omega (arith, deep)
  keeps_loops all place (Leave loops) deep = deep
  keeps_loops all place _ deep = tt

  -- its fields are in their ranges, where no more loops are open than may be
  pub act_formed : (act : Act) → IsBoundedAct act → (act_row act).loops ≤ max_loops → is_well_formed (row_named written_version (act_code tables act).op) (act_code tables act) ≡ true
  act_formed (Set modifiers name) h few = rw (number_again modifiers) refl
  act_formed (Take most name) h few = rw (le-leb 1 most (omega (arith, h.0)), le-leb most max_value h.1) refl
  act_formed (Leave loops) h few = rw (le-leb 1 loops (omega (arith, h)), le-leb loops max_loops few) refl
  act_formed _ h few = refl

  -- and within the limits of a program
  pub act_fits : (act : Act) → IsBoundedAct act → (act_row act).loops ≤ max_loops → length tables.variables < 2 ^ 32 → Fits (act_code tables act)
  act_fits (Set modifiers name) h few small = record { op = omega arith; a = omega (arith, number_small modifiers); b = omega arith; c = omega (arith, place_within bytes_eq tables.variables name, small) }
  act_fits (Take most name) h few small = record { op = omega arith; a = omega arith; b = omega (arith, h.1); c = omega (arith, place_within bytes_eq tables.variables name, small) }
  act_fits (Leave loops) h few small = record { op = omega arith; a = omega (arith, few); b = omega arith; c = omega arith }
  act_fits _ h few small = record { op = omega arith; a = omega arith; b = omega arith; c = omega arith }

  -- it takes the entry of its string
  turns_into : (act : Act) (string : Template)
      → TurnsInto tables (operation_of (act_code tables act).op) (act_code tables act) (pushed (map bound_of (act_strings act string)) []) []
  turns_into Keep string = λ code same. refl
  turns_into _ string = λ code same. refl

  pub act_sound : (all : List Instruction) (last place : ℕ) (act : Act) (string : Template) → IsBoundedAct act → Has tables (uses_with [] [] (act_row act).sets) → (act_row act).loops ≤ length (inside all place) → length (inside all place) ≤ max_loops
      → standing tables all place ≡ pushed (map bound_of (act_strings act string)) [] → IsSound all tables last place (act_code tables act)
  act_sound all last place act string h has deep few start = record {
    form = act_formed act h (omega (arith, deep, few));
    loops = keeps_loops all place act deep;
    index = known_index act has;
    jump = λ e. let none = no_jump act in absurd (cc);
    stack =
        subst (λ entries. TurnsInto tables (operation_of (act_code tables act).op) (act_code tables act) entries (leaves tables (operation_of (act_code tables act).op) (act_code tables act) (standing tables all place))) (sym start)
        (subst (λ after. TurnsInto tables (operation_of (act_code tables act).op) (act_code tables act) (pushed (map bound_of (act_strings act string)) []) after) (sym (act_leaves act (standing tables all place))) (turns_into act string));
  }

-- in a state of the machine, whose current part, if there is one, is one of the message
module _ (script : CommandForms) (mail : Mail) (state : State) (held : 0 < length state.frames → OnPart mail (current_part state.frames)) where
  abbrev own : Tables
  own = tables_of script

  abbrev part : Option ℕ
  part = current_part state.frames

  -- the same after these effects, with these texts on the stack
  abbrev stacked : Effects → List (List ℕ) → State
  stacked e texts =
      record state { stack = onto texts []; variables = map e.variables own.variables; captures = e.captures; actions = e.actions; implicit_keep = e.implicit_keep }

  -- what an effect is, where commands go on
  abbrev pub Goes : Ending → Effect → Type 0
  Goes (normal f) x = x ≡ on (stacked f [])
  Goes (stopped f) x = Unit {0}
  Goes (broken n f) x = Unit {0}

  is_known : (name : List ℕ) → Has own (uses_with [] [] (name ∷ [])) → is_listed bytes_eq name own.variables ≡ true
  is_known name has = has.variables name (name_itself name)

  has_place : (e : Effects) (name : List ℕ) → Has own (uses_with [] [] (name ∷ [])) → nat_lt (place_of_variable own name) (length (map e.variables own.variables)) ≡ true
  has_place e name has =
      let place = place_of_variable own name in
      let inside : place < length own.variables = slice_get_within own.variables place name (found_variable own name [] [] has) in
      lt-ltb place (length (map e.variables own.variables)) (omega (arith, inside, length-map own.variables e.variables))

  with_taken_is : (most : ℕ) (name : List ℕ) (e : Effects) (p : OnPart mail part) → with_value name (take most p.found.content) e.variables ≡ with_taken most name (current mail part) e.variables
  with_taken_is most name e p = sym (rw (p.is, p.here) refl)

  pub act_effect : (act : Act) (e : Effects) (string : Template) → Has own (uses_with [] [] (act_row act).sets) → (act_row act).loops ≤ length state.frames
      → Goes (act_does mail part act (expanded e string) e) (effect_of (referred_in (code_of script)) mail (operation_of (act_code own act).op) (act_code own act) (stacked e (all_expanded e (act_strings act string))))
  act_effect (Set modifiers name) e string has deep =
      rw (number_again modifiers, has_place e name has, variable_set (commands_variables script) e.variables name (take max_value (modified modifiers (expanded e string))) (is_known name has)) refl
  act_effect (Take most name) e string has deep =
      let on_part = held (omega (arith, deep)) in
      let i = act_code own (Take most name) in
      let text = take most on_part.found.content in
      let set : set_content i on_part.number on_part.found (stacked e []) ≡ on (stacked (record e { variables = with_value name text e.variables }) []) =
      rw (has_place e name has, variable_set (commands_variables script) e.variables name text (is_known name has)) refl in
      with_part_is (set_content i) mail (stacked e []) state.frames on_part
      ∙ set
      ∙ ap (λ (variables : List ℕ → List ℕ). on (stacked (record e { variables = variables }) [])) (with_taken_is most name e on_part)
  act_effect Store e string has deep =
      let on_part = held (omega (arith, deep)) in
      let folder = expanded e string in
      let is : action.Store folder on_part.number ∷ [] ≡ stored part folder = sym (ap (λ o. stored o folder) on_part.is) in
      with_part_is store_part mail (stacked e (folder ∷ [])) state.frames on_part
      ∙ ap (λ (more : List Action). on (stacked (record e { actions = e.actions ++ more }) [])) is
  act_effect (Leave loops) e string has deep = tt
  act_effect Stop e string has deep = tt
  act_effect _ e string has deep = refl
