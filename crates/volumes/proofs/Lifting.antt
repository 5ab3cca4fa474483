-- Sessions over the files of one volume are sessions over those of all, one after another.
use Rattle.std.proofs.Common.{◌≡◌, inl, inr, Bool, List, [], ◌∷◌, ◌++◌, Option, None, Some, refl, sym, ap, subst}
use Rattle.std.specs.List.{AllZip}
use Rattle.std.proofs.Math.Logic.{∥∥₁_elim, ∥∥₁_map}
use Rattle.sqlite.specs.Recovery.{Image}
use Rattle.part_store.specs.Entries.{Entries}
use Rattle.part_store.specs.Opening.{HoldsState}
use Rattle.depot_actions.specs.DepotState.{Accepts, Catalog, Command, Deliver, Export, ListAll, ListSince, Migrate, ProgramOf, Remove, Reply, SetCode, SetScript}
use Rattle.depot_actions.specs.History.{IsStep}
use Rattle.depot_actions.specs.Runs.{HoldsAfter, IsRunStep, IsSessionStep, Leads, NotOpened, Ran, Session}
use Rattle.volumes.specs.Folders.{AreChanges, HasBegun, HoldAfter, HoldAfterAll, HoldVolumes, IsOver, IsOverOne, IsChange, Change}
use Rattle.volumes.specs.OnVolumes.{AcceptOnVolumes, AcceptsOnOne, IsDoneOn}
use Rattle.volumes.specs.Volumes.{AreVolumes, begun, current, whole}
use Rattle.volumes.proofs.Stepping.{accepts_whole, volumes_after}
use Rattle.volumes.proofs.Whole.{begins_after, begins_whole}

module _ (es : List Entries) (v new : Entries) (ls : List Entries) where
  abbrev before : List Entries
  before = es ++ v ∷ ls

  abbrev after : List Entries
  after = es ++ new ∷ ls

  on_one : (command : Command) (reply : Reply) → IsDoneOn command es v ls → Accepts v command reply new → AcceptsOnOne before command reply after
  on_one command reply on accepts = record { earlier = es; old = v; new = new; later = ls; were = refl; on = on; accepts = accepts; are = refl }

  pub on_volumes : (command : Command) (reply : Reply) → IsDoneOn command es v ls → Accepts v command reply new → AcceptOnVolumes before command reply after
  on_volumes (SetScript user script) reply on accepts = on_one (SetScript user script) reply on accepts
  on_volumes (SetCode user program) reply on accepts = on_one (SetCode user program) reply on accepts
  on_volumes (Deliver user message) reply on accepts = on_one (Deliver user message) reply on accepts
  on_volumes (ListAll user) reply on accepts = absurd on
  on_volumes (ListSince user number) reply on accepts = absurd on
  on_volumes (Catalog user number) reply on accepts = absurd on
  on_volumes (ProgramOf user) reply on accepts = on_one (ProgramOf user) reply on accepts
  on_volumes (Export user number encoding) reply on accepts = on_one (Export user number encoding) reply on accepts
  on_volumes (Remove user number) reply on accepts = on_one (Remove user number) reply on accepts
  on_volumes Migrate reply on accepts = on_one Migrate reply on accepts

  module _ (are : AreVolumes before) where
    same_whole : new ≡ v → whole after ≡ whole before
    same_whole same = ap (λ e. whole (es ++ e ∷ ls)) same

    still_volumes : new ≡ v → AreVolumes after
    still_volumes same = subst (λ e. AreVolumes (es ++ e ∷ ls)) (sym same) are

    step_whole : (command : Command) (reply : Option Reply) → IsDoneOn command es v ls → IsStep command reply v new → IsStep command reply (whole before) (whole after)
    step_whole command None on same = same_whole same
    step_whole command (Some reply) on accepts = accepts_whole before after command reply are (on_volumes command reply on accepts)

    session_whole : (session : Session) → IsOver session es v ls → IsSessionStep session v new → IsSessionStep session (whole before) (whole after)
    session_whole NotOpened over same = same_whole same
    session_whole (Ran command reply is_open) on step = record {
      either = elim step.either [
        | inl same ↦ inl (same_whole same)
        | inr (told, accepts) ↦ inr (told, accepts_whole before after command told are (on_volumes command told on accepts))
      ];
      told = λ open_still. step_whole command reply on (step.told open_still);
    }

    session_volumes : (session : Session) → IsOver session es v ls → IsSessionStep session v new → AreVolumes after
    session_volumes NotOpened over same = still_volumes same
    session_volumes (Ran command reply is_open) on step = elim step.either [
      | inl same ↦ still_volumes same
      | inr (told, accepts) ↦ volumes_after before after command told are (on_volumes command told on accepts)
    ]

-- ---- files

-- the volumes that files stand for, where one of the files is named
record Parted (earlier : List Image) (was : Image) (later : List Image) (vs : List Entries) : Type 0 where
  es : List Entries
  v : Entries
  ls : List Entries
  are : vs ≡ es ++ v ∷ ls
  before : AllZip HoldsState earlier es
  here : HoldsState was v
  after : AllZip HoldsState later ls

parted : (earlier : List Image) (was : Image) (later : List Image) (vs : List Entries) → AllZip HoldsState (earlier ++ was ∷ later) vs → Parted earlier was later vs
parted [] was later [] holds = absurd holds
parted [] was later (v ∷ vs) holds = record { es = []; v = v; ls = vs; are = refl; before = tt; here = holds.0; after = holds.1 }
parted (i ∷ earlier) was later [] holds = absurd holds
parted (i ∷ earlier) was later (v ∷ vs) holds =
    let rest = parted earlier was later vs holds.1 in
    record { es = v ∷ rest.es; v = rest.v; ls = rest.ls; are = ap (λ others. v ∷ others) rest.are; before = (holds.0, rest.before); here = rest.here; after = rest.after }

-- one of the files is changed
held_joined : (earlier : List Image) (es : List Entries) (image : Image) (v : Entries) (later : List Image) (ls : List Entries)
    → AllZip HoldsState earlier es → HoldsState image v → AllZip HoldsState later ls → AllZip HoldsState (earlier ++ image ∷ later) (es ++ v ∷ ls)
held_joined [] [] image v later ls front holds back = (holds, back)
held_joined [] (e ∷ es) image v later ls front holds back = absurd front
held_joined (i ∷ earlier) [] image v later ls front holds back = absurd front
held_joined (i ∷ earlier) (e ∷ es) image v later ls front holds back = (front.0, held_joined earlier es image v later ls front.1 holds back)

session_lifts : (session : Session) (old new : List Image) → IsOverOne session old new → (vs : List Entries) → HoldVolumes old vs → ∥ HoldAfter (Some session) vs new ∥₁
session_lifts session old new one vs holds =
    let parts = parted one.earlier one.was one.later vs (subst (λ images. AllZip HoldsState images vs) one.were holds.0) in
    let are = subst AreVolumes parts.are holds.1 in
    let over = one.over parts.es parts.v parts.ls parts.before parts.here parts.after are in
    ∥∥₁_map (one.leads parts.v parts.here) (λ made.
    let step = session_whole parts.es parts.v made.0 parts.ls are session over made.1 in
    let r : HoldAfter (Some session) vs new = (
      parts.es ++ made.0 ∷ parts.ls,
      subst (λ e. IsSessionStep session e (whole (parts.es ++ made.0 ∷ parts.ls))) (sym (ap whole parts.are)) step,
      (
        subst (λ images. AllZip HoldsState images (parts.es ++ made.0 ∷ parts.ls)) (sym one.are) (held_joined one.earlier parts.es one.is made.0 one.later parts.ls parts.before made.2 parts.after),
        session_volumes parts.es parts.v made.0 parts.ls are session over made.1,
      ),
    ) in r)

next_joined : (images : List Image) (vs : List Entries) (image : Image) (v : Entries) → AllZip HoldsState images vs → HoldsState image v → AllZip HoldsState (images ++ image ∷ []) (vs ++ v ∷ [])
next_joined [] [] image v holds next = (next, tt)
next_joined [] (w ∷ vs) image v holds next = absurd holds
next_joined (i ∷ images) [] image v holds next = absurd holds
next_joined (i ∷ images) (w ∷ vs) image v holds next = (holds.0, next_joined images vs image v holds.1 next)

begun_lifts : (old new : List Image) → HasBegun old new → (vs : List Entries) → HoldVolumes old vs → ∥ HoldAfter None vs new ∥₁
begun_lifts old new begins vs holds =
    ∥∥₁_map (begins.begins vs holds) (λ next.
    let r : HoldAfter None vs new = (
      vs ++ begun (current vs) ∷ [],
      begins_whole vs,
      (
        subst (λ images. AllZip HoldsState images (vs ++ begun (current vs) ∷ [])) (sym begins.are) (next_joined old vs begins.next (begun (current vs)) holds.0 next),
        begins_after vs holds.1,
      ),
    ) in r)

pub led_steps : (session : Option Session) (old new : List Image) → IsChange session old new → (vs : List Entries) → HoldVolumes old vs → ∥ HoldAfter session vs new ∥₁
led_steps None old new led vs holds = begun_lifts old new led vs holds
led_steps (Some session) old new led vs holds = session_lifts session old new led vs holds

pub past_folds : (past : List Change) (images : List Image) (vs : List Entries) → HoldVolumes images vs → AreChanges images past → ∥ HoldAfterAll images past vs ∥₁
past_folds [] images vs holds led = ∣ (vs, refl, holds) ∣₁
past_folds (one ∷ others) images vs holds (led, more) = ∥∥₁_elim (led_steps one.session images one.left led vs holds) squash₁ (λ made.
    ∥∥₁_map (past_folds others one.left made.0 made.2 more) (λ fold. let r : HoldAfterAll images (one ∷ others) vs = (fold.0, (whole made.0, made.1, fold.1), fold.2) in r))

-- a list leaves each volume as it is
list_leaves : (command : Command) → ((v new : Entries) (told : Reply) → Accepts v command told new → new ≡ v) → (v new : Entries) (reply : Option Reply) (is_open : Bool) → IsRunStep command reply is_open v new → new ≡ v
list_leaves command looks v new reply is_open step = elim step.either [ inl same ↦ same | inr (told, accepts) ↦ looks v new told accepts ]

pub list_spares : (command : Command) → ((v new : Entries) (told : Reply) → Accepts v command told new → new ≡ v) → (was is : Image) (reply : Option Reply) (is_open : Bool) → Leads (Ran command reply is_open) was is → Leads NotOpened was is
list_spares command looks was is reply is_open leads v holds =
    ∥∥₁_map (leads v holds) (λ made.
    let r : HoldsAfter NotOpened v is = (made.0, list_leaves command looks v made.0 reply is_open made.1, made.2) in r)
