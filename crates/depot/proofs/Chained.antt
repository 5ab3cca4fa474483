-- Turns that a depot is taken through are turns of something else that goes beside it.
use Rattle.std.proofs.Common.{◌≡◌, ◌⊎◌, ap, inl, inr, ℕ, List, [], ◌∷◌, length, sym, subst}
use Rattle.devices.specs.Device.{Output}
use Rattle.devices.specs.Supply.{Supply}
use Rattle.depot_batch.specs.Effects.{DepotAndOutput, depot_and_output}
use Rattle.depot_batch.specs.Turns.{AreTakenBy, EndsBy, HasServedBy, Turn, Writing}
use Rattle.depot_batch.specs.declared.format.Format.{Format}
use Rattle.depot.specs.Batches.{LastIs, OneIs}

-- How turns go on a depot, and on what goes beside it, with the same host and output; when the depot is sound; what a
-- turn makes, by what goes beside it before and after; and when that fits the depot, where so much was made.
module _ {D E V : Type 0} (Happens : Turn → Writing → DepotAndOutput D → DepotAndOutput D → Type 0)
    (Others : Turn → Writing → DepotAndOutput E → DepotAndOutput E → Type 0)
    (Sound : D → Type 0) (Makes : V → Turn → DepotAndOutput E → DepotAndOutput E → Type 0) (Fits : (V → Type 0) → D → E → Type 0) where
  abbrev beside : E → DepotAndOutput D → DepotAndOutput E
  beside e at = depot_and_output e at.host at.out

  -- what goes beside the depot had this, too, and fits it after that, with what was made until then
  pub record Beside (Other : DepotAndOutput E → Type 0) (Made : DepotAndOutput E → V → Type 0) (new : DepotAndOutput D) : Type 0 where
    pub after : E
    pub other : Other (beside after new)
    pub fits : Fits (Made (beside after new)) new.depot after

  -- What is known of a turn: what is sound after it was sound before, and what goes beside the depot has it, too.
  pub record Follows : Type 1 where
    pub sound : (turn : Turn) (writing : Writing) (old new : DepotAndOutput D) → Happens turn writing old new → Sound new.depot → Sound old.depot
    pub widen : (Made More : V → Type 0) (d : D) (e : E) → ((v : V) → Made v → More v) → Fits Made d e → Fits More d e
    pub step : (Made : V → Type 0) (turn : Turn) (writing : Writing) (old new : DepotAndOutput D) (e : E) → Fits Made old.depot e → Sound new.depot → Happens turn writing old new
        → Beside (Others turn writing (beside e old)) (λ after v. Made v ⊎ Makes v turn (beside e old) after) new

  module _ (follows : Follows) where
    -- nothing came to a depot: what fits it fits it still, with what may be made besides
    still : (Made More : V → Type 0) (old new : DepotAndOutput D) (e : E) → ((v : V) → Made v → More v) → new ≡ old → Fits Made old.depot e → Fits More new.depot e
    still Made More old new e more same fits = subst (λ (t : DepotAndOutput D). Fits More t.depot e) (sym same) (follows.widen Made More old.depot e more fits)

    -- ---- turns

    sound_all : (turns : List Turn) (input rest : Supply) (old new : DepotAndOutput D) → AreTakenBy Happens turns input rest old new → Sound new.depot → Sound old.depot
    sound_all [] input rest old new are sound = subst (λ (t : DepotAndOutput D). Sound t.depot) are.1 sound
    sound_all (turn ∷ turns) input rest old new are sound = follows.sound turn _ old are.1 are.3 (sound_all turns are.0 rest are.1 new are.5 sound)

    -- what goes beside the depot was taken through the turns, too, with what they made
    record Along (Made : V → Type 0) (turns : List Turn) (input rest : Supply) (old : DepotAndOutput E) (new : DepotAndOutput D) : Type 0 where
      after : E
      taken : AreTakenBy Others turns input rest old (beside after new)
      fits : Fits (λ v. Made v ⊎ OneIs (Makes v) Others turns input rest old (beside after new) taken) new.depot after

    regrouped : {A B C : Type 0} → (A ⊎ B) ⊎ C → A ⊎ (B ⊎ C)
    regrouped (inl (inl a)) = inl a
    regrouped (inl (inr b)) = inr (inl b)
    regrouped (inr c) = inr (inr c)

    along : (Made : V → Type 0) (turns : List Turn) (input rest : Supply) (old new : DepotAndOutput D) (e : E) → Fits Made old.depot e → AreTakenBy Happens turns input rest old new → Sound new.depot
        → Along Made turns input rest (beside e old) new
    along Made [] input rest old new e fits are sound = record {
      after = e;
      taken = (are.0, ap (beside e) are.1);
      fits = still Made (λ v. Made v ⊎ ⊥) old new e (λ v made. inl made) are.1 fits;
    }
    along Made (turn ∷ turns) input rest old new e fits are sound =
        let one = follows.step Made turn _ old are.1 e fits (sound_all turns are.0 rest are.1 new are.5 sound) are.3 in
        let mid = beside one.after are.1 in
        let later = along (λ v. Made v ⊎ Makes v turn (beside e old) mid) turns are.0 rest are.1 new one.after one.fits are.5 sound in
        record {
          after = later.after;
          taken = (are.0, mid, are.2, one.other, are.4, later.taken);
          fits = follows.widen (λ v. (Made v ⊎ Makes v turn (beside e old) mid) ⊎ OneIs (Makes v) Others turns are.0 rest mid (beside later.after new) later.taken)
              (λ v. Made v ⊎ (Makes v turn (beside e old) mid ⊎ OneIs (Makes v) Others turns are.0 rest mid (beside later.after new) later.taken)) new.depot later.after (λ v made. regrouped made) later.fits;
        }

    -- ---- the end

    module _ (status count : ℕ) (rest left : Supply) (err err2 : Output) where
      sound_end : (last : List Turn) (old new : DepotAndOutput D) → EndsBy Happens status count last rest left old new err err2 → Sound new.depot → Sound old.depot
      sound_end last old new (inl all) sound = subst (λ (t : DepotAndOutput D). Sound t.depot) all.3 sound
      sound_end last old new (inr (inl all)) sound = elim all.5 [ inl served ↦ follows.sound _ _ old new served.1 sound | inr broken ↦ follows.sound _ _ old new broken.1 sound ]
      sound_end last old new (inr (inr (inl all))) sound = follows.sound _ _ old new all.5 sound
      sound_end last old new (inr (inr (inr (inl all)))) sound = follows.sound all.1 _ old new all.4 sound
      sound_end last old new (inr (inr (inr (inr all)))) sound = subst (λ (t : DepotAndOutput D). Sound t.depot) all.6 sound

      module _ (Made : V → Type 0) (old new : DepotAndOutput D) (e : E) (fits : Fits Made old.depot e) (sound : Sound new.depot) where
        -- this is had, and it was made before, or is made in the last turn
        abbrev Last : List Turn → (DepotAndOutput E → Type 0) → Type 0
        Last last Other = Beside Other (λ after v. Made v ⊎ LastIs (Makes v) last (beside e old) after) new

        -- nothing came of an end without a turn
        idle : (last : List Turn) (Other : DepotAndOutput E → Type 0) → new ≡ old → Other (beside e new) → Last last Other
        idle last Other same other = record {
          after = e;
          other = other;
          fits = still Made (λ v. Made v ⊎ LastIs (Makes v) last (beside e old) (beside e new)) old new e (λ v made. inl made) same fits;
        }

        -- there was one
        final : (last : List Turn) (turn : Turn) (writing : Writing) (Other : DepotAndOutput E → Type 0) → last ≡ turn ∷ [] → Happens turn writing old new
            → ((after : E) → Others turn writing (beside e old) (beside after new) → Other (beside after new)) → Last last Other
        final last turn writing Other is happens so =
            let one = follows.step Made turn writing old new e fits sound happens in
            record {
              after = one.after;
              other = so one.after one.other;
              fits = subst (λ (turns : List Turn). Fits (λ v. Made v ⊎ LastIs (Makes v) turns (beside e old) (beside one.after new)) new.depot one.after) (sym is) one.fits;
            }

        ends : (last : List Turn) → EndsBy Happens status count last rest left old new err err2
            → Last last (λ after. EndsBy Others status count last rest left (beside e old) after err err2)
        ends last (inl all) = idle last _ all.3 (inl (all.0, all.1, all.2, ap (beside e) all.3, all.4))
        ends last (inr (inl all)) = elim all.5 [
          | inl served ↦ final last _ _ _ all.2 served.1 (λ after other. inr (inl (all.0, all.1, all.2, all.3, all.4, inl (served.0, other, served.2))))
          | inr broken ↦ final last _ _ _ all.2 broken.1 (λ after other. inr (inl (all.0, all.1, all.2, all.3, all.4, inr (broken.0, other, broken.2))))
        ]
        ends last (inr (inr (inl all))) = final last _ _ _ all.2 all.5 (λ after other. inr (inr (inl (all.0, all.1, all.2, all.3, all.4, other, all.6))))
        ends last (inr (inr (inr (inl all)))) = final last all.1 _ _ all.2 all.4 (λ after other. inr (inr (inr (inl (all.0, all.1, all.2, all.3, other, all.5)))))
        ends last (inr (inr (inr (inr all)))) = idle last _ all.6 (inr (inr (inr (inr (all.0, all.1, all.2, all.3, all.4, all.5, ap (beside e) all.6)))))

-- ---- the whole

module _ {D E V : Type 0} (Happens : Format → Turn → Writing → DepotAndOutput D → DepotAndOutput D → Type 0)
    (Others : Format → Turn → Writing → DepotAndOutput E → DepotAndOutput E → Type 0)
    (Sound : D → Type 0) (Makes : V → Turn → DepotAndOutput E → DepotAndOutput E → Type 0) (Fits : (V → Type 0) → D → E → Type 0)
    (follows : (format : Format) → Follows (Happens format) (Others format) Sound Makes Fits)
    (status : ℕ) (input input2 : Supply) (old new : DepotAndOutput D) (err err2 : Output) (was : HasServedBy Happens status input input2 old new err err2) (sound : Sound new.depot) where
  -- what goes beside the depot, with the same host and output
  abbrev with_output : E → DepotAndOutput D → DepotAndOutput E
  with_output e at = depot_and_output e at.host at.out

  abbrev these : Follows (Happens was.format) (Others was.format) Sound Makes Fits
  these = follows was.format

  sound_mid : Sound was.mid.depot
  sound_mid = sound_end (Happens was.format) (Others was.format) Sound Makes Fits these status (length was.turns) was.rest input2 err err2 was.last was.mid new was.ended sound

  pub sound_first : Sound old.depot
  sound_first = sound_all (Happens was.format) (Others was.format) Sound Makes Fits these was.turns was.begun was.rest old was.mid was.taken sound_mid

  -- what goes beside the depot was served the same, and fits it after all turns, with what one of them made
  pub record Both (e : E) : Type 0 where
    pub after : E
    pub served : HasServedBy Others status input input2 (with_output e old) (with_output after new) err err2
    pub fits : Fits (λ v. OneIs (Makes v) (Others served.format) served.turns served.begun served.rest (with_output e old) served.mid served.taken ⊎ LastIs (Makes v) served.last served.mid (with_output after new)) new.depot after

  some : {A B : Type 0} → (⊥ ⊎ A) ⊎ B → A ⊎ B
  some (inl (inl none)) = absurd none
  some (inl (inr a)) = inl a
  some (inr b) = inr b

  pub both : (e : E) → Fits (λ v. ⊥) old.depot e → Both e
  both e fits =
      let turns = along (Happens was.format) (Others was.format) Sound Makes Fits these (λ v. ⊥) was.turns was.begun was.rest old was.mid e fits was.taken sound_mid in
      let mid = with_output turns.after was.mid in
      let Made = λ (v : V). ⊥ ⊎ OneIs (Makes v) (Others was.format) was.turns was.begun was.rest (with_output e old) mid turns.taken in
      let end = ends (Happens was.format) (Others was.format) Sound Makes Fits these status (length was.turns) was.rest input2 err err2 Made was.mid new turns.after turns.fits sound was.last was.ended in
      record {
        after = end.after;
        served = record {
          format = was.format;
          turns = was.turns;
          begun = was.begun;
          rest = was.rest;
          mid = mid;
          taken = turns.taken;
          last = was.last;
          ended = end.other;
          begins = was.begins;
          progress = was.progress;
        };
        fits = these.widen (λ v. Made v ⊎ LastIs (Makes v) was.last mid (with_output end.after new))
            (λ v. OneIs (Makes v) (Others was.format) was.turns was.begun was.rest (with_output e old) mid turns.taken ⊎ LastIs (Makes v) was.last mid (with_output end.after new)) new.depot end.after (λ v made. some made) end.fits;
      }
