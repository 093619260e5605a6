-- A function that moves the pointer and the allocator of one struct into another, with all that they own. The structs'
-- names don't matter: each owns what a slot of the value's type owns.
use Rattle.std.proofs.Common.{◌≡◌, List, [], ◌∷◌, ◌++◌, refl, sym, subst}
use seplogic.Ra.Ura.{Ura}
use mir.Syntax.{Callee, Fn, Sym, Ty, aggregate, assign, copy, field, local, place, return, rv_opd, seq, tcons, tnil, ty_ptr, ty_struct, value_local}
use mir.Val.{Val}
use base.Logic.{SProp, ent, emp, id⊢}
use base.Fml.{fsep, ftrue}
use prog.Model.{Model}
use prog.Wp.{Calls, Closed, Loops, WpFn}
use types.Logic.{Logic, sem}
use types.Kit.{‵, raw, ◌⊛◌, ◌$◌, ◌∵◌, !, qed, by, move, keep, split, fsplit, fjoin, use0, use1, suffices, done}
use types.Part.{agg, sub, whole}
use types.Run.{stop, fld, of_opd, no_more, and_then, returns, enter}
use types.ByLocal.{alloc_all, pass_all, free_all, look_at, get, get_in, sets}
use contract.Running.{MachineTables, Running, tables}
use denote.Exit.{Kept, Last, see}
use denote.RattleType.{RattleType}
use denote.Signature.{plain}
use denote.Steps.{nothing}
use denote.Triple.Clauses.{Clauses, Ended, Lasts, closing}
use denote.Triple.Entry.{Args, alive}
use denote.Triple.Spec.{Meets}
use denote.Triple.Walked.{Goes-dropped, Silent, Stays, stay_dropped, walk_of}
use Rattle.std.proofs.alloc.Calls.{α}
use Rattle.std.proofs.raw_atomic.Walks.{leaves, proved_at}
use Rattle.ac_c.proofs.slot.SlotSteps.{S, global, word, pointer_fits, word_fits, slot_out, slot_in}

abbrev two : Sym → Ty
two name = ty_struct name (tcons ty_ptr (tcons (α global) tnil))

-- the pointer is copied once more because its type changes
abbrev pub moving : Sym → Sym → Fn
moving from to = record {
  lifetimes = 0;
  outlives = [];
  ty_params = [];
  givens = 0;
  params = 1;
  locals = local (two to) value_local ∷ local (two from) value_local ∷ local ty_ptr value_local
      ∷ local (α global) value_local ∷ local ty_ptr value_local ∷ [];
  body = seq (assign (place 2 []) (rv_opd (copy (place 1 (field 0 ∷ [])))))
      (seq (assign (place 3 []) (rv_opd (copy (place 1 (field 1 ∷ [])))))
      (seq (assign (place 4 []) (rv_opd (copy (place 2 []))))
      (seq (assign (place 0 []) (aggregate (copy (place 4 []) ∷ copy (place 3 []) ∷ []))) return)));
}

runs : {M : Type 1} {𝓤 : Ura M} (𝓛 : Logic 𝓤) (C : Calls 𝓤 𝓛.H) (Λ : Loops 𝓤 𝓛.H) (from to : Sym) (R : RattleType)
    (d : (S R).Denot) (us : List Val) (Post : Val → SProp 𝓤)
    → ((h : Val) → ent 𝓤 (sem 𝓛 ((S R).own_val d (word d.at h ∷ []))) (Post (word d.at h)))
    → ent 𝓤 (sem 𝓛 ((S R).own_val d us)) (WpFn 𝓤 𝓛.H C Λ (moving from to) (us ++ []) Post)
runs {M} {𝓤} 𝓛 C Λ from to R d us Post ends =
    let Run : List Val → SProp 𝓤 = λ vs. WpFn 𝓤 𝓛.H C Λ (moving from to) vs Post in
    qed 𝓛 (‵ ((S R).own_val d us) ∷ []) ∵
    slot_out R ! d us (λ h is fits. slot_in R ! d h $
    let w : Val = word d.at h in
    suffices ! (Run (w ∷ []))
    (subst (λ vs. ent 𝓤 (Run (w ∷ [])) (Run vs)) (sym (λ i. is i ++ [])) (id⊢ 𝓤 (Run (w ∷ [])))) $
    enter ! C Λ (moving from to) (w ∷ []) Post $ alloc_all ! (λ l. pass_all ! refl (word_fits d.at h fits, tt) $
    sets ! (of_opd ! (get_in ! (fld ! refl (stop !)) (sub ! 0 refl (whole !)))) refl (pointer_fits d.at)
    $ sets ! (of_opd ! (get_in ! (fld ! refl (stop !)) (sub ! 1 refl (whole !)))) refl fits $
    sets ! (of_opd ! (get ! refl)) refl (pointer_fits d.at)
    $ sets ! (agg ! (and_then ! (get ! refl) (and_then ! (get ! refl) (no_more !)))) refl (word_fits d.at h fits) $
    returns ! (look_at ! 0 refl) $ free_all ! refl $ by ! (ends h)))

-- from an A to a B, which are slots of a V by other names
abbrev pub moved : RattleType → RattleType → Kept → Ended
moved A B k =
    record {
      signature = record { lifetimes = 0; outlives = []; params = plain (λ _. A) ∷ []; result = plain (λ _. B) };
      kept = (k, tt);
    }

module _ {M : Type 1} {𝓤 : Ura M} (𝓛 : Logic 𝓤) (𝓜 : Model 𝓤 𝓛.H) (𝓡 : Running 𝓤 𝓛.H 𝓜) (V A B : RattleType)
    (k : Kept) where
  abbrev 𝓣 : MachineTables 𝓤 𝓛.H 𝓜
  𝓣 = tables 𝓤 𝓛.H 𝓜 𝓡 𝓡.env

  abbrev T : Ended
  T = moved A B k

  abbrev hs : Stays T.signature.params T.kept
  hs = (stay_dropped (plain (λ _. A)) k, tt)

  pub moves : (c : Clauses 𝓤 T) (f : Callee) (from to : Sym) → Closed 𝓤 𝓛.H 𝓣.C 𝓣.Λ f (moving from to)
      → (slot : A.Denot → (S V).Denot) (made : A.Denot → B.Denot)
      → ((x : A.Denot) (us : List Val)
      → (A.own_val x us ≡ (S V).own_val (slot x) us) × (B.own_val (made x) us ≡ (S V).own_val (slot x) us))
      → (last : (x : A.Denot) → Last (A.exit k) x) → Silent 𝓛 0 (plain (λ _. A)) k
      → ((κs : Unit {0}) (a : Args T.signature κs) (g : (c κs a).ghost)
      → ent 𝓤 (emp 𝓤) ((c κs a).ensures g (made a.0) (see (A.exit k) a.0 (last a.0), tt)))
      → Meets 𝓛 T.signature (𝓣.C f) (closing 𝓛 T c)
  moves c f from to closed slot made are last silent holds =
      proved_at 𝓛 T hs c 𝓜 𝓡 (Goes-dropped 𝓛 0 (plain (λ _. A)) k silent, tt) f (moving from to) closed (λ y _.
      let x = y.0.3.0 in let us = y.0.4.0 in let w : Lasts T y.0.0 y.0.3 = (last x, tt) in
      qed 𝓛 ((raw (alive 𝓛 T.signature y.0.0 y.0.1) ⊛ ‵ (fsep (A.own_val x us) ftrue))
      ∷ raw ((c y.0.0 y.0.3).requires y.1) ∷ []) ∵ keep ! (0 ∷ []) $ split ! $ move ! (1 ∷ []) $ fsplit !
      $ keep ! (0 ∷ []) $
      use1 𝓛 (‵ ((S V).own_val (slot x) us))
      (subst (λ P. ent 𝓤 (sem 𝓛 (A.own_val x us)) (sem 𝓛 P)) (are x us).0 (id⊢ 𝓤 _)) $
      by ! (runs 𝓛 𝓣.C 𝓣.Λ from to V (slot x) us ((walk_of 𝓛 T hs c).post y) (λ h.
      let v = word (slot x).at h in
      qed 𝓛 (‵ ((S V).own_val (slot x) (v ∷ [])) ∷ []) ∵ suffices ! _ (leaves 𝓛 T hs c y v (made x) w (tt, tt)) $
      use1 𝓛 (‵ (B.own_val (made x) (v ∷ [])))
      (subst (λ P. ent 𝓤 (sem 𝓛 P) (sem 𝓛 (B.own_val (made x) (v ∷ [])))) (are x (v ∷ [])).1 (id⊢ 𝓤 _)) $
      use0 𝓛 (raw ((c y.0.0 y.0.3).ensures y.1 (made x) (see (A.exit k) x (last x), tt))) (holds y.0.0 y.0.3 y.1)
      $ nothing ! $ nothing ! $ fjoin ! $ use0 𝓛 (raw (alive 𝓛 T.signature y.0.0 y.0.1)) (id⊢ 𝓤 (emp 𝓤)) $
      move ! (0 ∷ 1 ∷ 3 ∷ 2 ∷ []) $ done !)))
