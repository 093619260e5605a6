-- A function that makes a struct which only contracts see. Beside its ghost fields the struct has one field, and that
-- is empty. The function returns the empty struct, whatever it is given, and its proof chooses the values of the ghost
-- fields. A proof calls the lemma for its function's parameters:
--     ghost_of_none      no parameter
--     ghost_of_one       `&Q`
--     ghost_of_two       `&Q` and `&P`
--     ghost_of_bytes     `&Q` and `&[u8]`
use Rattle.std.proofs.Common.{◌≡◌, ℕ, List, [], ◌∷◌, length, refl, sym, subst, ◌+◌}
use seplogic.Ra.Ura.{Ura}
use lib.Dec.{T as True}
use mir.Syntax.{Callee, Fn, Local, Sym, Ty, aggregate, assign, copy, imm, local, named, place, return, seq, tcons, tnil, ty_ref, ty_struct, value_local}
use mir.Val.{Val, WT, has_ty, vptr}
use base.Logic.{SProp, ent, emp, via}
use base.Fml.{Fml, fsep, ftrue}
use prog.Model.{Model}
use prog.Wp.{Calls, Closed, Loops, WpFn}
use types.Logic.{Logic, sem}
use types.Kit.{‵, raw, ◌⊛◌, ◌$◌, ◌∵◌, !, qed, keep, move, split, fjoin, use0, suffices, done}
use types.Part.{agg}
use types.Run.{enter, returns, and_then, no_more}
use types.ByLocal.{alloc_all, pass_all, free_all, look_at, get, sets}
use contract.Lifetimes.{Lfts}
use contract.Running.{MachineTables, Running, tables}
use denote.Memory.{pointee}
use denote.RattleType.{RattleType, Valss, flat, owns}
use denote.Laws.{Are, Is, Ises, Spells, Tellss, valss}
use denote.Ref.{shr_vals, shr_Tells}
use denote.Slice.{slice_ty, slice_val, shr_slice_vals, shr_slice_Tells, shr_slice_Lawful}
use denote.Exit.{yes}
use denote.Steps.{nothing, owned}
use denote.Struct.Laws.{makes}
use denote.Builtin.{unit, u8}
use denote.Signature.{Signature, Slot, plain, shr_ref_to, shr_slice_of, type_at, types_at}
use denote.Triple.Clauses.{Clauses, Ended, Lasts, at_exit, closing, lasts}
use denote.Triple.Entry.{Args, Res, alive}
use denote.Triple.Spec.{Meets}
use denote.Triple.Walked.{Stays, has_of, walk_of}
use Rattle.std.proofs.raw_atomic.Walks.{leaves, proved}
use Rattle.std.specs.contracts.marker.PhantomData as Mark
use Rattle.bytes.proofs.Walks.{none, one, one_made, plainly}
use Rattle.ac_input.proofs.lemmas.ExitLemmas.{AllSilent, all_passed, passed_fit, passed_go, passed_has, silent_lasts}

-- ---- the code
abbrev typed : Ty → Local
typed σ = local σ value_local

abbrev locals_of : List Ty → Local → List Local
locals_of [] last = last ∷ []
locals_of (σ ∷ σs) last = typed σ ∷ locals_of σs last

-- n lifetimes, the parameters' types, and the names of the struct and of its field's type
abbrev pub making : ℕ → List Ty → Sym → Sym → Fn
making n σs name mark = record {
  lifetimes = n;
  outlives = [];
  ty_params = [];
  givens = 0;
  params = length σs;
  locals = typed (ty_struct name (tcons (ty_struct mark tnil) tnil)) ∷ locals_of σs (typed (ty_struct mark tnil));
  body = seq (assign (place (length σs + 1) []) (aggregate []))
      (seq (assign (place 0 []) (aggregate (copy (place (length σs + 1) []) ∷ []))) return);
}

module _ {M : Type 1} {𝓤 : Ura M} (𝓛 : Logic 𝓤) (C : Calls 𝓤 𝓛.H) (Λ : Loops 𝓤 𝓛.H) (n : ℕ) (name mark : Sym)
    (Post : Val → SProp 𝓤) where
  abbrev Runs : List Ty → List Val → Type 1
  Runs σs us = ent 𝓤 (Post (one none)) (WpFn 𝓤 𝓛.H C Λ (making n σs name mark) us Post)

  runs_none : Runs [] []
  runs_none =
      qed 𝓛 (raw (Post (one none)) ∷ []) ∵ enter ! C Λ (making n [] name mark) [] Post
      $ alloc_all ! (λ l. pass_all ! refl tt $
      sets ! (agg ! (no_more !)) refl (tt, tt)
      $ sets ! (agg ! (and_then ! (get ! refl) (no_more !))) refl (tt, (tt, tt)) $ returns ! (look_at ! 0 refl)
      $ free_all ! refl $ done !)

  runs_one : (σ : Ty) (u : Val) → True (has_ty σ u) × WT u → Runs (σ ∷ []) (u ∷ [])
  runs_one σ u fits =
      qed 𝓛 (raw (Post (one none)) ∷ []) ∵ enter ! C Λ (making n (σ ∷ []) name mark) (u ∷ []) Post
      $ alloc_all ! (λ l. pass_all ! refl (fits, tt) $
      sets ! (agg ! (no_more !)) refl (tt, tt)
      $ sets ! (agg ! (and_then ! (get ! refl) (no_more !))) refl (tt, (tt, tt)) $ returns ! (look_at ! 0 refl)
      $ free_all ! refl $ done !)

  runs_two : (σ τ : Ty) (u v : Val) → True (has_ty σ u) × WT u → True (has_ty τ v) × WT v
      → Runs (σ ∷ τ ∷ []) (u ∷ v ∷ [])
  runs_two σ τ u v fits ok =
      qed 𝓛 (raw (Post (one none)) ∷ []) ∵ enter ! C Λ (making n (σ ∷ τ ∷ []) name mark) (u ∷ v ∷ []) Post
      $ alloc_all ! (λ l. pass_all ! refl (fits, (ok, tt)) $
      sets ! (agg ! (no_more !)) refl (tt, tt)
      $ sets ! (agg ! (and_then ! (get ! refl) (no_more !))) refl (tt, (tt, tt)) $ returns ! (look_at ! 0 refl)
      $ free_all ! refl $ done !)

-- ---- contracts, by the parameters and the type R of the result
abbrev pub none_to : RattleType → Ended
none_to R =
    record { signature = record { lifetimes = 0; outlives = []; params = []; result = plain (λ _. R) }; kept = tt }

abbrev pub one_to : RattleType → RattleType → Ended
one_to Q R =
    record {
      signature =
          record {
            lifetimes = 1;
            outlives = [];
            params = shr_ref_to (0 ∷ []) tt (plain (λ _. Q)) ∷ [];
            result = plain (λ _. R);
          };
      kept = (yes, tt);
    }

abbrev after_one : RattleType → Slot 2 → RattleType → Ended
after_one Q s R = record {
  signature =
      record {
        lifetimes = 2;
        outlives = [];
        params = shr_ref_to (0 ∷ []) tt (plain (λ _. Q)) ∷ s ∷ [];
        result = plain (λ _. R);
      };
  kept = (yes, (yes, tt));
}

abbrev pub two_to : RattleType → RattleType → RattleType → Ended
two_to Q P = after_one Q (shr_ref_to (1 ∷ []) tt (plain (λ _. P)))

abbrev pub bytes_to : RattleType → RattleType → Ended
bytes_to Q = after_one Q (shr_slice_of (1 ∷ []) tt (plain (λ _. u8)))

-- the types of a `&` at the lifetime j and of a `&[u8]`, in the code
abbrev pub seen : ℕ → RattleType → Ty
seen j Q = ty_ref (named j) imm (pointee Q.written)

abbrev pub seen_bytes : Ty
seen_bytes = slice_ty (ty_ref (named 1) imm (pointee u8.written))

-- ---- what the struct owns
abbrev marked : Fml
marked = fsep ((plainly (Mark.the_row unit ∷ [])).own_val (record {}, tt) (one none ∷ [])) ftrue

abbrev pub IsMark : RattleType → Type 1
IsMark R = (r : R.Denot) → R.own_val r (one none ∷ []) ≡ marked

mark_made : {M : Type 1} {𝓤 : Ura M} (𝓛 : Logic 𝓤) (R : RattleType) → IsMark R → (r : R.Denot)
    → ent 𝓤 (emp 𝓤) (sem 𝓛 (R.own_val r (one none ∷ [])))
mark_made {𝓤 = 𝓤} 𝓛 R is r =
    subst (λ P. ent 𝓤 (emp 𝓤) (sem 𝓛 P)) (sym (is r)) (qed 𝓛 [] ∵
    nothing ! $ owned ! (Mark.the_row unit) (Is (Mark.the_row unit)) (makes (Mark.the_type unit) tt 𝓛) (record {})
    (none ∷ []) (tt, (refl, tt)) $
    one_made ! (Mark.the_row unit) (record {}) none $ fjoin ! $ done !)

-- ---- the function, by its code, its parameters and its result
module _ {M : Type 1} {𝓤 : Ura M} (𝓛 : Logic 𝓤) (𝓜 : Model 𝓤 𝓛.H) (𝓡 : Running 𝓤 𝓛.H 𝓜) where
  abbrev 𝓣 : MachineTables 𝓤 𝓛.H 𝓜
  𝓣 = tables 𝓤 𝓛.H 𝓜 𝓡 𝓡.env

  abbrev Code : Callee → Fn → Type 2
  Code k e = Closed 𝓤 𝓛.H 𝓣.C 𝓣.Λ k e

  module _ (T : Ended) (c : Clauses 𝓤 T) where
    abbrev S : Signature
    S = T.signature

    abbrev hs : Stays S.params T.kept
    hs = all_passed S.params T.kept

    ghost_of : AllSilent 𝓛 S.params T.kept → (k : Callee) (e : Fn) → Code k e
        → (sp : (κs : Lfts S.lifetimes) → Spells (types_at S.params κs))
        → ((κs : Lfts S.lifetimes) → Tellss (types_at S.params κs) (Ises (types_at S.params κs)) (sp κs))
        → ((κs : Lfts S.lifetimes) (a : Args S κs)
        → Are (types_at S.params κs) (Ises (types_at S.params κs)) a (valss (types_at S.params κs) (sp κs) a)
        → (Post : Val → SProp 𝓤)
        → ent 𝓤 (Post (one none))
        (WpFn 𝓤 𝓛.H 𝓣.C 𝓣.Λ e (flat (types_at S.params κs) (valss (types_at S.params κs) (sp κs) a)) Post))
        → ((κs : Lfts S.lifetimes) → IsMark (type_at S.result κs))
        → (ws : (κs : Lfts S.lifetimes) (a : Args S κs) → Lasts T κs a)
        (made : (κs : Lfts S.lifetimes) → Args S κs → Res S κs)
        → ((κs : Lfts S.lifetimes) (a : Args S κs) (g : (c κs a).ghost)
        → ent 𝓤 (emp 𝓤) ((c κs a).ensures g (made κs a) (at_exit T κs a (ws κs a))))
        → Meets 𝓛 S (𝓣.C k) (closing 𝓛 T c)
    ghost_of silent k e closed sp tells runs is ws made holds =
        proved 𝓛 T hs c 𝓜 𝓡 (passed_go 𝓛 S.params T.kept) k e closed sp tells (λ κs qs bounds a g are.
        let vss : Valss (types_at S.params κs) = valss (types_at S.params κs) (sp κs) a in
        let y : (walk_of 𝓛 T hs c).Ghost = ((κs, qs, bounds, a, vss), g) in let r : Res S κs = made κs a in
        let w : Lasts T κs a = ws κs a in
        via 𝓤 ((walk_of 𝓛 T hs c).post y (one none))
        (qed 𝓛 ((raw (alive 𝓛 S κs qs) ⊛ ‵ (owns (types_at S.params κs) a vss)) ∷ raw ((c κs a).requires g) ∷ []) ∵
        keep ! (0 ∷ []) $ split ! $ keep ! (0 ∷ [])
        $ suffices ! _ (leaves 𝓛 T hs c y (one none) r w (passed_fit κs S.params T.kept a w)) $
        use0 𝓛 (raw ((c κs a).ensures g r (at_exit T κs a w))) (holds κs a g)
        $ use0 𝓛 (‵ ((type_at S.result κs).own_val r (one none ∷ []))) (mark_made 𝓛 (type_at S.result κs) (is κs) r) $
        use0 𝓛 (‵ (has_of κs S.params T.kept hs a w vss))
        (via 𝓤 (sem 𝓛 (lasts T κs a w)) (silent_lasts 𝓛 κs S.params T.kept silent a w)
        (passed_has 𝓛 κs S.params T.kept a w vss)) $ move ! (3 ∷ 0 ∷ 1 ∷ 2 ∷ []) $ done !)
        (runs κs a are ((walk_of 𝓛 T hs c).post y)))

  -- ---- the function, by its contract, its code, and what the proof chooses
  pub ghost_of_none : (R : RattleType) (c : Clauses 𝓤 (none_to R)) (k : Callee) (name mark : Sym)
      → Code k (making 0 [] name mark) → IsMark R → (made : R.Denot)
      → ((κs : Lfts 0) (a : Unit {0}) (g : (c κs a).ghost) → ent 𝓤 (emp 𝓤) ((c κs a).ensures g made tt))
      → Meets 𝓛 (none_to R).signature (𝓣.C k) (closing 𝓛 (none_to R) c)
  ghost_of_none R c k name mark closed is made holds =
      ghost_of (none_to R) c tt k (making 0 [] name mark) closed (λ κs. tt) (λ κs. tt)
      (λ κs a are Post. runs_none 𝓛 𝓣.C 𝓣.Λ 0 name mark Post) (λ κs. is) (λ κs a. tt) (λ κs a. made) holds

  pub ghost_of_one : (Q R : RattleType) (c : Clauses 𝓤 (one_to Q R)) (k : Callee) (name mark : Sym)
      → Code k (making 1 (seen 0 Q ∷ []) name mark) → IsMark R → (made : Q.Denot → R.Denot)
      → ((κs : Lfts 1) (a : Args (one_to Q R).signature κs) (g : (c κs a).ghost)
      → ent 𝓤 (emp 𝓤) ((c κs a).ensures g (made a.0.now) (a.0, tt)))
      → Meets 𝓛 (one_to Q R).signature (𝓣.C k) (closing 𝓛 (one_to Q R) c)
  ghost_of_one Q R c k name mark closed is made holds =
      ghost_of (one_to Q R) c ((λ κs x f. refl), tt) k (making 1 (seen 0 Q ∷ []) name mark) closed
      (λ κs. (shr_vals, tt)) (λ κs. (shr_Tells (named 0) κs.0 Q, tt))
      (λ κs a are Post. runs_one 𝓛 𝓣.C 𝓣.Λ 1 name mark Post (seen 0 Q) (vptr a.0.ref_ptr.0 a.0.ref_ptr.1) (tt, tt))
      (λ κs. is) (λ κs a. (tt, tt)) (λ κs a. made a.0.now) holds

  pub ghost_of_two : (Q P R : RattleType) (c : Clauses 𝓤 (two_to Q P R)) (k : Callee) (name mark : Sym)
      → Code k (making 2 (seen 0 Q ∷ seen 1 P ∷ []) name mark) → IsMark R
      → (made : Q.Denot → P.Denot → R.Denot)
      → ((κs : Lfts 2) (a : Args (two_to Q P R).signature κs) (g : (c κs a).ghost)
      → ent 𝓤 (emp 𝓤) ((c κs a).ensures g (made a.0.now a.1.0.now) (a.0, (a.1.0, tt))))
      → Meets 𝓛 (two_to Q P R).signature (𝓣.C k) (closing 𝓛 (two_to Q P R) c)
  ghost_of_two Q P R c k name mark closed is made holds =
      ghost_of (two_to Q P R) c ((λ κs x f. refl), ((λ κs x f. refl), tt)) k
      (making 2 (seen 0 Q ∷ seen 1 P ∷ []) name mark) closed
      (λ κs. (shr_vals, (shr_vals, tt))) (λ κs. (shr_Tells (named 0) κs.0 Q, (shr_Tells (named 1) κs.1.0 P, tt)))
      (λ κs a are Post. runs_two 𝓛 𝓣.C 𝓣.Λ 2 name mark Post (seen 0 Q) (seen 1 P) (vptr a.0.ref_ptr.0 a.0.ref_ptr.1)
      (vptr a.1.0.ref_ptr.0 a.1.0.ref_ptr.1) (tt, tt) (tt, tt))
      (λ κs. is) (λ κs a. (tt, (tt, tt))) (λ κs a. made a.0.now a.1.0.now) holds

  pub ghost_of_bytes : (Q R : RattleType) (c : Clauses 𝓤 (bytes_to Q R)) (k : Callee) (name mark : Sym)
      → Code k (making 2 (seen 0 Q ∷ seen_bytes ∷ []) name mark) → IsMark R
      → (made : Q.Denot → List ℕ → R.Denot)
      → ((κs : Lfts 2) (a : Args (bytes_to Q R).signature κs) (g : (c κs a).ghost)
      → ent 𝓤 (emp 𝓤) ((c κs a).ensures g (made a.0.now a.1.0.now) (a.0, (a.1.0, tt))))
      → Meets 𝓛 (bytes_to Q R).signature (𝓣.C k) (closing 𝓛 (bytes_to Q R) c)
  ghost_of_bytes Q R c k name mark closed is made holds =
      ghost_of (bytes_to Q R) c ((λ κs x f. refl), ((λ κs x f. refl), tt)) k
      (making 2 (seen 0 Q ∷ seen_bytes ∷ []) name mark) closed
      (λ κs. (shr_vals, (shr_slice_vals, tt)))
      (λ κs. (shr_Tells (named 0) κs.0 Q, (shr_slice_Tells (named 1) κs.1.0 u8, tt)))
      (λ κs a are Post. runs_two 𝓛 𝓣.C 𝓣.Λ 2 name mark Post (seen 0 Q) seen_bytes (vptr a.0.ref_ptr.0 a.0.ref_ptr.1)
      (slice_val a.1.0.ref_ptr (length a.1.0.now)) (tt, tt)
      (((shr_slice_Lawful 𝓛 (named 1) κs.1.0 u8).typed a.1.0 _ are.1.0).0))
      (λ κs. is) (λ κs a. (tt, (tt, tt))) (λ κs a. made a.0.now a.1.0.now) holds
