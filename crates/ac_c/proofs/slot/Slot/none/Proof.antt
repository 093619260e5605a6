-- `none`: a slot at null owns nothing but its allocator.
use Rattle.std.proofs.Common.{List, [], ◌∷◌, ◌++◌, refl, sym, subst}
use mir.Syntax.{a_type}
use mir.MapTy.{inst_fn}
use mir.Val.{Val}
use base.Logic.{SProp, ent, id⊢}
use base.Fml.{ftrue, flft}
use prog.Wp.{WpFn}
use types.Kit.{‵, raw, ◌⊛◌, ◌$◌, ◌∵◌, !, qed, move, drop, split, join, fsplit, fjoin, feq_i, suffices, done}
use types.Part.{agg}
use types.Run.{no_more, and_then, lit, returns, enter}
use types.ByLocal.{alloc_all, pass_all, free_all, look_at, get, sets}
use contract.Running.{tables}
use denote.Exit.{yes}
use denote.Param.{param, layouts}
use denote.RattleType.{owns}
use denote.RawPtr.{Ptr, null_ptr}
use denote.Signature.{plain, types_at}
use denote.Steps.{nothing}
use denote.Triple.Walked.{says, Stays, stay_dropped, walk_of, ends_at, Goes-dropped}
use Rattle.std.proofs.raw_atomic.Walks.{proved_at}
use Rattle.std.proofs.alloc.Calls.{handle_tells}
use Rattle.std.specs.declared.option.Option.TheVariants.{None}
use Rattle.std_heap.specs.contracts.Global as Heap
use Rattle.ac_c.proofs.slot.SlotSteps.{S, global, word, word_fits, slot_in}
use Rattle.ac_c.specs.contracts.slot.Slot.none as F
use Rattle.ac_c.proofs.slot.Slot.none.Statement.{statement}
use Rattle.ac_c.proofs.slot.Slot.none.Code as code

pub none_spec : {M : Type 1} → statement M
none_spec 𝓤 𝓛 𝓜 𝓡 wired T L =
    let H = 𝓛.H in let 𝓣 = tables 𝓤 H 𝓜 𝓡 𝓡.env in let En = F.ended T in let c = F.clauses T 𝓛 𝓜.mem 𝓡.returns in
    let inst = layouts (a_type ∷ []) (T, tt) in let fn = inst_fn inst code.function in
    let hs : Stays En.signature.params En.kept = (stay_dropped (plain (λ _. Heap.the_row)) yes, tt) in
    proved_at 𝓛 En hs c 𝓜 𝓡 (Goes-dropped 𝓛 1 (plain (λ _. Heap.the_row)) yes (λ κs x f. refl), tt) (F.Key.name inst) fn
    (code.unfolded 𝓤 H 𝓜 𝓡 wired (T, tt)) (λ z are.
    let κs = z.0.0 in let qs = z.0.1 in let a = z.0.3.0 in
    let d : (S (param 0 T)).Denot = record { at = null_ptr; alloc = a; value = None } in
    let Post : Val → SProp 𝓤 = (walk_of 𝓛 En hs c).post z in
    let Run : List Val → SProp 𝓤 = λ us. WpFn 𝓤 H 𝓣.C 𝓣.Λ fn us Post in
    qed 𝓛 (((‵ (flft κs.0 qs.0) ⊛ ‵ ftrue) ⊛ ‵ (owns (types_at En.signature.params κs) z.0.3 z.0.4))
    ∷ raw ((c κs z.0.3).requires z.1) ∷ []) ∵ move ! (1 ∷ []) $ drop ! $ split ! $ move ! (1 ∷ []) $ fsplit ! $
    handle_tells global ! a z.0.4.0 (λ h is fits. move ! (1 ∷ []) $ drop ! $
    -- [the allocator; the token]
    suffices ! (Run (h ∷ []))
    (subst (λ us. ent 𝓤 (Run (h ∷ [])) (Run us)) (sym (λ i. is i ++ [])) (id⊢ 𝓤 (Run (h ∷ [])))) $
    enter ! 𝓣.C 𝓣.Λ fn (h ∷ []) Post $ alloc_all ! (λ l. pass_all ! refl (fits, tt) $
    sets ! (agg ! (and_then ! (lit ! tt) (and_then ! (get ! refl) (no_more !)))) refl (word_fits null_ptr h fits)
    $ returns ! (look_at ! 0 refl) $ free_all ! refl $
    feq_i ! Ptr null_ptr null_ptr refl $ slot_in (param 0 T) ! d h $
    suffices ! _ (ends_at 𝓛 En hs c z (word null_ptr h) d (tt, tt) (tt, tt)) $ says ! refl $
    nothing ! $ nothing ! $ fjoin ! $ join ! $ move ! (1 ∷ 0 ∷ []) $ join ! $ done !)))
