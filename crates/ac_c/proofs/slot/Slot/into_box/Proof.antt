-- `into_box`: a null pointer gives no box. Any other pointer owns what a box owns, and `from_raw` makes that box.
use Rattle.std.proofs.Common.{◌≡◌, List, [], ◌∷◌, ◌++◌, refl, sym, ap, ◌∙◌, subst, lit<}
use lib.Dec.{T as True}
use mir.Syntax.{Body, a_type, place, copy, assign, rv_opd, aggregate, int, w8, seq}
use mir.MapTy.{inst_fn}
use mir.Val.{Val, vptr, vcons, vnil, has_ty, WT}
use base.Fraction.{full_share}
use base.Logic.{SProp, ent, emp, id⊢}
use base.Fml.{ftrue, fsep, flft}
use prog.Wp.{Wp, WpFn, after_seq, at_return}
use types.Kit.{‵, raw, ◌⊛◌, some, later, any_q, at_ret, ◌$◌, ◌∵◌, !, qed, move, drop, split, split3, join, fsplit, fjoin, feq_i, pick, suffices, use0, use1, await, rewrite, done}
use types.Run.{stop, fld, of_opd, bin, lit, no_more, and_then, first, blocks, branches, exec, returns, enter}
use types.ByLocal.{alloc_all, pass_all, free_all, look_at, get, get_in, sets, sets_last, lands_last, env}
use types.Match.{live}
use types.Part.{agg, sub, whole}
use contract.BorrowLft.{◌⊑◌, ⊑_refl}
use contract.Monad.{fact, fact_i}
use contract.Running.{tables}
use denote.Exit.{no}
use denote.Param.{layout, layouts, param}
use denote.Param.NoDrop.{glues}
use denote.RattleType.{RattleType}
use denote.RawPtr.{Ptr, block_ptr, null_ptr, tests_null}
use denote.Signature.{plain, type_at}
use denote.Steps.{nothing, only, heard}
use denote.Triple.Spec.{triple_of}
use denote.Triple.Call.{calls_at_last}
use denote.Triple.Table.{framed}
use denote.Triple.Walked.{says, Stays, stay_dropped, walk_of, ends_at, Goes-dropped}
use Rattle.std.proofs.alloc.Shapes.{after}
use Rattle.std.proofs.cell.Inside.{Good}
use Rattle.std.proofs.option.Made.{Some-of, none_of}
use Rattle.std.proofs.raw_atomic.Walks.{proved_at}
use Rattle.std.specs.declared.option.Option.TheVariants.{None, Some}
use Rattle.std_alloc.proofs.ResultValues.{and_tt}
use Rattle.std_alloc.proofs.BoxSteps.Form.{Bx, B, D, box_ty, box_typed}
use Rattle.std_alloc.proofs.BoxSteps.Steps.{box_out, box_in}
use Rattle.std_alloc.specs.contracts.boxed.Box as Box
use Rattle.std_alloc.specs.contracts.boxed.Box.from_raw as callee
use Rattle.std_alloc.proofs.boxed.Box.from_raw.Met.{met}
use Rattle.std_heap.specs.contracts.Global as Heap
use Rattle.std_heap.specs.contracts.GlobalAllocator.TheImpl.{ghosts, dict}
use Rattle.std_heap.proofs.GlobalAllocator.TheImpl.Met.{passed}
use Rattle.ac_c.proofs.slot.SlotSteps.{S, Passed, passed_laws, global, no_drop, undropped, word, word_fits, pointer_fits, slot_out, slot_either}
use Rattle.ac_c.specs.contracts.slot.Slot.into_box as F
use Rattle.ac_c.proofs.slot.Slot.into_box.Statement.{statement}
use Rattle.ac_c.proofs.slot.Slot.into_box.Code as code

-- what runs after the call: the box goes into the result
abbrev wraps : Body
wraps = seq (assign (place 7 []) (rv_opd (copy (place 8 []))))
    (assign (place 6 []) (aggregate (int w8 1 ∷ copy (place 7 []) ∷ [])))

pub into_box_spec : {M : Type 1} → statement M
into_box_spec {M} 𝓤 𝓛 𝓜 𝓡 wired T L =
    let H = 𝓛.H in let 𝓣 = tables 𝓤 H 𝓜 𝓡 𝓡.env in let En = F.ended T in let c = F.clauses T 𝓛 𝓜.mem 𝓡.returns in
    let inst = layouts (a_type ∷ []) (T, tt) in let fn = inst_fn inst code.function in
    let E : Bx = record { row = T; laws = L; al = global } in let R = param 0 T in
    let Boxed : RattleType = Box.the_row R Heap.the_row ghosts in
    let hs : Stays En.signature.params En.kept = (stay_dropped (plain (λ _. S R)) no, tt) in
    let allocates = passed 𝓡.env (code.calls-std_heap::GlobalAllocator::allocate 𝓡.env wired)
    (code.calls-std_heap::GlobalAllocator::deallocate 𝓡.env wired)
    (code.calls-std_heap::GlobalAllocator::grow 𝓡.env wired) (code.calls-std_heap::GlobalAllocator::shrink 𝓡.env wired)
    M 𝓤 𝓛 𝓜 𝓡 in
    let drops = glues "ac_c::Destruct++none::drop" 𝓡.env
    (undropped 𝓡.env (code.calls-ac_c::Destruct++none::drop 𝓡.env wired)) Passed passed_laws M 𝓤 𝓛 𝓜 𝓡 in
    proved_at 𝓛 En hs c 𝓜 𝓡 (Goes-dropped 𝓛 1 (plain (λ _. S R)) no (λ κs x f. refl), tt) (F.Key.name inst) fn
    (code.unfolded 𝓤 H 𝓜 𝓡 wired (T, tt)) (λ z are.
    let κs = z.0.0 in let qs = z.0.1 in let given = z.0.3.0 in let a = given.alloc in
    let Out : RattleType = type_at En.signature.result κs in
    let Post : Val → SProp 𝓤 = (walk_of 𝓛 En hs c).post z in
    let Run : List Val → SProp 𝓤 = λ us. WpFn 𝓤 H 𝓣.C 𝓣.Λ fn us Post in
    let lives = κs.0 ⊑ T.lives in let always = [] ⊑ Heap.the_row.lives in
    let toks = ‵ (flft κs.0 qs.0) ⊛ ‵ (flft [] full_share) ⊛ ‵ ftrue in
    qed 𝓛 (((‵ (flft κs.0 qs.0) ⊛ ‵ ftrue) ⊛ ‵ (fsep ((S R).own_val given z.0.4.0) ftrue))
    ∷ (raw (fact 𝓤 lives) ⊛ ‵ ftrue) ∷ []) ∵ move ! (1 ∷ []) $ split !
    $ heard ! lives (λ lasts. drop ! $ split ! $ move ! (1 ∷ []) $ fsplit ! $
    slot_out R ! given z.0.4.0 (λ h is fits. slot_either R ! a given.at given.value
    (λ none null. let w : Val = word null_ptr h in
    -- [the allocator; nothing; the token]
    drop ! $ drop ! $
    suffices ! (Run (w ∷ []))
    (subst (λ us. ent 𝓤 (Run (w ∷ [])) (Run us)) (sym (λ i. (is ∙ ap (λ p. word p h ∷ []) null) i ++ []))
    (id⊢ 𝓤 (Run (w ∷ [])))) $
    enter ! 𝓣.C 𝓣.Λ fn (w ∷ []) Post
    $ alloc_all ! (λ l. pass_all ! refl (word_fits null_ptr h fits, tt) $ let Ev = env fn.locals l in
    sets ! (of_opd ! (get_in ! (fld ! refl (stop !)) (sub ! 0 refl (whole !)))) refl (pointer_fits null_ptr)
    $ sets ! (of_opd ! (get_in ! (fld ! refl (stop !)) (sub ! 1 refl (whole !)))) refl fits $
    sets ! (of_opd ! (get ! refl)) refl (pointer_fits null_ptr)
    $ sets ! (bin ! (get ! refl) (lit ! tt) tt) refl (tt, tt) $ first ! $ branches ! (get ! refl)
    (λ _. sets_last ! (agg ! (and_then ! (lit ! tt) (no_more !))) refl (tt, (record { fits = lit< tt }, tt)) $
    exec ! 𝓣.C 𝓣.Λ Ev (after 5 fn.body) (at_ret Ev Post)
    $ sets ! (of_opd ! (get ! refl)) refl (tt, (record { fits = lit< tt }, tt)) $
    use0 𝓛 (‵ (Out.own_val None (live 0 vnil ∷ []))) (none_of 𝓛 Boxed) $ returns ! (look_at ! 0 refl) $ free_all ! refl
    $
    suffices ! _ (ends_at 𝓛 En hs c z (live 0 vnil) None (tt, tt) (tt, tt)) $ says ! none $
    nothing ! $ nothing ! $ fjoin ! $ join ! $ move ! (1 ∷ 0 ∷ []) $ join ! $ done !) (λ wrong. absurd wrong)))
    (λ b o x full at tested. let p : Ptr = block_ptr b o in let w : Val = word p h in
    let k = triple_of 𝓛 (callee.signature T Passed ghosts dict no_drop)
    (callee.spec T Passed ghosts dict no_drop 𝓛 𝓜.mem 𝓡.returns) in
    let y : k.Ghost =
    (((κs.0, ([], tt)), (qs.0, (full_share, tt)), tt, (a, (p, tt)), (h ∷ [], (vptr b o ∷ [], tt))), x) in
    -- [what lies at the pointer; the allocator; nothing; the token]
    use0 𝓛 (raw (fact 𝓤 always)) (fact_i 𝓤 always (emp 𝓤) (⊑_refl [])) $ join !
    $ use0 𝓛 (raw (fact 𝓤 lives)) (fact_i 𝓤 lives (emp 𝓤) lasts) $ join ! $
    move ! (3 ∷ []) $ split ! $ move ! (1 ∷ []) $ use0 𝓛 (‵ (flft [] full_share)) (𝓛.lfts.lft-nil full_share) $ join !
    $ move ! (1 ∷ 0 ∷ []) $ join ! $
    move ! (3 ∷ []) $ feq_i ! (List Val) (vptr b o ∷ []) (vptr b o ∷ []) refl $ fjoin ! $ move ! (3 ∷ 0 ∷ []) $ fjoin !
    $ move ! (1 ∷ 0 ∷ []) $ join ! $ join ! $ use1 𝓛 (raw (k.pre y)) (id⊢ 𝓤 _) $
    suffices ! (Run (w ∷ []))
    (subst (λ us. ent 𝓤 (Run (w ∷ [])) (Run us)) (sym (λ i. (is ∙ ap (λ q. word q h ∷ []) at) i ++ []))
    (id⊢ 𝓤 (Run (w ∷ [])))) $
    enter ! 𝓣.C 𝓣.Λ fn (w ∷ []) Post
    $ alloc_all ! (λ l. pass_all ! refl (word_fits p h fits, tt) $ let Ev = env fn.locals l in
    let end = after 5 fn.body in let ends = at_return 𝓤 H Ev Post in
    sets ! (of_opd ! (get_in ! (fld ! refl (stop !)) (sub ! 0 refl (whole !)))) refl (tt, tt)
    $ sets ! (of_opd ! (get_in ! (fld ! refl (stop !)) (sub ! 1 refl (whole !)))) refl fits $
    sets ! (of_opd ! (get ! refl)) refl (tt, tt)
    $ sets ! (bin ! (get ! refl) (lit ! tt) (tests_null p tested)) refl (tt, tt) $ first !
    $ branches ! (get ! refl) (λ wrong. absurd wrong) (λ _.
    first ! $ blocks ! $ sets ! (of_opd ! (get ! refl)) refl fits $ sets ! (of_opd ! (get ! refl)) refl (tt, tt) $
    calls_at_last ! (framed 𝓤 H 𝓜 𝓣) k
    (met 𝓤 𝓛 𝓜 𝓡 (code.calls-std_alloc::boxed::Box::from_raw 𝓡.env wired) T Passed L passed_laws ghosts dict no_drop
    allocates drops) y (and_then ! (get ! refl) (and_then ! (get ! refl) (no_more !))) (λ u.
    use1 𝓛 (later
    (some (λ (r : D E). (toks ⊛ ‵ ((B E).own_val r (u ∷ []))) ⊛ some
    (λ (_ : Unit {0} × (Unit {0} × Unit {0})).
    ‵ (fsep ftrue (fsep ftrue ftrue)) ⊛ (raw (fact 𝓤 (r.value ≡ x)) ⊛ raw (fact 𝓤 (r.alloc ≡ a))))))) (id⊢ 𝓤 _) $
    await ! tt
    $ pick !
    (λ r. split ! $ move ! (1 ∷ [])
    $ pick ! (λ _. split3 ! $ drop ! $ heard ! (r.value ≡ x) (λ same. drop ! $ split ! $ move ! (1 ∷ []) $
    -- [the box; the tokens]
    box_out E ! r (u ∷ [])
    (λ b' o' h' e' us fits'. box_in E ! r b' o' r.value e' refl
    $ rewrite ! 0 (λ (ws : List Val). ‵ ((B E).own_val r ws)) (sym us) refl $
    let typed : True (has_ty (box_ty E) u)
    × WT u = subst (λ s. True (has_ty (box_ty E) s) × WT s) (sym (ap only us)) (box_typed E h' b' o' fits') in
    let v : Val = live 1 (vcons u vnil) in
    let good : Good (layout Out) v = (and_tt _ typed.0, (record { fits = lit< tt }, (typed.1, tt))) in
    lands_last ! refl typed $ exec ! 𝓣.C 𝓣.Λ Ev wraps (any_q (after_seq 𝓤 H (Wp 𝓤 H 𝓣.C 𝓣.Λ Ev end ends) ends)) $
    sets ! (of_opd ! (get ! refl)) refl typed
    $ sets_last ! (agg ! (and_then ! (lit ! tt) (and_then ! (get ! refl) (no_more !)))) refl good $
    exec ! 𝓣.C 𝓣.Λ Ev end (at_ret Ev Post) $ sets ! (of_opd ! (get ! refl)) refl good $
    use1 𝓛 (‵ (Out.own_val (Some r) (v ∷ []))) (Some-of 𝓛 Boxed r u) $ returns ! (look_at ! 0 refl) $ free_all ! refl $
    move ! (1 ∷ []) $ split ! $ move ! (1 ∷ []) $ split ! $ drop ! $ move ! (1 ∷ 0 ∷ []) $ join ! $ move ! (1 ∷ []) $
    suffices ! _ (ends_at 𝓛 En hs c z v (Some r) (tt, tt) (tt, tt)) $ says ! (full ∙ ap Some (sym same)) $
    nothing ! $ nothing ! $ fjoin ! $ join ! $ move ! (1 ∷ 0 ∷ []) $ join ! $ done !)))))))))))
