-- `from_box`: the box is taken apart, and its pointer and allocator own in the slot what they owned in the box.
use Rattle.std.proofs.Common.{◌≡◌, List, [], ◌∷◌, ◌++◌, refl, sym, ap, ◌∙◌, subst}
use mir.Syntax.{a_type, dcons, dnil}
use mir.MapTy.{inst_fn}
use mir.Val.{Val, vstruct, of_list}
use base.Fraction.{full_share}
use base.Logic.{SProp, ent, emp, id⊢}
use base.Fml.{ftrue, fsep, flft}
use prog.Wp.{WpFn}
use types.Kit.{‵, raw, ◌⊛◌, some, later, ◌$◌, ◌∵◌, !, qed, move, drop, split, split3, join, fsplit, fjoin, fpick, pick, suffices, use0, use1, await, rewrite, feq_l, done}
use types.Run.{stop, fld, of_opd, no_more, and_then, returns, enter}
use types.ByLocal.{alloc_all, pass_all, free_all, look_at, get, get_in, sets, lands_as}
use types.Part.{agg, sub, whole}
use contract.BorrowLft.{◌⊑◌, ⊑_refl}
use contract.Monad.{fact, fact_i}
use contract.Running.{tables}
use denote.Exit.{no}
use denote.Param.{bounded, param}
use denote.Param.NoDrop.{glues}
use denote.RawPtr.{Ptr, RawPtr}
use denote.Signature.{plain}
use denote.Steps.{nothing, only, heard}
use denote.Struct.Tuple.{Tuple}
use denote.Triple.Spec.{triple_of}
use denote.Triple.Call.{calls_at}
use denote.Triple.Table.{framed}
use denote.Triple.Walked.{says, Stays, stay_dropped, walk_of, ends_at}
use Rattle.std.proofs.alloc.Calls.{handle_tells, Goes-blank}
use Rattle.std.proofs.raw_atomic.Walks.{proved_at}
use Rattle.std.specs.Box.Ownership.{box_owns}
use Rattle.std.specs.declared.option.Option.TheVariants.{Some}
use Rattle.std_alloc.proofs.BoxSteps.Form.{Bx, B, box_typed}
use Rattle.std_alloc.proofs.BoxSteps.Form as box
use Rattle.std_alloc.proofs.BoxSteps.Steps.{box_out, box_in}
use Rattle.std_alloc.specs.contracts.boxed.Box as Box
use Rattle.std_alloc.specs.contracts.boxed.Box.into_raw_with_allocator as callee
use Rattle.std_alloc.proofs.boxed.Box.into_raw_with_allocator.Met.{met}
use Rattle.std_heap.specs.contracts.Global as Heap
use Rattle.std_heap.specs.contracts.GlobalAllocator.TheImpl.{ghosts, dict}
use Rattle.std_heap.proofs.GlobalAllocator.TheImpl.Met.{passed}
use Rattle.ac_c.proofs.slot.SlotSteps.{S, Passed, passed_laws, global, no_drop, undropped, word, word_fits, pointer_fits, slot_in}
use Rattle.ac_c.specs.contracts.slot.Slot.from_box as F
use Rattle.ac_c.proofs.slot.Slot.from_box.Statement.{statement}
use Rattle.ac_c.proofs.slot.Slot.from_box.Code as code

pub from_box_spec : {M : Type 1} → statement M
from_box_spec {M} 𝓤 𝓛 𝓜 𝓡 wired T L dx glue =
    let H = 𝓛.H in let 𝓣 = tables 𝓤 H 𝓜 𝓡 𝓡.env in let En = F.ended T dx in let c = F.clauses T dx 𝓛 𝓜.mem 𝓡.returns in
    let inst = bounded (a_type ∷ []) (T, tt) (dcons dx dnil) in let fn = inst_fn inst code.function in
    let E : Bx = record { row = T; laws = L; al = global } in let R = param 0 T in
    let Given = Box.the_row R Heap.the_row ghosts in
    let hs : Stays En.signature.params En.kept = (stay_dropped (plain (λ _. Given)) no, tt) in
    let allocates = passed 𝓡.env (code.calls-std_heap::GlobalAllocator::allocate 𝓡.env wired)
    (code.calls-std_heap::GlobalAllocator::deallocate 𝓡.env wired)
    (code.calls-std_heap::GlobalAllocator::grow 𝓡.env wired) (code.calls-std_heap::GlobalAllocator::shrink 𝓡.env wired)
    M 𝓤 𝓛 𝓜 𝓡 in
    let drops = glues "ac_c::Destruct++none::drop" 𝓡.env
    (undropped 𝓡.env (code.calls-ac_c::Destruct++none::drop 𝓡.env wired)) Passed passed_laws M 𝓤 𝓛 𝓜 𝓡 in
    proved_at 𝓛 En hs c 𝓜 𝓡 (Goes-blank 𝓛 1 (plain (λ _. Given)) no (λ κs x f. tt), tt) (F.Key.name inst) fn
    (code.unfolded 𝓤 H 𝓜 𝓡 wired (T, tt) dx) (λ z are.
    let κs = z.0.0 in let qs = z.0.1 in let held = z.0.3.0 in let a = held.alloc in
    let Post : Val → SProp 𝓤 = (walk_of 𝓛 En hs c).post z in
    let Run : List Val → SProp 𝓤 = λ us. WpFn 𝓤 H 𝓣.C 𝓣.Λ fn us Post in
    let lives = κs.0 ⊑ T.lives in let always = [] ⊑ Heap.the_row.lives in
    qed 𝓛 (((‵ (flft κs.0 qs.0) ⊛ ‵ ftrue) ⊛ ‵ (fsep ((B E).own_val held z.0.4.0) ftrue))
    ∷ (raw (fact 𝓤 lives) ⊛ ‵ ftrue) ∷ []) ∵ move ! (1 ∷ []) $ split !
    $ heard ! lives (λ lasts. drop ! $ split ! $ move ! (1 ∷ []) $ fsplit ! $
    box_out E ! held z.0.4.0 (λ b o h at is fits. box_in E ! held b o held.value at refl $
    -- [the box; nothing; the token]
    let w = box.word E h b o in
    let k = triple_of 𝓛 (callee.signature T Passed ghosts dict no_drop dx)
    (callee.spec T Passed ghosts dict no_drop dx 𝓛 𝓜.mem 𝓡.returns) in
    let y : k.Ghost = (((κs.0, ([], tt)), (qs.0, (full_share, tt)), tt, (held, tt), (w ∷ [], tt)), tt) in
    let toks = ‵ (flft κs.0 qs.0) ⊛ ‵ (flft [] full_share) ⊛ ‵ ftrue in
    fjoin ! $ move ! (1 ∷ []) $ split ! $ move ! (1 ∷ []) $ use0 𝓛 (‵ (flft [] full_share)) (𝓛.lfts.lft-nil full_share)
    $ join ! $ move ! (1 ∷ 0 ∷ []) $ join ! $ join ! $
    nothing ! $ use0 𝓛 (raw (fact 𝓤 always)) (fact_i 𝓤 always (emp 𝓤) (⊑_refl [])) $ join !
    $ use0 𝓛 (raw (fact 𝓤 lives)) (fact_i 𝓤 lives (emp 𝓤) lasts) $ join ! $ move ! (1 ∷ 0 ∷ []) $ join !
    $ use1 𝓛 (raw (k.pre y)) (id⊢ 𝓤 _) $
    suffices ! (Run (w ∷ []))
    (subst (λ us. ent 𝓤 (Run (w ∷ [])) (Run us)) (sym (λ i. is i ++ [])) (id⊢ 𝓤 (Run (w ∷ [])))) $
    enter ! 𝓣.C 𝓣.Λ fn (w ∷ []) Post
    $ alloc_all !
    (λ l. pass_all ! refl (box_typed E h b o fits, tt) $ sets ! (of_opd ! (get ! refl)) refl (box_typed E h b o fits) $
    calls_at ! (framed 𝓤 H 𝓜 𝓣) k
    (met 𝓤 𝓛 𝓜 𝓡 (code.calls-std_alloc::boxed::Box::into_raw_with_allocator 𝓡.env wired) T Passed L passed_laws ghosts
    dict no_drop dx allocates drops glue) y (and_then ! (get ! refl) (no_more !)) (λ u.
    use1 𝓛 (later
    (some (λ (r : Ptr × Heap.the_row.Denot).
    (toks ⊛ ‵ ((Tuple (RawPtr ∷ box.P E ∷ [])).own_val r (u ∷ []))) ⊛ some
    (λ (_ : (Unit {0} × (Unit {0} × Unit {0})) × Unit {0}).
    ‵ (fsep (fsep ftrue (fsep ftrue ftrue)) ftrue) ⊛
    (raw (fact 𝓤 (r.1 ≡ a)) ⊛ ‵ (box_owns (ghosts.dealloc_token a) R r.0 held.value)))))) (id⊢ 𝓤 _) $
    await ! tt
    $ pick !
    (λ r. split ! $ move ! (1 ∷ [])
    $ pick ! (λ _. split3 ! $ drop ! $ heard ! (r.1 ≡ a) (λ same. move ! (1 ∷ []) $ split ! $ move ! (1 ∷ []) $
    -- the pair that came back is the pointer and the allocator
    fpick ! (λ vss. fsplit ! $ feq_l !
    (λ pair. fsplit !
    $ feq_l !
    (λ pointer. fsplit ! $ rewrite ! 0 (λ (s : Heap.the_row.Denot). ‵ (Heap.the_row.own_val s vss.1.0)) same refl
    $ handle_tells global ! a vss.1.0 (λ h' allocator fits'.
    let made : (S R).Denot = record { at = r.0; alloc = a; value = Some held.value } in
    lands_as ! (ap only (pair ∙ (λ j. vstruct (of_list (pointer j ++ (allocator j ++ []))) ∷ []))) refl
    (word_fits r.0 h' fits') $
    sets ! (of_opd ! (get_in ! (fld ! refl (stop !)) (sub ! 0 refl (whole !)))) refl (pointer_fits r.0)
    $ sets ! (of_opd ! (get_in ! (fld ! refl (stop !)) (sub ! 1 refl (whole !)))) refl fits' $
    sets ! (agg ! (and_then ! (get ! refl) (and_then ! (get ! refl) (no_more !)))) refl (word_fits r.0 h' fits')
    $ returns ! (look_at ! 0 refl) $ free_all ! refl $
    -- [the allocator; nothing; the tokens; what lies at the pointer]
    move ! (1 ∷ []) $ drop ! $ move ! (2 ∷ []) $ slot_in R ! made h' $
    move ! (1 ∷ []) $ split ! $ move ! (1 ∷ []) $ split ! $ drop ! $ move ! (1 ∷ 0 ∷ []) $ join ! $ move ! (1 ∷ []) $
    suffices ! _ (ends_at 𝓛 En hs c z (word r.0 h') made (tt, tt) (tt, tt)) $ says ! refl $
    nothing ! $ nothing ! $ fjoin ! $ join ! $ move ! (1 ∷ 0 ∷ []) $ join ! $ done !))))))))))))
