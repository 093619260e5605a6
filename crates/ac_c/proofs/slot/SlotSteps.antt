-- What a slot owns at its machine value: its two fields, and what lies at the pointer. These steps serve C's handles
-- too, as a handle has a slot's fields and owns what a slot owns.
--     word, word_fits      the machine value of a pointer beside the allocator; it fits the struct's type
--     slot_out, slot_in    a slot is [what lies at the pointer; the allocator]
--     slot_either          nothing lies at null; elsewhere it is what a box owns, at a pointer that may be compared
-- with null
use Rattle.std.proofs.Common.{◌≡◌, ℕ, List, [], ◌∷◌, ◌++◌, refl, ◌∙◌, lit<}
use lib.Dec.{T as True}
use seplogic.Ra.Ura.{Ura}
use base.Fml.{Fml}
use base.Logic.{never, fst∗, guard_i}
use mir.Raw.{raw as bare}
use mir.Syntax.{Dict, impl, tnil, tcons, dnil, ty_ptr, ty_struct}
use prog.Routine.{Env}
use prog.Wired.{Wired, node, end}
use denote.Exit.{no}
use denote.Param.{arg, layout}
use denote.Param.Laws.{Laws, arg_laws}
use denote.Param.NoDrop.{function}
use mir.Val.{Val, vstruct, vcons, vnil, of_list, has_ty, WT}
use types.Logic.{Logic, sem}
use types.Kit.{Item, Goal, Seq, Step, step, ‵, given, ◌$◌, move, drop, use1, learn, fsplit, fjoin, fpick, fpack, feq_i, feq_l}
use contract.Monad.{fact_use}
use denote.Memory.{lone}
use denote.Builtin.{RawPtr}
use denote.RattleType.{RattleType, Valss}
use denote.RawPtr.{Ptr, Testable, block_ptr, null_ptr, ptr_val, in_a_block}
use denote.Steps.{nothing}
use denote.Struct.Struct.{within}
use denote.Struct.Owning.{shape, to}
use Rattle.std.specs.Box.Ownership.{box_owns}
use Rattle.std.specs.Global.{Global}
use Rattle.std.specs.declared.option.Option.{Option}
use Rattle.std.specs.declared.option.Option.TheVariants.{None, Some}
use Rattle.std.proofs.alloc.Calls.{Al, α, Fits, handle_tells}
use Rattle.std_alloc.proofs.ResultValues.{and_tt}
use Rattle.std_heap.specs.contracts.Global as Heap
use Rattle.std_heap.specs.contracts.GlobalAllocator.TheImpl.{ghosts, dict}
use Rattle.std_heap.proofs.Global.TheLaws as heap
use Rattle.std_heap.proofs.GlobalToken.{dealloc_token-Testable}
use Rattle.ac_c.proofs.Destruct++none.drop.Code as Destruct
use Rattle.ac_c.specs.Slot.{slot_owns}
use Rattle.ac_c.specs.contracts.slot.Slot as Slot

-- the allocator as a type parameter of a called function, whose drop does nothing
abbrev pub Passed : RattleType
Passed = arg (bare (layout Heap.the_row)) no Heap.the_row

pub passed_laws : Laws Passed
passed_laws = arg_laws (bare (layout Heap.the_row)) no Heap.the_row heap.the_row_laws refl

abbrev pub no_drop : Dict
no_drop = impl ("ac_c::Destruct++none::drop" ∷ []) (tcons (layout Passed) tnil) dnil

-- the code of the drop that does nothing, as `glues` of `denote.Param.NoDrop` takes it
pub undropped : (γ : Env) → Wired γ Destruct.code
    → Wired γ (node (("ac_c::Destruct++none::drop", function) ∷ []) [] end)
unfolding Rattle.ac_c.proofs.Destruct++none.drop.Code.code
undropped γ wired = wired

abbrev pub global : Al
global = record { row = Heap.the_row; laws = heap.the_row_laws; g = ghosts; d = dict; drops = no_drop }

abbrev pub word : Ptr → Val → Val
word at h = vstruct (vcons (ptr_val at) (vcons h vnil))

pub pointer_fits : (at : Ptr) → True (has_ty ty_ptr (ptr_val at)) × WT (ptr_val at)
pointer_fits (block_ptr b o) = (tt, tt)
pointer_fits null_ptr = (tt, record { fits = lit< tt })

-- the machine value fits the struct's type, whatever the struct's name
pub word_fits : (at : Ptr) (h : Val) → Fits global h
    → True (has_ty (ty_struct [] (tcons ty_ptr (tcons (α global) tnil))) (word at h)) × WT (word at h)
word_fits (block_ptr b o) h fits = (and_tt (has_ty (α global) h) fits.0, (tt, (fits.1, tt)))
word_fits null_ptr h fits = (and_tt (has_ty (α global) h) fits.0, (record { fits = lit< tt }, (fits.1, tt)))

module _ (R : RattleType) where
  abbrev pub S : RattleType
  S = Slot.the_row R

  module _ {M : Type 1} {𝓤 : Ura M} {𝓛 : Logic 𝓤} {K : Type 0} {Γ : List (Item 𝓤)} {G : Goal 𝓤 𝓛.H} where
    pub slot_out : K → (d : S.Denot) (vs : List Val)
        → ((h : Val) → vs ≡ word d.at h ∷ [] → Fits global h
        → Seq K 𝓛 (‵ (slot_owns R d.alloc d.at d.value) ∷ ‵ (Heap.the_row.own_val d.alloc (h ∷ [])) ∷ Γ) G)
        → Seq K 𝓛 (‵ (S.own_val d vs) ∷ Γ) G
    slot_out t d vs k =
        fsplit t
        $ fpick t
        (λ vss. fsplit t
        $ feq_l t
        (λ whole. fsplit t
        $ feq_l t
        (λ pointer. fsplit t $ handle_tells global t d.alloc vss.1.0
        (λ h handle fits. move t (1 ∷ []) $ drop t $ move t (1 ∷ []) $
        k h (whole ∙ (λ i. vstruct (of_list (pointer i ++ (handle i ++ []))) ∷ [])) fits))))

    pub slot_in : K → (d : S.Denot) (h : Val)
        → Step K 𝓛 (‵ (S.own_val d (word d.at h ∷ [])) ∷ Γ) G
        (‵ (slot_owns R d.alloc d.at d.value) ∷ ‵ (Heap.the_row.own_val d.alloc (h ∷ [])) ∷ Γ) G
    slot_in t d h = step (λ s.
        nothing t $ move t (2 ∷ 0 ∷ []) $ fjoin t $ feq_i t (List Val) (ptr_val d.at ∷ []) (ptr_val d.at ∷ []) refl
        $ fjoin t $
        feq_i t (List Val) (word d.at h ∷ []) (word d.at h ∷ []) refl $ fjoin t $
        fpack t (Valss (RawPtr ∷ Heap.the_row ∷ []))
        (within (shape (Slot.the_type R)) (to (Slot.the_type R) d) (word d.at h ∷ [])) (ptr_val d.at ∷ [], (h ∷ [], tt))
        $ fjoin t $ s)

    pub slot_either : K → (a : Global) (at : Ptr) (held : Option R.Denot)
        → (held ≡ None → at ≡ null_ptr → Seq K 𝓛 Γ G)
        → ((b o : ℕ) (x : R.Denot) → held ≡ Some x → at ≡ block_ptr b o → Testable (block_ptr b o)
        → Seq K 𝓛 (‵ (box_owns (ghosts.dealloc_token a) R (block_ptr b o) x) ∷ Γ) G)
        → Seq K 𝓛 (‵ (slot_owns R a at held) ∷ Γ) G
    slot_either t a at None none some = feq_l t (λ null. none refl null)
    slot_either t a at (Some x) none some =
        let frees : Ptr → Fml = ghosts.dealloc_token a (bare (lone R.mir)) in
        in_a_block t at (λ p. box_owns (ghosts.dealloc_token a) R p x) (fst∗ 𝓤 (never 𝓤) (sem 𝓛 (frees null_ptr)))
        (λ b o is. let p = block_ptr b o in
        fsplit t $ move t (1 ∷ []) $
        use1 𝓛 (given (Testable p) (‵ (frees p)))
        (fact_use 𝓤 (Testable p) (dealloc_token-Testable 𝓛 a (bare (lone R.mir)) p)
        (guard_i 𝓤 (Testable p) (sem 𝓛 (frees p)))) $ learn t (λ tested.
        move t (1 ∷ 0 ∷ []) $ fjoin t $ some b o x refl is tested))
