-- An export that borrows an automaton and takes a number, and makes a value of both that a handle holds. It is as in
-- `Handing`, with the number after the pointer.
use Rattle.ac_c.proofs.Lending.{ℕ, List, [], ◌∷◌, refl, id⊢, raw, ◌⊛◌, later, ◌$◌, ◌∵◌, !, qed, move, use1, split, await, done, of_opd, addr, stop, no_more, and_then, returns, enter, alloc_all, pass_all, free_all, look_at, get, through, sets, lands_as, fact, tables, shr_vals, heard, calls_from, triple_of, framed, Ghosts, Good, lent_to, lends, Says, over, says, named, mut_vals, mut_Tells, u32, uint_vals, uint_Tells, uint_Lawful, w32}
use seplogic.Ra.Ura.{Ura}
use mir.Syntax.{Callee, Fn, Lifetime, Mutability, Ty, Width, addr_of, assign, call, copy, deref, local, mut, place, return, rv_opd, seq, ty_int, ty_ptr, ty_ref, value_local}
use base.Logic.{emp}
use prog.Model.{Model}
use prog.Wp.{Closed}
use types.Logic.{Logic}
use contract.Running.{MachineTables, Running}
use denote.Exit.{yes}
use denote.Memory.{pointee}
use denote.Param.{layout}
use denote.Plain.{UInt}
use denote.RattleType.{RattleType}
use denote.Signature.{Slot, mut_ref_to, plain, shr_ref_to}
use denote.Struct.Laws.{vals, tells}
use denote.Triple.Clauses.{Clauses, Ended, closing}
use denote.Triple.Spec.{Meets}
use denote.Triple.Statement.{Contract}
use Rattle.std_heap.specs.contracts.Global as Heap
use Rattle.std_heap.proofs.Global.TheLaws as heap
use Rattle.aho_corasick.specs.contracts.ahocorasick.AhoCorasick.{the_row as R}

abbrev pub handed : Width → RattleType → List (Slot 1)
handed w H =
    plain (λ _. UInt w) ∷ plain (λ _. Heap.the_row) ∷ mut_ref_to (0 ∷ []) tt (plain (λ _. H)) ∷ []

-- the pointer is copied once more because its type changes, and the handle is lent again
abbrev pub handing : Width → RattleType → Callee → (a b c d : Ty) (j k : Lifetime) (m : Mutability) → Fn
handing w H g a b c d j k m = record {
  lifetimes = 1;
  outlives = [];
  ty_params = [];
  givens = 0;
  params = 4;
  locals = local (ty_int w32) value_local ∷ local ty_ptr value_local ∷ local (ty_int w) value_local
      ∷ local (layout Heap.the_row) value_local
      ∷ local (ty_ref (named 0) mut (pointee H.written)) value_local
      ∷ local ty_ptr value_local ∷ local (ty_ref j m a) value_local ∷ local (ty_ref k mut b) value_local ∷ [];
  body = seq (assign (place 5 []) (rv_opd (copy (place 1 []))))
      (seq (assign (place 6 []) (addr_of (place 5 (deref c ∷ []))))
      (seq (assign (place 7 []) (addr_of (place 4 (deref d ∷ []))))
      (seq (call g (copy (place 6 []) ∷ copy (place 2 []) ∷ copy (place 3 []) ∷ copy (place 7 []) ∷ []) (place 0 []))
      return)));
}

-- what the callee has: a reference in the pointer's place
abbrev pub asked : Width → RattleType → Ended
asked w H = record {
  signature =
      record {
        lifetimes = 2;
        outlives = [];
        params = shr_ref_to (0 ∷ []) tt (plain (λ _. R)) ∷ plain (λ _. UInt w) ∷ plain (λ _. Heap.the_row)
            ∷ mut_ref_to (1 ∷ []) tt (plain (λ _. H)) ∷ [];
        result = plain (λ _. u32);
      };
  kept = (yes, (yes, (yes, (yes, tt))));
}

-- φ is the clause: of the automaton, the number, the handle before and after, and the status
module _ (w : Width) (H : RattleType) (φ : R.Denot → ℕ → H.Denot → H.Denot → ℕ → Type 0) where
  abbrev pub lender : Ended
  lender = over 1 [] (handed w H) (yes, (yes, (yes, tt))) u32

  abbrev pub answer : Says 1 [] (handed w H) (yes, (yes, (yes, tt))) u32
  answer κs a automaton r end = φ automaton a.1.0 a.1.1.1.0.now end.1.1.1.0.now r

  module _ {M : Type 1} {𝓤 : Ura M} (𝓛 : Logic 𝓤) where
    abbrev pub answers : Clauses 𝓤 (asked w H)
    answers κs a =
        record {
          ghost = Unit {0};
          requires = λ g. emp 𝓤;
          ensures = λ g r end. fact 𝓤 (φ a.0.now a.1.0 a.1.1.1.0.now end.1.1.1.0.now r);
        }

    abbrev G : Contract 𝓤
    G = triple_of 𝓛 (asked w H).signature (closing 𝓛 (asked w H) answers)

    abbrev ghosts : Ghosts 1 [] (handed w H) G.Ghost
    ghosts κs qs ok a us l p = (((l.life, κs), (l.share, qs), tt, (lent_to l p, a), (shr_vals (lent_to l p), us)), tt)

    module _ (𝓜 : Model 𝓤 𝓛.H) (𝓡 : Running 𝓤 𝓛.H 𝓜) where
      abbrev 𝓣 : MachineTables 𝓤 𝓛.H 𝓜
      𝓣 = tables 𝓤 𝓛.H 𝓜 𝓡 𝓡.env

      pub lends_handle : (k g : Callee) (a b c d : Ty) (i j : Lifetime) (m : Mutability)
          → Closed 𝓤 𝓛.H 𝓣.C 𝓣.Λ k (handing w H g a b c d i j m)
          → Meets 𝓛 (asked w H).signature (𝓣.C g) (closing 𝓛 (asked w H) answers)
          → Meets 𝓛 lender.signature (𝓣.C k)
          (closing 𝓛 lender (says 1 [] (handed w H) (yes, (yes, (yes, tt))) u32 𝓛 answer))
      lends_handle k g a b c d i j m closed met =
          lends 1 [] (handed w H) (yes, (yes, (yes, tt))) u32 𝓛 𝓜 𝓡 answer G ghosts (ty_int w32) k
          (handing w H g a b c d i j m) g closed met (λ κs qs ok x us l p. refl)
          (λ κs. (uint_vals w, (vals Heap.the_type heap.the_laws, (mut_vals, tt))))
          (λ κs. (uint_Tells w, (tells Heap.the_type heap.the_laws, (mut_Tells (named 0) κs.0 H, tt))))
          (λ κs qs ok x l p. (id⊢ 𝓤 _, λ v. id⊢ 𝓤 _)) (λ r v is. ((uint_Lawful 𝓛 w32).typed r _ is).0)
          (λ κs x p are P Q Post asks ends.
          qed 𝓛 (raw P ∷ []) ∵ enter ! _ _ _ _ _
          $ alloc_all !
          (λ ls. pass_all ! refl (
            (tt, tt),
            (
              ((uint_Lawful 𝓛 w).typed x.0 _ are.0).0,
              (((heap.the_row_laws.lawful 𝓛).typed x.1.0 _ are.1.0).0, ((tt, tt), tt)),
            ),
          ) $
          sets ! (of_opd ! (get ! refl)) refl (tt, tt) $ sets ! (addr ! (through ! refl (stop !))) refl (tt, tt)
          $ sets ! (addr ! (through ! refl (stop !))) refl (tt, tt) $
          calls_from ! (framed 𝓤 𝓛.H 𝓜 𝓣) (raw P) _ Q asks
          (and_then ! (get ! refl)
          (and_then ! (get ! refl) (and_then ! (get ! refl) (and_then ! (get ! refl) (no_more !))))) (λ v.
          use1 𝓛 (later (raw (Post v) ⊛ raw (fact 𝓤 (Good (ty_int w32) v)))) (ends v) $ await ! tt $ split !
          $ move ! (1 ∷ []) $ heard ! (Good (ty_int w32) v)
          (λ fits. lands_as ! refl refl fits $ returns ! (look_at ! 0 refl) $ free_all ! refl $ done !))))
