-- An export that borrows an automaton. C passes the pointer to an automaton that is lent. The export makes a reference
-- of it, and returns what a callee returns for the reference and for the export's other parameters. So the export's
-- clause is the callee's:
--     over      the export's signature: the pointer, the other parameters, and the type of the result
--     says      its clauses: the automaton stays lent, and the callee's fact
--     lends     it meets them, if its code runs as the callee does
use seplogic.Ra.Ura.{Ura}
use lib.Dec.{T as True}
pub use Rattle.std.proofs.Common.{ℕ, List, [], ◌∷◌, refl}
use Rattle.std.proofs.Common.{◌≡◌, ◌++◌, subst, Bor}
use Rattle.std.proofs.raw_atomic.Walks.{leaves, proved}
use mir.Syntax.{Callee, Fn, Ty}
pub use mir.Syntax.{named, w8, w32, w64}
use mir.Val.{Val, WT, has_ty, vptr}
use base.Logic.{SProp, ent, ex, sep, via, never, fst∗}
pub use base.Logic.{id⊢}
use base.Fml.{fsep, ftrue}
use prog.Model.{Model}
use prog.Wp.{Closed, WpFn}
use types.Logic.{Logic, sem}
use types.Kit.{‵, some, prop, by, drop, use0, join, fsplit, fjoin, feq_i, pick, updating, regoal, suffices, now as at_once}
pub use types.Kit.{raw, ◌⊛◌, later, ◌$◌, ◌∵◌, !, qed, move, use1, split, await, done}
pub use types.Part.{agg, sub, whole}
pub use types.Run.{of_opd, addr, from, fld, hop, stop, no_more, and_then, returns, enter}
pub use types.ByLocal.{alloc_all, pass_all, free_all, look_at, look_in_at, get, get_in, through, sets, lands_as}
use contract.Lifetimes.{AllOutlive, Lfts, Outlives, Shares}
pub use contract.Monad.{fact}
use contract.Monad.{fact_i}
use contract.Running.{MachineTables, Running}
pub use contract.Running.{tables}
pub use denote.Builtin.{u8, u32}
use denote.Exit.{yes}
use denote.Laws.{Are, Is, Ises, Spells, Tellss, shows, valss}
use denote.Memory.{shared_of}
use denote.Opens.{hide}
pub use denote.Plain.{uint_vals, uint_Tells, uint_Lawful}
use denote.RawPtr.{Ptr, RawPtr, in_a_block, block_ptr, null_ptr, block_of, count_of, rawptr_vals, rawptr_Tells}
use denote.RattleType.{RattleType, Denots, Valss, flat, owns}
use denote.Ref.{ShrRef}
pub use denote.Ref.{shr_vals, mut_vals, mut_Tells}
use denote.Signature.{Slot, plain, types_at}
pub use denote.Slice.{ShrSlice, shr_slice_vals, shr_slice_Tells, shr_slice_Lawful, mut_slice_vals, mut_slice_Tells, mut_slice_Lawful}
use denote.Steps.{nothing, peeks}
pub use denote.Steps.{heard}
use denote.Struct.Lending.{lent_at}
pub use denote.Triple.Call.{calls_from}
use denote.Triple.Clauses.{AtExit, Clauses, Ended, Lasts, at_exit, closing, lasts}
use denote.Triple.End.{Kepts}
use denote.Triple.Entry.{Args, alive}
use denote.Triple.Spec.{Meets}
pub use denote.Triple.Spec.{triple_of}
use denote.Triple.Statement.{Contract, Triple}
pub use denote.Triple.Table.{framed}
use denote.Triple.Walked.{Goes-dropped, Stays, has_of, says as and_says, stay_dropped, walk_of}
use Rattle.aho_corasick.specs.contracts.ahocorasick.AhoCorasick.{the_row as R}
use Rattle.ac_input.proofs.lemmas.ExitLemmas.{all_passed, passed_fit, passed_go, passed_has}
use Rattle.ac_c.specs.Lent.{Lent, is_lent, lasting}

-- ---- the callee
-- a machine value that a variable of the type can hold
abbrev pub Good : Ty → Val → Type 0
Good τ v = True (has_ty τ v) × WT v

-- the code e calls g with the values that it is passed, and returns what g returns, of the type τ
abbrev pub Hands : {M : Type 1} {𝓤 : Ura M} (𝓛 : Logic 𝓤) (𝓜 : Model 𝓤 𝓛.H) → Running 𝓤 𝓛.H 𝓜 → Fn → Callee → Ty
    → List Val → Type 2
Hands {𝓤 = 𝓤} 𝓛 𝓜 𝓡 e g τ vs = (P : SProp 𝓤) (Q Post : Val → SProp 𝓤) → ent 𝓤 P ((tables 𝓤 𝓛.H 𝓜 𝓡 𝓡.env).C g vs Q)
    → ((v : Val) → ent 𝓤 (Q v) (𝓛.H.⇛ (sep 𝓤 (Post v) (fact 𝓤 (Good τ v)))))
    → ent 𝓤 P (WpFn 𝓤 𝓛.H (tables 𝓤 𝓛.H 𝓜 𝓡 𝓡.env).C (tables 𝓤 𝓛.H 𝓜 𝓡 𝓡.env).Λ e vs Post)

-- the reference to an automaton that lies at a place
abbrev pub lent_to : Lent → ℕ × ℕ → Bor R.Denot
lent_to l p = record { ref_ptr = p; now = l.automaton }

-- the callee's ghost value, by the export's lifetimes and parameters, the automaton and its place
abbrev pub Ghosts : (n : ℕ) → List (Outlives n) → List (Slot n) → Type 0 → Type 0
Ghosts n os ss X =
    (κs : Lfts n) → Shares n → AllOutlive n os κs → (a : Denots (types_at ss κs)) → Valss (types_at ss κs) → Lent
    → ℕ × ℕ → X

-- ---- the export's contract
-- the parameters after the pointer
abbrev pub rest : {n : ℕ} → List (Slot n) → List (Slot n)
rest [] = []
rest (s ∷ ss) = ss

module _ (n : ℕ) (os : List (Outlives n)) (ss : List (Slot n)) (ks : Kepts ss) (Out : RattleType) where
  abbrev pub over : Ended
  over = record {
    signature = record { lifetimes = n; outlives = os; params = plain (λ _. RawPtr) ∷ ss; result = plain (λ _. Out) };
    kept = (yes, ks);
  }

  abbrev pub Says : Type 1
  Says = (κs : Lfts n) → Args over.signature κs → R.Denot → Out.Denot → AtExit over κs → Type 0

  module _ {M : Type 1} {𝓤 : Ura M} (𝓛 : Logic 𝓤) where
    abbrev pub says : Says → Clauses 𝓤 over
    says φ κs a = record {
      ghost = Lent;
      requires = λ l. sem 𝓛 (is_lent a.0 l);
      ensures = λ l r end. sep 𝓤 (sem 𝓛 (lasting l)) (fact 𝓤 (φ κs a l.automaton r end));
    }

    module _ (𝓜 : Model 𝓤 𝓛.H) (𝓡 : Running 𝓤 𝓛.H 𝓜) (φ : Says) (G : Contract 𝓤) where
      abbrev 𝓣 : MachineTables 𝓤 𝓛.H 𝓜
      𝓣 = tables 𝓤 𝓛.H 𝓜 𝓡 𝓡.env

      abbrev hs : Stays over.signature.params over.kept
      hs = (stay_dropped (plain (λ _. RawPtr)) yes, all_passed ss ks)

      -- what is had before the call and after it
      abbrev Before : (κs : Lfts n) → Shares n → (a : Denots (types_at ss κs)) → Valss (types_at ss κs) → Lent → ℕ × ℕ
          → SProp 𝓤
      Before κs qs a us l p = sep 𝓤 (sep 𝓤 (sep 𝓤 (sem 𝓛 (lasting l)) (alive 𝓛 over.signature κs qs))
          (sem 𝓛 (fsep ((ShrRef (named 0) l.life R).own_val (lent_to l p) (shr_vals (lent_to l p)))
          (owns (types_at ss κs) a us)))) (sem 𝓛 ftrue)

      abbrev After : (κs : Lfts n) → Shares n → (a : Args over.signature κs) → Lent → Val → SProp 𝓤
      After κs qs a l v =
          𝓛.H.⇛ (ex 𝓤
          (λ (r : Out.Denot).
          sep 𝓤 (sep 𝓤 (sep 𝓤 (sem 𝓛 (lasting l)) (alive 𝓛 over.signature κs qs)) (sem 𝓛 (Out.own_val r (v ∷ []))))
          (ex 𝓤 (λ (ws : Lasts over κs a).
          sep 𝓤 (sem 𝓛 (lasts over κs a ws)) (fact 𝓤 (φ κs a l.automaton r (at_exit over κs a ws)))))))

      module _ (w : Ghosts n os ss G.Ghost) (τ : Ty) where
        ends : ((r : Out.Denot) (v : Val) → Is Out r (v ∷ []) → Good τ v)
            → (y : (walk_of 𝓛 over hs (says φ)).Ghost) (v : Val)
            → ent 𝓤 (After y.0.0 y.0.1 y.0.3 y.1 v)
            (𝓛.H.⇛ (sep 𝓤 ((walk_of 𝓛 over hs (says φ)).post y v) (fact 𝓤 (Good τ v))))
        ends good y v =
            let κs = y.0.0 in let a = y.0.3 in let us = y.0.4 in let l = y.1 in
            let Fact = λ (r : Out.Denot) (ws : Lasts over κs a). fact 𝓤 (φ κs a l.automaton r (at_exit over κs a ws)) in
            qed 𝓛 (later
            (some (λ (r : Out.Denot).
            ((‵ (lasting l) ⊛ raw (alive 𝓛 over.signature κs y.0.1)) ⊛ ‵ (Out.own_val r (v ∷ []))) ⊛ some
            (λ (ws : Lasts over κs a). ‵ (lasts over κs a ws) ⊛ raw (Fact r ws)))) ∷ [])
            {P = 𝓛.H.⇛ (sep 𝓤 ((walk_of 𝓛 over hs (says φ)).post y v) (fact 𝓤 (Good τ v)))} (
            updating ! $ await ! tt $ pick !
            (λ r. split ! $ move ! (1 ∷ [])
            $ pick ! (λ ws. split ! $ move ! (1 ∷ []) $ heard ! (φ κs a l.automaton r (at_exit over κs a ws)) (λ holds.
            move ! (1 ∷ []) $ split ! $ move ! (1 ∷ [])
            $ peeks ! Out (Is Out) (shows 𝓛 Out) r (v ∷ []) (λ is. at_once ! $ and_says ! (good r v is) $
            -- [the result; the tokens; what is left of the parameters]
            suffices ! _ (leaves 𝓛 over hs (says φ) y v r ws (tt, passed_fit κs ss ks a.1 ws.1)) $ move ! (2 ∷ [])
            $ fsplit ! $ drop ! $
            use1 𝓛 (‵ (has_of κs ss ks (all_passed ss ks) a.1 ws.1 us.1)) (passed_has 𝓛 κs ss ks a.1 ws.1 us.1)
            $ nothing ! $ fjoin ! $
            move ! (2 ∷ []) $ split ! $ use0 𝓛 (raw (Fact r ws)) (fact_i 𝓤 _ _ holds) $ move ! (1 ∷ 0 ∷ []) $ join !
            $ move ! (1 ∷ 2 ∷ 3 ∷ 0 ∷ []) $ done !)))))

        -- what is had before the call is what the callee asks, and what the callee gives is what is had after it
        abbrev pub Turns : ((κs : Lfts n) → Spells (types_at ss κs)) → Type 1
        Turns sp =
            (κs : Lfts n) (qs : Shares n) (ok : AllOutlive n os κs) (a : Args over.signature κs) (l : Lent) (p : ℕ × ℕ)
            → let us = valss (types_at ss κs) (sp κs) a.1 in
            ent 𝓤 (Before κs qs a.1 us l p) (G.pre (w κs qs ok a.1 us l p))
            × ((v : Val) → ent 𝓤 (G.post (w κs qs ok a.1 us l p) v) (After κs qs a l v))

        pub lends : (k : Callee) (e : Fn) (g : Callee) → Closed 𝓤 𝓛.H 𝓣.C 𝓣.Λ k e → Triple 𝓤 (𝓣.C g) G
            → ((κs : Lfts n) (qs : Shares n) (ok : AllOutlive n os κs) (a : Denots (types_at ss κs))
            (us : Valss (types_at ss κs)) (l : Lent) (p : ℕ × ℕ)
            → G.args (w κs qs ok a us l p) ≡ vptr p.0 p.1 ∷ flat (types_at ss κs) us)
            → (sp : (κs : Lfts n) → Spells (types_at ss κs))
            → ((κs : Lfts n) → Tellss (types_at ss κs) (Ises (types_at ss κs)) (sp κs))
            → Turns sp
            → ((r : Out.Denot) (v : Val) → Is Out r (v ∷ []) → Good τ v)
            → ((κs : Lfts n) (a : Denots (types_at ss κs)) (p : ℕ × ℕ) → let us = valss (types_at ss κs) (sp κs) a in
            Are (types_at ss κs) (Ises (types_at ss κs)) a us
            → Hands 𝓛 𝓜 𝓡 e g τ (vptr p.0 p.1 ∷ flat (types_at ss κs) us))
            → Meets 𝓛 over.signature (𝓣.C k) (closing 𝓛 over (says φ))
        lends k e g closed met args sp tells turns good hands =
            proved 𝓛 over hs (says φ) 𝓜 𝓡
            (Goes-dropped 𝓛 n (plain (λ _. RawPtr)) yes (λ κs x f. refl), passed_go 𝓛 ss ks) k e closed
            (λ κs. (rawptr_vals, sp κs)) (λ κs. (rawptr_Tells, tells κs)) (λ κs qs ok a l are.
            let us = valss (types_at ss κs) (sp κs) a.1 in
            let y : Ptr → (walk_of 𝓛 over hs (says φ)).Ghost = λ p. ((κs, qs, ok, (p, a.1), (rawptr_vals p, us)), l) in
            qed 𝓛 ((raw (alive 𝓛 over.signature κs qs) ⊛ ‵ (owns (RawPtr ∷ types_at ss κs) a (rawptr_vals a.0, us)))
            ∷ (‵ (lent_at R a.0 l.automaton l.life) ⊛ ‵ (lasting l)) ∷ []) ∵
            split ! $ move ! (2 ∷ []) $ split ! $
            in_a_block ! a.0 (λ p. lent_at R p l.automaton l.life)
            (fst∗ 𝓤 (never 𝓤) (sem 𝓛 (shared_of R l.automaton (block_of null_ptr) (count_of null_ptr) l.life)))
            (λ b o e'.
            regoal !
            (λ p. prop
            (WpFn 𝓤 𝓛.H 𝓣.C 𝓣.Λ e (rawptr_vals p ++ flat (types_at ss κs) us)
            ((walk_of 𝓛 over hs (says φ)).post (y p)))) e' refl $
            let p : ℕ × ℕ = (b, o) in let z = y (block_ptr b o) in
            fsplit ! $ drop ! $ hide ! $ feq_i ! (List Val) (vptr b o ∷ []) (vptr b o ∷ []) refl $ fjoin ! $
            -- [the reference; the automaton's lifetime; the tokens; what the parameters own]
            move ! (3 ∷ []) $ fsplit ! $ drop ! $ move ! (1 ∷ 0 ∷ []) $ fjoin ! $ move ! (1 ∷ 2 ∷ []) $ join ! $ join !
            $ nothing ! $ move ! (1 ∷ 0 ∷ []) $
            let x = w κs qs ok a.1 us l p in
            by ! (via 𝓤 (G.pre x) (turns κs qs ok (block_ptr b o, a.1) l p).0
            (hands κs a.1 p are.1 (G.pre x) (G.post x) ((walk_of 𝓛 over hs (says φ)).post z)
            (subst (λ vs. ent 𝓤 (G.pre x) (𝓣.C g vs (G.post x))) (args κs qs ok a.1 us l p) (met x))
            (λ v. via 𝓤 (After κs qs (block_ptr b o, a.1) l v) ((turns κs qs ok (block_ptr b o, a.1) l p).1 v)
            (ends good z v))))))
