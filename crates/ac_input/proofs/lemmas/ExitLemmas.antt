-- What a proof by hand has of its function's parameters at exit, where it says of each no more than the contract does.
use Rattle.std.proofs.Common.{ℕ, List, [], ◌∷◌, sym, subst}
use seplogic.Ra.Ura.{Ura}
use base.Logic.{ent, emp, id⊢, mono_r}
use types.Logic.{Logic, sem}
use types.Kit.{‵, ◌$◌, ◌∵◌, !, qed, fjoin, use0, done}
use contract.Lifetimes.{Lfts}
use denote.Exit.{Kept, left}
use denote.RattleType.{Denots, Valss}
use denote.Signature.{Slot, types_at}
use denote.Triple.End.{Fins, Kepts, lasts_of}
use denote.Triple.Walked.{AllGo, Silent, Stay, Stays, fits_of, has_of}

-- of one parameter: what the contract says of its last value
abbrev pub passed : {n : ℕ} (s : Slot n) (k : Kept) → Stay s k
passed s k = record { fit = λ κs x w. Unit {0}; has = λ κs x w vs. left ((s.row κs).exit k) x w }

module _ {n : ℕ} where
  abbrev pub all_passed : (ss : List (Slot n)) (ks : Kepts ss) → Stays ss ks
  all_passed [] ks = tt
  all_passed (s ∷ ss) ks = (passed s ks.0, all_passed ss ks.1)

  pub passed_fit : (κs : Lfts n) (ss : List (Slot n)) (ks : Kepts ss) (a : Denots (types_at ss κs))
      (ws : Fins κs ss ks a) → fits_of κs ss ks (all_passed ss ks) a ws
  passed_fit κs [] ks a ws = tt
  passed_fit κs (s ∷ ss) ks a ws = (tt, passed_fit κs ss ks.1 a.1 ws.1)

  module _ {M : Type 1} {𝓤 : Ura M} (𝓛 : Logic 𝓤) where
    pub passed_go : (ss : List (Slot n)) (ks : Kepts ss) → AllGo 𝓛 n ss ks (all_passed ss ks)
    passed_go [] ks = tt
    passed_go (s ∷ ss) ks = ((λ κs x w vs fits. 𝓛.laws.⇛_intro _), passed_go ss ks.1)

    pub passed_has : (κs : Lfts n) (ss : List (Slot n)) (ks : Kepts ss) (a : Denots (types_at ss κs))
        (ws : Fins κs ss ks a) (vss : Valss (types_at ss κs))
        → ent 𝓤 (sem 𝓛 (lasts_of κs ss ks a ws)) (sem 𝓛 (has_of κs ss ks (all_passed ss ks) a ws vss))
    passed_has κs [] ks a ws vss = id⊢ 𝓤 _
    passed_has κs (s ∷ ss) ks a ws vss =
        mono_r 𝓤 (sem 𝓛 (left ((s.row κs).exit ks.0) a.0 ws.0)) (passed_has κs ss ks.1 a.1 ws.1 vss.1)

    -- the contract says nothing of any parameter's last value
    abbrev pub AllSilent : (ss : List (Slot n)) → Kepts ss → Type 1
    AllSilent [] ks = Unit {1}
    AllSilent (s ∷ ss) ks = Silent 𝓛 n s ks.0 × AllSilent ss ks.1

    pub silent_lasts : (κs : Lfts n) (ss : List (Slot n)) (ks : Kepts ss) → AllSilent ss ks
        → (a : Denots (types_at ss κs)) (ws : Fins κs ss ks a) → ent 𝓤 (emp 𝓤) (sem 𝓛 (lasts_of κs ss ks a ws))
    silent_lasts κs [] ks silent a ws = id⊢ 𝓤 _
    silent_lasts κs (s ∷ ss) ks silent a ws =
        let one = left ((s.row κs).exit ks.0) a.0 ws.0 in
        qed 𝓛 [] ∵ use0 𝓛 (‵ (lasts_of κs ss ks.1 a.1 ws.1)) (silent_lasts κs ss ks.1 silent.1 a.1 ws.1) $
        use0 𝓛 (‵ one) (subst (λ P. ent 𝓤 (emp 𝓤) (sem 𝓛 P)) (sym (silent.0 κs a.0 ws.0)) (id⊢ 𝓤 _)) $ fjoin ! $ done !
