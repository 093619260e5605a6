-- `dado_raw_list` passes on what the pointer lends.
use Rattle.ac_c.proofs.Lending.{[], ◌∷◌, refl, id⊢, raw, ◌⊛◌, later, ◌$◌, ◌∵◌, !, qed, move, use1, split, await, done, of_opd, addr, stop, no_more, and_then, returns, enter, alloc_all, pass_all, free_all, look_at, get, through, sets, lands_as, fact, tables, shr_vals, heard, calls_from, triple_of, framed, Good, lent_to, lends, rest, agg, fld, from, get_in, hop, look_in_at, mut_slice_Lawful, mut_slice_Tells, mut_slice_vals, named, shr_slice_Lawful, shr_slice_Tells, shr_slice_vals, sub, u8, uint_Tells, uint_vals, w32, w64, whole}
use denote.Param.{layout}
use Rattle.ac_c.specs.Find.{is_set}
use Rattle.ac_c.specs.Found.{found}
use Rattle.ac_c.specs.List.{AnswersListed, place}
use Rattle.ac_c.specs.contracts.found.Found.{the_row as F}
use Rattle.ac_c.specs.contracts.list.Listed.{the_row as Out}
use Rattle.ac_c.proofs.list.Listed.TheLaws as laws
use Rattle.ac_c.specs.contracts.list.list as g
use Rattle.ac_c.proofs.list.list.Met.{met}
use Rattle.ac_c.specs.contracts.dado_raw_list as f
use Rattle.ac_c.proofs.dado_raw_list.Statement.{statement}
use Rattle.ac_c.proofs.dado_raw_list.Code as code

pub dado_raw_list_spec : {M : Type 1} → statement M
dado_raw_list_spec 𝓤 𝓛 𝓜 𝓡 wired =
    lends f.signature.lifetimes f.signature.outlives (rest f.signature.params) f.ended.kept.1 Out 𝓛 𝓜 𝓡
    (λ κs a ac r end. AnswersListed (is_set a.1.1.1.1.1.1.1.1.0) ac a.1.0.now
    (place a.1.1.0 a.1.1.1.0 (found a.1.1.1.1.0 a.1.1.1.1.1.0 a.1.1.1.1.1.1.0) a.1.1.1.1.1.1.1.0)
    a.1.1.1.1.1.1.1.1.1.0.now end.1.1.1.1.1.1.1.1.1.0.now r)
    (triple_of 𝓛 g.signature (g.spec 𝓛 𝓜.mem 𝓡.returns))
    (λ κs qs ok a us l p. (((l.life, κs), (l.share, qs), tt, (lent_to l p, a), (shr_vals (lent_to l p), us)), tt))
    (layout Out)
    f.Key.name code.function _ (code.unfolded 𝓤 𝓛.H 𝓜 𝓡 wired) (met 𝓤 𝓛 𝓜 𝓡 (code.calls-ac_c::list::list 𝓡.env wired))
    (λ κs qs ok a us l p. refl)
    (λ κs. (
      shr_slice_vals,
      (
        uint_vals w64,
        (
          uint_vals w64,
          (uint_vals w64, (uint_vals w64, (uint_vals w32, (uint_vals w32, (uint_vals w32, (mut_slice_vals, tt)))))),
        ),
      ),
    ))
    (λ κs. (
      shr_slice_Tells (named 0) κs.0 u8,
      (
        uint_Tells w64,
        (
          uint_Tells w64,
          (
            uint_Tells w64,
            (
              uint_Tells w64,
              (uint_Tells w32, (uint_Tells w32, (uint_Tells w32, (mut_slice_Tells (named 1) κs.1.0 F, tt)))),
            ),
          ),
        ),
      ),
    ))
    (λ κs qs ok a l p. (id⊢ 𝓤 _, λ v. id⊢ 𝓤 _)) (λ r v is. ((laws.the_row_laws.lawful 𝓛).typed r _ is).0)
    (λ κs a p are P Q Post asks ends.
    qed 𝓛 (raw P ∷ []) ∵ enter ! _ _ _ _ _
    $ alloc_all !
    (λ ls. pass_all ! refl (
      (tt, tt),
      (
        ((shr_slice_Lawful 𝓛 (named 0) κs.0 u8).typed a.0 _ are.0).0,
        (
          (tt, record { fits = are.1.0.1 }),
          (
            (tt, record { fits = are.1.1.0.1 }),
            (
              (tt, record { fits = are.1.1.1.0.1 }),
              (
                (tt, record { fits = are.1.1.1.1.0.1 }),
                (
                  (tt, record { fits = are.1.1.1.1.1.0.1 }),
                  (
                    (tt, record { fits = are.1.1.1.1.1.1.0.1 }),
                    (
                      (tt, record { fits = are.1.1.1.1.1.1.1.0.1 }),
                      (
                        ((mut_slice_Lawful 𝓛 (named 1) κs.1.0 F).typed a.1.1.1.1.1.1.1.1.0 _ are.1.1.1.1.1.1.1.1.0).0,
                        tt,
                      ),
                    ),
                  ),
                ),
              ),
            ),
          ),
        ),
      ),
    ) $
    sets ! (of_opd ! (get ! refl)) refl (tt, tt) $ sets ! (addr ! (through ! refl (stop !))) refl (tt, tt) $
    -- the buffer is lent again: its pointer, and the slice of that and its length
    sets ! (addr ! (from ! (fld ! refl (hop ! (look_in_at ! 10 (sub ! 0 refl (whole !))) (stop !))))) refl (tt, tt) $
    sets ! (agg !
    (and_then ! (get ! refl) (and_then ! (get_in ! (fld ! refl (stop !)) (sub ! 1 refl (whole !))) (no_more !)))) refl
    (((mut_slice_Lawful 𝓛 (named 1) κs.1.0 F).typed a.1.1.1.1.1.1.1.1.0 _ are.1.1.1.1.1.1.1.1.0).0) $
    calls_from ! (framed 𝓤 𝓛.H 𝓜 (tables 𝓤 𝓛.H 𝓜 𝓡 𝓡.env)) (raw P) _ Q asks
    (and_then ! (get ! refl)
    (and_then ! (get ! refl)
    (and_then ! (get ! refl)
    (and_then ! (get ! refl)
    (and_then ! (get ! refl)
    (and_then ! (get ! refl)
    (and_then ! (get ! refl)
    (and_then ! (get ! refl) (and_then ! (get ! refl) (and_then ! (get ! refl) (no_more !))))))))))) (λ v.
    use1 𝓛 (later (raw (Post v) ⊛ raw (fact 𝓤 (Good (layout Out) v)))) (ends v) $ await ! tt $ split ! $ move ! (1 ∷ [])
    $ heard ! (Good (layout Out) v)
    (λ fits. lands_as ! refl refl fits $ returns ! (look_at ! 0 refl) $ free_all ! refl $ done !))))
