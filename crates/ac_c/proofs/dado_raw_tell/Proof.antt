-- `dado_raw_tell` passes on what the pointer lends.
use Rattle.ac_c.proofs.Lending.{[], ◌∷◌, refl, id⊢, raw, ◌⊛◌, later, ◌$◌, ◌∵◌, !, qed, move, use1, split, await, done, of_opd, addr, stop, no_more, and_then, returns, enter, alloc_all, pass_all, free_all, look_at, get, through, sets, lands_as, fact, tables, shr_vals, heard, calls_from, triple_of, framed, Good, lent_to, lends, rest}
use denote.Param.{layout}
use Rattle.ac_c.specs.Tell.{TellsAbout}
use Rattle.ac_c.specs.contracts.tell.About.{the_row as Out}
use Rattle.ac_c.proofs.tell.About.TheLaws as laws
use Rattle.ac_c.specs.contracts.tell.describe as g
use Rattle.ac_c.proofs.tell.describe.Met.{met}
use Rattle.ac_c.specs.contracts.dado_raw_tell as f
use Rattle.ac_c.proofs.dado_raw_tell.Statement.{statement}
use Rattle.ac_c.proofs.dado_raw_tell.Code as code

pub dado_raw_tell_spec : {M : Type 1} → statement M
dado_raw_tell_spec 𝓤 𝓛 𝓜 𝓡 wired =
    lends f.signature.lifetimes f.signature.outlives (rest f.signature.params) f.ended.kept.1 Out 𝓛 𝓜 𝓡
    (λ κs a ac r end. TellsAbout ac r)
    (triple_of 𝓛 g.signature (g.spec 𝓛 𝓜.mem 𝓡.returns))
    (λ κs qs ok a us l p. (((l.life, κs), (l.share, qs), tt, (lent_to l p, a), (shr_vals (lent_to l p), us)), tt))
    (layout Out)
    f.Key.name code.function _ (code.unfolded 𝓤 𝓛.H 𝓜 𝓡 wired)
    (met 𝓤 𝓛 𝓜 𝓡 (code.calls-ac_c::tell::describe 𝓡.env wired)) (λ κs qs ok a us l p. refl)
    (λ κs. tt) (λ κs. tt)
    (λ κs qs ok a l p. (id⊢ 𝓤 _, λ v. id⊢ 𝓤 _)) (λ r v is. ((laws.the_row_laws.lawful 𝓛).typed r _ is).0)
    (λ κs a p are P Q Post asks ends.
    qed 𝓛 (raw P ∷ []) ∵ enter ! _ _ _ _ _ $ alloc_all ! (λ ls. pass_all ! refl ((tt, tt), tt) $
    sets ! (of_opd ! (get ! refl)) refl (tt, tt) $ sets ! (addr ! (through ! refl (stop !))) refl (tt, tt) $
    calls_from ! (framed 𝓤 𝓛.H 𝓜 (tables 𝓤 𝓛.H 𝓜 𝓡 𝓡.env)) (raw P) _ Q asks (and_then ! (get ! refl) (no_more !)) (λ v.
    use1 𝓛 (later (raw (Post v) ⊛ raw (fact 𝓤 (Good (layout Out) v)))) (ends v) $ await ! tt $ split ! $ move ! (1 ∷ [])
    $ heard ! (Good (layout Out) v)
    (λ fits. lands_as ! refl refl fits $ returns ! (look_at ! 0 refl) $ free_all ! refl $ done !))))
