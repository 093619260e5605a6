-- The entries of a row: where a byte leads from a state, by a transition of its own or by its failure.
use Rattle.std.proofs.Common.{◌≡◌, ◌≢◌, ◌⊎◌, ℕ, ◌+◌, ◌*◌, ◌<◌, ◌≤◌, true, false, List, [], ◌∷◌, ◌++◌, slice_get, Some, None, inl, inr, ⊎_elim, refl, sym, ap, subst, ◌∙◌, arith}
use Rattle.std.specs.Prelude.{slice_index, ◌==◌}
use Rattle.std.specs.Coded.{le_prop, Coded-set, coded_ℕ}
use Rattle.std.proofs.Math.Logic.{∥∥₁_elim}
use Rattle.std.proofs.lemmas.Bool.{cases_lt, cases_eq, cond-true, cond-false}
use Rattle.std.proofs.lemmas.Bool.Decides.{nat_tests}
use Rattle.ac_input.specs.declared.search.Anchored.{Anchored}
use Rattle.ac_input.specs.declared.search.Anchored.TheVariants.{No, Yes}
use Rattle.ac_input.specs.Alphabet.{class}
use Rattle.ac_input.specs.Alphabet.Classes.{BytesLeadAlike}
use Rattle.ac_input.specs.Input.{is_anchored}
use Rattle.ac_input.specs.States.{LeadsTo, FailsTo}
use Rattle.ac_input.proofs.lemmas.ClassLemmas.{unknown-alike, class-unknown}
use Rattle.ac_input.proofs.lemmas.LeadsLemmas.{leads-failure, leads-failure_none}
use Rattle.ac_noncontiguous.specs.declared.nfa.NFA.{NFA}
use Rattle.ac_noncontiguous.specs.Nfa.Lookups.{other_start}
use Rattle.ac_noncontiguous.specs.Nfa.{state_of, AreTexts, AreTables}
use Rattle.ac_noncontiguous.specs.Nfa.Reads.{dictionary}
use Rattle.ac_noncontiguous.specs.Nfa.ReadCalls.{state_len, fail_in, edges_in, special_in, classes_in, FailsIn, IsEdgeIn, MayBeMet, LeadsIn, IsReadable, AreEdges}
use Rattle.ac_noncontiguous.proofs.nfa.NextLemmas.{state-some, state-none, straight, stuck, stuck-dead}
use Rattle.ac_tables.specs.Dfa.Table.{IsCell}
use Rattle.ac_tables.specs.Dfa.Filling.{RowPlan, number_in, IsSource, IsFit, IsRowRight, IsUnwritten, entry_in, IsEntry, Written, Kept}
use Rattle.ac_tables.proofs.dfa.RowLemmas.{row-first}

-- ---- the automaton

-- the states' texts begin entered patterns, each once and in order
pub texts-of : (nfa : NFA) (text : ℕ → List ℕ) → AreTables (dictionary nfa) text nfa.tables
    → AreTexts (dictionary nfa) (state_len nfa) (special_in nfa).start_unanchored_id text
texts-of nfa text t =
    let counted = t.counted in
    let count : t.len ≡ state_len nfa = omega (arith, counted) in
    subst (λ n. AreTexts (dictionary nfa) n (special_in nfa).start_unanchored_id text) count t.texts

-- an automaton that can be read has what all rows need
pub source-of : (nfa : NFA) → IsReadable nfa → IsSource nfa
source-of nfa r = record {
  stand = r.stand;
  starts = (
    ∥∥₁_elim r.stand le_prop (λ w. (r.bounds w.0 w.1).past),
    ∥∥₁_elim r.stand le_prop (λ w. (r.bounds w.0 w.1).within),
  );
  paired = r.paired;
  classes = r.classes;
}

-- the last state that matches is the one before the starts, or the anchored start
pub last-match_is : (nfa : NFA) → IsReadable nfa
    → ((special_in nfa).max_match_id + 1 ≡ (special_in nfa).start_unanchored_id)
    ⊎ ((special_in nfa).max_match_id ≡ (special_in nfa).start_unanchored_id + 1)
last-match_is nfa r =
    let start = (special_in nfa).start_unanchored_id in
    let last = (special_in nfa).max_match_id in
    let either = λ (P : Type 0) (prop : IsProp P) (low : last + 1 ≡ start → P) (high : last ≡ start + 1 → P).
    ∥∥₁_elim r.stand prop (λ w. ⊎_elim low high (r.bounds w.0 w.1).last_match) in
    ⊎_elim
    (λ (before : last < start). inl
    (either (last + 1 ≡ start) (Coded-set coded_ℕ (last + 1) start) (λ a. a) (λ b. omega (arith, b, before))))
    (λ (after : start ≤ last). inr
    (either (last ≡ start + 1) (Coded-set coded_ℕ last (start + 1)) (λ a. absurd (omega (arith, a, after))) (λ b. b)))
    (cases_lt last start)

-- the last state that matches isn't the dead state
pub last-match_past : (nfa : NFA) → IsReadable nfa → 1 ≤ (special_in nfa).max_match_id
last-match_past nfa r = let s = (source-of nfa r).starts in
    ⊎_elim (λ (a : (special_in nfa).max_match_id + 1 ≡ (special_in nfa).start_unanchored_id). omega (arith, a, s.0))
    (λ (b : (special_in nfa).max_match_id ≡ (special_in nfa).start_unanchored_id + 1). omega (arith, b))
    (last-match_is nfa r)

-- a search of either anchoring may come to the dead state
pub met-dead : (nfa : NFA) (anchored : Anchored) → IsSource nfa → MayBeMet nfa anchored 0
met-dead nfa anchored source =
    let s = source.starts in
    record { within = omega (arith, s.1); stands = λ e. omega (arith, e); own = by anchored }
  where
    by : (a : Anchored) → 0 ≢ other_start (special_in nfa).start_unanchored_id (is_anchored a)
    by No e = let s = source.starts in omega (arith, s.0, e)
    by Yes e = let s = source.starts in omega (arith, s.0, e)

-- ---- the dead state

-- the dead state's row comes first
pub number-dead : (p : RowPlan) (anchored : Anchored) → number_in p anchored 0 ≡ 0
number-dead p anchored =
    let none : 0 * p.stride ≡ 0 = omega arith in
    ap (λ row. row * p.stride)
    (row-first p.kind (special_in p.nfa).start_unanchored_id (is_anchored anchored) 0 (omega arith)) ∙ none

-- a blank row is right for the dead state, which leads to itself
pub dead-right : (p : RowPlan) (anchored : Anchored) (trans : List ℕ) → IsFit p
    → IsUnwritten p.stride (number_in p anchored 0) trans → IsRowRight p anchored 0 trans
dead-right p anchored trans fit blank byte small = (
  0,
  (
    record {
      met = met-dead p.nfa anchored fit.source;
      dead = λ e. e;
      leads = λ text t past. absurd (omega (arith, past));
    },
    blank (class p.classes byte) (fit.letters byte small) ∙ sym (number-dead p anchored),
  ),
)

-- ---- by a transition

-- bytes of one class lead alike
alike-of : (p : RowPlan) → IsFit p → (b c : ℕ) → b < 256 → c < 256 → class p.classes b ≡ class p.classes c
    → BytesLeadAlike (dictionary p.nfa) b c
alike-of p fit b c b_in c_in same =
    let m = dictionary p.nfa in
    let classes = classes_in p.nfa in
    let one = fit.finer b c b_in c_in same in
    unknown-alike m (λ ne. (
      (λ stands. ∥∥₁_elim fit.source.classes (λ x y. absurd x)
          (λ are. (class-unknown m are b_in c_in one ne).0 stands)),
      (λ stands. ∥∥₁_elim fit.source.classes (λ x y. absurd x)
          (λ are. (class-unknown m are b_in c_in one ne).1 stands)),
    ))

-- if a transition leads to a state, all bytes of its class lead there
leads-straight : (p : RowPlan) (anchored : Anchored) (sid c byte next : ℕ) → IsFit p → MayBeMet p.nfa anchored sid
    → c < 256 → byte < 256 → class p.classes c ≡ class p.classes byte → next < state_len p.nfa → next ≢ 1
    → ((text : ℕ → List ℕ) → AreTables (dictionary p.nfa) text p.nfa.tables → IsEdgeIn p.nfa text sid c next)
    → LeadsIn p.nfa anchored sid byte next
leads-straight p anchored sid c byte next fit met c_in byte_in same within stands edge =
    let nfa = p.nfa in
    let m = dictionary nfa in
    let start = (special_in nfa).start_unanchored_id in
    let source = fit.source in
    let of = λ (text : ℕ → List ℕ) (t : AreTables (dictionary nfa) text nfa.tables).
    straight (texts-of nfa text t) (edge text t) met.within met.stands met.own stands in
    record {
      met = record {
        within = within;
        stands = stands;
        own = λ e. ∥∥₁_elim source.stand (λ x y. absurd x) (λ w. (of w.0 w.1).other e);
      };
      dead = λ is. ∥∥₁_elim source.stand (Coded-set coded_ℕ next 0) (λ w. (of w.0 w.1).dead is);
      leads = λ text t past. alike-of p fit c byte c_in byte_in same (is_anchored anchored) (text sid)
          (state_of text next) ((of text t).leads past);
    }

-- if a byte leads nowhere, so do all bytes of its class, and an anchored search ends at the dead state
leads-over : (p : RowPlan) (sid c byte : ℕ) → IsFit p → MayBeMet p.nfa Yes sid → c < 256 → byte < 256
    → class p.classes c ≡ class p.classes byte
    → ((text : ℕ → List ℕ) → AreTables (dictionary p.nfa) text p.nfa.tables → IsEdgeIn p.nfa text sid c 1)
    → LeadsIn p.nfa Yes sid byte 0
leads-over p sid c byte fit met c_in byte_in same edge =
    let nfa = p.nfa in
    let m = dictionary nfa in
    let start = (special_in nfa).start_unanchored_id in
    record {
      met = met-dead nfa Yes fit.source;
      dead = λ _. refl;
      leads = λ text t past. alike-of p fit c byte c_in byte_in same true (text sid) None
          (stuck-dead (stuck (texts-of nfa text t) (edge text t) met.stands));
    }

-- no transition leads nowhere from a state that an unanchored search comes to
never-none : (nfa : NFA) (sid k c : ℕ) → IsSource nfa → AreEdges nfa sid (edges_in nfa sid) → MayBeMet nfa No sid
    → 1 < sid → slice_get (edges_in nfa sid) k ≢ Some (c, 1)
never-none nfa sid k c source e met past is =
    let start = (special_in nfa).start_unanchored_id in
    ⊎_elim
    (λ (here : sid ≡ start).
    ∥∥₁_elim source.stand (λ x y. absurd x)
    (λ w. (stuck (texts-of nfa w.0 w.1) ((e.leading w.0 w.1).lead k c 1 is) met.stands).apart here))
    (λ (there : sid ≢ start).
    let more =
    e.some k c 1
    (λ full. ⊎_elim (λ (zero_is : sid ≡ 0). omega (arith, past, zero_is))
    (λ (s : (sid ≡ start) ⊎ (sid ≡ start + 1)). ⊎_elim there met.own s) full) is in
    omega (arith, more))
    (cases_eq sid start)

-- the entry for a state other than the fail state is its number
entry-some : (p : RowPlan) (anchored : Anchored) (next : ℕ) → next ≢ 1
    → entry_in p anchored next ≡ number_in p anchored next
entry-some p anchored next some = cond-false (next == 1) 0 (number_in p anchored next) (grind (arith, nat_tests))

-- a transition to the fail state leads nowhere, which only an anchored search can meet
written-none : (p : RowPlan) (anchored : Anchored) (sid k c byte cell : ℕ) → IsFit p
    → AreEdges p.nfa sid (edges_in p.nfa sid) → MayBeMet p.nfa anchored sid → 1 < sid
    → slice_get (edges_in p.nfa sid) k ≡ Some (c, 1) → byte < 256 → class p.classes c ≡ class p.classes byte → cell ≡ 0
    → (to : ℕ) × IsCell p.nfa p.kind p.stride cell anchored sid byte to
written-none p No sid k c byte cell fit e met past is byte_in same zero_is =
    absurd (never-none p.nfa sid k c fit.source e met past is)
written-none p Yes sid k c byte cell fit e met past is byte_in same zero_is = (
  0,
  (
    leads-over p sid c byte fit met (e.within k c 1 is).0 byte_in same (λ text t. (e.leading text t).lead k c 1 is),
    zero_is ∙ sym (number-dead p Yes),
  ),
)

-- an entry that is written for a transition is right
pub written-right : (p : RowPlan) (anchored : Anchored) (sid k c byte next cell : ℕ) → IsFit p
    → AreEdges p.nfa sid (edges_in p.nfa sid) → MayBeMet p.nfa anchored sid → 1 < sid
    → slice_get (edges_in p.nfa sid) k ≡ Some (c, next) → byte < 256 → class p.classes c ≡ class p.classes byte
    → cell ≡ entry_in p anchored next → (to : ℕ) × IsCell p.nfa p.kind p.stride cell anchored sid byte to
written-right p anchored sid k c byte next cell fit e met past is byte_in same written =
    let w = e.within k c next is in
    ⊎_elim
    (λ (none : next ≡ 1). written-none p anchored sid k c byte cell fit e met past
    (subst (λ n. slice_get (edges_in p.nfa sid) k ≡ Some (c, n)) none is) byte_in same
    (written ∙ cond-true (next == 1) 0 (number_in p anchored next) (grind (arith, nat_tests))))
    (λ (some : next ≢ 1). (
      next,
      (
        leads-straight p anchored sid c byte next fit met w.0 byte_in same w.1 some
            (λ text t. (e.leading text t).lead k c next is),
        written ∙ entry-some p anchored next some,
      ),
    ))
    (cases_eq next 1)

-- ---- without a transition

-- a byte whose class no transition has leads nowhere
no-edge : (p : RowPlan) (sid byte : ℕ) → AreEdges p.nfa sid (edges_in p.nfa sid) → byte < 256
    → ((k c next : ℕ)
    → ¬ ((slice_get (edges_in p.nfa sid) k ≡ Some (c, next)) × (class p.classes c ≡ (class p.classes byte))))
    → (text : ℕ → List ℕ) → AreTables (dictionary p.nfa) text p.nfa.tables → IsEdgeIn p.nfa text sid byte 1
no-edge p sid byte e byte_in none text t =
    (e.leading text t).missing byte byte_in (λ k next is. none k byte next (is, refl))

-- a byte without a transition leads where it does from the failure
leads-by_failure : (nfa : NFA) (sid byte next : ℕ) → IsSource nfa → FailsIn nfa sid (fail_in nfa sid)
    → MayBeMet nfa No sid → 1 < sid
    → ((text : ℕ → List ℕ) → AreTables (dictionary nfa) text nfa.tables → IsEdgeIn nfa text sid byte 1)
    → LeadsIn nfa No (fail_in nfa sid) byte next → LeadsIn nfa No sid byte next
leads-by_failure nfa sid byte next source f met past edge h =
    let m = dictionary nfa in
    let start = (special_in nfa).start_unanchored_id in
    let fail = fail_in nfa sid in
    record {
      met = h.met;
      dead = λ e. absurd (omega (arith, past, e));
      leads = λ text t more.
          let texts = texts-of nfa text t in
          let s = stuck texts (edge text t) met.stands in
          let fails = f.fails text t past in
          ⊎_elim
          (λ (none : fail ≡ 0).
          let some : text sid ≢ [] = λ e. ⊎_elim s.apart met.own (texts.others sid past met.within e) in
          let over = leads-failure_none byte some (subst (FailsTo m (text sid)) (state-none text none) fails) s.none in
          subst (LeadsTo m false (text sid ++ byte ∷ [])) (sym (state-none text (h.dead none))) over)
          (λ (is : fail ≢ 0).
          let stands = f.stands in
          let deep : 1 < fail = omega (arith, is, stands) in
          (leads-failure byte (state_of text next) (subst (FailsTo m (text sid)) (state-some text fail deep) fails)
          s.none).0 (h.leads text t deep))
          (cases_eq fail 0);
    }

-- ---- rows

-- a row is right for unanchored searches if it has the transitions written over the failure's row
pub row-plain : (p : RowPlan) (sid : ℕ) (old new : List ℕ) → IsFit p → AreEdges p.nfa sid (edges_in p.nfa sid)
    → FailsIn p.nfa sid (fail_in p.nfa sid) → MayBeMet p.nfa No sid → 1 < sid
    → ((x : ℕ) → x < p.stride → IsEntry p No (edges_in p.nfa sid) x
    (slice_index old (number_in p No (fail_in p.nfa sid) + x)) (slice_index new (number_in p No sid + x)))
    → IsRowRight p No (fail_in p.nfa sid) old → IsRowRight p No sid new
row-plain p sid old new fit e f met past entries right byte small =
    by (entries (class p.classes byte) (fit.letters byte small))
  where
    by : IsEntry p No (edges_in p.nfa sid) (class p.classes byte)
        (slice_index old (number_in p No (fail_in p.nfa sid) + class p.classes byte))
        (slice_index new (number_in p No sid + class p.classes byte))
        → (to : ℕ) × IsCell p.nfa p.kind p.stride (slice_index new (number_in p No sid + class p.classes byte)) No sid
        byte to
    by (Written k c next has is) =
        written-right p No sid k c byte next (slice_index new (number_in p No sid + class p.classes byte)) fit e met
        past has.0 small has.1 is
    by (Kept none is) =
        let r = right byte small in (
          r.0,
          (
            leads-by_failure p.nfa sid byte r.0 fit.source f met past (no-edge p sid byte e small none) r.1.0,
            is ∙ r.1.1,
          ),
        )

-- a row is right for anchored searches if it has the transitions written over a blank row
pub row-anchored : (p : RowPlan) (sid : ℕ) (old new : List ℕ) → IsFit p → AreEdges p.nfa sid (edges_in p.nfa sid)
    → MayBeMet p.nfa Yes sid → 1 < sid
    → ((x : ℕ) → x < p.stride → IsEntry p Yes (edges_in p.nfa sid) x (slice_index old (number_in p Yes sid + x))
    (slice_index new (number_in p Yes sid + x))) → IsUnwritten p.stride (number_in p Yes sid) old
    → IsRowRight p Yes sid new
row-anchored p sid old new fit e met past entries blank byte small =
    by (entries (class p.classes byte) (fit.letters byte small))
  where
    by : IsEntry p Yes (edges_in p.nfa sid) (class p.classes byte)
        (slice_index old (number_in p Yes sid + class p.classes byte))
        (slice_index new (number_in p Yes sid + class p.classes byte))
        → (to : ℕ) × IsCell p.nfa p.kind p.stride (slice_index new (number_in p Yes sid + class p.classes byte)) Yes sid
        byte to
    by (Written k c next has is) =
        written-right p Yes sid k c byte next (slice_index new (number_in p Yes sid + class p.classes byte)) fit e met
        past has.0 small has.1 is
    by (Kept none is) = (
      0,
      (
        leads-over p sid byte byte fit met small small refl (no-edge p sid byte e small none),
        is ∙ (blank (class p.classes byte) (fit.letters byte small) ∙ sym (number-dead p Yes)),
      ),
    )
