-- The words of an automaton are those of its dictionary: each place names a state, and the words there are the state's.
use Rattle.std.proofs.Common.{◌≡◌, ◌≢◌, ◌⊎◌, ℕ, zero, suc, ◌+◌, ◌<◌, ◌≤◌, Bool, false, true, IsTrue, map, List, [], ◌∷◌, ◌++◌, length, Option, Some, None, inl, inr, refl, sym, ap, subst, ◌∙◌, ⊎_elim, arith, length-append}
use Rattle.std.proofs.lemmas.Bool.{cases_Bool, cases_eq}
use Rattle.std.proofs.lemmas.Bool.Decides.{nat_tests}
use Rattle.std.proofs.lemmas.Option.{same_Some}
use Rattle.ac_input.specs.Number.{greatest_number}
use Rattle.ac_input.specs.Alphabet.{class}
use Rattle.ac_input.specs.Dictionary.{BeginsEntered}
use Rattle.ac_input.specs.Laws.LiveLaws.{canonical}
use Rattle.ac_input.specs.States.{FailsTo, LeadsTo}
use Rattle.ac_automaton.specs.Named.{Naming, nowhere, text_len, IsEdgeBy, IsFailureBy, AreNumbers, AreLinked}
use Rattle.ac_noncontiguous.specs.declared.nfa.NFA.{NFA}
use Rattle.ac_noncontiguous.specs.Nfa.{state_of, AreTables}
use Rattle.ac_noncontiguous.specs.Nfa.Reads.{dictionary}
use Rattle.ac_noncontiguous.specs.Nfa.ReadCalls.{state_len, fail_in, special_in, TextsBegin, AreBounds, IsEdgeIn, OfTexts}
use Rattle.ac_tables.specs.Contiguous.Words.{StateParts, next_by}
use Rattle.ac_tables.specs.Contiguous.Table.{parts_of, place_in}
use Rattle.ac_tables.specs.Source.{AreServing}
use Rattle.ac_tables.specs.Contiguous.Build.{IsKnown}
use Rattle.ac_tables.proofs.contiguous.PlacesLemmas.{AreApartInTable, at-some, at-found, named-met, named-state, named-text, met-stands, met-unanchored, met-anchored, met-other, named_by, met_state_at, is_met}
use Rattle.ac_tables.proofs.contiguous.StandLemmas.{stands, place-one}
use Rattle.ac_tables.proofs.contiguous.EntryLemmas.{entry}

-- ---- what is known of an automaton

-- what is known of an automaton whose states stand for these texts
pub record Laid (nfa : NFA) (text : ℕ → List ℕ) (dense_depth : ℕ) (classes : List ℕ) : Type 0 where
  pub stand : AreTables (dictionary nfa) text nfa.tables
  pub begin : TextsBegin nfa
  pub known : ((sid : ℕ) → sid < (state_len nfa) → sid ≢ nowhere → IsKnown nfa sid)
  pub bounds : OfTexts nfa (λ text. AreBounds nfa text (special_in nfa))
  pub serving : AreServing (dictionary nfa) classes
  pub fits : (sid : ℕ) → sid < state_len nfa → place_in nfa dense_depth classes sid ≤ greatest_number

-- the unanchored start
abbrev pub start_in : NFA → ℕ
start_in nfa = (special_in nfa).start_unanchored_id

-- the naming of the places
abbrev pub names_in : NFA → ℕ → List ℕ → (ℕ → List ℕ) → Naming
names_in nfa dense_depth classes text =
    named_by (state_of text) (state_len nfa) (start_in nfa) (λ _ i. place_in nfa dense_depth classes i)

-- the parts of the state that was found at a number, if one was
abbrev pub known_at : NFA → ℕ → List ℕ → Option ℕ → StateParts
known_at nfa dense_depth classes None = parts_of nfa dense_depth classes (place_in nfa dense_depth classes) 0
known_at nfa dense_depth classes (Some i) = parts_of nfa dense_depth classes (place_in nfa dense_depth classes) i

-- the parts at each number
abbrev pub parts_in : NFA → ℕ → List ℕ → ℕ → StateParts
parts_in nfa dense_depth classes sid =
    known_at nfa dense_depth classes (met_state_at (λ _. true) (place_in nfa dense_depth classes) (state_len nfa) sid)

-- ---- the state at a place

-- a state past 1 stands for its text
pub text-past : (text : ℕ → List ℕ) (i : ℕ) → 1 < i → state_of text i ≡ Some (text i)
text-past text zero past = absurd (omega (arith, past))
text-past text (suc zero) past = absurd (omega (arith, past))
text-past text (suc (suc i)) past = refl

-- a state that stands for a text is past 1
pub text-some : (text : ℕ → List ℕ) (i : ℕ) (t : List ℕ) → state_of text i ≡ Some t → (1 < i) × (text i ≡ t)
text-some text zero t is = absurd (let e : None ≡ Some t = is in cc)
text-some text (suc zero) t is = absurd (let e : None ≡ Some t = is in cc)
text-some text (suc (suc i)) t is = (omega arith, same_Some (text (suc (suc i))) t is)

-- a state that stands for no text is the dead state, unless it is the fail state
pub text-none : (text : ℕ → List ℕ) (i : ℕ) → i ≢ 1 → state_of text i ≡ None → i ≡ 0
text-none text zero stands is = refl
text-none text (suc zero) stands is = refl'
  where
    refl' : suc zero ≡ 0
    refl' = absurd (stands refl)
text-none text (suc (suc i)) stands is = absurd (let e : Some (text (suc (suc i))) ≡ None = is in cc)

-- a state other than 1 is the dead state, or past 1
pub zero-or-past : (i : ℕ) → i ≢ 1 → (i ≡ 0) ⊎ (1 < i)
zero-or-past i stands = ⊎_elim (λ (z : i ≡ 0). inl z) (λ (nz : i ≢ 0). inr (omega (arith, nz, stands))) (cases_eq i 0)

-- no two states stand at one place
apart : (nfa : NFA) (dense_depth : ℕ) (classes : List ℕ)
    → AreApartInTable (state_len nfa) (start_in nfa) (λ _ i. place_in nfa dense_depth classes i)
apart nfa dense_depth classes a b i j i_in j_in i_met j_met same = place-one nfa dense_depth classes i j same

-- the parts at a state's place are the state's
pub parts-at : (nfa : NFA) (dense_depth : ℕ) (classes : List ℕ) (i : ℕ) → i < state_len nfa
    → parts_in nfa dense_depth classes (place_in nfa dense_depth classes i)
    ≡ parts_of nfa dense_depth classes (place_in nfa dense_depth classes) i
parts-at nfa dense_depth classes i within =
    let place = place_in nfa dense_depth classes in
    let found = at-found (λ _. true) place (state_len nfa) i within refl in
    let some = at-some (λ _. true) place (state_len nfa) (place i) found.0 found.1 in
    ap (known_at nfa dense_depth classes) found.1
    ∙ ap (parts_of nfa dense_depth classes place) (place-one nfa dense_depth classes found.0 i some.2)

-- what holds at the place of each state that is met holds at each number that is met
pub at-met : (nfa : NFA) (dense_depth : ℕ) (classes : List ℕ) (text : ℕ → List ℕ) (anchored : Bool) (Holds : ℕ → Type 0)
    → ((i : ℕ) → i < state_len nfa → IsTrue (is_met (start_in nfa) anchored i)
    → Holds (place_in nfa dense_depth classes i)) → (sid : ℕ)
    → IsTrue ((names_in nfa dense_depth classes text).met anchored sid) → Holds sid
at-met nfa dense_depth classes text anchored Holds each sid met =
    let s = named-state (state_of text) (state_len nfa) (start_in nfa) (λ _ i. place_in nfa dense_depth classes i)
    anchored sid met in
    subst Holds s.3 (each s.0 s.1 s.2)

-- the place of a state that is met is met
pub met-at : (nfa : NFA) (dense_depth : ℕ) (classes : List ℕ) (text : ℕ → List ℕ) (anchored : Bool) (i : ℕ)
    → i < state_len nfa → IsTrue (is_met (start_in nfa) anchored i)
    → IsTrue ((names_in nfa dense_depth classes text).met anchored (place_in nfa dense_depth classes i))
met-at nfa dense_depth classes text anchored i within met =
    named-met (state_of text) (state_len nfa) (start_in nfa) (λ _ j. place_in nfa dense_depth classes j) anchored i
    within met

-- the place of a state that is met names what the state stands for
pub text-at : (nfa : NFA) (dense_depth : ℕ) (classes : List ℕ) (text : ℕ → List ℕ) (anchored : Bool) (i : ℕ)
    → i < state_len nfa → IsTrue (is_met (start_in nfa) anchored i)
    → (names_in nfa dense_depth classes text).text (place_in nfa dense_depth classes i) ≡ state_of text i
text-at nfa dense_depth classes text anchored i within met =
    named-text (state_of text) (state_len nfa) (start_in nfa) (λ _ j. place_in nfa dense_depth classes j) anchored i
    (apart nfa dense_depth classes) within met

-- unanchored searches meet every state but the fail state and the anchored start
pub met-but : (start i : ℕ) → i ≢ 1 → i ≢ start + 1 → IsTrue (is_met start false i)
met-but start i stands other = grind (arith, nat_tests)

-- ---- one edge

-- an edge of the automaton is an edge between the places of its states
edge-named : (nfa : NFA) (dense_depth : ℕ) (classes : List ℕ) (text : ℕ → List ℕ) (anchored : Bool) (i byte j next : ℕ)
    → Laid nfa text dense_depth classes → i < state_len nfa → IsTrue (is_met (start_in nfa) anchored i)
    → j < state_len nfa → next ≡ place_in nfa dense_depth classes j → IsEdgeIn nfa text i byte j
    → IsEdgeBy (dictionary nfa) (names_in nfa dense_depth classes text)
    (place_in nfa dense_depth classes (start_in nfa)) (place_in nfa dense_depth classes i) byte next
edge-named nfa dense_depth classes text anchored i byte j next h i_in i_met j_in is edge =
    let place = place_in nfa dense_depth classes in
    let names = names_in nfa dense_depth classes text in
    let start = start_in nfa in
    let bounds : AreBounds nfa text (special_in nfa) = h.bounds text h.stand in
    let named = text-at nfa dense_depth classes text anchored i i_in i_met in
    let stands_i = met-stands start anchored i i_met in
    let not_fail : j ≢ 1 → next ≢ nowhere = λ ne e. ne (place-one nfa dense_depth classes j 1 (sym is ∙ e)) in
    let both : j ≢ 1 → j ≢ start → j ≢ start + 1
    → IsTrue (names.met true next) × IsTrue (names.met false next) × (next ≢ nowhere)
    × (names.text next ≡ state_of text j) = λ ne a b.
    let t = met-other start true j ne a b in
    let f = met-other start false j ne a b in (
      subst (λ n. IsTrue (names.met true n)) (sym is) (met-at nfa dense_depth classes text true j j_in t),
      subst (λ n. IsTrue (names.met false n)) (sym is) (met-at nfa dense_depth classes text false j j_in f),
      not_fail ne,
      ap (λ n. names.text n) is ∙ text-at nfa dense_depth classes text true j j_in t,
    ) in
    let past : (t : List ℕ) → names.text (place i) ≡ Some t
    → (1 < i) × (text i ≡ t) = λ t e. text-some text i t (sym named ∙ e) in
    record {
      dead = λ e.
          let zero_i = text-none text i stands_i (sym named ∙ e) in
          let zero_j = edge.dead zero_i in
          let b = both (λ e1. absurd (omega (arith, zero_j, e1)))
          (λ e1. absurd (let p = bounds.past in omega (arith, zero_j, e1, p)))
          (λ e1. absurd (omega (arith, zero_j, e1))) in
          (b.0, b.1, b.2, b.3 ∙ ap (state_of text) zero_j);
      child = λ t e begins.
          let p = past t e in
          let own = subst (λ v. BeginsEntered (dictionary nfa) (v ++ byte ∷ [])) (sym p.1) begins in
          let to = edge.child p.0 own in
          let some : text j ≢ [] = λ empty.
          absurd (let long = length-append (text i) (canonical (dictionary nfa).pairing byte ∷ []) in
          let same = ap length to.2 in let none = ap length empty in omega (arith, long, same, none)) in
          let not_start : j ≢ start = λ e1. some ((bounds.empty j to.0 j_in).1 (inl e1)) in
          let not_next : j ≢ start + 1 = λ e1. some ((bounds.empty j to.0 j_in).1 (inr e1)) in
          let b = both (λ e1. absurd (let past_j = to.0 in omega (arith, e1, past_j))) not_start not_next in (
            b.0,
            b.1,
            b.2,
            b.3 ∙ (text-past text j to.0 ∙ ap Some
                (to.2 ∙ ap (λ v. v ++ canonical (dictionary nfa).pairing byte ∷ []) p.1)),
          );
      none = λ t e other none.
          let p = past t e in
          let not_start : i ≢ start = λ e1. other (ap place e1) in
          let one =
          edge.none p.0 not_start
          (λ begins. none (subst (λ v. BeginsEntered (dictionary nfa) (v ++ byte ∷ [])) p.1 begins)) in
          is ∙ ap place one;
      back = λ t e same none.
          let p = past t e in
          let is_start : i ≡ start = place-one nfa dense_depth classes i start same in
          let back =
          edge.back is_start
          (λ begins. none (subst (λ v. BeginsEntered (dictionary nfa) (v ++ byte ∷ [])) p.1 begins)) in
          let past_start = bounds.past in
          let not_one : j ≢ 1 =
          λ e1. absurd
          (⊎_elim (λ (z : j ≡ 0). omega (arith, z, e1)) (λ (s : j ≡ start). omega (arith, s, e1, past_start)) back.0) in
          let not_next : j ≢ start + 1 =
          λ e1. absurd
          (⊎_elim (λ (z : j ≡ 0). omega (arith, z, e1)) (λ (s : j ≡ start). omega (arith, s, e1)) back.0) in
          let f = met-but start j not_one not_next in
          let to : names.text next ≡ state_of text j = ap (λ n. names.text n) is
          ∙ text-at nfa dense_depth classes text false j j_in f in
          let short : text_len (state_of text j) ≡ 0 =
          ⊎_elim
          (λ (z : j ≡ 0). ap (λ k. text_len (state_of text k)) z)
          (λ (s : j ≡ start).
          let past_j : 1 < j = omega (arith, s, past_start) in
          ap text_len (text-past text j past_j) ∙ ap (λ v. length v) ((bounds.empty j past_j j_in).1 (inl s)))
          back.0 in (
            subst (λ n. IsTrue (names.met false n)) (sym is) (met-at nfa dense_depth classes text false j j_in f),
            not_fail not_one,
            ap text_len to ∙ short,
            subst (LeadsTo (dictionary nfa) false (t ++ byte ∷ [])) (sym to)
                (subst (λ v. LeadsTo (dictionary nfa) false (v ++ byte ∷ []) (state_of text j)) p.1 back.1),
          );
    }

-- a state's place fails to the place of its failure
failure-named : (nfa : NFA) (dense_depth : ℕ) (classes : List ℕ) (text : ℕ → List ℕ) (i fail : ℕ)
    → Laid nfa text dense_depth classes → i < state_len nfa → IsTrue (is_met (start_in nfa) false i)
    → fail ≡ place_in nfa dense_depth classes (fail_in nfa i)
    → IsFailureBy (dictionary nfa) (names_in nfa dense_depth classes text) (place_in nfa dense_depth classes i) fail
failure-named nfa dense_depth classes text i fail h i_in i_met is =
    let names = names_in nfa dense_depth classes text in
    let start = start_in nfa in
    let fails = (h.known i i_in (met-stands start false i i_met)).fails in
    let f = met-but start (fail_in nfa i) fails.stands fails.unanchored in
    let named = text-at nfa dense_depth classes text false i i_in i_met in
    let to : names.text fail ≡ state_of text (fail_in nfa i) = ap (λ n. names.text n) is
    ∙ text-at nfa dense_depth classes text false (fail_in nfa i) fails.within f in
    record {
      met = subst (λ n. IsTrue (names.met false n)) (sym is)
          (met-at nfa dense_depth classes text false (fail_in nfa i) fails.within f);
      fails = λ t e.
          let p = text-some text i t (sym named ∙ e) in
          let own = fails.fails text h.stand p.0 in
          subst (FailsTo (dictionary nfa) t) (sym to)
          (subst (λ v. FailsTo (dictionary nfa) v (state_of text (fail_in nfa i))) p.1 own);
    }

-- ---- the whole automaton

-- the places are numbers that stand for texts
numbers : (nfa : NFA) (dense_depth : ℕ) (classes : List ℕ) (text : ℕ → List ℕ) → Laid nfa text dense_depth classes
    → AreNumbers (dictionary nfa) (names_in nfa dense_depth classes text)
    (place_in nfa dense_depth classes (start_in nfa))
numbers nfa dense_depth classes text h =
    let place = place_in nfa dense_depth classes in
    let names = names_in nfa dense_depth classes text in
    let start = start_in nfa in
    let bounds : AreBounds nfa text (special_in nfa) = h.bounds text h.stand in
    record {
      apart = λ anchored. at-met nfa dense_depth classes text anchored (λ sid. sid ≢ nowhere)
          (λ i i_in i_met e. met-stands start anchored i i_met (place-one nfa dense_depth classes i 1 e));
      unanchored =
          ⊎_elim
          (λ (yes : names.met true (place start) ≡ true).
          let s = named-state (state_of text) (state_len nfa) start (λ _ i. place i) true (place start) yes in
          absurd (met-anchored start s.0 s.2 (place-one nfa dense_depth classes s.0 start s.3)))
          (λ (no : names.met true (place start) ≡ false). no)
          (cases_Bool (names.met true (place start)));
      only = at-met nfa dense_depth classes text false (λ sid. names.text sid ≡ Some [] → sid ≡ place start)
          (λ i i_in i_met e.
          let p = text-some text i [] (sym (text-at nfa dense_depth classes text false i i_in i_met) ∙ e) in
          ⊎_elim
          (λ (s : i ≡ start). ap place s)
          (λ (n : i ≡ start + 1). absurd (met-unanchored start i i_met n))
          ((bounds.empty i p.0 i_in).0 p.1));
      begin = λ anchored sid t met.
          at-met nfa dense_depth classes text anchored
          (λ n. names.text n ≡ Some t → BeginsEntered (dictionary nfa) t
          × (map (canonical (dictionary nfa).pairing) t ≡ t))
          (λ i i_in i_met e.
          let p = text-some text i t (sym (text-at nfa dense_depth classes text anchored i i_in i_met) ∙ e) in
          let own = h.begin text h.stand i p.0 i_in in (
            subst (BeginsEntered (dictionary nfa)) p.1 own.0,
            subst (λ v. map (canonical (dictionary nfa).pairing) v ≡ v) p.1 own.1,
          )) sid met;
    }

-- the edges and failures of the places are right
pub linked : (nfa : NFA) (dense_depth : ℕ) (classes : List ℕ) (text : ℕ → List ℕ) → Laid nfa text dense_depth classes
    → AreLinked (dictionary nfa) (names_in nfa dense_depth classes text)
    (place_in nfa dense_depth classes (start_in nfa))
    (λ sid byte. next_by (parts_in nfa dense_depth classes sid).edges (class classes byte))
    (λ sid. (parts_in nfa dense_depth classes sid).fail)
linked nfa dense_depth classes text h =
    let place = place_in nfa dense_depth classes in
    let names = names_in nfa dense_depth classes text in
    let start = start_in nfa in
    let bounds : AreBounds nfa text (special_in nfa) = h.bounds text h.stand in
    let start_in_len : start < state_len nfa = let w = bounds.within in omega (arith, w) in
    record {
      numbers = numbers nfa dense_depth classes text h;
      edges = λ anchored sid byte met small.
          at-met nfa dense_depth classes text anchored
          (λ n. IsEdgeBy (dictionary nfa) names (place start) n byte
          (next_by (parts_in nfa dense_depth classes n).edges (class classes byte))) (λ i i_in i_met.
          let known = h.known i i_in (met-stands start anchored i i_met) in
          let long : 1 < state_len nfa = let p = bounds.past in omega (arith, p, start_in_len) in
          let to =
          entry nfa classes place text i byte h.serving refl long small known.edges
          (known.edges.leading text h.stand) in
          let next : next_by (parts_in nfa dense_depth classes (place i)).edges (class classes byte) ≡ place to.0 =
          ap (λ s. next_by s.edges (class classes byte)) (parts-at nfa dense_depth classes i i_in) ∙ to.2 in
          edge-named nfa dense_depth classes text anchored i byte to.0 _ h i_in i_met to.1 next to.3) sid met;
      failures = λ sid met. at-met nfa dense_depth classes text false
          (λ n. IsFailureBy (dictionary nfa) names n (parts_in nfa dense_depth classes n).fail) (λ i i_in i_met.
          failure-named nfa dense_depth classes text i _ h i_in i_met
          (ap (λ s. s.fail) (parts-at nfa dense_depth classes i i_in))) sid met;
    }
