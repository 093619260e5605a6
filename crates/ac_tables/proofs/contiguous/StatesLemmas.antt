-- The table of an automaton holds the states of its dictionary.
use Rattle.std.proofs.Common.{◌≡◌, ◌≢◌, ◌⊎◌, ◌↔◌, ℕ, ◌+◌, ◌<◌, ◌≤◌, Bool, false, true, IsTrue, map, List, [], ◌∷◌, length, Option, Some, None, slice_get, inl, inr, refl, sym, ap, subst, ◌∙◌, ⊎_elim, arith}
use Rattle.std.specs.Prelude.{option_map, if◌then◌else◌}
use Rattle.std.proofs.lemmas.Bool.{cases_lt}
use Rattle.std.proofs.lemmas.Option.{slice_get-map, same_Some}
use Rattle.ac_input.specs.Number.{greatest_number}
use Rattle.ac_input.specs.Alphabet.{class, alphabet_len, IsClasses}
use Rattle.ac_input.specs.Failure.{IsList}
use Rattle.ac_automaton.specs.Named.{IsFirst, AreLinked}
use Rattle.ac_input.proofs.alphabet.AlphabetLemmas.{class-within}
use Rattle.ac_noncontiguous.specs.declared.nfa.NFA.{NFA}
use Rattle.ac_noncontiguous.specs.Nfa.{state_of}
use Rattle.ac_noncontiguous.specs.Nfa.Reads.{dictionary, matches_at}
use Rattle.ac_noncontiguous.specs.Nfa.ReadCalls.{state_len, edges_in, special_in, AreBounds}
use Rattle.ac_tables.specs.declared.contiguous.table.Table.{Table}
use Rattle.ac_tables.specs.Contiguous.Words.{next_by, words_of, AreWordsAt}
use Rattle.ac_tables.specs.Contiguous.Table.{placed_edge, parts_of, place_in, AreStates, AreWordsOf}
use Rattle.ac_tables.proofs.contiguous.PlacesLemmas.{met-stands, met-other, met-start, met-start_anchored, is_met}
use Rattle.ac_tables.proofs.contiguous.StandLemmas.{stands, place-rises, place-one, place-later}
use Rattle.ac_tables.proofs.contiguous.LayLemmas.{Laid, start_in, names_in, parts_in, text-past, text-some, text-none, zero-or-past, parts-at, at-met, met-at, text-at, linked}

-- A table of an automaton: its words are the automaton's, and its starts and last match are the places of the
-- automaton's states.
pub record IsWordTableOf (nfa : NFA) (dense_depth : ℕ) (table : Table) : Type 0 where
  pub words : AreWordsOf nfa dense_depth table.classes table.words.items
  pub alphabet : table.alphabet_len ≡ alphabet_len table.classes
  pub few_classes : table.alphabet_len ≤ 256
  pub classes : IsClasses table.classes
  pub start : table.start ≡ place_in nfa dense_depth table.classes (special_in nfa).start_unanchored_id
  pub start_anchored : table.start_anchored ≡ place_in nfa dense_depth table.classes (special_in nfa).start_anchored_id
  pub max_match : table.max_match ≡ place_in nfa dense_depth table.classes (special_in nfa).max_match_id

-- the class of a transition is one of the alphabet
placed-fits : (classes : List ℕ) (place : ℕ → ℕ) (edges : List (ℕ × ℕ)) (k : ℕ) (edge : ℕ × ℕ) → IsClasses classes
    → ((byte next : ℕ) → slice_get edges k ≡ Some (byte, next) → byte < 256)
    → slice_get (map (placed_edge classes place) edges) k ≡ Some edge → edge.0 < alphabet_len classes
placed-fits classes place edges k edge are small is = by (slice_get edges k) refl
  where
    by : (r : Option (ℕ × ℕ)) → slice_get edges k ≡ r → edge.0 < alphabet_len classes
    by None e =
        absurd (let none : None ≡ Some edge = sym
        (slice_get-map (placed_edge classes place) edges k ∙ ap (option_map (placed_edge classes place)) e) ∙ is in cc)
    by (Some own) e =
        let same = same_Some (placed_edge classes place own) edge
        (sym (slice_get-map (placed_edge classes place) edges k ∙ ap (option_map (placed_edge classes place)) e)
        ∙ is) in
        let first = ap (λ x. x.0) same in
        omega (arith, class-within are (small own.0 own.1 e), first)

-- a list isn't empty exactly if its length is positive
some-long : (ns : List ℕ) → (ns ≢ []) ↔ (0 < length ns)
some-long [] = (λ some. absurd (some refl), λ lt. absurd (omega (arith, lt)))
some-long (n ∷ ns) = (λ some. omega arith, λ lt e. absurd (let long = ap length e in omega (arith, long)))

-- the start of either anchoring is the first number of its searches
first-is : (nfa : NFA) (dense_depth : ℕ) (classes : List ℕ) (text : ℕ → List ℕ) (anchored : Bool) (i sid : ℕ)
    → Laid nfa text dense_depth classes → i < state_len nfa → IsTrue (is_met (start_in nfa) anchored i) → 1 < i
    → (i ≡ start_in nfa) ⊎ (i ≡ start_in nfa + 1) → sid ≡ place_in nfa dense_depth classes i
    → IsFirst (names_in nfa dense_depth classes text) anchored sid
first-is nfa dense_depth classes text anchored i sid h i_in i_met past start is =
    let names = names_in nfa dense_depth classes text in
    let bounds : AreBounds nfa text (special_in nfa) = h.bounds text h.stand in
    subst (IsFirst names anchored) (sym is) (record {
      met = met-at nfa dense_depth classes text anchored i i_in i_met;
      empty = text-at nfa dense_depth classes text anchored i i_in i_met
          ∙ (text-past text i past ∙ ap Some ((bounds.empty i past i_in).1 start));
    })

-- the table is that of the dictionary, by the naming and the parts of the places
pub states : (nfa : NFA) (dense_depth : ℕ) (table : Table) (text : ℕ → List ℕ) → Laid nfa text dense_depth table.classes
    → IsWordTableOf nfa dense_depth table
    → AreStates (dictionary nfa) table (names_in nfa dense_depth table.classes text)
    (parts_in nfa dense_depth table.classes)
states nfa dense_depth table text h t =
    let classes = table.classes in
    let place = place_in nfa dense_depth classes in
    let names = names_in nfa dense_depth classes text in
    let parts = parts_in nfa dense_depth classes in
    let start = start_in nfa in
    let bounds : AreBounds nfa text (special_in nfa) = h.bounds text h.stand in
    let past = bounds.past in
    let within : start + 1 < state_len nfa = bounds.within in
    let start_is = t.start in
    let next_is = t.start_anchored in
    let max_is = t.max_match in
    let max = (special_in nfa).max_match_id in
    let each = at-met nfa dense_depth classes text in
    let at = parts-at nfa dense_depth classes in
    let rises = place-rises nfa dense_depth classes in
    let zero : (i : ℕ) → place i ≡ 0 → i ≡ 0 = λ i e. place-one nfa dense_depth classes i 0 e in
    record {
      alphabet = t.alphabet;
      few_classes = t.few_classes;
      alone = h.serving.alone;
      small = λ anchored. each anchored (λ sid. sid ≤ greatest_number) (λ i i_in i_met. h.fits i i_in);
      stand = λ anchored. each anchored
          (λ sid. AreWordsAt table.words.items sid (words_of table.alphabet_len (parts sid))) (λ i i_in i_met.
          subst (λ s. AreWordsAt table.words.items (place i) (words_of table.alphabet_len s)) (sym (at i i_in))
          (subst (λ n. AreWordsAt table.words.items (place i) (words_of n (parts_of nfa dense_depth classes place i)))
          (sym t.alphabet)
          (stands nfa dense_depth classes table.words.items i (state_len nfa) t.words i_in
          (met-stands start anchored i i_met))));
      fits = λ anchored sid k edge met.
          each anchored (λ n. slice_get (parts n).edges k ≡ Some edge → edge.0 < table.alphabet_len) (λ i i_in i_met is.
          let known = h.known i i_in (met-stands start anchored i i_met) in
          let own : slice_get (map (placed_edge classes place) (edges_in nfa i)) k ≡ Some edge =
          ap (λ s. slice_get s.edges k) (sym (at i i_in)) ∙ is in
          let alphabet = t.alphabet in
          omega (
            arith,
            alphabet,
            placed-fits classes place (edges_in nfa i) k edge t.classes
                (λ byte next e. (known.edges.within k byte next e).0)
                own,
          )) sid met;
      linked =
          subst (λ n. AreLinked (dictionary nfa) names n (λ sid byte. next_by (parts sid).edges (class classes byte))
          (λ sid. (parts sid).fail)) (sym start_is) (linked nfa dense_depth classes text h);
      dead = λ anchored. each anchored (λ sid. (names.text sid ≡ None) ↔ (sid ≡ 0)) (λ i i_in i_met.
          let named = text-at nfa dense_depth classes text anchored i i_in i_met in (
            λ e. ap place (text-none text i (met-stands start anchored i i_met) (sym named ∙ e)),
            λ e. named ∙ ap (state_of text) (zero i e),
          ));
      dead_met = met-at nfa dense_depth classes text true 0 (omega (arith, within))
          (met-other start true 0 (λ e. absurd (omega (arith, e))) (λ e. absurd (omega (arith, e, past)))
          (λ e. absurd (omega (arith, e))));
      first = λ anchored. first_by anchored;
      starting =
          λ anchored.
          each anchored (λ sid. (names.text sid ≡ Some []) ↔ ((sid ≡ table.start) ⊎ (sid ≡ table.start_anchored)))
          (λ i i_in i_met.
          let named = text-at nfa dense_depth classes text anchored i i_in i_met in (
            λ e.
                let p = text-some text i [] (sym named ∙ e) in
                ⊎_elim
                (λ (s : i ≡ start). inl (ap place s ∙ sym start_is))
                (λ (n : i ≡ start + 1). inr (ap place n ∙ sym next_is))
                ((bounds.empty i p.0 i_in).0 p.1),
            λ e.
                let which : (i ≡ start) ⊎ (i ≡ start + 1) = ⊎_elim
                (λ (a : place i ≡ table.start). inl (place-one nfa dense_depth classes i start (a ∙ start_is)))
                (λ (b : place i ≡ table.start_anchored).
                inr (place-one nfa dense_depth classes i (start + 1) (b ∙ next_is))) e in
                let past_i : 1 < i =
                ⊎_elim (λ (s : i ≡ start). omega (arith, s, past)) (λ (n : i ≡ start + 1). omega (arith, n, past))
                which in
                named ∙ (text-past text i past_i ∙ ap Some ((bounds.empty i past_i i_in).1 which)),
          ));
      lists = λ anchored sid u met.
          each anchored (λ n. names.text n ≡ Some u → IsList (dictionary nfa) u (parts n).matches) (λ i i_in i_met e.
          let p = text-some text i u (sym (text-at nfa dense_depth classes text anchored i i_in i_met) ∙ e) in
          let known = h.known i i_in (met-stands start anchored i i_met) in
          subst (IsList (dictionary nfa) u) (ap (λ s. s.matches) (sym (at i i_in)))
          (subst (λ v. IsList (dictionary nfa) v (matches_at nfa i)) p.1 (known.lists.list text h.stand p.0))) sid met;
      none = λ anchored. each anchored (λ sid. sid ≡ 0 → (parts sid).matches ≡ []) (λ i i_in i_met e.
          let known = h.known i i_in (met-stands start anchored i i_met) in
          let dead = zero i e in
          ap (λ s. s.matches) (at i i_in) ∙ known.lists.none (omega (arith, dead)));
      few = λ anchored. each anchored (λ sid. length (parts sid).matches ≤ greatest_number + 1) (λ i i_in i_met.
          let known = h.known i i_in (met-stands start anchored i i_met) in
          let same = ap (λ s. length s.matches) (at i i_in) in
          let few = known.lists.few in
          omega (arith, same, few));
      matching = λ anchored. each anchored (λ sid. sid ≢ 0 → ((parts sid).matches ≢ []) ↔ (sid ≤ table.max_match))
          (λ i i_in i_met live.
          let same : (parts (place i)).matches ≡ matches_at nfa i = ap (λ s. s.matches) (at i i_in) in
          let past_i : 1 < i = ⊎_elim (λ (z : i ≡ 0). absurd (live (ap place z))) (λ (p : 1 < i). p)
          (zero-or-past i (met-stands start anchored i i_met)) in
          let match = bounds.matching i past_i i_in in
          let list = some-long (matches_at nfa i) in (
            λ some.
                let le = match.0 (list.0 (λ e. some (same ∙ e))) in
                ⊎_elim
                (λ (lt : i < max). omega (arith, rises i max lt, max_is))
                (λ (ge : max ≤ i). let e : i ≡ max = omega (arith, le, ge) in let one = ap place e in
                omega (arith, one, max_is))
                (cases_lt i max),
            λ le e.
                let none : matches_at nfa i ≡ [] = sym same ∙ e in
                let low : i ≤ max = ⊎_elim (λ (gt : max < i). absurd (omega (arith, rises max i gt, le, max_is)))
                (λ (ok : i ≤ max). ok) (cases_lt max i) in
                list.1 (match.1 low) none,
          ));
      greatest =
          ⊎_elim
          (λ (before : max + 1 ≡ start). inl (omega (arith, rises max start (omega (arith, before)), start_is, max_is)))
          (λ (last : max ≡ start + 1). inr (max_is ∙ (ap place last ∙ sym next_is)))
          bounds.last_match;
      before =
          λ anchored. each anchored (λ sid. sid ≢ 0 → sid < table.start → sid ≤ table.max_match)
          (λ i i_in i_met live lt.
          let less : i < start = place-later nfa dense_depth classes i start (omega (arith, lt, start_is)) in
          let low : i ≤ max = ⊎_elim (λ (a : max + 1 ≡ start). omega (arith, a, less))
          (λ (b : max ≡ start + 1). omega (arith, b, less)) bounds.last_match in
          ⊎_elim
          (λ (more : i < max). omega (arith, rises i max more, max_is))
          (λ (ge : max ≤ i). let e : i ≡ max = omega (arith, low, ge) in let one = ap place e in
          omega (arith, one, max_is))
          (cases_lt i max));
      between = λ anchored. each anchored (λ sid. sid < table.start_anchored → sid ≤ table.start) (λ i i_in i_met lt.
          let before : i < start + 1 = place-later nfa dense_depth classes i (start + 1) (omega (arith, lt, next_is)) in
          ⊎_elim
          (λ (less : i < start). omega (arith, rises i start less, start_is))
          (λ (ge : start ≤ i). let e : i ≡ start = omega (arith, before, ge) in let one = ap place e in
          omega (arith, one, start_is))
          (cases_lt i start));
      past = (
        omega (arith, rises 1 start past, start_is),
        omega (arith, rises start (start + 1) (omega arith), start_is, next_is),
      );
    }
  where
    first_by : (anchored : Bool) → IsFirst (names_in nfa dense_depth table.classes text) anchored
        (if anchored then table.start_anchored else table.start)
    first_by true =
        let bounds : AreBounds nfa text (special_in nfa) = h.bounds text h.stand in
        let past = bounds.past in
        first-is nfa dense_depth table.classes text true (start_in nfa + 1) table.start_anchored h bounds.within
        (met-start_anchored (start_in nfa) past) (omega (arith, past)) (inr refl) t.start_anchored
    first_by false =
        let bounds : AreBounds nfa text (special_in nfa) = h.bounds text h.stand in
        let past = bounds.past in
        let within : start_in nfa + 1 < state_len nfa = bounds.within in
        first-is nfa dense_depth table.classes text false (start_in nfa) table.start h (omega (arith, within))
        (met-start (start_in nfa) past) past (inl refl) t.start
