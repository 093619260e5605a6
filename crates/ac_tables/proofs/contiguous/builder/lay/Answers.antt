-- The words and the places are those of the automaton, and so are the states.
use Rattle.std.proofs.Common.{◌≡◌, ◌<◌, ◌∙◌, ap, refl, subst, arith}
use Rattle.ac_noncontiguous.specs.Nfa.ReadCalls.{state_len, special_in, OfTexts, AreBounds}
use Rattle.ac_tables.specs.declared.contiguous.table.Table.{Table}
use Rattle.ac_noncontiguous.proofs.lemmas.IndexLemmas.{read-there}
use Rattle.ac_tables.proofs.contiguous.LaidRowLemmas.{places-rise}
use Rattle.ac_tables.proofs.contiguous.WordTableLemmas.{specials-within, places-small, some-states}
use Rattle.ac_tables.proofs.dfa.BuildLemmas.{special-within}
use Rattle.ac_tables.proofs.contiguous.builder.lay.Goals as goal
use Rattle.ac_tables.proofs.contiguous.StatesLemmas.{IsWordTableOf}

pub rows_of-requires-clause-rise : goal.rows_of-requires-clause-rise
rows_of-requires-clause-rise c =
    places-rise c.args.nfa.now c.args.dense_depth c.args.classes c.in_ok-layout.layout.places.items
    c.in_ok-layout.ensures.made

pub rows_of-requires-clause-some : goal.rows_of-requires-clause-some
rows_of-requires-clause-some c =
    let bounds : OfTexts c.args.nfa.now (λ text. AreBounds c.args.nfa.now text (special_in c.args.nfa.now)) = subst
    (λ special. OfTexts c.args.nfa.now (λ text. AreBounds c.args.nfa.now text special)) c.special-special.ensures.value
    c.special-special.ensures.order in
    let within = specials-within c.args.nfa.now c.special-special.ensures.whole.stand bounds in
    omega (arith, within.0, c.in_ok-layout.ensures.made.counted)

pub returns-clause-made : goal.returns-clause-made
returns-clause-made c =
    let nfa = c.args.nfa.now in
    let classes = c.args.classes in
    let depth = c.args.dense_depth in
    let h = c.in_ok-layout.ensures.made in
    let places = c.in_ok-layout.layout.places.items in
    let value = c.special-special.ensures.value in
    let whole = c.special-special.ensures.whole in
    let bounds : OfTexts nfa (λ text. AreBounds nfa text (special_in nfa)) =
    subst (λ special. OfTexts nfa (λ text. AreBounds nfa text special)) value c.special-special.ensures.order in
    let within = specials-within nfa whole.stand bounds in
    let next = within.0 in
    let max = within.1 in
    let counted = h.counted in
    let start : (special_in nfa).start_unanchored_id < state_len nfa = omega (arith, next) in
    let a : c.as_usize.result ≡ (special_in nfa).start_unanchored_id = c.as_usize.ensures.value
    ∙ ap (λ s. s.start_unanchored_id) value in
    let b : c.as_usize-2.result ≡ (special_in nfa).start_anchored_id = c.as_usize-2.ensures.value
    ∙ ap (λ s. s.start_anchored_id) value in
    let d : c.as_usize-3.result ≡ (special_in nfa).max_match_id = c.as_usize-3.ensures.value
    ∙ ap (λ s. s.max_match_id) value in
    let at_a = read-there places (omega (arith, start, counted)) a c.index-start.ensures
    ∙ h.at (special_in nfa).start_unanchored_id start in
    let at_b = read-there places (omega (arith, next, counted)) b c.index-start_anchored.ensures
    ∙ h.at (special_in nfa).start_anchored_id next in
    let at_d = read-there places (omega (arith, max, counted)) d c.index-max_match.ensures
    ∙ h.at (special_in nfa).max_match_id max in
    let table : Table =
    record {
      words = c.in_ok-words.words;
      classes = classes;
      alphabet_len = c.alphabet_len.result;
      start = c.index-start.result.now;
      start_anchored = c.index-start_anchored.result.now;
      max_match = c.index-max_match.result.now;
    } in
    let made : IsWordTableOf nfa depth table = record {
      words = c.in_ok-words.ensures.0;
      alphabet = c.alphabet_len.ensures.value;
      few_classes = c.alphabet_len.ensures.fits;
      classes = c.alphabet_len.ensures.classes;
      start = omega (arith, at_a);
      start_anchored = omega (arith, at_b);
      max_match = omega (arith, at_d);
    } in
    record {
      words = c.in_ok-words.ensures.0;
      small = places-small nfa depth classes places h;
      stands = some-states nfa depth table c.in_ok-rows.rows places whole.stand whole.begin c.in_ok-words.ensures.1
          bounds whole.paired c.requires.serve h made c.in_ok-rows.ensures.made;
      rows = record {
        places = places;
        placed = h;
        asked = c.in_ok-rows.ensures.asked;
        taken = c.in_ok-rows.ensures.taken;
      };
      within = whole.within;
      classed = refl;
    }

pub index-start-requires : goal.index-start-requires
index-start-requires c =
    let w = special-within c.special-special.ensures.whole c.special-special.ensures.value in
    omega (arith, w.0, c.as_usize.ensures.value, c.in_ok-layout.ensures.made.counted)

pub index-start_anchored-requires : goal.index-start_anchored-requires
index-start_anchored-requires c =
    let w = special-within c.special-special.ensures.whole c.special-special.ensures.value in
    omega (arith, w.1, c.as_usize-2.ensures.value, c.in_ok-layout.ensures.made.counted)

pub index-max_match-requires : goal.index-max_match-requires
index-max_match-requires c =
    let w = special-within c.special-special.ensures.whole c.special-special.ensures.value in
    omega (arith, w.2, c.as_usize-3.ensures.value, c.in_ok-layout.ensures.made.counted)
