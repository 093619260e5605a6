-- The table that is made from an automaton.
use Rattle.std.proofs.Common.{◌≡◌, ℕ, ◌+◌, ◌<◌, List, ◌++◌, ◌∷◌, [], Option, sym, subst, ◌∙◌, ⊎_elim, arith}
use Rattle.std.specs.Prelude.{IfSome, ◌≢◌}
use Rattle.std.specs.Coded.{le_prop, Coded-set, coded_ℕ}
use Rattle.std.proofs.Math.Logic.{∥∥₁_elim, ∥∥₁_map}
use Rattle.ac_input.specs.Alphabet.{class}
use Rattle.ac_input.specs.Dictionary.{Dictionary}
use Rattle.ac_input.specs.Pairing.{IsPairing}
use Rattle.ac_input.specs.States.{LeadsTo}
use Rattle.ac_input.proofs.lemmas.ClassLemmas.{byte-alone}
use Rattle.ac_noncontiguous.specs.declared.error.BuildErrorKind.{BuildErrorKind}
use Rattle.ac_noncontiguous.specs.declared.error.BuildErrorKind.TheVariants.{StateIDOverflow, PatternIDOverflow, PatternTooLong, Memory}
use Rattle.ac_noncontiguous.specs.declared.nfa.NFA.{NFA}
use Rattle.ac_noncontiguous.specs.Nfa.Reads.{dictionary}
use Rattle.ac_noncontiguous.specs.Nfa.ReadCalls.{state_len, classes_in, special_in, TextsBegin, OfTexts, AreBounds}
use Rattle.ac_noncontiguous.specs.Nfa.{AreTables}
use Rattle.ac_tables.specs.declared.contiguous.table.Table.{Table}
use Rattle.ac_automaton.specs.Named.{Naming, nowhere}
use Rattle.ac_tables.specs.Contiguous.Words.{StateParts, words_of, AreWordsAt}
use Rattle.ac_tables.specs.Contiguous.Table.{AreStates, AreSomeStates, ArePlacesTooGreat}
use Rattle.ac_noncontiguous.specs.declared.settings.Settings.{Settings}
use Rattle.ac_tables.specs.Contiguous.Builder.{IsRefusedFrom, contiguous_dense_depth}
use Rattle.ac_tables.specs.Source.{AreClassesFor, AreServing}
use Rattle.ac_tables.specs.Contiguous.Build.{ArePlacesIn, IsCopiedTable, IsRefusedFor, AreRowsFrom, IsKnown}
use Rattle.ac_tables.specs.Contiguous.Rows.{AreRowsIfAny, AreSameIfAny}
use Rattle.ac_tables.specs.declared.contiguous.rows.Rows.{Rows}
use Rattle.ac_tables.proofs.contiguous.LaidRowLemmas.{rows-if-any, rows-copied}
use Rattle.ac_tables.proofs.contiguous.LayLemmas.{Laid, names_in, parts_in}
use Rattle.ac_tables.proofs.contiguous.LenLemmas.{place-after}
use Rattle.ac_tables.proofs.contiguous.StatesLemmas.{states, IsWordTableOf}
use Rattle.ac_input.specs.Alphabet.Classes.{ClassesLeadAlike, AreByteClasses}

-- ---- classes that serve

-- the classes of the automaton serve its dictionary
pub own-serve : (nfa : NFA) (classes : List ℕ) → (∥ AreByteClasses (dictionary nfa) (classes_in nfa) ∥₁)
    → ClassesLeadAlike (dictionary nfa) (classes_in nfa) → classes ≡ classes_in nfa
    → AreServing (dictionary nfa) classes
own-serve nfa classes those alike is =
    subst (AreServing (dictionary nfa)) (sym is)
    (record {
      alone = λ b small known c c_small same.
          ∥∥₁_elim those (Coded-set coded_ℕ c b) (λ are. byte-alone (dictionary nfa) are small known c c_small same);
      alike = alike;
    })

-- the classes of single bytes serve every dictionary
pub singles-serve : (m : Dictionary) (classes : List ℕ) → ((b : ℕ) → b < 256 → class classes b ≡ b)
    → AreServing m classes
singles-serve m classes h = record {
  alone = λ b small _ c c_small same. sym (h c c_small) ∙ (same ∙ h b small);
  alike = λ b c b_small c_small same anchored text r.
      subst (λ x. LeadsTo m anchored (text ++ x ∷ []) r) (sym (h b b_small) ∙ (same ∙ h c c_small));
}

-- ---- places that are read

-- both starts are states, and so is the last state that matches
pub specials-within : (nfa : NFA) → (∥ ((text : ℕ → List ℕ) × AreTables (dictionary nfa) text nfa.tables) ∥₁)
    → OfTexts nfa (λ text. AreBounds nfa text (special_in nfa))
    → ((special_in nfa).start_anchored_id < state_len nfa) × ((special_in nfa).max_match_id < state_len nfa)
specials-within nfa some bounds = (
  ∥∥₁_elim some le_prop (λ w. (bounds w.0 w.1).within),
  ∥∥₁_elim some le_prop (λ w.
      let b = bounds w.0 w.1 in
      let within = b.within in
      let next = b.next in
      ⊎_elim
      (λ (a : (special_in nfa).max_match_id + 1 ≡ (special_in nfa).start_unanchored_id). omega (arith, a, within, next))
      (λ (e : (special_in nfa).max_match_id ≡ (special_in nfa).start_anchored_id). omega (arith, e, within))
      b.last_match),
)

-- if each place is at most the greatest number, no place is too great
pub places-small : (nfa : NFA) (dense_depth : ℕ) (classes places : List ℕ) → ArePlacesIn nfa dense_depth classes places
    → ¬ ArePlacesTooGreat nfa dense_depth classes
places-small nfa dense_depth classes places h great =
    let fits = h.fits great.0 great.1 in
    let place = place-after nfa dense_depth classes great.0 great.2 in
    let past = great.3 in
    absurd (omega (arith, fits, place, past))

-- ---- the states

-- the table and the rows, if any, hold the states of the dictionary, whatever texts these stand for
pub some-states : (nfa : NFA) (dense_depth : ℕ) (table : Table) (rows : Option Rows) (places : List ℕ)
    → (∥ ((text : ℕ → List ℕ) × AreTables (dictionary nfa) text nfa.tables) ∥₁) → TextsBegin nfa
    → ((sid : ℕ) → sid < (state_len nfa) → sid ≢ nowhere → IsKnown nfa sid)
    → OfTexts nfa (λ text. AreBounds nfa text (special_in nfa)) → IsPairing (dictionary nfa).pairing
    → AreServing (dictionary nfa) table.classes → ArePlacesIn nfa dense_depth table.classes places
    → IsWordTableOf nfa dense_depth table → IfSome rows (AreRowsFrom nfa table.classes places)
    → AreSomeStates (dictionary nfa) table rows
some-states nfa dense_depth table rows places some begin known bounds paired serving h made filled =
    ∥∥₁_map some (λ w.
    let laid : Laid nfa w.0 dense_depth table.classes = record {
      stand = w.1;
      begin = begin;
      known = known;
      bounds = bounds;
      serving = serving;
      fits = h.fits;
    } in (
      names_in nfa dense_depth table.classes w.0,
      parts_in nfa dense_depth table.classes,
      states nfa dense_depth table w.0 laid made,
      rows-if-any nfa dense_depth table.classes places w.0 rows laid h filled,
    ))

-- ---- the dictionary

-- ---- why no words can be made

-- a place that is too great with the classes is too great by the settings
pub refused-laid : (s : Settings) (from : NFA) (classes : List ℕ) (error : BuildErrorKind)
    → AreClassesFor from s.byte_classes classes → IsRefusedFor from (contiguous_dense_depth s) classes error
    → IsRefusedFrom s from error
refused-laid s from classes (StateIDOverflow max requested) chosen h = (h.0, h.1, (classes, chosen, h.2))
refused-laid s from classes (PatternIDOverflow max requested) chosen h = h
refused-laid s from classes (PatternTooLong pattern len) chosen h = h
refused-laid s from classes Memory chosen h = h

-- ---- copies

-- the states of a table are those of one that has the same words
words-copied : (m : Dictionary) (old new : Table) (names : Naming) (parts : ℕ → StateParts)
    → new.words.items ≡ old.words.items → AreStates m old names parts
    → AreStates m (record old { words = new.words }) names parts
words-copied m old new names parts same h = record {
  alphabet = h.alphabet;
  few_classes = h.few_classes;
  alone = h.alone;
  small = h.small;
  stand = λ anchored sid met. subst (λ ws. AreWordsAt ws sid (words_of old.alphabet_len (parts sid))) (sym same)
      (h.stand anchored sid met);
  fits = h.fits;
  linked = h.linked;
  dead = h.dead;
  dead_met = h.dead_met;
  first = h.first;
  starting = h.starting;
  lists = h.lists;
  none = h.none;
  few = h.few;
  matching = h.matching;
  greatest = h.greatest;
  before = h.before;
  between = h.between;
  past = h.past;
}

-- the states of a table's copy are those of the table, by the same naming
pub names-copied : (m : Dictionary) (old new : Table) (names : Naming) (parts : ℕ → StateParts) → IsCopiedTable old new
    → AreStates m old names parts → AreStates m new names parts
names-copied m old new names parts same h =
    let words = words-copied m old new names parts same.words h in
    let copied : record old { words = new.words } ≡ new = λ i. record old {
      words = new.words;
      classes = sym same.classes i;
      alphabet_len = sym same.alphabet_len i;
      start = sym same.start i;
      start_anchored = sym same.start_anchored i;
      max_match = sym same.max_match i;
    } in
    subst (λ t. AreStates m t names parts) copied words

-- the states of a table's copy are those of the table
pub states-copied : (m : Dictionary) (old new : Table) (old_rows new_rows : Option Rows) → IsCopiedTable old new
    → AreSameIfAny old_rows new_rows → AreSomeStates m old old_rows → AreSomeStates m new new_rows
states-copied m old new old_rows new_rows same same_rows some = ∥∥₁_map some (λ w.
    let names = w.0 in
    let parts = w.1 in (
      names,
      parts,
      names-copied m old new names parts same w.2,
      rows-copied m new.classes names old_rows new_rows same_rows
          (subst (λ x. AreRowsIfAny m x names old_rows) (sym same.classes) w.3),
    ))
