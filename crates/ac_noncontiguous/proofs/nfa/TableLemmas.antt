-- The tables of the automaton are those of the dictionary for which the trie and its links stand.
use Rattle.std.proofs.Common.{◌≡◌, ◌≢◌, ◌↔◌, ◌⊎◌, ℕ, ◌+◌, ◌<◌, ◌≤◌, List, [], length, take, drop, refl, sym, ap, ap₂, subst, ◌∙◌, inl, inr, ⊎_elim, arith, slice_index, slice_index_or, slice_get, get_or, Some, None, Option, option_map, length-drop}
use Rattle.std.proofs.lemmas.Bool.{cases_lt, cases_eq}
use Rattle.std.proofs.lemmas.List.{length-take-le}
use Rattle.std.proofs.lemmas.List.Elements.{Contains-get_or}
use Rattle.ac_input.specs.declared.search.MatchKind.TheVariants.{Standard}
use Rattle.ac_input.specs.Alphabet.{class}
use Rattle.ac_input.specs.Dictionary.{Dictionary}
use Rattle.ac_input.specs.Failure.{IsList, OwnAlone, OwnThen, AreOwn, IsOwn}
use Rattle.ac_input.specs.Laws.LiveLaws.{canonical}
use Rattle.ac_input.specs.States.{FailsTo}
use Rattle.ac_input.proofs.lemmas.LeadsLemmas.{leads-start, leads-start_none}
use Rattle.ac_noncontiguous.specs.declared.links.Links.{Links}
use Rattle.ac_noncontiguous.specs.declared.links.Range.{Range}
use Rattle.ac_noncontiguous.specs.declared.trie.Trie.{Trie}
use Rattle.ac_noncontiguous.specs.declared.nfa.tables.State.{State}
use Rattle.ac_noncontiguous.specs.declared.nfa.tables.Transition.{Transition}
use Rattle.ac_noncontiguous.specs.declared.compiler.numbering.Numbering.{Numbering}
use Rattle.ac_noncontiguous.specs.declared.compiler.outlines.Outline.{Outline}
use Rattle.ac_noncontiguous.specs.Trie.Tree.{text}
use Rattle.ac_noncontiguous.specs.Trie.Kept.{IsTrieOf}
use Rattle.ac_noncontiguous.specs.Links.{no_range, in_range, AreLinks, by_state}
use Rattle.ac_noncontiguous.specs.Nfa.{state_of, byte_at, next_at, row_of, list_of, no_row, IsRowEntry, AreTransitions, AreRows, AreFailures, AreLists, kept_of}
use Rattle.ac_noncontiguous.specs.Compiler.Numbering.{IsNumbering, AreInRuns, IsLastMatch, range_len}
use Rattle.ac_noncontiguous.specs.Compiler.Layout.{IsLaid, AreLaidOut, LeadsOver, ByItself, ByFailure, AreRowsOf, HasAll}
use Rattle.ac_noncontiguous.specs.Compiler.Assembly.{IsBack, number_or_dead, AreOutlines, AreKept}
use Rattle.ac_noncontiguous.specs.Compiler.Edges.{missing, IsChildFor}
use Rattle.ac_noncontiguous.proofs.compiler.AssemblyLemmas.{kept-fails, kept-deep, kept-flat}
use Rattle.ac_noncontiguous.proofs.trie.TextLemmas.{text-start, length-text}
use Rattle.ac_noncontiguous.proofs.trie.FailLemmas.{stands-of}
use Rattle.ac_noncontiguous.proofs.nfa.ChildLemmas.{child_for-begins}
use Rattle.ac_noncontiguous.proofs.nfa.MeaningLemmas.{Setting, text_of, state_of-some, are-texts, is-edge, missing-not}
use Rattle.ac_noncontiguous.proofs.nfa.OverLemmas.{entry-straight, entry-failed, entry-shared}

-- ---- where a byte that begins no pattern leads

-- the list of the empty text has only the patterns that are empty
own-list : {m : Dictionary} {t ns : List ℕ} → t ≡ [] → IsList m t ns → AreOwn m t ns
own-list empty (OwnAlone text own a f) = a
own-list empty (OwnThen text own rest from a f l) = absurd (omega (arith, f.0.0, f.0.1.within, ap length empty))

-- if the range of the start has patterns, there is an empty pattern
own-some : (m : Dictionary) (matches : List ℕ) (from : ℕ) {len : ℕ} → from + len ≤ length matches
    → AreOwn m [] (take len (drop from matches)) → 0 < len → (n : ℕ) × IsOwn m [] n
own-some m matches from {len} within own some =
    let ns = take len (drop from matches) in
    let count : length ns ≡ len = length-take-le len (drop from matches) (omega (arith, length-drop from matches)) in
    (get_or ns 0 0, (own.1 (get_or ns 0 0)).0 (Contains-get_or ns 0 0 (omega arith)))

-- if the range of the start has none, there is no empty pattern
own-none : (m : Dictionary) (matches : List ℕ) (from : ℕ) {len : ℕ} → from + len ≤ length matches
    → AreOwn m [] (take len (drop from matches)) → len ≡ 0 → (n : ℕ) → ¬ IsOwn m [] n
own-none m matches from {len} within own none n is =
    let ns = take len (drop from matches) in
    let count : length ns ≡ len = length-take-le len (drop from matches) (omega (arith, length-drop from matches)) in
    let c = (own.1 n).1 is in
    omega (arith, c.1)

-- the trie, its numbering and `back` make a setting
pub setting : {m : Dictionary} {trie : Trie} {links : Links} {numbering : Numbering} {back : ℕ} → IsTrieOf m trie
    → AreLinks m trie.states.items links → IsNumbering (length trie.states.items) numbering
    → AreInRuns trie.states.items numbering.at.items numbering.start
    → IsBack trie.kind (by_state links.ranges) numbering.start back → Setting m trie numbering back
setting {m} {trie} {links} {numbering} {back} t l n r b =
    let states = trie.states.items in
    let some : 0 < length states = trie.tree.start.0 in
    let range = slice_index_or (by_state links.ranges) 0 no_range in
    let within = l.lists.within 0 some in
    let empty = text-start states trie.tree in
    let own : AreOwn m [] (in_range links.matches.items range) =
    subst (λ x. AreOwn m x (in_range links.matches.items range)) empty (own-list empty (l.lists.lists 0 some)) in
    record {
      stands = t;
      numbered = n;
      runs = r;
      to_start =
          ⊎_elim (λ (dead : (trie.kind ≢ Standard) × (0 < range_len (by_state links.ranges) 0) × (back ≡ 0)). inl dead.2)
          (λ (start : (trie.kind ≢ Standard → range_len (by_state links.ranges) 0 ≡ 0) × (back ≡ numbering.start)).
          inr start.1) b;
      leads = λ byte nothing.
          ⊎_elim
          (λ (dead : (trie.kind ≢ Standard) × (0 < range_len (by_state links.ranges) 0) × (back ≡ 0)).
          let n_own = own-some m links.matches.items range.from within own dead.1 in (
            (λ _. leads-start_none (λ is. dead.0 (sym t.kind ∙ is)) n_own.1 nothing),
            (λ is. absurd (omega (arith, dead.2, n.places.starts.0))),
          ))
          (λ (start : (trie.kind ≢ Standard → range_len (by_state links.ranges) 0 ≡ 0) × (back ≡ numbering.start)). (
            (λ is. absurd (omega (arith, start.1, n.places.starts.0))),
            (λ _. leads-start
                (λ leftmost. own-none m links.matches.items range.from within own
                (start.0 (λ is. leftmost (t.kind ∙ is))))
                nothing),
          ))
          b;
    }

-- ---- the tables

-- the transitions of the tables are those of the dictionary
pub are-transitions : {m : Dictionary} {trie : Trie} {numbering : Numbering} {back : ℕ} {outlines : List Outline}
    {ranges : List Range} {offsets rows : List ℕ} {states : List State} {transitions : List Transition}
    → Setting m trie numbering back
    → AreLaidOut trie numbering back (length numbering.at.items) offsets transitions
    → AreKept outlines numbering.at.items ranges offsets rows states
    → AreTransitions m (length numbering.at.items) numbering.start (text_of trie numbering) states transitions
are-transitions {m} {trie} {numbering} {back} {offsets} {states} {transitions} s l k =
    let len = length numbering.at.items in
    let start = numbering.start in
    let p = s.numbered.places.starts in
    let from : (i : ℕ) → i ≤ len → (kept_of states i).transitions ≡ slice_index offsets i =
    λ i le. ⊎_elim (λ (lt : i < len). (k.kept i lt).places.0)
    (λ (ge : len ≤ i). let end : i ≡ len = omega arith in
    ap (λ i. (kept_of states i).transitions) end ∙ (k.last ∙ ap (slice_index offsets) (sym end))) (cases_lt i len) in
    let laid : (i : ℕ) → i < len → IsLaid trie numbering back i (kept_of states i).transitions
    (kept_of states (i + 1)).transitions transitions =
    λ i lt. subst (λ n. IsLaid trie numbering back i (kept_of states i).transitions n transitions)
    (sym (from (i + 1) (omega arith)))
    (subst (λ n. IsLaid trie numbering back i n (slice_index offsets (i + 1)) transitions) (sym (from i (omega arith)))
    (l.laid i lt)) in
    record {
      ranges = λ i lt. (laid i lt).order;
      last = k.last ∙ l.last;
      edges = λ i at lt place. let e = (laid i lt).edges at place.0 place.1 in (e.within, is-edge s lt e);
      small = λ i at lt place. (laid i lt).small at place.0 place.1;
      rising = λ i j at lt one two less. (laid i lt).rising j at one.0 less two.1;
      missing = λ i byte lt small apart.
          is-edge s lt ((laid i lt).missing byte small (λ at past before. apart at (past, before)));
      all = λ i has.
          let lt : i < len = ⊎_elim (λ (z : i ≡ 0). omega (arith, p.1))
          (λ (two : (i ≡ start) ⊎ (i ≡ start + 1)).
          ⊎_elim (λ (a : i ≡ start). omega (arith, p.1)) (λ (b : i ≡ start + 1). omega (arith, p.1)) two) has in
          (laid i lt).all has;
      none = (laid 1 (omega (arith, p.0, p.1))).none refl;
      longer = λ i at past lt not_start not_next place.
          let is_not : ¬ HasAll start i = λ has.
          ⊎_elim (λ (z : i ≡ 0). omega arith)
          (λ (two : (i ≡ start) ⊎ (i ≡ start + 1)).
          ⊎_elim (λ (a : i ≡ start). not_start a) (λ (b : i ≡ start + 1). not_next b) two) has in
          let h = laid i lt in
          let e = h.edges at place.0 place.1 in
          let b = byte_at transitions at in
          let node = slice_index numbering.at.items i in
          ⊎_elim
          (λ (none : next_at transitions at ≡ missing start back i).
          absurd (h.longer is_not at place.0 place.1 (none ∙ missing-not back not_start)))
          (λ (one : (c : ℕ) × IsChildFor trie.states.items node (canonical trie.pairing b) c).
          let same_low : canonical m.pairing b ≡ canonical trie.pairing b = ap (λ q. canonical q b) s.stands.pairing in
          child_for-begins (stands-of s.stands) b one.1.0 one.1.1 one.1.2 (one.1.3 ∙ sym same_low))
          (e.cases past);
    }

-- the number of a failure
fail-number : (trie : Trie) {numbering : Numbering} (links : Links) (to : Option ℕ) (i : ℕ) {fail : ℕ}
    → IsNumbering (length trie.states.items) numbering
    → ((f : ℕ) → slice_get links.fails.items i ≡ Some (Some f) → f < length trie.states.items)
    → slice_get links.fails.items i ≡ Some to → fail ≡ number_or_dead numbering.of.items to
    → (fail < length numbering.at.items) × (fail ≢ 1) × (fail ≢ numbering.start + 1)
    × (state_of (text_of trie numbering) fail ≡ option_map (text trie.states.items) to)
fail-number trie {numbering} links None i n within at is =
    let p = n.places.starts in (
      omega (arith, p.1),
      (λ e. absurd (omega arith)),
      (λ e. absurd (omega arith)),
      ap (state_of (text_of trie numbering)) is,
    )
fail-number trie {numbering} links (Some f) i {fail} n within at is =
    let h = n.numbers.numbers f (within f at) in
    let past : 1 < fail = omega (arith, h.0) in (
      omega (arith, h.1),
      (λ e. absurd (omega arith)),
      (λ e. h.2 (sym is ∙ e)),
      state_of-some (text_of trie numbering) fail past
          ∙ ap (λ t. Some t) (ap (text_of trie numbering) is ∙ ap (text trie.states.items) h.3),
    )

-- where a byte leads with all failures followed is a right entry of the row
over-means : {m : Dictionary} {trie : Trie} {links : Links} {numbering : Numbering} {back byte i next : ℕ}
    → Setting m trie numbering back → AreLinks m trie.states.items links → i < length numbering.at.items → i ≢ 1
    → i ≢ numbering.start + 1 → LeadsOver trie numbering links back byte i next
    → IsRowEntry m (length numbering.at.items) numbering.start (text_of trie numbering) i byte next
over-means s l within stands own (ByItself at to edge some) =
    entry-straight (are-texts s) (is-edge s within edge) edge.within within stands own some
over-means {m} {trie} {links} {numbering} {i} s l within stands own (ByFailure at failure to past edge fails on) =
    let node = slice_index numbering.at.items i in
    let n = fail-number trie links fails.0 node s.numbered (λ f e. l.fails.within node f e) fails.1 fails.2 in
    let text_fails : FailsTo m (text_of trie numbering i) (state_of (text_of trie numbering) failure) =
    subst (FailsTo m (text_of trie numbering i)) (sym n.3) (l.fails.leads node fails.0 fails.1) in
    entry-failed (are-texts s) (is-edge s within edge) within stands own n.1 text_fails
    (over-means s l n.0 n.1 n.2 on)

-- the rows hold, at a place, a state's right entry for a byte
abbrev IsEntryAt : Dictionary → Trie → Numbering → List ℕ → List ℕ → ℕ → ℕ → ℕ → Type 0
IsEntryAt m trie numbering classes rows byte i row =
    (row + class classes byte < length rows)
    × IsRowEntry m (length numbering.at.items) numbering.start (text_of trie numbering) i byte
    (slice_index rows (row + class classes byte))

-- the rows of the tables are those of the dictionary
pub are-rows : {m : Dictionary} {trie : Trie} {links : Links} {numbering : Numbering} {back : ℕ}
    {outlines : List Outline} {offsets row_offsets rows classes : List ℕ} {states : List State}
    → Setting m trie numbering back
    → AreLinks m trie.states.items links → AreRowsOf trie numbering links back classes row_offsets rows
    → AreKept outlines numbering.at.items (by_state links.ranges) offsets row_offsets states
    → AreRows m (length numbering.at.items) numbering.start (text_of trie numbering) states classes rows
are-rows {m} {trie} {numbering} {row_offsets} {rows} {classes} {states} s l r k i byte lt small has =
    let len = length numbering.at.items in
    let start = numbering.start in
    let p = s.numbered.places.starts in
    let at : row_of states i ≡ slice_index row_offsets i = (k.kept i lt).places.1 in
    let right : (j : ℕ) → j < len → j ≢ start + 1 → slice_index row_offsets j ≢ no_row
    → IsEntryAt m trie numbering classes rows byte j (slice_index row_offsets j) =
    λ j within own some.
    let stands : j ≢ 1 = λ one. some (ap (slice_index row_offsets) one ∙ r.have.fail) in
    let h = r.have.right j (omega (arith, within, r.have.counted)) own some byte small in
    (h.0, over-means s l within stands own h.1) in
    ⊎_elim
    (λ (anchored : i ≡ start + 1).
    let shared : slice_index row_offsets i ≡ slice_index row_offsets start = ap (slice_index row_offsets) anchored
    ∙ r.shared in
    let h = right start (omega (arith, p.1)) (λ e. omega (arith, e)) (λ e. has (at ∙ (shared ∙ e))) in
    subst (IsEntryAt m trie numbering classes rows byte i) (sym (at ∙ shared))
    (h.0, entry-shared (are-texts s) anchored h.1))
    (λ (own : i ≢ start + 1). subst (IsEntryAt m trie numbering classes rows byte i) (sym at)
    (right i lt own (λ e. has (at ∙ e))))
    (cases_eq i (start + 1))

-- the failures of the tables are those of the dictionary
pub are-failures : {m : Dictionary} {trie : Trie} {links : Links} {numbering : Numbering} {back : ℕ}
    {outlines : List Outline} {offsets rows : List ℕ} {states : List State} → Setting m trie numbering back
    → AreLinks m trie.states.items links → AreOutlines trie numbering links (length numbering.at.items) outlines
    → AreKept outlines numbering.at.items (by_state links.ranges) offsets rows states
    → AreFailures m (length numbering.at.items) numbering.start (text_of trie numbering) states
are-failures {m} {trie} {links} {numbering} {states} s l o k =
    let len = length numbering.at.items in
    let start = numbering.start in
    let p = s.numbered.places in
    let flat : (i : ℕ) → i < 2 → ((kept_of states i).fail ≡ 0)
    × ((kept_of states i).depth ≡ 0) = λ i lt. kept-flat o k lt (omega (arith, p.starts.0, p.starts.1)) in
    let number : (to : Option ℕ) (i fail : ℕ) → i < length trie.states.items → slice_get links.fails.items i ≡ Some to
    → fail ≡ number_or_dead numbering.of.items to
    → (fail < len) × (fail ≢ 1) × (fail ≢ start + 1)
    × (state_of (text_of trie numbering) fail ≡ option_map (text trie.states.items) to) =
    λ to i fail lt at is. fail-number trie links to i s.numbered (λ f e. l.fails.within i f e) at is in
    record {
      fails = λ i past lt.
          let f = kept-fails o k past lt in
          let node = slice_index numbering.at.items i in
          let n = number f.0 node (kept_of states i).fail (p.within i lt) f.1 f.2 in
          subst (FailsTo m (text_of trie numbering i)) (sym n.3) (l.fails.leads node f.0 f.1);
      within = λ i lt.
          ⊎_elim
          (λ (low : i < 2). let f = (flat i low).0 in
          (omega (arith, p.starts.1), (λ is. absurd (omega arith)), (λ is. absurd (omega arith))))
          (λ (high : 2 ≤ i).
          let f = kept-fails o k (omega arith) lt in
          let n = number f.0 (slice_index numbering.at.items i) (kept_of states i).fail (p.within i lt) f.1 f.2 in
          (n.0, n.1, n.2))
          (cases_lt i 2);
      none = ((flat 0 (omega arith)).0, (flat 1 (omega arith)).0);
      depths = λ i past lt. kept-deep o k past lt
          ∙ sym (length-text trie.states.items (slice_index numbering.at.items i));
      flat = ((flat 0 (omega arith)).1, (flat 1 (omega arith)).1);
    }

-- the lists of the tables are those of the dictionary
pub are-lists : {m : Dictionary} {trie : Trie} {links : Links} {numbering : Numbering} {back : ℕ}
    {outlines : List Outline} {offsets rows : List ℕ} {states : List State} → Setting m trie numbering back
    → AreLinks m trie.states.items links
    → IsLastMatch (by_state links.ranges) numbering.at.items numbering.start numbering.max_match
    → AreKept outlines numbering.at.items (by_state links.ranges) offsets rows states
    → AreLists m (length numbering.at.items) numbering.start numbering.max_match (text_of trie numbering) states
    links.matches.items
are-lists {m} {trie} {links} {numbering} {states} s l last k =
    let p = s.numbered.places in
    let matches = links.matches.items in
    let flat : (i : ℕ) → i < 2 → ((kept_of states i).matches ≡ 0)
    × ((kept_of states i).matches_len ≡ 0) = λ i lt.
    (k.kept i (omega (arith, p.starts.0, p.starts.1))).flat lt in
    record {
      ranges = λ i lt.
          ⊎_elim
          (λ (low : i < 2). let f = flat i low in omega (arith, f.0, f.1))
          (λ (high : 2 ≤ i). let f = (k.kept i lt).matches (omega arith) in
          omega (arith, f.0, f.1, l.lists.within (slice_index numbering.at.items i) (p.within i lt)))
          (cases_lt i 2);
      lists = λ i past lt.
          let f = (k.kept i lt).matches past in
          let node = slice_index numbering.at.items i in
          let same : list_of states matches i ≡ in_range matches (slice_index_or (by_state links.ranges) node no_range) =
          ap₂ (λ len from. take len (drop from matches)) f.1 f.0 in
          subst (IsList m (text_of trie numbering i)) (sym same) (l.lists.lists node (p.within i lt));
      none = ((flat 0 (omega arith)).1, (flat 1 (omega arith)).1);
      some = λ i past lt.
          let f = ((k.kept i lt).matches past).1 in
          subst (λ n. (0 < n) ↔ (i ≤ numbering.max_match)) (sym f) (last.some i past lt);
      greatest = last.greatest;
      known = l.lists.known;
    }
