-- What a cursor passes when it reads on to the first state that matches.
use Rattle.std.proofs.Common.{◌≡◌, ◌↔◌, ◌++◌, ◌∙◌, ⊎_elim, inl, inr, ℕ, ◌+◌, ◌-◌, ◌<◌, ◌≤◌, false, IsTrue, List, [], length, take, None, slice_range, ap, subst, refl, arith}
use Rattle.std.proofs.lemmas.Bool.{false≢true}
use Rattle.ac_input.specs.Number.{StateID}
use Rattle.ac_input.specs.declared.search.Anchored.{Anchored}
use Rattle.ac_input.specs.declared.search.Anchored.TheVariants.{No}
use Rattle.ac_input.specs.declared.search.MatchKind.TheVariants.{Standard}
use Rattle.ac_input.specs.declared.steps.Steps.{Steps}
use Rattle.ac_input.specs.Best.{IsBest}
use Rattle.ac_input.specs.Dictionary.{whole}
use Rattle.ac_input.specs.Occurrence.{Search}
use Rattle.ac_input.specs.Tells.{Tells}
use Rattle.ac_input.proofs.lemmas.LiveLemmas.{dead-best}
use Rattle.ac_automaton.specs.Automaton.{Built, IsSpecial, Leads, IsReadCost, PassesPlain, is_matching}
use Rattle.ac_automaton.specs.InMemory.Find.Cursor.{IsCursor, HasReadOn}
use Rattle.ac_automaton.specs.declared.in_memory.find.cursor.Cursor.{Cursor}
use Rattle.ac_automaton.specs.InMemory.Find.Cursor.{read_to, walked}
use Rattle.ac_automaton.proofs.lemmas.CursorLemmas.{alive-from, cursor-looks, cursor-read, cursor-read_on, part-front}
use Rattle.ac_automaton.proofs.lemmas.WalkEndLemmas.{none-alive}
use Rattle.ac_automaton.proofs.automaton.PassLemmas.{matching-none, matching-some, some-matching}
use Rattle.ac_automaton.proofs.stream.BestOnLemmas.{best-stays}

-- the automaton as if it had no prefilter
abbrev unasked : Built → Built
unasked b = record b { prefilter = None }

-- Without a prefilter, an unanchored search under the standard kind stops only where patterns match.
matching-stops : (b : Built) (matches : StateID → List ℕ) (text : List ℕ) (state : StateID)
    → b.dictionary.kind ≡ Standard
    → IsTrue (is_matching matches state) ↔ IsSpecial (unasked b) (matches state) false No text
matching-stops b matches text state standard = (
  λ e. inr (inl (some-matching (matches state) e)),
  λ special.
      ⊎_elim
      (λ dead. absurd ((dead-best dead).0 standard))
      (λ more. ⊎_elim (λ some. matching-some (matches state) some) (λ start. absurd (false≢true start.0)) more)
      special,
)

-- the search up to a place
abbrev up_to : Search → ℕ → Search
up_to s to = record s { end = to }

-- a cursor that has not passed a place stands in the search up to that place
shorter : (Reaches : List ℕ → StateID → Type 0) (s : Search) (cursor : Cursor) (to : ℕ) → cursor.at ≤ to → to ≤ s.end
    → IsCursor Reaches s cursor → IsCursor Reaches (up_to s to) cursor
shorter Reaches s cursor to before within is =
    record {
      behind = is.behind;
      ordered = is.ordered;
      within = before;
      inside = omega (arith, is.inside, within);
      reads = is.reads;
    }

longer : (Reaches : List ℕ → StateID → Type 0) (s : Search) (cursor : Cursor) (to : ℕ) → to ≤ s.end
    → s.end ≤ length s.haystack → IsCursor Reaches (up_to s to) cursor → IsCursor Reaches s cursor
longer Reaches s cursor to within inside is =
    record {
      behind = is.behind;
      ordered = is.ordered;
      within = omega (arith, is.within, within);
      inside = inside;
      reads = is.reads;
    }

-- where the cursor stands after reading on to a place
pub cursor-read_to : {Reaches : List ℕ → StateID → Type 0} {s : Search} {cursor : Cursor} (sid : StateID)
    (to taken : ℕ) → IsCursor Reaches s cursor → cursor.at ≤ to → to ≤ s.end → taken ≤ to - cursor.at
    → Leads Reaches cursor.sid (take taken (slice_range s.haystack cursor.at to)) sid
    → IsCursor Reaches s (record { sid = sid; from = cursor.from; at = cursor.at + taken })
cursor-read_to {Reaches} {s} {cursor} sid to taken is before within fits leads =
    longer Reaches s (record { sid = sid; from = cursor.from; at = cursor.at + taken }) to within is.inside
    (cursor-read sid taken (shorter Reaches s cursor to before within is) fits leads)

-- what the cursor met on its way to the first state that matches, and what reading on cost
pub cursor-read_to_match : (b : Built) (Reaches : Anchored → List ℕ → StateID → Type 0) (matches : StateID → List ℕ)
    {s : Search} {cursor : Cursor} (sid : StateID) (to taken : ℕ) (x y : Steps) → b.dictionary.kind ≡ Standard
    → IsCursor (Reaches No) s cursor → cursor.at ≤ to → to ≤ s.end → 0 < taken
    → taken ≤ to - cursor.at
    → ((text : List ℕ) (state : StateID) → Reaches No text state → Tells b.dictionary No text (matches state))
    → PassesPlain (Reaches No) (is_matching matches) cursor.sid (slice_range s.haystack cursor.at to) taken
    → IsReadCost b Reaches No cursor.sid (take taken (slice_range s.haystack cursor.at to)) x y
    → HasReadOn b No s cursor (record { sid = sid; from = cursor.from; at = cursor.at + taken }) x y
cursor-read_to_match b Reaches matches {s} {cursor} sid to taken x y standard is before within some fits tells plain
    cost =
    let read = cursor-read_on (unasked b) Reaches No matches (λ (i : StateID). false)
    (is_matching matches) sid taken x y (shorter (Reaches No) s cursor to before within is) some fits tells
    (λ text state reads. matching-stops b matches text state standard) plain cost in
    record { further = read.further; quiet = read.quiet; lookups = read.lookups }

-- The same under any kind, where the text before has no match. No text on the way has one, so none is dead.
pub cursor-read_to_first : (b : Built) (Reaches : Anchored → List ℕ → StateID → Type 0) (matches : StateID → List ℕ)
    {s : Search} {cursor : Cursor} (sid : StateID) (to taken : ℕ) (x y : Steps)
    → IsBest b.dictionary.kind (whole b.dictionary (read_to (walked s cursor) cursor.at) false) None
    → IsCursor (Reaches No) s cursor → cursor.at ≤ to → to ≤ s.end → 0 < taken
    → taken ≤ to - cursor.at
    → ((text : List ℕ) (state : StateID) → Reaches No text state → Tells b.dictionary No text (matches state))
    → PassesPlain (Reaches No) (is_matching matches) cursor.sid (slice_range s.haystack cursor.at to) taken
    → IsReadCost b Reaches No cursor.sid (take taken (slice_range s.haystack cursor.at to)) x y
    → HasReadOn b No s cursor (record { sid = sid; from = cursor.from; at = cursor.at + taken }) x y
cursor-read_to_first b Reaches matches {s} {cursor} sid to taken x y none is before within some fits tells plain cost =
    let m = b.dictionary in
    let h = s.haystack in
    let ordered = is.ordered in
    let inside = is.inside in
    record {
      further = omega (arith, some);
      quiet = λ at lt le. (record {
        nothing = silent at lt le;
        alive =
            let k : ℕ = at - cursor.at in
            let there : cursor.at + k ≡ at = omega (arith, lt) in
            let nothing : IsBest m.kind (whole m (slice_range h cursor.from at) false) None =
            subst (λ n. IsBest m.kind (whole m (slice_range h cursor.from n) false) None) there
            (best-stays k m h cursor.from cursor.at None ordered (omega (arith, there, le, fits, before, within, inside))
            (λ standard. refl) (λ i past to_here. silent i past (omega (arith, to_here, there, le))) none) in
            alive-from m false (slice_range h cursor.from at)
            (λ dead. none-alive m m.kind (slice_range h cursor.from at) nothing dead);
      });
      lookups = cursor-looks b Reaches No taken x y (shorter (Reaches No) s cursor to before within is) fits cost;
    }
  where
    -- no state on the way matches
    silent : (at : ℕ) → cursor.at < at → at < cursor.at + taken
        → Tells b.dictionary No (slice_range s.haystack cursor.from at) []
    silent at lt le =
        let h = s.haystack in
        let k : ℕ = at - cursor.at in
        let there : cursor.at + k ≡ at = omega (arith, lt) in
        let mid = plain k (omega (arith, lt)) (omega (arith, lt, le)) in
        let text : slice_range h cursor.from cursor.at ++ take k (slice_range h cursor.at to)
        ≡ slice_range h cursor.from at =
        part-front h cursor.from cursor.at to k is.ordered (omega (arith, there, le, fits))
        ∙ ap (slice_range h cursor.from) there in
        let reads : Reaches No (slice_range h cursor.from at) mid.0 =
        subst (λ l. Reaches No l mid.0) text (mid.1 (slice_range h cursor.from cursor.at) is.reads) in
        subst (λ ns. Tells b.dictionary No (slice_range h cursor.from at) ns) (matching-none (matches mid.0) mid.2)
        (tells (slice_range h cursor.from at) mid.0 reads)
