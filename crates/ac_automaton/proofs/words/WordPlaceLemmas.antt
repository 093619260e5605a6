-- Where a search for whole words stands: what its state's list gives, what it passes, and when its best word is final.
use Rattle.std.proofs.Common.{◌≡◌, ◌≢◌, ◌⊎◌, ◌↔◌, inl, inr, ⊎_elim, ℕ, ◌+◌, ◌-◌, ◌<◌, ◌≤◌, true, false, IsTrue, List, [], ◌++◌, length, take, drop, map, Option, Some, None, slice_get, slice_range, get_or, sym, ap, ap₂, subst, refl, ◌∙◌, arith}
use Rattle.std.specs.List.{Contains}
use Rattle.std.specs.declared.cmp.Ordering.TheVariants.{Greater}
use Rattle.std.proofs.lemmas.Bool.{cases_lt, false≢true}
use Rattle.std.proofs.lemmas.List.{drop-drop}
use Rattle.std.proofs.lemmas.List.Elements.{Contains-get_or}
use Rattle.std.proofs.lemmas.Option.{get_or_from_slice_get, slice_get-get_or, slice_get_within}
use Rattle.ac_input.specs.Number.{StateID}
use Rattle.ac_input.specs.declared.search.Anchored.TheVariants.{No}
use Rattle.ac_input.specs.declared.search.MatchKind.{MatchKind}
use Rattle.ac_input.specs.declared.search.MatchKind.TheVariants.{Standard, LeftmostFirst, LeftmostLongest}
use Rattle.ac_input.specs.Best.{IsLeast, preference}
use Rattle.ac_input.specs.Dictionary.{Dictionary}
use Rattle.ac_input.specs.Occurrence.{Occurrence, Occurs, Search}
use Rattle.ac_input.specs.Tells.{Tells, ending, ending_at}
use Rattle.ac_input.specs.Word.{is_whole_word}
use Rattle.ac_input.specs.Work.{longest}
use Rattle.ac_input.specs.Laws.LiveLaws.{shifted}
use Rattle.ac_input.proofs.lemmas.ContainsLemmas.{Contains-filter, Contains-from_filter}
use Rattle.ac_input.proofs.lemmas.StateListLemmas.{Contains-from_map, Contains-map}
use Rattle.ac_input.proofs.lemmas.OrderLemmas.{preference-itself, preference-transitive, slice_range-length}
use Rattle.ac_automaton.specs.Automaton.{AdvancesToMatch}
use Rattle.ac_automaton.specs.declared.automaton.Advance.{Advance}
use Rattle.ac_automaton.specs.InMemory.Find.Cursor.{counted, counts, read_to}
use Rattle.ac_automaton.specs.Words.{BetterOf, HasSeen, IsWindowOf, IsWordPlace, StandsForWords, WordsBefore, text_from, word_reach}
use Rattle.ac_automaton.specs.declared.words.Window.{Window}
use Rattle.ac_automaton.specs.declared.words.WordPlace.{WordPlace}
use Rattle.ac_automaton.proofs.in_memory.overlapping.OverlappingLemmas.{IsPlace, entry-lies, told-lists}
use Rattle.ac_automaton.proofs.lemmas.CursorLemmas.{list-none, part-front}
use Rattle.ac_automaton.proofs.automaton.PassLemmas.{matching-some}

-- ---- the best of some words

-- the best of which one fact holds is the best of which an equivalent one holds
pub least-like : (kind : MatchKind) (P Q : Occurrence → Type 0) (r : Option Occurrence) → ((o : Occurrence) → P o ↔ Q o)
    → IsLeast kind P r → IsLeast kind Q r
least-like kind P Q None like none = λ o q. none o ((like o).1 q)
least-like kind P Q (Some b) like best = ((like b).0 best.0, λ o q. best.1 o ((like o).1 q))

-- the better of the best and another one is the best of both
pub least-more : (kind : MatchKind) (P : Occurrence → Type 0) (r : Option Occurrence) (found o : Occurrence)
    → IsLeast kind P r → BetterOf kind r found o → IsLeast kind (λ q. P q ⊎ (q ≡ found)) (Some o)
least-more kind P None found o none is = (
  inr is,
  λ q h. ⊎_elim (λ p. absurd (none q p)) (λ e. subst (λ c. preference kind o c ≢ Greater) (is ∙ sym e) (preference-itself kind o)) h,
)
least-more kind P (Some best) found o least is = (
  ⊎_elim (λ (e : o ≡ found). inr e) (λ (e : o ≡ best). inl (subst P (sym e) least.0)) is.0,
  λ q h. ⊎_elim
      (λ p. preference-transitive kind o best q is.2 (least.1 q p))
      (λ e. subst (λ c. preference kind o c ≢ Greater) (sym e) is.1) h,
)

-- ---- the list of a state

-- Some word is one of the first of a state's list.
pub record IsAmongFirst (m : Dictionary) (x : List ℕ) (at : ℕ) (ns : List ℕ) (index : ℕ) (o : Occurrence) : Type 0 where
  pub i : ℕ
  pub pattern : ℕ
  pub before : i < index
  pub entry : slice_get ns i ≡ Some pattern
  pub lies : o ≡ ending_at m at pattern
  pub is_whole : IsTrue (is_whole_word x o)

-- the words that were looked at: those that end before the place, and the first of the list
abbrev pub SeenFirst : Dictionary → List ℕ → ℕ → ℕ → List ℕ → ℕ → Occurrence → Type 0
SeenFirst m x last at ns index o = WordsBefore m x last at o ⊎ IsAmongFirst m x at ns index o

module _ (m : Dictionary) (x : List ℕ) (last at : ℕ) (ns : List ℕ) where
  -- at first none of the list
  pub seen-none : (kind : MatchKind) (r : Option Occurrence) → IsLeast kind (WordsBefore m x last at) r
      → IsLeast kind (SeenFirst m x last at ns 0) r
  seen-none kind r best =
      least-like kind (WordsBefore m x last at) (SeenFirst m x last at ns 0) r
      (λ o. (λ h. inl h, λ h. ⊎_elim (λ a. a) (λ b. let k = b.before in absurd (omega arith)) h)) best

  -- what is among the first is among one more
  among-later : {index : ℕ} {q : Occurrence} → IsAmongFirst m x at ns index q → IsAmongFirst m x at ns (index + 1) q
  among-later b =
      record {
        i = b.i;
        pattern = b.pattern;
        before = let k = b.before in omega arith;
        entry = b.entry;
        lies = b.lies;
        is_whole = b.is_whole;
      }

  -- what is among one more is among the first, or is that one
  among-cases : (index n : ℕ) {q : Occurrence} → slice_get ns index ≡ Some n → IsAmongFirst m x at ns (index + 1) q
      → IsAmongFirst m x at ns index q ⊎ ((q ≡ ending_at m at n) × IsTrue (is_whole_word x q))
  among-cases index n {q} entry b =
      ⊎_elim
      (λ (less : b.i < index). inl (record {
        i = b.i;
        pattern = b.pattern;
        before = less;
        entry = b.entry;
        lies = b.lies;
        is_whole = b.is_whole;
      }))
      (λ (le : index ≤ b.i).
      let k = b.before in
      let here : b.i ≡ index = omega arith in
      let same : Some b.pattern ≡ Some n = sym b.entry ∙ ap (slice_get ns) here ∙ entry in
      let number : b.pattern ≡ n = cc in
      inr (b.lies ∙ ap (ending_at m at) number, b.is_whole))
      (cases_lt b.i index)

  -- one more, which is a whole word
  pub seen-more : (kind : MatchKind) (r : Option Occurrence) (index n : ℕ) (o : Occurrence) → slice_get ns index ≡ Some n
      → IsTrue (is_whole_word x (ending_at m at n)) → BetterOf kind r (ending_at m at n) o
      → IsLeast kind (SeenFirst m x last at ns index) r → IsLeast kind (SeenFirst m x last at ns (index + 1)) (Some o)
  seen-more kind r index n o entry is_whole better best =
      least-like kind (λ q. SeenFirst m x last at ns index q ⊎ (q ≡ ending_at m at n)) (SeenFirst m x last at ns (index + 1))
      (Some o)
      (λ q. (
        λ h. ⊎_elim
            (λ seen. ⊎_elim (λ a. inl a) (λ b. inr (among-later b)) seen)
            (λ e. inr (record {
              i = index;
              pattern = n;
              before = omega arith;
              entry = entry;
              lies = e;
              is_whole = subst (λ z. IsTrue (is_whole_word x z)) (sym e) is_whole;
            })) h,
        λ h. ⊎_elim (λ a. inl (inl a))
            (λ b. ⊎_elim (λ first. inl (inr first)) (λ here. inr here.0) (among-cases index n entry b)) h,
      ))
      (least-more kind (SeenFirst m x last at ns index) r (ending_at m at n) o best better)

  -- one more, which isn't one
  pub seen-other : (kind : MatchKind) (r : Option Occurrence) (index n : ℕ) → slice_get ns index ≡ Some n
      → is_whole_word x (ending_at m at n) ≡ false
      → IsLeast kind (SeenFirst m x last at ns index) r → IsLeast kind (SeenFirst m x last at ns (index + 1)) r
  seen-other kind r index n entry none best =
      least-like kind (SeenFirst m x last at ns index) (SeenFirst m x last at ns (index + 1)) r
      (λ q. (
        λ h. ⊎_elim (λ a. inl a) (λ b. inr (among-later b)) h,
        λ h. ⊎_elim (λ a. inl a)
            (λ b. ⊎_elim (λ first. inr first)
            (λ here. absurd (false≢true (sym none ∙ subst (λ z. is_whole_word x z ≡ true) here.0 here.1)))
            (among-cases index n entry b)) h,
      ))
      best

-- ---- what a state's list gives

module _ (m : Dictionary) (x : List ℕ) (last at : ℕ) (order : last ≤ at) (within : at ≤ length x)
    (standard : m.kind ≡ Standard) (ns : List ℕ) (tells : Tells m No (read_to (text_from m x last) at) ns) where
  abbrev from_last : Search
  from_last = text_from m x last

  -- it stands at a place of the search from where it last began anew
  stands-at : IsPlace m No from_last at
  stands-at = record {
    by = (refl, refl);
    anchor = refl;
    standard = standard;
    from = order;
    to = within;
    inside = omega arith;
  }

  -- each entry counts
  entry-counts : (i n : ℕ) → slice_get ns i ≡ Some n → Contains (counted m false (at - last) (drop 0 ns)) n
  entry-counts i n entry =
      Contains-filter (counts m false (at - last)) ns
      (subst (Contains ns) (get_or_from_slice_get ns i n 0 entry)
      (Contains-get_or ns i 0 (slice_get_within ns i n entry))) refl

  -- it is no longer than what was read, and occurs where it ends
  pub entry-occurs : (i n : ℕ) → slice_get ns i ≡ Some n
      → (length (get_or m.patterns n []) ≤ at - last) × Occurs from_last (ending_at m at n)
  entry-occurs i n entry =
      let t = read_to from_last at in
      let counts_here = entry-counts i n entry in
      let lies = entry-lies ns 0 n stands-at tells counts_here in
      let told = told-lists ns stands-at tells in
      let there = Contains-map (shifted last) (map (ending m t) (counted m false (at - last) (drop 0 ns)))
      (Contains-map (ending m t) (counted m false (at - last) (drop 0 ns)) counts_here) in
      (lies.0, subst (Occurs from_last) lies.1 ((told.1 (shifted last (ending m t n))).0 there).0)

  -- what ends at the place is an entry
  pub occurs-entry : (o : Occurrence) → Occurs from_last o → o.end ≡ at
      → (i : ℕ) × (n : ℕ) × (slice_get ns i ≡ Some n) × (o ≡ ending_at m at n)
  occurs-entry o occurs ends =
      let t = read_to from_last at in
      let ks = counted m false (at - last) (drop 0 ns) in
      let told = told-lists ns stands-at tells in
      let outer = Contains-from_map {f = shifted last} (map (ending m t) ks) ((told.1 o).1 (occurs, ends)) in
      let inner = Contains-from_map {f = ending m t} ks outer.1 in
      let n = inner.0 in
      let held = (Contains-from_filter (counts m false (at - last)) ns inner.1).0 in
      let lies = entry-lies ns 0 n stands-at tells inner.1 in (
        held.0,
        n,
        slice_get-get_or ns held.0 n held.1 ∙ ap Some held.2,
        sym outer.2 ∙ sym (ap (shifted last) inner.2) ∙ lies.1,
      )

  -- once the whole list was looked at, so were all words that end at the place
  pub seen-all : (kind : MatchKind) (r : Option Occurrence) (index : ℕ) → length ns ≤ index
      → IsLeast kind (SeenFirst m x last at ns index) r → IsLeast kind (WordsBefore m x last (at + 1)) r
  seen-all kind r index all best =
      least-like kind (SeenFirst m x last at ns index) (WordsBefore m x last (at + 1)) r
      (λ o. (
        λ h. ⊎_elim
            (λ a. let e = a.1 in (a.0, omega arith))
            (λ b. let occurs = entry-occurs b.i b.pattern b.entry in
            ((subst (Occurs from_last) (sym b.lies) occurs.1, b.is_whole), let e = ap (λ q. q.end) b.lies in omega arith)) h,
        λ h. ⊎_elim
            (λ (sooner : o.end < at). inl (h.0, sooner))
            (λ (there : at ≤ o.end).
            let e = h.1 in
            let entry = occurs-entry o h.0.0 (omega arith) in
            inr (record {
              i = entry.0;
              pattern = entry.1;
              before = let k = slice_get_within ns entry.0 entry.1 entry.2 in omega arith;
              entry = entry.2;
              lies = entry.3;
              is_whole = h.0.1;
            }))
            (cases_lt o.end at),
      ))
      best

  -- where the list is empty, nothing ends at the place
  pub none-here : ns ≡ [] → (o : Occurrence) → Occurs from_last o → ¬ (o.end ≡ at)
  none-here none o occurs ends =
      let entry = occurs-entry o occurs ends in
      let k = slice_get_within ns entry.0 entry.1 entry.2 in
      let e = ap length none in omega arith

-- ---- reading on

-- the bytes from where a search stands on are held
pub held-at : {m : Dictionary} {Reaches : List ℕ → StateID → Type 0} {from : ℕ} {x : List ℕ} {p : WordPlace}
    → IsWordPlace m Reaches from x p → from ≤ p.at
held-at {from} {p} is =
    let order = is.order in
    ⊎_elim
    (λ (some : 0 < from). let before = is.before some in omega arith)
    (λ (none : from ≤ 0). omega arith)
    (cases_lt 0 from)

-- the part of a text that a window shows
pub window-part : {w : Window} {x : List ℕ} → IsWindowOf w x → (at end : ℕ) → w.from ≤ at → at ≤ end
    → slice_range w.bytes.now (at - w.from) (end - w.from) ≡ slice_range x at end
window-part {w} {x} is at end le further =
    let there : w.from + (at - w.from) ≡ at = omega arith in
    let many : (end - w.from) - (at - w.from) ≡ end - at = omega arith in
    ap₂ take many (ap (drop (at - w.from)) is.shown ∙ drop-drop (at - w.from) w.from x ∙ ap (λ n. drop n x) there)

-- a search that has looked at all that ends where it stands stands right further on, after bytes on which no state matched
pub read-stands : (m : Dictionary) (Reaches : List ℕ → StateID → Type 0) (matches : StateID → List ℕ) {w : Window}
    {x : List ℕ} {p : WordPlace} → m.kind ≡ Standard
    → ((text : List ℕ) (sid : StateID) → Reaches text sid → Tells m No text (matches sid))
    → IsWindowOf w x → HasSeen m Reaches w.from x p → (end : ℕ) → p.at < end → end ≤ length x
    → ((o : Occurrence) → p.best ≡ Some o → (p.kind ≢ Standard) × (end ≤ o.start + longest m.patterns + 1))
    → (stop : Advance)
    → AdvancesToMatch Reaches matches p.sid (slice_range x p.at end) stop
    → StandsForWords m Reaches w.from x (record p { sid = stop.sid; at = p.at + stop.taken })
read-stands m Reaches matches {w} {x} {p} standard tells is seen end more inside near stop goes =
    let was = seen.place in
    let last = p.last in
    let at = p.at in
    let left = slice_range x at end in
    let long = slice_range-length x at (omega arith) inside in
    let fits = goes.taken.0 in
    let some = goes.taken.1 (omega arith) in
    let order = was.order in
    let next : ℕ = at + stop.taken in
    let quiet : (o : Occurrence) → Occurs (text_from m x last) o → at + 1 ≤ o.end → ¬ (o.end < next) =
    λ o occurs past before.
    let k : ℕ = o.end - at in
    let there : at + k ≡ o.end = omega arith in
    let mid = goes.plain k (omega arith) (omega arith) in
    let text : slice_range x last at ++ take k left ≡ slice_range x last o.end =
    part-front x last at end k order (omega arith) ∙ ap (slice_range x last) there in
    let reads = subst (λ l. Reaches l mid.0) text (mid.1 (slice_range x last at) was.reads) in
    none-here m x last o.end (omega arith) (omega arith) standard (matches mid.0) (tells _ mid.0 reads)
    (list-none (matches mid.0) (λ has. mid.2 (matching-some (matches mid.0) has))) o occurs refl in
    record {
      place = record {
        start = was.start;
        before = λ some. let b = was.before some in omega arith;
        order = omega arith;
        within = omega arith;
        reads = subst (λ l. Reaches l stop.sid) (part-front x last at end stop.taken order (omega arith))
            (goes.reads (slice_range x last at) was.reads);
      };
      best = least-like p.kind (WordsBefore m x last (at + 1)) (WordsBefore m x last next) p.best
          (λ o. (
            λ h. let e = h.1 in (h.0, omega arith),
            λ h. ⊎_elim
                (λ (sooner : o.end < at + 1). (h.0, sooner))
                (λ (past : at + 1 ≤ o.end). absurd (quiet o h.0.0 past h.1))
                (cases_lt o.end (at + 1)),
          ))
          seen.best;
      near = λ o best. let n = near o best in (n.0, by p.kind n.0 o (omega arith));
    }
  where
    by : (kind : MatchKind) → kind ≢ Standard → (o : Occurrence) → {at : ℕ} → at ≤ o.start + longest m.patterns + 1
        → at ≤ word_reach kind m.patterns o
    by Standard not o le = absurd (not refl)
    by LeftmostFirst not o le = le
    by LeftmostLongest not o le = le
