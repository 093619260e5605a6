-- Reading on past places at which no pattern opens: all but the last bytes are passed, and those are read from the
-- start.
use Rattle.std.proofs.Common.{◌≡◌, ⊎_elim, ℕ, ◌+◌, ◌-◌, ◌<◌, ◌≤◌, Bool, false, IsTrue, zero, suc, List, [], ◌∷◌, ◌++◌, length, take, drop, Option, Some, None, sym, ap, subst, refl, ◌∙◌, arith, length-append, length-drop}
use Rattle.std.specs.Coded.{le_prop}
use Rattle.std.specs.Prelude.{slice_index, IfSome}
use Rattle.std.proofs.Math.Logic.{∥∥₁_elim}
use Rattle.std.proofs.lemmas.Bool.{cases_lt}
use Rattle.std.proofs.lemmas.List.{append_assoc, get_or-drop, length-take-le}
use Rattle.ac_input.specs.Number.{StateID}
use Rattle.ac_input.specs.declared.search.Anchored.{Anchored}
use Rattle.ac_input.specs.declared.search.Anchored.TheVariants.{No}
use Rattle.ac_input.specs.declared.steps.Steps.{Steps}
use Rattle.ac_input.specs.Dictionary.{Dictionary, IsLive, live_len, IsPattern}
use Rattle.ac_input.specs.Opening.{HasNoOpening, IsOpening}
use Rattle.ac_input.specs.Steps.{Done}
use Rattle.ac_input.specs.Tells.{Tells}
use Rattle.ac_input.specs.Work.{IsLookups}
use Rattle.ac_input.proofs.lemmas.OpeningLemmas.{front-opens-not, opens-not-dead, opens-not-listed, live-passed, live_len-passed}
use Rattle.ac_input.proofs.lemmas.SomeLemmas.{live-some}
use Rattle.ac_input.proofs.lemmas.StateLemmas.{live-one, shifted_place}
use Rattle.ac_automaton.specs.Automaton.{Built, IsReached, Leads, IsReadCost}
use Rattle.ac_literal.specs.declared.openings.Openings.{Openings}
use Rattle.ac_literal.specs.Openings.{AreOpenings}
use Rattle.ac_automaton.specs.declared.automaton.Advance.{Advance}
use Rattle.ac_automaton.specs.declared.look.Between.{Between}
use Rattle.ac_automaton.specs.declared.look.LookUp.{Ghosts}
use Rattle.ac_automaton.specs.declared.skip.Skips.{Skips}
use Rattle.ac_automaton.specs.Look.{is_between, StaysBut}
use Rattle.ac_automaton.specs.Skip.{HasPassed, MayPass, MayReadBy, MaySkipBy, ReadsAll}
use Rattle.ac_automaton.proofs.lemmas.CursorLemmas.{HasAdvanced, lookups-join}
use Rattle.ac_automaton.proofs.skip.IdleLemmas.{take-both}
use Rattle.ac_automaton.proofs.skip.StopLemmas.{AreMatching, StopsBefore, quiet}

-- each element of the front of some bytes is a byte
small-take : (j k : ℕ) (bytes : List ℕ) → ((i : ℕ) → slice_index bytes i < 256) → slice_index (take j bytes) k < 256
small-take zero k bytes small = omega arith
small-take (suc j) k [] small = omega arith
small-take (suc j) zero (x ∷ xs) small = small 0
small-take (suc j) (suc k) (x ∷ xs) small = small-take j k xs (λ i. small (suc i))

-- a look for each byte that was passed, and the looks for the bytes read after it
looked-more : {deterministic : Bool} {passed bytes after : ℕ} {s t u : Steps} → Done passed 0 0 s t
    → IsLookups deterministic bytes 0 after t u → IsLookups deterministic (passed + bytes) 0 after s u
looked-more done read = record {
  some = omega (arith, done.looked, read.some);
  bound = omega (arith, done.looked, read.bound);
  one = λ is. let e = read.one is in omega (arith, done.looked, e);
  scanned = omega (arith, done.scanned, read.scanned);
  moved = omega (arith, done.moved, read.moved);
}

-- A search that stops at such states may pass places at which no pattern opens: no pattern is shorter than an opening,
-- the list of each state is right, and it stops at no live state where nothing matches.
pub record CanPass (b : Built) (Reaches : Anchored → List ℕ → StateID → Type 0) (matches : StateID → List ℕ)
    (stops : StateID → Bool) (len : ℕ) (start : StateID) : Type 0 where
  pub some : 0 < len
  pub long : (n : ℕ) (p : List ℕ) → IsPattern b.dictionary n p → len ≤ length p
  pub may : MayPass b.dictionary len (Reaches No) start
  pub tells : (text : List ℕ) (sid : StateID) → Reaches No text sid → Tells b.dictionary No text (matches sid)
  pub quiet : (text : List ℕ) (sid : StateID) → Reaches No text sid → matches sid ≡ []
      → ¬ IsLive b.dictionary false text None → ¬ IsTrue (stops sid)

module _ (b : Built) (Reaches : Anchored → List ℕ → StateID → Type 0) (matches : StateID → List ℕ)
    (stops : StateID → Bool) (len : ℕ) (start : StateID) (can : CanPass b Reaches matches stops len start) where
  -- a text in which no pattern opens leads to a state at which the search doesn't stop
  passed-mid : (bytes : List ℕ) → ((k : ℕ) → slice_index bytes k < 256) → HasNoOpening b.dictionary len bytes
      → (mid : StateID) × Leads (Reaches No) start bytes mid × ¬ IsTrue (stops mid)
  passed-mid bytes small none =
      let mid = can.may.all bytes small in
      let reads : Reaches No bytes mid.0 = mid.1 [] can.may.begins in
      let listed =
      opens-not-listed b.dictionary bytes (matches mid.0) can.long none (can.tells bytes mid.0 reads) in
      (mid.0, mid.1, can.quiet bytes mid.0 reads listed (opens-not-dead can.long none))

  -- The cost of passing the front and reading the end is that of reading both.
  passed-cost : {text : List ℕ} (front : List ℕ) {end : List ℕ} {passed : ℕ} (q : Option ℕ) {s t u : Steps}
      → IsLive b.dictionary false text (Some (length text)) → HasNoOpening b.dictionary len (front ++ end)
      → len ≤ length end + 1 → length front ≡ passed
      → Done passed 0 0 s t → IsReadCost b Reaches No start end t u
      → IsLive b.dictionary false (text ++ (front ++ end)) q
      → IsLookups b.deterministic (length (front ++ end)) 0 (live_len (text ++ (front ++ end)) q) s u
  passed-cost {text} front {end} {passed} q {s} {t} {u} empty none enough is done cost live =
      let m = b.dictionary in
      let last = live-some {m = m} {anchored = false} {text = end} in
      let first : IsLive m false [] (Some 0) = can.may.empty [] can.may.begins in
      let read = cost [] (Some 0) last.0 can.may.begins first last.1 in
      let there = live-passed m len text front end last.0 can.some can.long empty none enough last.1 in
      let one : q ≡ shifted_place (length text) (shifted_place (length front) last.0) =
      live-one m false (text ++ (front ++ end)) q
      (shifted_place (length text) (shifted_place (length front) last.0)) live there in
      let same : live_len (text ++ (front ++ end)) q ≡ live_len end last.0 =
      ap (live_len (text ++ (front ++ end))) one ∙ live_len-passed text front end last.0 in
      let more = looked-more done read in
      let both : passed + length end ≡ length (front ++ end) =
      let e = length-append front end in omega (arith, e, is) in
      subst (λ n. IsLookups b.deterministic (length (front ++ end)) 0 n s u) (sym same)
      (subst (λ n. IsLookups b.deterministic n 0 (live_len end last.0) s u) both more)

  -- Passing some bytes and reading the end extends what was read.
  pub advanced-passed : {sid next : StateID} {bytes : List ℕ} {n skipped : ℕ} (tail : ℕ) {s t u z : Steps}
      → ((k : ℕ) → slice_index bytes k < 256)
      → n + (skipped + tail) ≤ length bytes
      → ((at : ℕ) → at < skipped → ¬ IsOpening b.dictionary len (drop n bytes) at) → len ≡ tail + 1
      → Leads (Reaches No) start (take tail (drop skipped (drop n bytes))) next
      → Done skipped 0 0 t u → IsReadCost b Reaches No start (take tail (drop skipped (drop n bytes))) u z
      → HasAdvanced b Reaches No stops sid bytes n start s t
      → HasAdvanced b Reaches No stops sid bytes (n + (skipped + tail)) next s z
  advanced-passed {sid} {next} {bytes} {n} {skipped} tail {s} {t} {z} small fits none short leads done cost has =
      record {
        reads = λ text reads.
            let there = can.may.forgets front end next whole_none enough_end leads (text ++ take n bytes)
            (has.reads text reads) in
            subst (λ l. Reaches No l next) (joined text (skipped + tail) ∙ refl)
            (subst (λ w. Reaches No ((text ++ take n bytes) ++ w) next) (sym parts) there);
        plain = λ at lt le. ⊎_elim
            (λ (sooner : at < n + 1). has.plain at lt sooner)
            (λ (here : n + 1 ≤ at).
            let j : ℕ = at - n in
            let e : n + j ≡ at = omega (arith, here) in
            let mid = passed-mid (take j rest) (few j)
            (front-opens-not b.dictionary rest can.some can.long inside
            (omega (arith, le, here)) none_within) in (
              mid.0,
              subst (λ i. Leads (Reaches No) sid (take i bytes) mid.0) e
                  (λ text reads. subst (λ l. Reaches No l mid.0) (joined text j)
                  (mid.1 (text ++ take n bytes) (has.reads text reads))),
              mid.2,
            ))
            (cases_lt at (n + 1));
        cost = λ text p q reads g h.
            let m = b.dictionary in
            let T = text ++ take n bytes in
            let there = has.reads text reads in
            let empty = can.may.empty T there in
            let first = has.cost text p (Some (length T)) reads g empty in
            let none_live : live_len T (Some (length T)) ≡ 0 = omega arith in
            let first0 : IsLookups b.deterministic (length (take n bytes)) (live_len text p) 0 s t =
            subst (λ i. IsLookups b.deterministic (length (take n bytes)) (live_len text p) i s t) none_live
            first in
            let whole : T ++ (front ++ end) ≡ text ++ take (n + (skipped + tail)) bytes =
            ap (λ l. T ++ l) (sym parts) ∙ joined text (skipped + tail) in
            let after : IsLive m false (T ++ (front ++ end)) q =
            subst (λ l. IsLive m false l q) (sym whole) h in
            let second = passed-cost front q empty whole_none enough_end size done cost after in
            let both = lookups-join first0 second in
            let one = length-take-le n bytes (omega (arith, fits)) in
            let all = length-take-le (n + (skipped + tail)) bytes fits in
            let run = length-take-le (skipped + tail) rest inside in
            let cut = ap length parts in
            let count : length (take n bytes) + length (front ++ end) ≡ length (take (n + (skipped + tail)) bytes) =
            omega (arith, one, all, run, cut) in
            subst (λ i. IsLookups b.deterministic i (live_len text p)
            (live_len (text ++ take (n + (skipped + tail)) bytes) q) s z) count
            (subst (λ l. IsLookups b.deterministic (length (take n bytes) + length (front ++ end))
            (live_len text p) (live_len l q) s z) whole both);
      }
    where
      rest : List ℕ
      rest = drop n bytes

      front : List ℕ
      front = take skipped (drop n bytes)

      end : List ℕ
      end = take tail (drop skipped (drop n bytes))

      left : length (drop n bytes) ≡ length bytes - n
      left = length-drop n bytes

      inside : skipped + tail ≤ length (drop n bytes)
      inside = let l = length-drop n bytes in omega (arith, l, fits)

      parts : take (skipped + tail) (drop n bytes) ≡ take skipped (drop n bytes) ++ take tail
          (drop skipped (drop n bytes))
      parts = take-both skipped tail (drop n bytes)

      size : length (take skipped (drop n bytes)) ≡ skipped
      size = length-take-le skipped (drop n bytes) (omega (arith, inside))

      enough_end : len ≤ length (take tail (drop skipped (drop n bytes))) + 1
      enough_end =
          let l = length-drop skipped (drop n bytes) in
          let k = length-take-le tail (drop skipped (drop n bytes)) (omega (arith, l, inside)) in
          omega (arith, k, short)

      none_within : (at : ℕ) → at + len ≤ skipped + tail → ¬ IsOpening b.dictionary len (drop n bytes) at
      none_within at within = none at (omega (arith, within, short))

      whole_none : HasNoOpening b.dictionary len
          (take skipped (drop n bytes) ++ take tail (drop skipped (drop n bytes)))
      whole_none =
          subst (HasNoOpening b.dictionary len) parts
          (front-opens-not b.dictionary (drop n bytes) can.some can.long inside
          (omega arith) none_within)

      joined : (text : List ℕ) (j : ℕ) → (text ++ take n bytes) ++ take j (drop n bytes) ≡ text ++ take (n + j) bytes
      joined text j =
          append_assoc text (take n bytes) (take j (drop n bytes))
          ∙ ap (λ l. text ++ l) (sym (take-both n j bytes))

      few : (j k : ℕ) → slice_index (take j (drop n bytes)) k < 256
      few j k =
          small-take j k (drop n bytes) (λ i. let same : slice_index (drop n bytes) i ≡ slice_index bytes (n + i) =
          get_or-drop n bytes i 0 in subst (λ v. v < 256) (sym same) (small (n + i)))

-- Reading on after a pass.
pub advanced-on : {S : Type 0} {A : Ghosts S} {automaton : S} {openings : Openings} {start : StateID} {two : Between}
    {sid current : StateID} {bytes rest : List ℕ} {n : ℕ} {stop : Advance} {s t u : Steps}
    → MaySkipBy A automaton openings start two
    → 0 < openings.len
    → ((text : List ℕ) (i : StateID) → A.Reaches automaton No text i
    → Tells (A.built automaton).dictionary No text (A.matches automaton i))
    → ((k : ℕ) → slice_index bytes k < 256) → n ≤ length bytes → rest ≡ drop n bytes → current ≡ start
    → HasPassed A automaton openings start rest stop t u
    → HasAdvanced (A.built automaton) (A.Reaches automaton) No (is_between two) sid bytes n current s t
    → (n + stop.taken ≤ length bytes) × HasAdvanced (A.built automaton) (A.Reaches automaton) No (is_between two) sid
    bytes (n + stop.taken) stop.sid s u
advanced-on {A} {automaton} {openings} {start} {two} {sid} {bytes} {n} {stop} {s} {t}
    {u} may some tells small within is at to has =
    let b = A.built automaton in
    let R = A.Reaches automaton in
    let left = length-drop n bytes in
    let size = ap length is in
    let inside = to.within in
    let all = to.taken in
    let fits : n + (to.skipped + to.end) ≤ length bytes = omega (arith, left, size, inside, all, within) in
    let long = may.open_.short in
    let none : ((at : ℕ) → at < to.skipped → ¬ IsOpening b.dictionary openings.len (drop n bytes) at) =
    subst (λ l. ((at : ℕ) → at < to.skipped → ¬ IsOpening b.dictionary openings.len l at)) is
    (to.none b.dictionary may.open_) in
    let end = subst (λ l. ReadsAll A automaton start (take to.end (drop to.skipped l)) stop.sid to.between u)
    is to.reads in
    let here = subst (λ i. HasAdvanced b R No (is_between two) sid bytes n i s t) at has in
    let can : CanPass b R (A.matches automaton) (is_between two) openings.len start =
    record { some = some; long = long; may = may.may; tells = tells; quiet = may.quiet } in
    let on = advanced-passed b R (A.matches automaton) (is_between two) openings.len start can to.end small fits none
    to.short end.leads to.looks end.cost here in (
      omega (arith, fits, all),
      subst (λ k. HasAdvanced b R No (is_between two) sid bytes (n + k) stop.sid s u) all on,
    )

-- ---- what an automaton provides for passing

-- the openings that an automaton has are those of its dictionary
pub opened : {m : Dictionary} {held : Option Openings} {openings : Openings} → held ≡ Some openings
    → ∥ IfSome held (AreOpenings m) ∥₁ → AreOpenings m openings
opened {m} {openings} is h =
    record {
      short = λ n p pattern. ∥∥₁_elim there le_prop (λ w. w.short n p pattern);
      marks = λ text at opens cannot.
          ∥∥₁_elim there (λ x y. absurd x) (λ w. w.marks text at opens cannot);
    }
  where
    there : ∥ AreOpenings m openings ∥₁
    there = subst (λ o. ∥ IfSome o (AreOpenings m) ∥₁) is h

-- An automaton reads on by its skips if the states that match have the numbers from a first to a greatest one.
pub may-read : {S : Type 0} (A : Ghosts S) (automaton : S) (skips : Skips) (two : Between)
    (start first greatest : StateID)
    → skips.start ≡ start → ∥ IfSome skips.openings (AreOpenings (A.built automaton).dictionary) ∥₁
    → ((anchored : Anchored) → StaysBut (A.Reaches automaton anchored) skips.starters start)
    → ((len sid : ℕ) → 0 < len → ((n : ℕ) (p : List ℕ) → IsPattern (A.built automaton).dictionary n p → len ≤ length p)
    → IsReached (A.Reaches automaton No) sid → greatest < start
    → MayPass (A.built automaton).dictionary len (A.Reaches automaton No) start)
    → AreMatching A automaton first greatest
    → StopsBefore start two.last greatest
    → MayReadBy A automaton skips two
may-read A automaton skips two start first greatest begins made stays passes are before =
    record {
      stays = λ anchored. subst (StaysBut (A.Reaches automaton anchored) skips.starters) (sym begins) (stays anchored);
      passes = λ openings sid is past reached.
          let lt : two.last < start = omega (arith, past, begins) in
          let last = before lt in
          let open_ = opened is made in
          subst (λ at. MaySkipBy A automaton openings at two) (sym begins)
          (record {
            open_ = open_;
            may =
                passes openings.len sid (let wide = openings.wide in omega (arith, wide)) open_.short reached
                (omega (arith, lt, last));
            before = omega (arith, lt);
            quiet =
                λ text i reads none alive. quiet A automaton first greatest two i text are (omega (arith, last)) reads
                none alive;
          });
    }
