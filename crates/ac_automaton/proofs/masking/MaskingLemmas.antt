-- What a walk that masks has masked of the bytes that it holds, and what it has read ahead of them.
use Rattle.std.proofs.Common.{◌≡◌, ⊎_elim, ℕ, ◌+◌, ◌-◌, ◌*◌, ◌<◌, ◌≤◌, Bool, false, true, IsTrue, List, [], ◌∷◌, ◌++◌, length, take, drop, replicate, map, get_or, slice_get, slice_index, Option, None, Some, refl, sym, ap, subst, ◌∙◌, arith, length-append, length-drop, append_assoc, take-append-drop}
use Rattle.std.specs.List.{All}
use Rattle.std.proofs.Math.Seq.{drop-append_seam}
use Rattle.std.proofs.lemmas.Bool.{cases_lt, false≢true}
use Rattle.std.proofs.lemmas.List.{drop-drop, ext_get_or, get_or-append_right, get_or-drop, get_or-replicate, get_or-take, get_or_append_left, length-replicate, length-take-le, take-take}
use Rattle.std.proofs.lemmas.List.Elements.{All-cons, All-head, All-nil, All-tail}
use Rattle.ac_input.specs.Number.{StateID}
use Rattle.ac_input.specs.declared.search.Anchored.{Anchored}
use Rattle.ac_input.specs.declared.search.Anchored.TheVariants.{No}
use Rattle.ac_input.specs.declared.search.MatchKind.TheVariants.{Standard}
use Rattle.ac_input.specs.declared.steps.Steps.{Steps}
use Rattle.ac_input.specs.Dictionary.{live_len, whole}
use Rattle.ac_input.specs.Mask.{IsLongestEnding, masked_to_end}
use Rattle.ac_input.specs.Occurrence.{Occurrence, Occurs}
use Rattle.ac_input.specs.Tells.{Tells, ending}
use Rattle.ac_input.specs.Work.{IsLookups, lookups_per_byte}
use Rattle.ac_input.proofs.lemmas.LiveLemmas.{occurs-front}
use Rattle.ac_input.proofs.lemmas.MaskGrowthLemmas.{longest-told, masked-grown}
use Rattle.ac_input.proofs.lemmas.MaskLemmas.{masked-masked}
use Rattle.ac_input.proofs.lemmas.SomeLemmas.{live-some}
use Rattle.ac_automaton.specs.Ahead.{ComesTo, Frees, IsAhead, IsNote, IsPaid, Settles, TakesTo, bytes_ahead, left_notes, onward}
use Rattle.ac_automaton.specs.Automaton.{AdvancesToMatch, Built, IsReadCost, Leads, PassesPlain, has_some, is_matching}
use Rattle.ac_automaton.specs.Masking.{IsMaskCost, masked_between, masked_in}
use Rattle.ac_automaton.specs.Skip.{ReadsPart}
use Rattle.ac_automaton.specs.declared.ahead.Ahead.{Ahead}
use Rattle.ac_automaton.specs.declared.ahead.Note.{Note}
use Rattle.ac_automaton.specs.declared.automaton.Advance.{Advance}
use Rattle.ac_automaton.proofs.skip.IdleLemmas.{take-both}
use Rattle.ac_automaton.proofs.masking.BetweenLemmas.{between-before, between-in, between-length}

-- ---- what was read ahead stays

-- lists that are alike from a place on are alike from a later one on
pub drop-later : {X : Type 0} {at : ℕ} (k : ℕ) (xs ys : List X) → at ≤ k → drop at xs ≡ drop at ys
    → drop k xs ≡ drop k ys
drop-later {at} k xs ys le same =
    let e : at + (k - at) ≡ k = omega (arith, le) in
    ap (λ n. drop n xs) (sym e) ∙ sym (drop-drop (k - at) at xs) ∙ ap (drop (k - at)) same ∙ drop-drop (k - at) at ys
    ∙ ap (λ n. drop n ys) e

module _ (Reaches : List ℕ → StateID → Type 0) (matches : StateID → List ℕ) (anew : Option StateID)
    (bytes other : List ℕ) (at : ℕ) (same : drop at other ≡ drop at bytes) (long : length other ≡ length bytes) where
  -- a note of what comes after a place is one wherever the bytes from there on are the same
  note-stays : (note : Note) → at ≤ note.from → IsNote Reaches matches bytes note → IsNote Reaches matches other note
  note-stays note le is =
      let rest = drop-later note.from other bytes le same in
      let within = is.within in
      record {
        some = is.some;
        within = omega (arith, within, long);
        begins = is.begins;
        reads = subst (λ l. Leads Reaches note.sid (take note.len l) note.next) (sym rest) is.reads;
        plain = subst (λ l. PassesPlain Reaches (is_matching matches) note.sid l note.len) (sym rest) is.plain;
      }

  -- and a search comes to it in the same way
  comes-stays : (place : ℕ) (sid : StateID) (note : Note) → at ≤ place
      → ComesTo (Frees Reaches matches) bytes place sid note → ComesTo (Frees Reaches matches) other place sid note
  comes-stays place sid note le comes = record {
    later = comes.later;
    here = comes.here;
    freed = λ lt.
        let i : ℕ = note.from - 1 - at in
        let e : at + i ≡ note.from - 1 = omega (arith, le, lt) in
        let byte : get_or bytes (note.from - 1) 0 ≡ get_or other (note.from - 1) 0 =
        ap (λ n. get_or bytes n 0) (sym e) ∙ sym (get_or-drop at bytes i 0) ∙ ap (λ l. get_or l i 0) (sym same)
        ∙ get_or-drop at other i 0 ∙ ap (λ n. get_or other n 0) e in
        subst (λ b. Frees Reaches matches b note.sid) byte (comes.freed lt);
  }

  notes-stay : (place : ℕ) (sid : StateID) (notes : List Note) (to : ℕ) (next : StateID) → at ≤ place
      → All (IsNote Reaches matches bytes) notes → TakesTo Reaches matches anew bytes place sid notes to next
      → All (IsNote Reaches matches other) notes × TakesTo Reaches matches anew other place sid notes to next
  notes-stay place sid [] to next le are takes = (All-nil (IsNote Reaches matches other), takes)
  notes-stay place sid (note ∷ notes) to next le are takes =
      let later = takes.0.later in
      let first = All-head (IsNote Reaches matches bytes) note notes are in
      let more = notes-stay (note.from + note.len) (onward matches anew note.next) notes to next
      (omega (arith, le, later)) (All-tail (IsNote Reaches matches bytes) note notes are) takes.1 in (
        All-cons (IsNote Reaches matches other) note notes (note-stays note (omega (arith, le, later)) first) more.0,
        (comes-stays place sid note le takes.0, more.1),
      )

-- under standard, what was read ahead of a search stays so where bytes before it change
pub ahead-stays : {b : Built} {Reaches : List ℕ → StateID → Type 0} {matches : StateID → List ℕ} {anew : Option StateID}
    (bytes other : List ℕ) {at : ℕ} {sid : StateID} {ahead : Ahead} → b.dictionary.kind ≡ Standard
    → drop at other ≡ drop at bytes → length other ≡ length bytes
    → IsAhead b Reaches matches anew bytes at sid ahead → IsAhead b Reaches matches anew other at sid ahead
ahead-stays {Reaches} {matches} {anew} bytes other {at} {sid} {ahead} standard same long is =
    let taken = is.taken standard in
    let stay = notes-stay Reaches matches anew bytes other at same long at sid (left_notes ahead) taken.1.0 taken.1.1
    (omega arith) is.are taken.1.2 in
    record {
      room = is.room;
      are = stay.0;
      most = is.most;
      none = is.none;
      taken = λ s. (taken.0, (taken.1.0, taken.1.1, stay.1));
    }

-- ---- how the masked text grows

module _ (b : Built) (Reaches : List ℕ → StateID → Type 0) (matches : StateID → List ℕ)
    (standard : b.dictionary.kind ≡ Standard)
    (tells : (text : List ℕ) (sid : StateID) → Reaches text sid → Tells b.dictionary No text (matches sid)) where
  -- where no pattern matches at a state, no occurrence ends where its text ends
  none-ends : (text : List ℕ) (sid : StateID) → Reaches text sid → ¬ IsTrue (is_matching matches sid)
      → IsLongestEnding (whole b.dictionary text false) (length text) None
  none-ends text sid reads none =
      let ends = longest-told b.dictionary text (matches sid) standard (tells text sid reads) in
      by (matches sid) none ends
    where
      by : (ns : List ℕ) → ¬ IsTrue (has_some ns)
          → IsLongestEnding (whole b.dictionary text false) (length text) (slice_get (map (ending b.dictionary text) ns) 0)
          → IsLongestEnding (whole b.dictionary text false) (length text) None
      by [] quiet ends = ends
      by (n ∷ ns) quiet ends = absurd (quiet refl)

  -- After some bytes more, with no match before their end, the mask reaches back from there as far as the longest pattern
  -- that matches.
  pub masked-read : (mask : ℕ) (x ys : List ℕ) (sid next : StateID) → Reaches x sid → Leads Reaches sid ys next
      → PassesPlain Reaches (is_matching matches) sid ys (length ys)
      → masked_in b mask (x ++ ys)
      ≡ masked_to_end mask (masked_in b mask x ++ ys)
      (slice_get (map (ending b.dictionary (x ++ ys)) (matches next)) 0)
  masked-read mask x ys sid next reads leads plain =
      let m = b.dictionary in
      let long = length-append x ys in
      let told = longest-told m (x ++ ys) (matches next) standard (tells (x ++ ys) next (leads x reads)) in
      masked-grown mask m x ys (slice_get (map (ending m (x ++ ys)) (matches next)) 0)
      (λ q h after. ⊎_elim
      (λ (sooner : q.end < length x + length ys).
      let at : ℕ = q.end - length x in
      let mid = plain at (omega (arith, after)) (omega (arith, sooner, after)) in
      let front = x ++ take at ys in
      let size : length front ≡ q.end = length-append x (take at ys)
      ∙ ap (λ n. length x + n) (length-take-le at ys (omega (arith, sooner, after))) ∙ (let e : length x + at ≡ q.end =
      omega (arith, after) in e) in
      let all : front ++ drop at ys ≡ x ++ ys = append_assoc x (take at ys) (drop at ys)
      ∙ ap (λ l. x ++ l) (take-append-drop at ys) in
      let there : Occurs (whole m (front ++ drop at ys) false) q =
      subst (λ l. Occurs (whole m l false) q) (sym all) h in
      absurd (none-ends front mid.0 (mid.1 x reads) mid.2 q
      (occurs-front m (drop at ys) (omega (arith, size)) there, sym size)))
      (λ (there : length x + length ys ≤ q.end). let w = h.within in omega (arith, there, long))
      (cases_lt q.end (length x + length ys)))
      (subst (λ n. IsLongestEnding (whole m (x ++ ys) false) n
      (slice_get (map (ending m (x ++ ys)) (matches next)) 0)) long told)

-- ---- the held end of a masked text

-- the end of a text from a place on, and some bytes more
pub drop-more : {X : Type 0} (base : ℕ) (xs ys : List X) → base ≤ length xs → drop base (xs ++ ys) ≡ drop base xs ++ ys
drop-more {X} base xs ys le =
    let size : length (take base xs) ≡ base = length-take-le base xs le in
    ap (drop base) (ap (λ l. l ++ ys) (sym (take-append-drop base xs)) ∙ append_assoc (take base xs) (drop base xs) ys)
    ∙ ap (λ n. drop n (take base xs ++ (drop base xs ++ ys))) (sym size)
    ∙ drop-append_seam (take base xs) (drop base xs ++ ys)

-- the mask reaches back in the held bytes as it does in the whole text, as far as they are held
pub held-masked : (mask : ℕ) (text bytes : List ℕ) (base at len : ℕ) (o : Occurrence) → base + at ≡ length text
    → at ≤ length bytes → take at bytes ≡ drop base text → o.start ≡ length text - len
    → take at (masked_between mask bytes (at - len) at) ≡ drop base (masked_to_end mask text (Some o))
held-masked mask text bytes base at len o long within same start =
    let le : at - len ≤ at = omega arith in
    let front : length (take o.start text) ≡ o.start = length-take-le o.start text (omega (arith, start)) in
    let size : length (masked_to_end mask text (Some o)) ≡ length text =
    length-append (take o.start text) (replicate (length text - o.start) mask)
    ∙ ap (λ n. n + length (replicate (length text - o.start) mask)) front
    ∙ ap (λ n. o.start + n) (length-replicate (length text - o.start) mask)
    ∙ (let e : o.start + (length text - o.start) ≡ length text = omega (arith, start) in e) in
    let left : length (take at (masked_between mask bytes (at - len) at)) ≡ at =
    length-take-le at (masked_between mask bytes (at - len) at)
    (let e = between-length mask bytes (at - len) at le within in omega (arith, e, within)) in
    let right : length (drop base (masked_to_end mask text (Some o))) ≡ at =
    length-drop base (masked_to_end mask text (Some o)) ∙ (let e : length (masked_to_end mask text (Some o)) - base ≡ at =
    omega (arith, size, long) in e) in
    ext_get_or 0 (take at (masked_between mask bytes (at - len) at)) (drop base (masked_to_end mask text (Some o)))
    (left ∙ sym right)
    (λ i lt.
    let inside : i < at = omega (arith, lt, left) in
    get_or-take at (masked_between mask bytes (at - len) at) i 0 inside
    ∙ ⊎_elim
    (λ (before : i < at - len).
    between-before mask bytes (at - len) at le within i before
    ∙ sym (get_or-take at bytes i 0 inside) ∙ ap (λ l. slice_index l i) same ∙ get_or-drop base text i 0
    ∙ sym (get_or-take o.start text (base + i) 0 (omega (arith, start, long, before)))
    ∙ sym (get_or_append_left (take o.start text) (replicate (length text - o.start) mask) 0 (base + i)
    (omega (arith, front, start, long, before))))
    (λ (past : at - len ≤ i).
    between-in mask bytes (at - len) at le within i past inside
    ∙ sym (get_or-append_right (take o.start text) (replicate (length text - o.start) mask) o.start (base + i) 0 front
    (omega (arith, start, long, past))
    ∙ get_or-replicate (length text - o.start) (base + i - o.start) mask 0 (omega (arith, start, long, past, inside))))
    (cases_lt i (at - len))
    ∙ sym (get_or-drop base (masked_to_end mask text (Some o)) i 0))

-- ---- one part more

-- a list without its front is the list, for as many elements as it has
take-front : {X : Type 0} (bytes : List X) (at taken : ℕ) → at + taken ≤ length bytes
    → length (take taken (drop at bytes)) ≡ taken
take-front bytes at taken within =
    let left = length-drop at bytes in length-take-le taken (drop at bytes) (omega (arith, left, within))

module _ (b : Built) (Reaches : List ℕ → StateID → Type 0) (matches : StateID → List ℕ)
    (standard : b.dictionary.kind ≡ Standard)
    (tells : (text : List ℕ) (sid : StateID) → Reaches text sid → Tells b.dictionary No text (matches sid))
    (mask : ℕ) (x : List ℕ) (base : ℕ) (bytes : List ℕ) (at taken : ℕ) {sid next : StateID} (reads : Reaches x sid)
    (long : length x ≡ base + at) (held : take at bytes ≡ drop base (masked_in b mask x))
    (within : at + taken ≤ length bytes) (leads : Leads Reaches sid (take taken (drop at bytes)) next)
    (plain : PassesPlain Reaches (is_matching matches) sid (drop at bytes) taken) where
  abbrev part : List ℕ
  part = take taken (drop at bytes)

  -- the masked text so far, and the part
  abbrev so_far : List ℕ
  so_far = masked_in b mask x ++ part

  masked-len : length (masked_in b mask x) ≡ length x
  masked-len = (masked-masked mask (whole b.dictionary x false) (omega arith)).len

  part-len : length part ≡ taken
  part-len = take-front bytes at taken within

  grows : masked_in b mask (x ++ part)
      ≡ masked_to_end mask so_far (slice_get (map (ending b.dictionary (x ++ part)) (matches next)) 0)
  grows =
      masked-read b Reaches matches standard tells mask x part sid next reads leads
      (λ k some lt.
      let mid = plain k some (let e = part-len in omega (arith, e, lt)) in (
        mid.0,
        subst (λ l. Leads Reaches sid l mid.0) (sym (take-take k taken (drop at bytes)
            (let e = part-len in omega (arith, e, lt)))) mid.1,
        mid.2,
      ))

  -- the bytes up to the end of the part, which isn't masked yet
  held-part : take (at + taken) bytes ≡ drop base so_far
  held-part =
      let e = masked-len in
      take-both at taken bytes ∙ ap (λ l. l ++ part) held
      ∙ sym (drop-more base (masked_in b mask x) part (omega (arith, e, long)))

  -- where no pattern matches at its end, it is masked
  pub held-quiet : matches next ≡ [] → take (at + taken) bytes ≡ drop base (masked_in b mask (x ++ part))
  held-quiet none =
      held-part
      ∙ ap (drop base) (sym (grows
      ∙ ap (λ ns. masked_to_end mask so_far (slice_get (map (ending b.dictionary (x ++ part)) ns) 0)) none))

  -- where one does, it is once the longest is
  pub held-matched : (n : ℕ) → slice_get (matches next) 0 ≡ Some n
      → take (at + taken) (masked_between mask bytes (at + taken - length (get_or b.dictionary.patterns n [])) (at + taken))
      ≡ drop base (masked_in b mask (x ++ part))
  held-matched n first =
      let o = ending b.dictionary (x ++ part) n in
      let m = masked-len in
      let p = part-len in
      let both = length-append (masked_in b mask x) part in
      let whole_len = length-append x part in
      held-masked mask so_far bytes base (at + taken) (length (get_or b.dictionary.patterns n [])) o
      (omega (arith, m, p, both, long)) within held-part (omega (arith, m, p, both, whole_len))
      ∙ ap (drop base) (sym (grows ∙ ap (masked_to_end mask so_far) (by (matches next) first)))
    where
      by : (ns : List ℕ) → slice_get ns 0 ≡ Some n
          → slice_get (map (ending b.dictionary (x ++ part)) ns) 0 ≡ Some (ending b.dictionary (x ++ part) n)
      by [] is = let e : None ≡ Some n = is in absurd cc
      by (k ∷ ns) is = let e : Some k ≡ Some n = is in let d : k ≡ n = cc in ap (λ j. Some (ending b.dictionary (x ++ part) j)) d

-- ---- what the walk reads and costs

-- the text that was read, and the next part of the bytes, which are still as they were passed
pub text-grown : (x now old : List ℕ) (from read taken : ℕ) → drop (from + read) now ≡ drop (from + read) old
    → (x ++ take read (drop from old)) ++ take taken (drop (from + read) now) ≡ x ++ take (read + taken) (drop from old)
text-grown x now old from read taken rest =
    append_assoc x (take read (drop from old)) (take taken (drop (from + read) now))
    ∙ ap (λ l. x ++ l)
    (ap (λ l. take read (drop from old) ++ take taken l) (rest ∙ sym (drop-drop read from old))
    ∙ sym (take-both read taken (drop from old)))

-- what was read up to a match, or to the last byte, at a cost, is a part of the bytes; whether it matches is left aside
pub part-read : {b : Built} {Reaches : Anchored → List ℕ → StateID → Type 0} (matches : StateID → List ℕ)
    {sid : StateID} {bytes rest : List ℕ} {stop : Advance} {before after : Ahead} {s t : Steps} → rest ≡ bytes
    → 0 < length rest → AdvancesToMatch (Reaches No) matches sid rest stop
    → IsPaid before after t (λ paid. IsReadCost b Reaches No sid (take stop.taken rest) s paid)
    → IsPaid before after t (λ paid. ReadsPart b Reaches No (λ next. false) sid bytes stop s paid)
part-read {b} {Reaches} matches {sid} {bytes} {stop} {s} same some goes paid = (
  paid.0,
  paid.1,
  subst (λ l. ReadsPart b Reaches No (λ next. false) sid l stop s paid.0) same
      (record {
        some = goes.taken.1 some;
        within = goes.taken.0;
        reads = goes.reads;
        plain = λ at lt le. let mid = goes.plain at lt le in (mid.0, mid.1, λ e. false≢true e);
        cost = paid.2;
      }),
)

-- how long that text is
pub size-grown : (x old : List ℕ) (from read base : ℕ) → length x ≡ base + from → from + read ≤ length old
    → length (x ++ take read (drop from old)) ≡ base + (from + read)
size-grown x old from read base size within =
    let a = length-append x (take read (drop from old)) in
    let e = take-front old from read within in
    omega (arith, a, e, size)

-- where nothing is read ahead before and after, what was paid is what was counted
pub cost-settled : (b : Built) (Reaches : Anchored → List ℕ → StateID → Type 0) (sid : StateID) {bytes : List ℕ}
    {before after : Ahead} {s t paid : Steps} → bytes_ahead before ≡ 0 → bytes_ahead after ≡ 0
    → Settles before after t paid → IsReadCost b Reaches No sid bytes s paid → IsReadCost b Reaches No sid bytes s t
cost-settled b Reaches sid none over settles cost = λ text p q reads g h.
    let run = cost text p q reads g h in
    let e = settles.looked in
    let some = run.some in
    let bound = run.bound in
    record {
      some = omega (arith, e, none, over, some);
      bound = omega (arith, e, none, over, bound);
      one = λ d. let f = run.one d in omega (arith, e, none, over, f);
      scanned = sym settles.scanned ∙ run.scanned;
      moved = sym settles.moved ∙ run.moved;
    }

-- of a text without bytes none is live
pub live-none : (live : Option ℕ) → live_len [] live ≡ 0
live-none None = refl
live-none (Some from) = omega arith

-- what looks at states cost where nothing was live before
pub looks-cost : (b : Built) {n live live_after : ℕ} {s t : Steps} → live ≡ 0
    → IsLookups b.deterministic n live live_after s t → IsMaskCost b n s t × (t.moved.value ≡ s.moved.value)
looks-cost b {n} {live} {live_after} {s} {t} none run =
    let bound = run.bound in (
      record {
        some = run.some;
        looked = by b.deterministic refl run.one (omega (arith, none, bound));
        scanned = run.scanned;
      },
      run.moved,
    )
  where
    by : (d : Bool) → b.deterministic ≡ d → (IsTrue d → t.looked.value ≡ s.looked.value + n)
        → t.looked.value ≤ s.looked.value + 2 * n → t.looked.value ≤ s.looked.value + lookups_per_byte d * n
    by true is one two = let e = one refl in omega (arith, e)
    by false is one two = omega (arith, two)

-- what a walk from the start over a whole text costs
pub mask-cost : (b : Built) (Reaches : Anchored → List ℕ → StateID → Type 0) (sid : StateID) {text : List ℕ}
    {s t : Steps} → Reaches No [] sid → IsReadCost b Reaches No sid text s t
    → IsMaskCost b (length text) s t × (t.moved.value ≡ s.moved.value)
mask-cost b Reaches sid begins cost =
    let before = live-some in
    let after = live-some in
    looks-cost b (live-none before.0) (cost [] before.0 after.0 begins before.1 after.1)
