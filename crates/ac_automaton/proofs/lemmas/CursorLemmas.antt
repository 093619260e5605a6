-- What is known of a text as it grows, and what it costs to read on over it.
use Rattle.std.proofs.Common.{◌≡◌, ◌≢◌, ◌↔◌, ⊎_elim, ℕ, zero, suc, ◌+◌, ◌-◌, ◌<◌, ◌≤◌, Bool, IsTrue, List, [], ◌∷◌, ◌++◌, length, take, drop, Option, Some, None, slice_get, slice_range, sym, ap, subst, refl, inl, inr, ◌∙◌, arith, length-append, take-append-drop, ap₂}
use Rattle.std.proofs.Math.Logic.{∥∥₁_map}
use Rattle.std.proofs.lemmas.Bool.{cases_lt}
use Rattle.std.proofs.lemmas.List.{take-take, drop-take, drop-drop, append-nil, append_assoc}
use Rattle.ac_input.specs.Number.{StateID}
use Rattle.ac_input.specs.declared.search.Anchored.{Anchored}
use Rattle.ac_input.specs.declared.steps.Steps.{Steps}
use Rattle.ac_input.specs.Input.{is_anchored}
use Rattle.ac_input.specs.Dictionary.{Dictionary, IsLive, live_len}
use Rattle.ac_input.specs.Occurrence.{Search}
use Rattle.ac_input.specs.Tells.{Tells}
use Rattle.ac_input.specs.Work.{IsLookups}
use Rattle.ac_input.proofs.lemmas.OrderLemmas.{slice_range-length}
use Rattle.ac_input.proofs.lemmas.StateLemmas.{live-one}
use Rattle.ac_automaton.specs.Automaton.{Built, IsSpecial, Leads, IsReadCost, Advances, PassesPlain, IsReached, IsState}
use Rattle.ac_automaton.specs.InMemory.Find.Cursor.{IsCursor, IsQuiet, HasReadOn, read_to, walked}
use Rattle.ac_automaton.specs.declared.in_memory.find.cursor.Cursor.{Cursor}
use Rattle.ac_input.proofs.lemmas.SomeLemmas.{live-some}

-- ---- what it costs

-- reading nothing needs no look
pub lookups-none : (deterministic : Bool) (live : ℕ) (s : Steps) → IsLookups deterministic 0 live live s s
lookups-none deterministic live s =
    record { some = omega arith; bound = omega arith; one = λ d. omega arith; scanned = refl; moved = refl }

-- the looks for some bytes and for the bytes after them add up
pub lookups-join : {deterministic : Bool} {n k a b c : ℕ} {s t u : Steps} → IsLookups deterministic n a b s t
    → IsLookups deterministic k b c t u → IsLookups deterministic (n + k) a c s u
lookups-join run more =
    let g = run.bound in
    let h = more.bound in
    let e = run.some in
    let f = more.some in
    record {
      some = omega arith;
      bound = omega arith;
      one = λ d. let p = run.one d in let q = more.one d in omega arith;
      scanned = more.scanned ∙ run.scanned;
      moved = more.moved ∙ run.moved;
    }

-- ---- parts of the haystack that grow

-- a part from a place to the same place is empty
pub part-empty : (haystack : List ℕ) (at : ℕ) → slice_range haystack at at ≡ []
part-empty haystack at = let zero_bytes : at - at ≡ 0 = omega arith in rw zero_bytes

-- the front of a list, and one element more
pub take-more : (xs : List ℕ) (n : ℕ) (x : ℕ) → slice_get xs n ≡ Some x → take (suc n) xs ≡ take n xs ++ x ∷ []
take-more [] n x is = absurd (let e : None ≡ Some x = is in cc)
take-more (y ∷ ys) zero x is = let e : Some y ≡ Some x = is in let d : y ≡ x = cc in ap (λ z. z ∷ []) d
take-more (y ∷ ys) (suc n) x is = ap (λ l. y ∷ l) (take-more ys n x is)

-- element n of a list without its first k elements is element k + n
slice_get-drop : (xs : List ℕ) (k n : ℕ) → slice_get (drop k xs) n ≡ slice_get xs (k + n)
slice_get-drop xs zero n = let e : 0 + n ≡ n = omega arith in rw e
slice_get-drop [] (suc k) n = refl
slice_get-drop (x ∷ xs) (suc k) n = let e : suc k + n ≡ suc (k + n) = omega arith in rw e (slice_get-drop xs k n)

-- a part of the haystack that is one byte longer
pub part-more : (haystack : List ℕ) (start at byte : ℕ) → start ≤ at → slice_get haystack at ≡ Some byte
    → slice_range haystack start (at + 1) ≡ slice_range haystack start at ++ byte ∷ []
part-more haystack start at byte behind is =
    let here : start + (at - start) ≡ at = omega arith in
    let longer : at + 1 - start ≡ suc (at - start) = omega arith in
    let there : slice_get (drop start haystack) (at - start) ≡ Some byte = slice_get-drop haystack start (at - start)
    ∙ ap (slice_get haystack) here ∙ is in
    ap (λ k. take k (drop start haystack)) longer ∙ take-more (drop start haystack) (at - start) byte there

-- an element in the front of a list is in the list
slice_get-take : (xs : List ℕ) (k n x : ℕ) → slice_get (take k xs) n ≡ Some x → slice_get xs n ≡ Some x
slice_get-take xs zero n x is = absurd (let e : None ≡ Some x = is in cc)
slice_get-take [] (suc k) n x is = absurd (let e : None ≡ Some x = is in cc)
slice_get-take (y ∷ ys) (suc k) zero x is = is
slice_get-take (y ∷ ys) (suc k) (suc n) x is = slice_get-take ys k n x is

-- a part of a text splits at any place in it
pub slice_range-split : (x : List ℕ) (from at to : ℕ) → from ≤ at → at ≤ to
    → slice_range x from to ≡ slice_range x from at ++ slice_range x at to
slice_range-split x from at to g h =
    let i : ℕ = at - from in
    let n : ℕ = to - at in
    let e : to - from ≡ i + n = omega arith in
    let j : from + i ≡ at = omega arith in
    let rest = drop from x in
    ap (λ k. take k rest) e
    ∙ sym (take-append-drop i (take (i + n) rest))
    ∙ ap₂ (λ a b. a ++ b) (take-take i (i + n) rest (omega arith))
    (drop-take i n rest ∙ ap (take n) (drop-drop i from x ∙ ap (λ k. drop k x) j))

-- a list that isn't nonempty is empty
pub list-none : {X : Type 0} (xs : List X) → ¬ (xs ≢ []) → xs ≡ []
list-none [] h = refl
list-none (x ∷ xs) h = absurd (h (λ e. let d : x ∷ xs ≡ [] = e in cc))

-- where a text isn't dead, something of it is live
pub alive-from : (m : Dictionary) (anchored : Bool) (text : List ℕ) → ¬ IsLive m anchored text None
    → (from : ℕ) × IsLive m anchored text (Some from)
alive-from m anchored text alive = by (live-some).0 (live-some).1
  where
    by : (live : Option ℕ) → IsLive m anchored text live → (from : ℕ) × IsLive m anchored text (Some from)
    by None dead = absurd (alive dead)
    by (Some from) is = (from, is)

-- a state with no matches whose text isn't dead is quiet
pub quiet-from : (m : Dictionary) (anchored : Anchored) (text ns : List ℕ) → Tells m anchored text ns → ¬ (ns ≢ [])
    → ¬ IsLive m (is_anchored anchored) text None → IsQuiet m anchored text
quiet-from m anchored text ns tells none alive =
    record {
      nothing = subst (λ l. Tells m anchored text l) (list-none ns none) tells;
      alive = alive-from m (is_anchored anchored) text alive;
    }

-- ---- which states are reached

-- what a reached state leads to is reached
pub reached-on : (Reaches : List ℕ → StateID → Type 0) (from : StateID) (bytes : List ℕ) (to : StateID)
    → IsReached Reaches from → Leads Reaches from bytes to → IsReached Reaches to
reached-on Reaches from bytes to h leads = ∥∥₁_map h (λ w. (w.0 ++ bytes, leads w.0 w.1))

-- what is reached from one start is a state
pub reached-state : (Reaches : Anchored → List ℕ → StateID → Type 0) (anchored : Anchored) (sid : StateID)
    → IsReached (Reaches anchored) sid → IsState Reaches sid
reached-state Reaches anchored sid h = ∥∥₁_map h (λ w. (anchored, w.0, w.1))

-- ---- one look-up after another

-- What is known of the state to which the first n bytes lead, if no state on the way was special.
pub record HasAdvanced (b : Built) (Reaches : Anchored → List ℕ → StateID → Type 0) (anchored : Anchored)
    (special : StateID → Bool) (sid : StateID) (bytes : List ℕ) (n : ℕ) (current : StateID)
    (before after : Steps) : Type 0 where
  pub reads : Leads (Reaches anchored) sid (take n bytes) current
  pub plain : PassesPlain (Reaches anchored) special sid bytes (n + 1)
  pub cost : IsReadCost b Reaches anchored sid (take n bytes) before after

-- reading no bytes leads from a state to itself
pub leads-none : (Reaches : List ℕ → StateID → Type 0) (sid : StateID) → Leads Reaches sid [] sid
leads-none Reaches sid = λ text reads. subst (λ t. Reaches t sid) (sym (append-nil text)) reads

pub cost-none : (b : Built) (Reaches : Anchored → List ℕ → StateID → Type 0) (anchored : Anchored) (sid : StateID)
    (s : Steps) → IsReadCost b Reaches anchored sid [] s s
cost-none b Reaches anchored sid s = λ text p q reads g h.
    let e = append-nil text in
    let there : IsLive b.dictionary (is_anchored anchored) text q =
    subst (λ t. IsLive b.dictionary (is_anchored anchored) t q) e h in
    let one : p ≡ q = live-one b.dictionary (is_anchored anchored) text p q g there in
    subst (λ t. IsLookups b.deterministic 0 (live_len text p) (live_len t q) s s) (sym e)
    (subst (λ x. IsLookups b.deterministic 0 (live_len text p) (live_len text x) s s) one
    (lookups-none b.deterministic (live_len text p) s))

-- before the first byte
pub advanced-none : (b : Built) (Reaches : Anchored → List ℕ → StateID → Type 0) (anchored : Anchored)
    (special : StateID → Bool) (sid : StateID) (bytes : List ℕ) (s : Steps)
    → HasAdvanced b Reaches anchored special sid bytes 0 sid s s
advanced-none b Reaches anchored special sid bytes s = record {
  reads = leads-none (Reaches anchored) sid;
  plain = λ at lt le. absurd (omega arith);
  cost = cost-none b Reaches anchored sid s;
}

-- the bytes so far and one more lead to the next state
pub advanced-reads : {b : Built} {Reaches : Anchored → List ℕ → StateID → Type 0} {anchored : Anchored}
    {special : StateID → Bool} {sid : StateID} {bytes : List ℕ} {n : ℕ} (byte : ℕ) {current : StateID}
    (next : StateID) {s t : Steps} → slice_get bytes n ≡ Some byte
    → HasAdvanced b Reaches anchored special sid bytes n current s t
    → Leads (Reaches anchored) current (byte ∷ []) next → Leads (Reaches anchored) sid (take (n + 1) bytes) next
advanced-reads {Reaches} {anchored} {bytes} {n} byte next is has leads = λ text reads.
    let longer : n + 1 ≡ suc n = omega arith in
    let more : take (n + 1) bytes ≡ take n bytes ++ byte ∷ [] = ap (λ k. take k bytes) longer
    ∙ take-more bytes n byte is in
    let whole : (text ++ take n bytes) ++ byte ∷ [] ≡ text ++ take (n + 1) bytes =
    append_assoc text (take n bytes) (byte ∷ []) ∙ ap (λ l. text ++ l) (sym more) in
    subst (λ l. Reaches anchored l next) whole (leads (text ++ take n bytes) (has.reads text reads))

-- the cost of the bytes so far and one more
pub advanced-cost : (b : Built) (Reaches : Anchored → List ℕ → StateID → Type 0) (anchored : Anchored)
    (special : StateID → Bool) (sid : StateID) (bytes : List ℕ) (n byte : ℕ) (current : StateID) (s t u : Steps)
    → slice_get bytes n ≡ Some byte → HasAdvanced b Reaches anchored special sid bytes n current s t
    → IsReadCost b Reaches anchored current (byte ∷ []) t u → IsReadCost b Reaches anchored sid (take (n + 1) bytes) s u
advanced-cost b Reaches anchored special sid bytes n byte current s t u is has cost = λ text p q reads g h.
    let m = b.dictionary in
    let a = is_anchored anchored in
    let longer : n + 1 ≡ suc n = omega arith in
    let more : take (n + 1) bytes ≡ take n bytes ++ byte ∷ [] = ap (λ k. take k bytes) longer
    ∙ take-more bytes n byte is in
    let whole : (text ++ take n bytes) ++ byte ∷ [] ≡ text ++ take (n + 1) bytes =
    append_assoc text (take n bytes) (byte ∷ []) ∙ ap (λ l. text ++ l) (sym more) in
    let there = has.reads text reads in
    let live = live-some in
    let first = has.cost text p live.0 reads g live.1 in
    let after : IsLive m a ((text ++ take n bytes) ++ byte ∷ []) q = subst (λ l. IsLive m a l q) (sym whole) h in
    let second = cost (text ++ take n bytes) live.0 q there live.1 after in
    let both = lookups-join first second in
    let long : length (take n bytes) + 1 ≡ length (take (n + 1) bytes) =
    sym (ap length more ∙ length-append (take n bytes) (byte ∷ [])) in
    subst (λ k. IsLookups b.deterministic k (live_len text p) (live_len (text ++ take (n + 1) bytes) q) s u) long
    (subst (λ l. IsLookups b.deterministic (length (take n bytes) + 1) (live_len text p) (live_len l q) s u) whole both)

-- After one byte more, reading on continues if the new state isn't special.
pub advanced-more : (b : Built) (Reaches : Anchored → List ℕ → StateID → Type 0) (anchored : Anchored)
    (special : StateID → Bool) (sid : StateID) (bytes : List ℕ) (n byte : ℕ) (current next : StateID) (s t u : Steps)
    → slice_get bytes n ≡ Some byte → HasAdvanced b Reaches anchored special sid bytes n current s t
    → Leads (Reaches anchored) current (byte ∷ []) next → IsReadCost b Reaches anchored current (byte ∷ []) t u
    → ¬ IsTrue (special next)
    → HasAdvanced b Reaches anchored special sid bytes (n + 1) next s u
advanced-more b Reaches anchored special sid bytes n byte current next s t u is has leads cost none =
    let reads = advanced-reads byte next is has leads in
    record {
      reads = reads;
      plain = λ at lt le. ⊎_elim
          (λ (sooner : at < n + 1). has.plain at lt sooner)
          (λ (here : n + 1 ≤ at). let e : n + 1 ≡ at = omega arith in
          subst (λ k. (mid : StateID) × Leads (Reaches anchored) sid (take k bytes) mid × ¬ IsTrue (special mid)) e
          (next, reads, none))
          (cases_lt at (n + 1));
      cost = advanced-cost b Reaches anchored special sid bytes n byte current s t u is has cost;
    }

-- reading on stops at the first state that is special
pub advances-there : (b : Built) (Reaches : Anchored → List ℕ → StateID → Type 0) (anchored : Anchored)
    (special : StateID → Bool) (sid : StateID) (bytes : List ℕ) (n byte : ℕ) (current next : StateID) (s t : Steps)
    → slice_get bytes n ≡ Some byte → n < length bytes → HasAdvanced b Reaches anchored special sid bytes n current s t
    → Leads (Reaches anchored) current (byte ∷ []) next → IsTrue (special next)
    → Advances (Reaches anchored) special sid bytes (record { sid = next; taken = n + 1 })
advances-there b Reaches anchored special sid bytes n byte current next s t is within has leads there = record {
  taken = (omega (arith, within), λ some. omega arith);
  reads = advanced-reads byte next is has leads;
  plain = has.plain;
  stops = λ lt. there;
}

-- without a special state, reading on stops after the last byte
pub advances-all : {b : Built} {Reaches : Anchored → List ℕ → StateID → Type 0} {anchored : Anchored}
    {special : StateID → Bool} {sid : StateID} {bytes : List ℕ} {n : ℕ} (taken : ℕ) {current : StateID} {s t : Steps}
    → n ≡ taken → taken ≡ length bytes → HasAdvanced b Reaches anchored special sid bytes n current s t
    → Advances (Reaches anchored) special sid bytes (record { sid = current; taken = taken })
advances-all {Reaches} {anchored} {sid} {bytes} taken {current} is all has = record {
  taken = (omega (arith, all), λ some. omega (arith, all, some));
  reads = subst (λ k. Leads (Reaches anchored) sid (take k bytes) current) is has.reads;
  plain = λ at some lt. has.plain at some (omega (arith, is, lt));
  stops = λ lt. absurd (omega (arith, all, lt));
}

pub advanced-all_cost : {b : Built} {Reaches : Anchored → List ℕ → StateID → Type 0} {anchored : Anchored}
    {special : StateID → Bool} {sid : StateID} {bytes : List ℕ} {n : ℕ} (taken : ℕ) {current : StateID} {s t : Steps}
    → n ≡ taken → HasAdvanced b Reaches anchored special sid bytes n current s t
    → IsReadCost b Reaches anchored sid (take taken bytes) s t
advanced-all_cost {b} {Reaches} {anchored} {sid} {bytes} taken {s} {t} is has =
    subst (λ k. IsReadCost b Reaches anchored sid (take k bytes) s t) is has.cost

-- ---- a cursor that reads on

-- the front of a part of the haystack, after the part before it
pub part-front : (haystack : List ℕ) (from at end n : ℕ) → from ≤ at → n ≤ end - at
    → slice_range haystack from at ++ take n (slice_range haystack at end) ≡ slice_range haystack from (at + n)
part-front haystack from at end n behind fits =
    let short : take n (take (end - at) (drop at haystack)) ≡ take n (drop at haystack) =
    take-take n (end - at) (drop at haystack) fits in
    let bytes : at + n - at ≡ n = omega arith in
    let part : slice_range haystack at (at + n) ≡ take n (drop at haystack) =
    ap (λ k. take k (drop at haystack)) bytes in
    sym (slice_range-split haystack from at (at + n) behind (omega arith)
    ∙ ap (λ l. slice_range haystack from at ++ l) (part ∙ sym short))

-- a state that isn't special brings no match, and its text isn't dead
pub plain-quiet : (b : Built) (anchored : Anchored) (text ns : List ℕ) (start special : Bool)
    → Tells b.dictionary anchored text ns → (IsTrue special ↔ IsSpecial b ns start anchored text) → ¬ IsTrue special
    → IsQuiet b.dictionary anchored text
plain-quiet b anchored text ns start special tells stops none =
    quiet-from b.dictionary anchored text ns tells (λ some. none (stops.1 (inr (inl some))))
    (λ dead. none (stops.1 (inl dead)))

-- where the cursor stands after reading on
pub cursor-read : {Reaches : List ℕ → StateID → Type 0} {s : Search} {cursor : Cursor} (sid : StateID) (taken : ℕ)
    → IsCursor Reaches s cursor → taken ≤ s.end - cursor.at
    → Leads Reaches cursor.sid (take taken (slice_range s.haystack cursor.at s.end)) sid
    → IsCursor Reaches s (record { sid = sid; from = cursor.from; at = cursor.at + taken })
cursor-read {Reaches} {s} {cursor} sid taken is fits leads =
    let within = is.within in
    let ordered = is.ordered in
    record {
      behind = is.behind;
      ordered = omega arith;
      within = omega arith;
      inside = is.inside;
      reads = subst (λ l. Reaches l sid) (part-front s.haystack cursor.from cursor.at s.end taken ordered fits)
          (leads (read_to (walked s cursor) cursor.at) is.reads);
    }

-- a part of a haystack, from a part that ends later
part-alone : (haystack : List ℕ) (at end n : ℕ) → n ≤ end - at
    → take n (slice_range haystack at end) ≡ slice_range haystack at (at + n)
part-alone haystack at end n fits =
    let one : take n (take (end - at) (drop at haystack)) ≡ take n (drop at haystack) =
    take-take n (end - at) (drop at haystack) fits in
    let size : n ≡ at + n - at = omega arith in
    one ∙ ap (λ k. take k (drop at haystack)) size

-- what reading on cost a cursor that stands in a search up to a place
pub cursor-looks : (b : Built) (Reaches : Anchored → List ℕ → StateID → Type 0) (anchored : Anchored) {s : Search}
    {cursor : Cursor} (taken : ℕ) (x y : Steps) → IsCursor (Reaches anchored) s cursor → taken ≤ s.end - cursor.at
    → IsReadCost b Reaches anchored cursor.sid (take taken (slice_range s.haystack cursor.at s.end)) x y
    → (live live_after : Option ℕ)
    → IsLive b.dictionary (is_anchored anchored) (read_to (walked s cursor) cursor.at) live
    → IsLive b.dictionary (is_anchored anchored) (read_to (walked s cursor) (cursor.at + taken)) live_after
    → IsLookups b.deterministic (cursor.at + taken - cursor.at) (live_len (read_to (walked s cursor) cursor.at) live)
    (live_len (read_to (walked s cursor) (cursor.at + taken)) live_after) x y
cursor-looks b Reaches anchored {s} {cursor} taken x y is fits cost p q g k =
    let m = b.dictionary in
    let h = s.haystack in
    let bytes = slice_range h cursor.at s.end in
    let here = is.reads in
    let ordered = is.ordered in
    let inside = is.inside in
    let within = is.within in
    let joined : slice_range h cursor.from cursor.at ++ take taken bytes
    ≡ slice_range h cursor.from (cursor.at + taken) = part-front h cursor.from cursor.at s.end taken ordered fits in
    let same : take taken bytes ≡ slice_range h cursor.at (cursor.at + taken) =
    part-alone h cursor.at s.end taken fits in
    let long : length (take taken bytes) ≡ cursor.at + taken - cursor.at = ap length same
    ∙ slice_range-length h cursor.at (omega arith) (omega arith) in
    let after : IsLive m (is_anchored anchored) (slice_range h cursor.from cursor.at ++ take taken bytes) q =
    subst (λ l. IsLive m (is_anchored anchored) l q) (sym joined) k in
    let done = cost (slice_range h cursor.from cursor.at) p q here g after in
    subst (λ n. IsLookups b.deterministic n (live_len (slice_range h cursor.from cursor.at) p)
    (live_len (slice_range h cursor.from (cursor.at + taken)) q) x y) long
    (subst (λ l. IsLookups b.deterministic (length (take taken bytes))
    (live_len (slice_range h cursor.from cursor.at) p) (live_len l q) x y) joined done)

-- what the cursor met on its way, and what reading on cost
pub cursor-read_on : (b : Built) (Reaches : Anchored → List ℕ → StateID → Type 0) (anchored : Anchored)
    (matches : StateID → List ℕ) (starts special : StateID → Bool) {s : Search} {cursor : Cursor} (sid : StateID)
    (taken : ℕ) (x y : Steps) → IsCursor (Reaches anchored) s cursor → 0 < taken → taken ≤ s.end - cursor.at
    → ((text : List ℕ) (state : StateID) → Reaches anchored text state
    → Tells b.dictionary anchored text (matches state))
    → ((text : List ℕ) (state : StateID) → Reaches anchored text state
    → (IsTrue (special state) ↔ IsSpecial b (matches state) (starts state) anchored text))
    → PassesPlain (Reaches anchored) special cursor.sid (slice_range s.haystack cursor.at s.end) taken
    → IsReadCost b Reaches anchored cursor.sid (take taken (slice_range s.haystack cursor.at s.end)) x y
    → HasReadOn b anchored s cursor (record { sid = sid; from = cursor.from; at = cursor.at + taken }) x y
cursor-read_on b Reaches anchored matches starts special {s} {cursor} sid taken x y is some fits tells stops plain cost
    =
    let h = s.haystack in
    let bytes = slice_range h cursor.at s.end in
    let here = is.reads in
    let ordered = is.ordered in
    record {
      further = omega arith;
      quiet = λ at lt le.
          let k : ℕ = at - cursor.at in
          let there : cursor.at + k ≡ at = omega arith in
          let mid = plain k (omega arith) (omega arith) in
          let text : slice_range h cursor.from cursor.at ++ take k bytes ≡ slice_range h cursor.from at =
          part-front h cursor.from cursor.at s.end k ordered (omega arith) ∙ ap (slice_range h cursor.from) there in
          let reads : Reaches anchored (slice_range h cursor.from at) mid.0 =
          subst (λ l. Reaches anchored l mid.0) text (mid.1 (slice_range h cursor.from cursor.at) here) in
          plain-quiet b anchored (slice_range h cursor.from at) (matches mid.0) (starts mid.0) (special mid.0)
          (tells _ mid.0 reads) (stops _ mid.0 reads) mid.2;
      lookups = cursor-looks b Reaches anchored taken x y is fits cost;
    }
