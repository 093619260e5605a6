-- What a search for whole words pays as it reads on.
use Rattle.std.proofs.Common.{◌≡◌, ⊎_elim, ℕ, ◌+◌, ◌-◌, ◌<◌, ◌≤◌, false, List, ◌++◌, length, take, Option, Some, None, slice_range, sym, ap, subst, refl, ◌∙◌, arith}
use Rattle.std.proofs.lemmas.Bool.{cases_lt}
use Rattle.std.proofs.lemmas.List.{length-take-le}
use Rattle.ac_input.specs.Number.{StateID}
use Rattle.ac_input.specs.declared.search.Anchored.{Anchored}
use Rattle.ac_input.specs.declared.search.Anchored.TheVariants.{No}
use Rattle.ac_input.specs.declared.search.MatchKind.{MatchKind}
use Rattle.ac_input.specs.declared.search.MatchKind.TheVariants.{Standard, LeftmostFirst, LeftmostLongest}
use Rattle.ac_input.specs.declared.steps.Steps.{Steps}
use Rattle.ac_input.specs.Best.{IsLeast}
use Rattle.ac_input.specs.Dictionary.{Dictionary, IsLive, live_len}
use Rattle.ac_input.specs.Occurrence.{Occurrence}
use Rattle.ac_input.specs.Work.{IsLookups, longest}
use Rattle.ac_input.proofs.lemmas.OrderLemmas.{preference-same, slice_range-length}
use Rattle.ac_input.proofs.lemmas.SomeLemmas.{live-some}
use Rattle.ac_input.proofs.lemmas.WordLemmas.{occurs-reach}
use Rattle.ac_automaton.specs.Automaton.{Built, IsReadCost}
use Rattle.ac_automaton.specs.InMemory.Overlapping.{IsPaidAt}
use Rattle.ac_automaton.specs.Words.{IsWordPlace, PaysForWords, StandsForWords, WordsBefore, text_from, word_reach}
use Rattle.ac_automaton.specs.declared.words.WordPlace.{WordPlace}
use Rattle.ac_automaton.proofs.in_memory.overlapping.OverlappingReadLemmas.{paid-on}
use Rattle.ac_automaton.proofs.lemmas.CursorLemmas.{part-front}

-- ---- reading on

-- the looks at some bytes of a text are paid for by them
pub bytes-pay : (b : Built) (Reaches : Anchored → List ℕ → StateID → Type 0) (x : List ℕ) (last at end taken : ℕ) {sid : StateID}
    {before after : Steps} → last ≤ at → at ≤ end → end ≤ length x → taken ≤ end - at
    → Reaches No (slice_range x last at) sid → IsReadCost b Reaches No sid (take taken (slice_range x at end)) before after
    → PaysForWords b x last at (at + taken) before after
bytes-pay b Reaches x last at end taken {sid} {before} {after} order le inside fits reads cost =
    let m = b.dictionary in
    let text = slice_range x last at in
    let left = slice_range x at end in
    let bytes = take taken left in
    let long = slice_range-length x at le inside in
    let size : length bytes ≡ at + taken - at =
    length-take-le taken left (omega arith) ∙ (let e : taken ≡ at + taken - at = omega arith in e) in
    let joined : text ++ bytes ≡ slice_range x last (at + taken) = part-front x last at end taken order fits in
    let looks : (live live_after : Option ℕ) → IsLive m false text live
    → IsLive m false (slice_range x last (at + taken)) live_after
    → IsLookups b.deterministic (at + taken - at) (live_len text live)
    (live_len (slice_range x last (at + taken)) live_after) before after =
    λ live live_after g h.
    subst (λ n. IsLookups b.deterministic n (live_len text live)
    (live_len (slice_range x last (at + taken)) live_after) before after) size
    (subst (λ l. IsLookups b.deterministic (length bytes) (live_len text live) (live_len l live_after) before after) joined
    (cost text live live_after reads g (subst (λ l. IsLive m false l live_after) (sym joined) h))) in
    let alive = live-some in
    let alive_then = live-some in
    let done = looks alive.0 alive_then.0 alive.1 alive_then.1 in
    let some = done.some in
    record {
      paid = λ looked more paid e.
          paid-on m b.deterministic (text_from m x last) last at (at + taken) looked more before after (omega arith)
          order (omega arith) looks e paid;
      only = record { rose = omega arith; scanned = done.scanned; moved = done.moved };
      some = omega arith;
      rests = λ stays.
          let same : slice_range x last (at + taken) ≡ text = ap (slice_range x last)
          (let e : at + taken ≡ at = omega (arith, stays) in e) in
          let still = looks alive.0 alive.0 alive.1 (subst (λ l. IsLive m false l alive.0) (sym same) alive.1) in
          let long = ap (λ l. live_len l alive.0) same in
          let rose = still.some in
          let most = still.bound in
          omega (arith, stays, long, rose, most);
    }

-- so are those that a search for whole words makes
pub read-pays : (b : Built) (Reaches : Anchored → List ℕ → StateID → Type 0) {from : ℕ} {x : List ℕ} {p : WordPlace}
    → IsWordPlace b.dictionary (Reaches No) from x p → (end taken : ℕ) {before after : Steps} → p.at ≤ end
    → end ≤ length x → taken ≤ end - p.at
    → IsReadCost b Reaches No p.sid (take taken (slice_range x p.at end)) before after
    → PaysForWords b x p.last p.at (p.at + taken) before after
read-pays b Reaches {from} {x} {p} is end taken le inside fits cost =
    bytes-pay b Reaches x p.last p.at end taken is.order le inside fits is.reads cost

-- what was paid on the way to a place, and from there on, is paid in all
pub pays-then : {b : Built} {x : List ℕ} {last p q r : ℕ} {s t u : Steps} → p ≤ q → q ≤ r
    → PaysForWords b x last p q s t → PaysForWords b x last q r t u → PaysForWords b x last p r s u
pays-then {b} {x} {last} {p} {q} {r} {s} {t} {u} le further one two =
    let a = one.only in
    let c = two.only in
    let d = one.some in
    let e = two.some in
    let rose = a.rose in
    let rises = c.rose in
    record {
      paid = λ looks more paid count.
          let mid : ℕ = looks + t.looked.value - s.looked.value in
          two.paid mid more (one.paid looks mid paid (omega arith)) (omega arith);
      only = record { rose = omega arith; scanned = c.scanned ∙ a.scanned; moved = c.moved ∙ a.moved };
      some = omega arith;
      rests = λ stays. two.rests (omega (arith, le, stays)) ∙ one.rests (omega (arith, further, stays));
    }

-- nothing is paid where nothing is read
pub pays-none : (b : Built) (x : List ℕ) (last at : ℕ) (s : Steps) → PaysForWords b x last at at s s
pays-none b x last at s =
    record {
      paid = λ looks more paid count.
          let e : looks ≡ more = omega arith in
          subst (λ k. IsPaidAt b.dictionary b.deterministic (text_from b.dictionary x last) last at k) e paid;
      only = record { rose = omega arith; scanned = refl; moved = refl };
      some = omega arith;
      rests = λ _. refl;
    }

-- ---- how far it reads

reach-later : (kind : MatchKind) (ps : List (List ℕ)) (o : Occurrence) {at : ℕ} → at ≡ o.end → o.end ≤ o.start + longest ps
    → at ≤ word_reach kind ps o
reach-later Standard ps o here reach = omega arith
reach-later LeftmostFirst ps o here reach = omega arith
reach-later LeftmostLongest ps o here reach = omega arith

-- a search that has looked at all that ends where it stands stands no further than its best word needs
pub seen-near : {m : Dictionary} {Reaches : List ℕ → StateID → Type 0} {from : ℕ} {x : List ℕ} {p : WordPlace}
    → StandsForWords m Reaches from x p → (o : Occurrence) → IsLeast p.kind (WordsBefore m x p.last (p.at + 1)) (Some o)
    → p.at ≤ word_reach p.kind m.patterns o
seen-near {m} {Reaches} {from} {x} {p} is o best =
    ⊎_elim
    (λ (sooner : o.end < p.at). sooner_by p.best refl is.best sooner)
    (λ (there : p.at ≤ o.end).
    let e = best.0.1 in
    reach-later p.kind m.patterns o (omega arith) (occurs-reach {s = text_from m x p.last} (omega arith) best.0.0.0))
    (cases_lt o.end p.at)
  where
    sooner_by : (r : Option Occurrence) → p.best ≡ r → IsLeast p.kind (WordsBefore m x p.last p.at) r → o.end < p.at
        → p.at ≤ word_reach p.kind m.patterns o
    sooner_by None e none sooner = absurd (none o (best.0.0, sooner))
    sooner_by (Some b) e least sooner =
        let first = least.0 in
        let same : o ≡ b =
        preference-same p.kind (text_from m x p.last) o b (omega arith) best.0.0.0 first.0.0
        (best.1 b (first.0, let k = first.1 in omega arith)) (least.1 o (best.0.0, sooner)) in
        subst (λ q. p.at ≤ word_reach p.kind m.patterns q) (sym same) (is.near b e).1
