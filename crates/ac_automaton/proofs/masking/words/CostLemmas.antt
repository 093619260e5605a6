-- What it costs to read a text on from one place to another.
use Rattle.std.proofs.Common.{◌≡◌, ℕ, ◌+◌, ◌-◌, ◌≤◌, false, List, ◌++◌, length, take, slice_range, sym, subst, ◌∙◌, arith}
use Rattle.std.proofs.lemmas.List.{length-take-le}
use Rattle.ac_input.specs.Number.{StateID}
use Rattle.ac_input.specs.declared.search.Anchored.{Anchored}
use Rattle.ac_input.specs.declared.search.Anchored.TheVariants.{No}
use Rattle.ac_input.specs.declared.steps.Steps.{Steps}
use Rattle.ac_input.specs.Dictionary.{IsLive, live_len}
use Rattle.ac_input.specs.Work.{IsLookups}
use Rattle.ac_input.proofs.lemmas.OrderLemmas.{slice_range-length}
use Rattle.ac_input.proofs.lemmas.SomeLemmas.{live-some}
use Rattle.ac_input.proofs.lemmas.StateLemmas.{live-one}
use Rattle.ac_automaton.specs.Automaton.{Built, IsReadCost}
use Rattle.ac_automaton.specs.Masking.{IsMaskCost}
use Rattle.ac_automaton.specs.Masking.Words.{CostsReading, IsMaskPlace}
use Rattle.ac_automaton.specs.declared.masking.words.MaskPlace.{MaskPlace}
use Rattle.ac_automaton.proofs.lemmas.CursorLemmas.{lookups-join, lookups-none, part-front}
use Rattle.ac_automaton.proofs.masking.MaskingLemmas.{live-none, looks-cost}

-- what was counted as some bytes were read is what it costs to read on over them
pub reading-costs : (b : Built) (Reaches : Anchored → List ℕ → StateID → Type 0) {x : List ℕ} {p : MaskPlace}
    → IsMaskPlace (Reaches No) x p → (taken : ℕ) {before after : Steps} → taken ≤ length x - p.at
    → IsReadCost b Reaches No p.sid (take taken (slice_range x p.at (length x))) before after
    → CostsReading b x p.at (p.at + taken) before after
reading-costs b Reaches {x} {p} is taken {before} {after} fits cost live live_after g h =
    let m = b.dictionary in
    let text = slice_range x 0 p.at in
    let bytes = take taken (slice_range x p.at (length x)) in
    let within = is.within in
    let long = slice_range-length x p.at {b = length x} within (omega arith) in
    let size : length bytes ≡ p.at + taken - p.at =
    length-take-le taken (slice_range x p.at (length x)) (omega arith)
    ∙ (let e : taken ≡ p.at + taken - p.at = omega arith in e) in
    let joined : text ++ bytes ≡ slice_range x 0 (p.at + taken) =
    part-front x 0 p.at (length x) taken (omega arith) fits in
    subst (λ n. IsLookups b.deterministic n (live_len text live) (live_len (slice_range x 0 (p.at + taken)) live_after)
    before after) size
    (subst (λ l. IsLookups b.deterministic (length bytes) (live_len text live) (live_len l live_after) before after) joined
    (cost text live live_after is.reads g (subst (λ l. IsLive m false l live_after) (sym joined) h)))

-- two parts in turn
pub costs-then : (b : Built) (x : List ℕ) {p q r : ℕ} {s t u : Steps} → p ≤ q → q ≤ r → CostsReading b x p q s t
    → CostsReading b x q r t u → CostsReading b x p r s u
costs-then b x {p} {q} {r} {s} {t} {u} le further one two live live_after g h =
    let mid = live-some in
    let count : q - p + (r - q) ≡ r - p = omega arith in
    subst (λ n. IsLookups b.deterministic n (live_len (slice_range x 0 p) live) (live_len (slice_range x 0 r) live_after) s u)
    count (lookups-join (one live mid.0 g mid.1) (two mid.0 live_after mid.1 h))

-- nothing is counted where nothing is read
pub costs-none : (b : Built) (x : List ℕ) (at : ℕ) (s : Steps) → CostsReading b x at at s s
costs-none b x at s live live_after g h =
    let text = slice_range x 0 at in
    let same = live-one b.dictionary false text live live_after g h in
    let none : 0 ≡ at - at = omega arith in
    subst (λ n. IsLookups b.deterministic n (live_len text live) (live_len text live_after) s s) none
    (subst (λ r. IsLookups b.deterministic 0 (live_len text live) (live_len text r) s s) same
    (lookups-none b.deterministic (live_len text live) s))

-- what it costs to read a whole text
pub whole-costs : (b : Built) (x : List ℕ) (to : ℕ) {s t : Steps} → to ≡ length x → CostsReading b x 0 to s t
    → IsMaskCost b (length x) s t × (t.moved.value ≡ s.moved.value)
whole-costs b x to {s} {t} end cost =
    let before = live-some in
    let after = live-some in
    let all : to - 0 ≡ length x = omega arith in
    subst (λ n. IsMaskCost b n s t × (t.moved.value ≡ s.moved.value)) all
    (looks-cost b (live-none before.0) (cost before.0 after.0 before.1 after.1))
