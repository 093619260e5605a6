-- What it costs to pump a stream: what its search has counted.
use Rattle.std.proofs.Common.{◌≡◌, ℕ, ◌+◌, ◌*◌, ◌≤◌, Bool, true, false, List, length, inr, Option, Result, Ok, Err, sym, ap, subst, arith, ◌∙◌}
use Rattle.std.specs.List.{concat}
use Rattle.std.proofs.Math.Nat.{mul-le-mul_left}
use Rattle.std.proofs.lemmas.List.{length-append}
use Rattle.std.proofs.lemmas.Result.{on_ok_weaker}
use Rattle.ac_input.specs.declared.search.Anchored.{Anchored}
use Rattle.ac_input.specs.declared.search.MatchKind.{MatchKind}
use Rattle.ac_input.specs.declared.search.MatchKind.TheVariants.{Standard, LeftmostFirst, LeftmostLongest}
use Rattle.ac_input.specs.declared.steps.Steps.{Steps}
use Rattle.ac_input.specs.Occurrence.{Occurrence}
use Rattle.ac_input.specs.Work.{longest, lookups_per_byte}
use Rattle.ac_automaton.specs.Automaton.{Built}
use Rattle.ac_automaton.specs.Stream.{AllWords, CanStream, IsOnCourse, IsSearched, Occurrences, Picks, Sequence, StreamProgress, Words, again_for, fresh_progress, items_of, in_vain, looked_in_all, read_by, read_in_all}
use Rattle.ac_automaton.specs.Stream.Pump.{Handling, PumpsAt, PumpsMatches, PumpsOccurrences}
use Rattle.ac_automaton.specs.Stream.Replace.{CostsItems, CostsSearch, HasSearched}
use Rattle.ac_automaton.specs.Stream.WholeWords.{PumpsAllWords, PumpsWords, asked_for}
use Rattle.ac_automaton.specs.declared.error.StreamError.{StreamError}
use Rattle.ac_automaton.specs.declared.stream.StreamKinds.{StreamKinds}
use Rattle.ac_automaton.specs.declared.stream.StreamKinds.TheVariants.{OnlyStandard}
use Rattle.ac_automaton.specs.declared.stream.devices.watched.Watched.{Watched}

-- the look-ups for fewer bytes are within those for more
looks-fit : (deterministic : Bool) (looked less n : ℕ) → looked ≤ lookups_per_byte deterministic * less → less ≤ n
    → looked ≤ lookups_per_byte deterministic * n
looks-fit true looked less n paid le = omega arith
looks-fit false looked less n paid le = omega arith

-- with more items at least as many bytes may be looked at again
again-within : (kind : MatchKind) (long n few more : ℕ) → few ≤ more
    → again_for kind long n few ≤ again_for kind long n more
again-within Standard long n few more le = omega arith
again-within LeftmostFirst long n few more le = let again = mul-le-mul_left (long + 1) le in omega arith
again-within LeftmostLongest long n few more le = let again = mul-le-mul_left (long + 1) le in omega arith

-- what may be read again for the items returned is within what may be for all items
again-all : (q : Sequence) {t : StreamProgress q} → IsOnCourse t
    → read_in_all t ≤ looked_in_all q t.built (length (read_by t)) (length (items_of q t.built.dictionary (read_by t)))
again-all q {t} course =
    let begun = course.begun in
    let long = ap length begun.1 in
    let both = length-append t.given begun.0 in
    let again = again-within t.built.dictionary.kind (longest t.built.dictionary.patterns) (in_vain q t.built (length (read_by t)))
    (length t.given) (length (items_of q t.built.dictionary (read_by t))) (omega arith) in
    omega arith

-- the cost of a search that began fresh, by the bytes that it read and their items
pub cost-searched : {R : Type 0} {q : Sequence} (b : Built) (s t : StreamProgress q) (r0 r1 : Watched R)
    (before after : Steps) (result : Result (Unit {0}) StreamError) → s ≡ fresh_progress b
    → HasSearched s t r0 r1 before after result → CostsItems q b r0 r1 before after result
cost-searched {R} {q} b s t r0 r1 before after result fresh h =
    let built : t.built ≡ b = h.built ∙ ap (λ p. p.built) fresh in
    let looked_none : s.looked ≡ 0 = ap (λ p. p.looked) fresh in
    let scanned_none : s.scanned ≡ 0 = ap (λ p. p.scanned) fresh in
    let moved_none : s.moved ≡ 0 = ap (λ p. p.moved) fresh in
    let paid = h.course.paid in
    let counts = h.counts in
    let done = counts.3 in
    let n = length (read_by t) in
    let looks =
    subst (λ c. t.looked ≤ lookups_per_byte c.deterministic
    * looked_in_all q c n (length (items_of q c.dictionary (read_by t)))) built
    (looks-fit t.built.deterministic t.looked (read_in_all t) _ paid.looked (again-all q h.course)) in (
      t.pieces,
      h.read,
      record {
        looked = omega (arith, looks, done.looked, counts.4, looked_none);
        scanned = let none = paid.scanned in omega (arith, done.scanned, counts.5, scanned_none, none);
        moved = let moved = paid.moved in omega (arith, done.moved, counts.6, moved_none, moved);
      },
      on_ok_weaker result
          (λ (all : IsSearched t). let z : before.looked.value + length (concat t.pieces) ≤ after.looked.value =
          omega (arith, all, paid.some, done.looked, counts.4, looked_none) in z) h.searched,
    )

-- under standard no byte is looked at again, so a search for any items costs no more than one for the matches
pub costs-standard : {R : Type 0} (q : Sequence) (b : Built) (r0 r1 : Watched R) (before after : Steps)
    (result : Result (Unit {0}) StreamError) → b.dictionary.kind ≡ Standard → CostsItems q b r0 r1 before after result
    → CostsSearch b r0 r1 before after result
costs-standard q b r0 r1 before after result standard (pieces, read, cost, whole) =
    let x = concat pieces in
    let none = λ (r : Sequence).
    ap (λ kind. again_for kind (longest b.dictionary.patterns) (in_vain r b (length x))
    (length (items_of r b.dictionary x))) standard in (
      pieces,
      read,
      record {
        looked = subst
            (λ k. after.looked.value ≤ before.looked.value + lookups_per_byte b.deterministic * (length x + k))
            (none q ∙ sym (none Picks)) cost.looked;
        scanned = cost.scanned;
        moved = cost.moved;
      },
      whole,
    )

-- ---- what a stream that can be searched was pumped to

module _ {Z : Type 0} (h : Handling Z) {R : Type 0} (remaining : R → Option (List ℕ)) (b : Built) (r0 r1 : Watched R)
    (z last : Z) (before after : Steps) where
  pub matches-pumped : (kinds : StreamKinds) (supports : Anchored → Type 0) (result : Result (Unit {0}) StreamError)
      → CanStream kinds b supports → PumpsAt h Picks remaining b r0 r1 z last before after result
      → PumpsMatches h remaining kinds b supports r0 r1 z last before after result
  matches-pumped kinds supports (Ok done) can pumps = (can, pumps)
  matches-pumped kinds supports (Err error) can pumps = inr (can, pumps)

  pub occurrences-pumped : (supports : Anchored → Type 0) (result : Result (Unit {0}) StreamError)
      → CanStream OnlyStandard b supports → PumpsAt h Occurrences remaining b r0 r1 z last before after result
      → PumpsOccurrences h remaining b supports r0 r1 z last before after result
  occurrences-pumped supports (Ok done) can pumps = (can, pumps)
  occurrences-pumped supports (Err error) can pumps = inr (can, pumps)

  pub words-pumped : (kind : MatchKind) (supports : Anchored → Type 0) (result : Result (Unit {0}) StreamError)
      → CanStream OnlyStandard b supports
      → PumpsAt h Words remaining (asked_for kind b) r0 r1 z last before after result
      → PumpsWords h remaining kind b supports r0 r1 z last before after result
  words-pumped kind supports (Ok done) can pumps = (can, pumps)
  words-pumped kind supports (Err error) can pumps = inr (can, pumps)

  pub all_words-pumped : (supports : Anchored → Type 0) (result : Result (Unit {0}) StreamError)
      → CanStream OnlyStandard b supports → PumpsAt h AllWords remaining b r0 r1 z last before after result
      → PumpsAllWords h remaining b supports r0 r1 z last before after result
  all_words-pumped supports (Ok done) can pumps = (can, pumps)
  all_words-pumped supports (Err error) can pumps = inr (can, pumps)
