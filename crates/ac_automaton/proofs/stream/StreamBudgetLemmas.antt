-- What a search of a stream has cost, from what the bytes that it has passed pay for.
use Rattle.std.proofs.Common.{◌≡◌, ℕ, ◌+◌, ◌*◌, ◌≤◌, Bool, true, false, IsTrue, length, refl, arith}
use Rattle.std.specs.Prelude.{if◌then◌else◌}
use Rattle.std.proofs.lemmas.Bool.{false≢true}
use Rattle.ac_input.specs.declared.search.MatchKind.{MatchKind}
use Rattle.ac_input.specs.declared.search.MatchKind.TheVariants.{Standard, LeftmostFirst, LeftmostLongest}
use Rattle.ac_input.specs.Work.{longest, lookups_per_byte}
use Rattle.ac_automaton.specs.Ahead.{most_ahead}
use Rattle.ac_automaton.specs.Stream.{IsWithinStreamBudget, StreamProgress, again_for, in_vain, read_by, Picks}
use Rattle.ac_automaton.specs.Stream.Search.{passed_in_all}
use Rattle.ac_automaton.proofs.stream.SequenceLemmas.{picks≢occurrences}
use Rattle.ac_automaton.proofs.in_memory.iter.WalkAheadLemmas.{more-looks}

-- looks that are paid for byte by byte are within the bound for each byte
pub budget-from : (deterministic : Bool) (looked live at : ℕ) → looked + live ≤ 2 * at
    → (IsTrue deterministic → looked ≤ at) → looked ≤ lookups_per_byte deterministic * at
budget-from true looked live at paid one = let e = one refl in omega arith
budget-from false looked live at paid one = omega arith

-- The bytes passed, those read again and those read ahead are at most all bytes and those that may be looked at again.
pub passed-within : (kind : MatchKind) (long matches at ahead vain n : ℕ) → at ≤ n → ahead ≤ vain
    → (kind ≡ Standard → at + ahead ≤ n)
    → at + again_for kind long 0 matches + ahead ≤ n + again_for kind long vain matches
passed-within Standard long matches at ahead vain n le few standard = let e = standard refl in omega arith
passed-within LeftmostFirst long matches at ahead vain n le few standard = let again : ℕ = (long + 1) * matches in
    omega arith
passed-within LeftmostLongest long matches at ahead vain n le few standard = let again : ℕ = (long + 1) * matches in
    omega arith

-- without lanes nothing is read ahead
ahead-vain : (lanes : Bool) (ahead n : ℕ) → ahead ≤ n → (¬ IsTrue lanes → ahead ≡ 0) → ahead ≤ (if lanes then n else 0)
ahead-vain true ahead n few none = few
ahead-vain false ahead n few none = let e = none false≢true in omega (arith, e)

-- under standard no byte is read again, so the looks are for the bytes passed and for those read ahead
pub looks-near : (kind : MatchKind) (deterministic : Bool) (long matches looked at ahead : ℕ)
    → looked ≤ lookups_per_byte deterministic * (at + again_for kind long 0 matches) → kind ≡ Standard
    → ahead ≤ most_ahead → looked + ahead ≤ lookups_per_byte deterministic * at + most_ahead
looks-near Standard true long matches looked at ahead le standard few = omega arith
looks-near Standard false long matches looked at ahead le standard few = omega arith
looks-near LeftmostFirst deterministic long matches looked at ahead le standard few = absurd (by standard)
  where
    by : LeftmostFirst ≡ Standard → ⊥
    by e = cc
looks-near LeftmostLongest deterministic long matches looked at ahead le standard few = absurd (by standard)
  where
    by : LeftmostLongest ≡ Standard → ⊥
    by e = cc

-- How much was read ahead of a search of a stream: no byte twice, nothing without lanes, and under standard only bytes that
-- it hasn't passed, and few.
pub record IsAheadOfStream (s : StreamProgress Picks) (ahead : ℕ) : Type 0 where
  pub once : ahead ≤ length (read_by s)
  pub lanes : ¬ IsTrue s.built.lanes → ahead ≡ 0
  pub standard : s.built.dictionary.kind ≡ Standard → (s.at + ahead ≤ length (read_by s)) × (ahead ≤ most_ahead)

-- A search whose looks are paid for by the bytes that it has passed is within its budget with what was read ahead of
-- it.
pub budget-ahead : (s : StreamProgress Picks) (live ahead looks : ℕ) → s.at ≤ length (read_by s)
    → (s.looked + live ≤ 2 * passed_in_all s) × (s.at ≤ s.looked)
    × (IsTrue s.built.deterministic → s.looked ≤ passed_in_all s) → s.scanned ≡ 0 → 7 * s.moved ≤ length (read_by s)
    → IsAheadOfStream s ahead → looks ≡ s.looked + ahead → IsWithinStreamBudget (record s { looked = looks })
budget-ahead s live ahead looks inside paid none seventh is sum =
    let kind = s.built.dictionary.kind in
    let long = longest s.built.dictionary.patterns in
    let within = budget-from s.built.deterministic s.looked live (passed_in_all s) paid.0 paid.2 in
    let n = length (read_by s) in
    let all = more-looks s.built.deterministic (passed_in_all s) ahead _ within
    (passed-within kind long (length s.given) s.at ahead (in_vain Picks s.built n) n inside
    (ahead-vain s.built.lanes ahead n is.once is.lanes)
    (λ standard. (is.standard standard).0)) in
    record {
      some = omega (arith, paid.1, sum);
      looked = omega (arith, all, sum);
      near = λ standard. let near = looks-near kind s.built.deterministic long (length s.given) s.looked s.at ahead
          within standard (is.standard standard).1 in omega (arith, near, sum);
      scanned = none;
      moved = seventh;
      unmoved = λ e. absurd (picks≢occurrences e);
    }

-- and without
pub budget-settled : (s : StreamProgress Picks) (live : ℕ) → s.at ≤ length (read_by s)
    → (s.looked + live ≤ 2 * passed_in_all s) × (s.at ≤ s.looked)
    × (IsTrue s.built.deterministic → s.looked ≤ passed_in_all s) → s.scanned ≡ 0 → 7 * s.moved ≤ length (read_by s)
    → IsWithinStreamBudget s
budget-settled s live inside paid none seventh =
    budget-ahead s live 0 s.looked inside paid none seventh
    (record { once = omega arith; lanes = λ _. refl; standard = λ standard. (omega (arith, inside), omega arith) }) (omega arith)
