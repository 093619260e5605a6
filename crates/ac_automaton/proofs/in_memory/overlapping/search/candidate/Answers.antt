-- The prefilter's candidate for the rest of the span, and its scans.
use Rattle.std.proofs.Common.{◌≡◌, ℕ, sym, subst, ◌∙◌, ap, unwrap_or, arith}
use Rattle.ac_input.specs.Candidate.{IsCandidate, start_of}
use Rattle.ac_input.specs.Input.{search_of}
use Rattle.ac_input.specs.Occurrence.{starting_at}
use Rattle.ac_input.specs.declared.search.Anchored.TheVariants.{No}
use Rattle.ac_automaton.proofs.lemmas.CandidateLemmas.{ahead-same, candidate-before, candidate-begins, scanned-in_span, scanned-near}
use Rattle.ac_automaton.proofs.in_memory.find.CountedLemmas.{scan-covers}
use Rattle.ac_automaton.proofs.in_memory.overlapping.search.candidate.Goals as goal

pub returns-clause-begins : goal.returns-clause-begins
returns-clause-begins c = λ m made.
    let asked = c.args.input.now in
    let n = c.in-Some.prefilter.now.dictionary in
    let found = c.find_in_counted-candidate.result in
    let is : n ≡ m = rw c.in-Some.is at made in
    let same = ahead-same m n asked c.haystack.result.now c.args.at c.end.result is c.haystack.ensures
    c.end.ensures.value c.requires.free in
    candidate-begins n.kind (starting_at (search_of m asked.anchored asked.haystack asked.span) c.args.at) found
    c.into_option.result
    (subst (λ s. IsCandidate n.kind s found) same c.find_in_counted-candidate.ensures.candidate) c.into_option.ensures

pub returns-clause-work : goal.returns-clause-work
returns-clause-work c =
    let n = c.in-Some.prefilter.now in
    let found = c.find_in_counted-candidate.result in
    let ensures = c.find_in_counted-candidate.ensures in
    let s = search_of n.dictionary No c.haystack.result.now (record { start = c.args.at; end = c.end.result }) in
    let counted = ensures.counted in
    let done = counted.1 in
    let looked = done.looked in
    let scanned = done.scanned in
    let moved = done.moved in
    let value = c.end.ensures.value in
    let to = c.requires.to in
    let within = scanned-in_span n.needles s counted.0 found (omega arith) counted.2 in
    record {
      looked = omega arith;
      within = omega arith;
      near = λ place e.
          let is = sym c.into_option.ensures ∙ e in
          let near = scanned-near n.needles counted.0 found counted.2
          (candidate-before n.dictionary.kind s found place ensures.candidate is) is in
          omega arith;
      moved = omega arith;
    }

pub returns-clause-counts : goal.returns-clause-counts
returns-clause-counts c =
    rw c.in-Some.is (λ some.
    let n = c.in-Some.prefilter.now in
    let found = c.find_in_counted-candidate.result in
    let s = search_of n.dictionary No c.haystack.result.now (record { start = c.args.at; end = c.end.result }) in
    let counted = c.find_in_counted-candidate.ensures.counted in
    let scanned = counted.1.scanned in
    let value = c.end.ensures.value in
    let end : ℕ = c.args.input.now.span.end in
    let covers = scan-covers n.needles s counted.0 found some counted.2 in
    let same : unwrap_or c.into_option.result end ≡ unwrap_or (start_of found) c.end.result =
    ap (λ r. unwrap_or r end) c.into_option.ensures ∙ ap (unwrap_or (start_of found)) (sym value) in
    omega arith)
