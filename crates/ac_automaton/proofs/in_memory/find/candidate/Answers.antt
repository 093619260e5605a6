-- What the prefilter returns for the rest of the span.
use Rattle.std.proofs.Common.{◌≡◌, ◌∙◌, Some, subst, sym, ap, arith, rules}
use Rattle.std.proofs.lemmas.Grind.{common_steps}
use Rattle.ac_input.specs.Best.{asked_kind, IsBest}
use Rattle.ac_input.specs.Candidate.{IsCandidate}
use Rattle.ac_input.specs.declared.search.candidate.Candidate.TheVariants as candidates
use Rattle.ac_input.specs.Occurrence.{starting_at}
use Rattle.ac_automaton.specs.Automaton.{kind_asked, searched}
use Rattle.ac_automaton.proofs.in_memory.find.FindLemmas.{match-goes_on, match-asked_best}
use Rattle.ac_automaton.proofs.lemmas.CandidateLemmas.{ahead-same}
use Rattle.ac_automaton.proofs.in_memory.find.CountedLemmas.{come-none, scan-covers_all, scan-covers_before, scan-no_match}
use Rattle.ac_automaton.proofs.in_memory.find.candidate.Given.{Over}
use Rattle.ac_automaton.proofs.in_memory.find.candidate.Goals as goal
use Rattle.ac_automaton.proofs.in_memory.find.candidate.Goals.{In-Match}

-- the match that the prefilter returned is one of the rest of the span
matched : (g : Over) (c : In-Match g)
    → IsCandidate c.match_kind-kind.result
    (starting_at (searched (g.A.Automaton.built c.args.automaton.now) c.args.input.now) c.args.at)
    (candidates.Match c.in-Match.found)
matched g c =
    let b = g.A.Automaton.built c.args.automaton.now in
    let n = c.args.prefilter.now.dictionary in
    let rest = starting_at (searched b c.args.input.now) c.args.at in
    let same = ahead-same b.dictionary n c.args.input.now c.haystack.result.now c.args.at c.end.result c.requires.made
    c.haystack.ensures c.end.ensures.value c.requires.free in
    subst (λ k. IsCandidate k rest (candidates.Match c.in-Match.found))
    (ap (λ m. m.kind) c.requires.made ∙ sym c.match_kind-kind.ensures)
    (subst (λ s. IsCandidate n.kind s (candidates.Match c.in-Match.found)) same c.in-Match.ensures.candidate)

pub returns-then-eq-clause-says : goal.returns-then-eq-clause-says
returns-then-eq-clause-says g c =
    let b = g.A.Automaton.built c.args.automaton.now in
    let asked = c.args.input.now in
    let kind = c.match_kind-kind.result in
    let early = c.get_earliest.result in
    let kind_is : asked_kind kind early ≡ kind_asked b asked = ap (λ k. asked_kind k early) c.match_kind-kind.ensures
    ∙ ap (λ e. asked_kind b.dictionary.kind e) c.get_earliest.ensures in
    let own : asked_kind kind early ≡ kind = search rules in
    subst (λ k. IsBest k (starting_at (searched b asked) c.args.at) (Some c.in-Match.found)) kind_is
    (match-asked_best kind early (starting_at (searched b asked) c.args.at) c.in-Match.found
    (matched g (goal.at.returns-then-eq-clause-says g c).In-Match) own)

pub returns-else-eq-clause-says : goal.returns-else-eq-clause-says
returns-else-eq-clause-says g c =
    rw c.start.ensures.value
    (match-goes_on c.match_kind-kind.result
    (starting_at (searched (g.A.Automaton.built c.args.automaton.now) c.args.input.now) c.args.at) c.in-Match.found
    (matched g (goal.at.returns-else-eq-clause-says g c).In-Match))

pub returns-in-None-clause-counts : goal.returns-in-None-clause-counts
returns-in-None-clause-counts g c = λ some.
    let s = starting_at (searched (g.A.Automaton.built c.args.automaton.now) c.args.input.now) c.args.at in
    let counted = c.in-None.ensures.counted in
    let done = counted.1 in
    let covers = scan-covers_all c.args.prefilter.now.needles _ counted.0 some counted.2 in
    let come = come-none s in
    let end = c.end.ensures.value in
    omega (arith, done.scanned)

pub returns-then-eq-clause-counts : goal.returns-then-eq-clause-counts
returns-then-eq-clause-counts g c =
    λ some. absurd
    (scan-no_match c.args.prefilter.now.needles _ c.in-Match.ensures.counted.0 c.in-Match.found some
    c.in-Match.ensures.counted.2)

pub returns-else-eq-clause-counts : goal.returns-else-eq-clause-counts
returns-else-eq-clause-counts g c =
    λ some. absurd
    (scan-no_match c.args.prefilter.now.needles _ c.in-Match.ensures.counted.0 c.in-Match.found some
    c.in-Match.ensures.counted.2)

pub returns-in-PossibleStartOfMatch-clause-counts : goal.returns-in-PossibleStartOfMatch-clause-counts
returns-in-PossibleStartOfMatch-clause-counts g c = λ some.
    let counted = c.in-PossibleStartOfMatch.ensures.counted in
    let done = counted.1 in
    let covers =
    scan-covers_before c.args.prefilter.now.needles _ counted.0 c.in-PossibleStartOfMatch.place some counted.2 in
    omega (arith, done.scanned)

pub returns-else-eq-clause-work : goal.returns-else-eq-clause-work
returns-else-eq-clause-work g c = grind (arith, common_steps)

pub returns-then-eq-clause-work : goal.returns-then-eq-clause-work
returns-then-eq-clause-work g c = grind (arith, common_steps)

pub find_in_counted-requires-clause-ordered : goal.find_in_counted-requires-clause-ordered
find_in_counted-requires-clause-ordered g c = grind (arith, common_steps)

pub find_in_counted-requires-clause-within : goal.find_in_counted-requires-clause-within
find_in_counted-requires-clause-within g c = grind (arith, common_steps)

pub returns-in-None-clause-work : goal.returns-in-None-clause-work
returns-in-None-clause-work g c = grind (arith, common_steps)
