-- The occurrences that end later are found by a walk, or by candidates.
use Rattle.std.proofs.lemmas.Grind.{common_steps}
use Rattle.std.proofs.Common.{ℕ, ◌+◌, ◌-◌, [], ap, subst, sym, ◌∙◌, arith}
use Rattle.ac_input.specs.Input.{search_of}
use Rattle.ac_input.specs.Occurrence.{starting_at}
use Rattle.ac_automaton.specs.Automaton.{prefilter_for}
use Rattle.ac_automaton.specs.InMemory.Find.{MayGoOnFrom}
use Rattle.ac_automaton.specs.InMemory.Overlapping.{ending_from, ShowsFirst}
use Rattle.ac_automaton.proofs.in_memory.find.CountedLemmas.{counted-join, walk-counts}
use Rattle.ac_automaton.proofs.lemmas.CandidateLemmas.{listing-begins, pays-walk, pays-candidates, pays-both, usable-some}
use Rattle.ac_automaton.proofs.in_memory.overlapping.search.show_later.Goals as goal

pub returns-then-cursor-clause-shows : goal.returns-then-cursor-clause-shows
returns-then-cursor-clause-shows g c =
    let a = c.args.automaton.now in
    let b = g.A.Automaton.built a in
    let asked = c.args.input.now in
    let s = search_of b.dictionary asked.anchored asked.haystack asked.span in
    let at : ℕ = c.args.cursor.at in
    let usable = usable-some b (g.A.Automaton.matches a) c.get_anchored.result c.args.start
    c.usable_prefilter-prefilter.result c.usable_prefilter-prefilter.ensures
    (sym c.is_some.ensures ∙ c.if-is_some.true) in
    let stands = c.requires.stands.cursor in
    let here : MayGoOnFrom (starting_at s at) at =
    record { behind = omega arith; within = stands.within; none = λ o h. h.within.0 } in
    let tells = g.met.A.Automaton.tells a asked.anchored [] c.args.start c.requires.starts in
    let begins = listing-begins b.dictionary asked at at (g.A.Automaton.matches a c.args.start)
    c.requires.stands.standard (sym c.get_anchored.ensures ∙ usable.0) stands.inside here tells usable.1 in
    let left = sym begins ∙ ap (λ from. ending_from (starting_at s from) (at + 1)) c.if-cursor.true in
    subst (λ xs. ShowsFirst (g.A.Automaton.Reaches a asked.anchored) (g.A.Automaton.matches a) b.dictionary s xs
    c.search_by_candidates.result) left c.search_by_candidates.ensures.reads.0

pub returns-then-cursor-clause-pays : goal.returns-then-cursor-clause-pays
returns-then-cursor-clause-pays g c =
    let stands = c.requires.stands.cursor in
    pays-candidates _ _ c.search_by_candidates.result (omega (arith, stands.behind, stands.ordered))
    stands.within c.search_by_candidates.ensures.reads.1 c.search_by_candidates.ensures.cost

pub returns-in-Found-clause-pays : goal.returns-in-Found-clause-pays
returns-in-Found-clause-pays g c =
    let shown = c.in-Found.ensures in
    pays-walk _ _ _ _ _ _ c.in-Found.shown _ _ c.requires.stands.cursor.within shown.reads.1 shown.pays shown.only

pub returns-in-Idle-clause-pays : goal.returns-in-Idle-clause-pays
returns-in-Idle-clause-pays g c =
    let stands = c.requires.stands.cursor in
    let back = c.in-Idle.ensures in
    let later = c.search_by_candidates-in-Idle in
    pays-both _ _ _ later.result (omega (arith, stands.behind, stands.ordered)) back.reads.0
    back.reads.1 later.ensures.reads.1 back.pays back.only later.ensures.cost

pub returns-in-Found-clause-counts : goal.returns-in-Found-clause-counts
returns-in-Found-clause-counts g c = walk-counts _ _ _ _ c.in-Found.ensures.only.scanned c.in-Found.ensures.looks

pub returns-in-Idle-clause-counts : goal.returns-in-Idle-clause-counts
returns-in-Idle-clause-counts g c =
    let filter = prefilter_for (g.A.Automaton.built c.args.automaton.now) c.args.input.now.anchored in
    let back = c.in-Idle.ensures in
    let walked = walk-counts filter (c.in-Idle.at - c.args.cursor.at) c.args.steps.now c.read_to_start.new.steps
    back.only.scanned back.looks in
    counted-join filter _ _ _ _ _ _ (omega arith) walked c.search_by_candidates-in-Idle.ensures.counts

pub usable_prefilter-prefilter-requires : goal.usable_prefilter-prefilter-requires
usable_prefilter-prefilter-requires g c = grind (arith, common_steps)

pub search_by_candidates-requires : goal.search_by_candidates-requires
search_by_candidates-requires g c = grind (arith, common_steps)

pub returns-then-cursor-clause-counts : goal.returns-then-cursor-clause-counts
returns-then-cursor-clause-counts g c = grind (arith, common_steps)

pub read_to_start-requires : goal.read_to_start-requires
read_to_start-requires g c = grind (arith, common_steps)

pub search_by_candidates-requires-in-Idle : goal.search_by_candidates-requires-in-Idle
search_by_candidates-requires-in-Idle g c = grind (arith, common_steps)

pub returns-in-Found-clause-shows : goal.returns-in-Found-clause-shows
returns-in-Found-clause-shows g c = grind (arith, common_steps)

pub returns-in-Idle-clause-shows : goal.returns-in-Idle-clause-shows
returns-in-Idle-clause-shows g c = grind (arith, common_steps)
