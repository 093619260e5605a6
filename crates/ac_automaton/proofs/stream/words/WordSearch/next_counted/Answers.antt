-- The next word of the bytes read is the next one of the text.
use Rattle.std.proofs.lemmas.Grind.{common_steps}
use Rattle.std.proofs.Common.{subst, arith}
use Rattle.ac_input.specs.declared.search.Anchored.TheVariants.{No}
use Rattle.ac_automaton.specs.Stream.{FindsHeld}
use Rattle.ac_automaton.specs.Stream.WholeWords.{LooksNoMore}
use Rattle.ac_automaton.specs.Stream.WholeWords.Held.{text_of}
use Rattle.ac_automaton.specs.declared.stream.words.WordSearch.TheInside.{Inside}
use Rattle.ac_automaton.proofs.in_memory.words.WordWalkLemmas.{word-over}
use Rattle.ac_automaton.proofs.stream.StreamCountLemmas.{StreamCounts-none}
use Rattle.ac_automaton.proofs.stream.words.WordSearchLemmas.{IsRight, come_by, found-in, found-reads, window-stands}
use Rattle.ac_automaton.proofs.stream.words.WordSearch.next_counted.Given.{Over}
use Rattle.ac_automaton.proofs.stream.words.WordSearch.next_counted.Goals as goal

pub returns-then-is_over-clause-counts : goal.returns-then-is_over-clause-counts
returns-then-is_over-clause-counts g c = StreamCounts-none c.args.self.now c.args.steps.now

pub begin_if_idle-requires : goal.begin_if_idle-requires
begin_if_idle-requires g c =
    let i = c.self.inside in
    let x = text_of i.text in
    let w = c.window.result in
    let stands = window-stands g.A.Automaton i c.self.invariant w c.window.ensures.from in
    let reads = found-reads (g.A.Automaton.built i.automaton).dictionary (g.A.Automaton.Reaches i.automaton No) w.from w.closed x
    i.place c.next_word-found.new.place c.next_word-found.result
    (c.next_word-found.ensures.finds x c.window.ensures.shows stands) stands.place.start in
    ∣ (No, reads.0, reads.1) ∣₁

-- what the search keeps after the call
abbrev after : (g : Over) → goal.After-add g → Inside g.row.A.Denot
after g c = record c.self.inside { place = c.begin_if_idle.new.place; text = c.count.new.self }

-- it is right, and it found this
found : (g : Over) (c : goal.After-add g)
    → IsRight g.A.Automaton (after g c)
    × FindsHeld (come_by g.A.Automaton c.self.inside) c.next_word-found.result (come_by g.A.Automaton (after g c))
found g c =
    let i = c.self.inside in
    let x = text_of i.text in
    let seen = c.window.ensures in
    let stands = window-stands g.A.Automaton i c.self.invariant c.window.result seen.from in
    let next = c.next_word-found in
    found-in g.A.Automaton i c.self.invariant next.result c.window.result next.new.place c.begin_if_idle.new.place
    c.new-taken.result next.new.steps (g.met.A.Automaton.tells i.automaton No) (c.is_over.ensures.open c.if-is_over.false)
    seen.shows seen.from seen.closed (next.ensures.finds x seen.shows stands) (next.ensures.cost x seen.shows stands)
    next.ensures.waits c.begin_if_idle.ensures c.new-taken.ensures c.count.ensures.same c.count.ensures.added

pub invariant_of-self : goal.invariant_of-self
invariant_of-self g c = (found g c).0

pub returns-clause-finds : goal.returns-clause-finds
returns-clause-finds g c =
    subst (λ t. FindsHeld t c.next_word-found.result (come_by g.A.Automaton (after g c))) c.self.view_is (found g c).1

pub returns-clause-over : goal.returns-clause-over
returns-clause-over g c =
    let i = c.self.inside in
    let x = text_of i.text in
    let w = c.window.result in
    let stands = window-stands g.A.Automaton i c.self.invariant w c.window.ensures.from in
    let next = c.next_word-found in
    let none = c.new-taken.ensures.looked in
    let sum = c.add.ensures.looked in
    subst (λ t. LooksNoMore t c.args.steps.now c.add.new.self) c.self.view_is
    (λ all.
    let same = word-over (g.A.Automaton.built i.automaton) (g.A.Automaton.Reaches i.automaton No) w.from w.closed x i.place
    next.new.place next.result _ _ (next.ensures.finds x c.window.ensures.shows stands)
    (next.ensures.cost x c.window.ensures.shows stands) all in
    omega (arith, none, sum, same))

pub returns-clause-kept : goal.returns-clause-kept
returns-clause-kept g c = (found g c).0.0

pub same-self : goal.same-self
same-self g c = grind (arith, common_steps)

pub returns-then-is_over-clause-finds : goal.returns-then-is_over-clause-finds
returns-then-is_over-clause-finds g c = grind (arith, common_steps)

pub returns-then-is_over-clause-kept : goal.returns-then-is_over-clause-kept
returns-then-is_over-clause-kept g c = grind (arith, common_steps)

pub next_word-found-requires-clause-standard : goal.next_word-found-requires-clause-standard
next_word-found-requires-clause-standard g c = grind (arith, common_steps)

pub next_word-found-requires-clause-filled : goal.next_word-found-requires-clause-filled
next_word-found-requires-clause-filled g c = grind (arith, common_steps)

pub next_word-found-requires-clause-fits : goal.next_word-found-requires-clause-fits
next_word-found-requires-clause-fits g c = grind (arith, common_steps)

pub next_word-found-requires-clause-stands : goal.next_word-found-requires-clause-stands
next_word-found-requires-clause-stands g c = grind (arith, common_steps)

pub returns-clause-counts : goal.returns-clause-counts
returns-clause-counts g c = grind (arith, common_steps)
