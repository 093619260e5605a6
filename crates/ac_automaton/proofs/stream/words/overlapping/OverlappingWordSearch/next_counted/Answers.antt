-- The next word of the bytes read is the next one of the text.
use Rattle.std.proofs.lemmas.Grind.{common_steps}
use Rattle.std.proofs.Common.{subst, take, arith}
use Rattle.ac_automaton.specs.ListedWords.{word_listing}
use Rattle.ac_automaton.specs.Stream.{FindsHeld, StreamCounts}
use Rattle.ac_automaton.specs.Stream.WholeWords.{LooksNoMore}
use Rattle.ac_automaton.specs.Stream.WholeWords.Held.{text_of}
use Rattle.ac_automaton.specs.declared.stream.words.overlapping.OverlappingWordSearch.TheInside.{Inside}
use Rattle.ac_automaton.proofs.stream.StreamCountLemmas.{StreamCounts-none}
use Rattle.ac_automaton.proofs.stream.words.overlapping.ListedSearchLemmas.{IsRight, come_by, found-counts, found-in, lists-within, window-stands}
use Rattle.ac_automaton.proofs.stream.words.overlapping.OverlappingWordSearch.next_counted.Given.{Over}
use Rattle.ac_automaton.proofs.stream.words.overlapping.OverlappingWordSearch.next_counted.Goals as goal

pub returns-then-is_over-clause-counts : goal.returns-then-is_over-clause-counts
returns-then-is_over-clause-counts g c = StreamCounts-none c.args.self.now c.args.steps.now

-- what the search keeps after the call
abbrev after : (g : Over) → goal.After-add g → Inside g.row.A.Denot
after g c = record c.self.inside { place = c.next_listed_word-found.new.place; text = c.count.new.self }

-- it is right, and it found this
found : (g : Over) (c : goal.After-add g)
    → IsRight g.A.Automaton (after g c)
    × FindsHeld (come_by g.A.Automaton c.self.inside) c.next_listed_word-found.result (come_by g.A.Automaton (after g c))
found g c =
    let i = c.self.inside in
    let x = text_of i.text in
    let given = take i.text.returned (word_listing (g.A.Automaton.built i.automaton).dictionary x) in
    let seen = c.window.ensures in
    let stands = window-stands g.A.Automaton i c.self.invariant c.window.result seen.from seen.closed in
    let next = c.next_listed_word-found in
    found-in g.A.Automaton i c.self.invariant next.result c.window.result next.new.place c.new-taken.result next.new.steps
    (c.is_over.ensures.open c.if-is_over.false) seen.shows seen.from seen.closed
    (next.ensures.lists x given (seen.shows, stands)) next.ensures.goes (next.ensures.cost x given (seen.shows, stands))
    c.new-taken.ensures c.count.ensures.same c.count.ensures.added

pub invariant_of-self : goal.invariant_of-self
invariant_of-self g c = (found g c).0

pub returns-clause-finds : goal.returns-clause-finds
returns-clause-finds g c =
    subst (λ t. FindsHeld t c.next_listed_word-found.result (come_by g.A.Automaton (after g c))) c.self.view_is (found g c).1

pub returns-clause-counts : goal.returns-clause-counts
returns-clause-counts g c =
    let i = c.self.inside in
    let given = take i.text.returned (word_listing (g.A.Automaton.built i.automaton).dictionary (text_of i.text)) in
    let seen = c.window.ensures in
    let stands = window-stands g.A.Automaton i c.self.invariant c.window.result seen.from seen.closed in
    subst (λ t. StreamCounts t (come_by g.A.Automaton (after g c)) c.args.steps.now c.add.new.self) c.self.view_is
    (found-counts g.A.Automaton i c.self.invariant c.next_listed_word-found.result c.next_listed_word-found.new.place
    c.new-taken.result c.next_listed_word-found.new.steps
    (c.next_listed_word-found.ensures.cost (text_of i.text) given (seen.shows, stands)) c.new-taken.ensures
    c.count.ensures.same c.count.ensures.added c.add.ensures)

pub returns-clause-over : goal.returns-clause-over
returns-clause-over g c =
    let i = c.self.inside in
    let x = text_of i.text in
    let given = take i.text.returned (word_listing (g.A.Automaton.built i.automaton).dictionary x) in
    let seen = c.window.ensures in
    let stands = window-stands g.A.Automaton i c.self.invariant c.window.result seen.from seen.closed in
    let next = c.next_listed_word-found in
    let w = c.window.result in
    let cost = next.ensures.cost x given (seen.shows, stands) in
    let within = lists-within _ _ _ w.from w.closed x given next.new.place next.result (next.ensures.lists x given (seen.shows, stands)) in
    let none = c.new-taken.ensures.looked in
    let sum = c.add.ensures.looked in
    subst (λ t. LooksNoMore t c.args.steps.now c.add.new.self) c.self.view_is
    (λ all. let same = cost.rests (omega (arith, all, within)) in omega (arith, none, sum, same))

pub returns-clause-kept : goal.returns-clause-kept
returns-clause-kept g c = (found g c).0.0

pub same-self : goal.same-self
same-self g c = grind (arith, common_steps)

pub returns-then-is_over-clause-finds : goal.returns-then-is_over-clause-finds
returns-then-is_over-clause-finds g c = grind (arith, common_steps)

pub returns-then-is_over-clause-kept : goal.returns-then-is_over-clause-kept
returns-then-is_over-clause-kept g c = grind (arith, common_steps)

pub next_listed_word-found-requires-clause-fits : goal.next_listed_word-found-requires-clause-fits
next_listed_word-found-requires-clause-fits g c = grind (arith, common_steps)
