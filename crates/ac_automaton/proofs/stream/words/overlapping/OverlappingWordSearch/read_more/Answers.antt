-- The text reads the next piece.
use Rattle.std.proofs.Common.{◌-◌, sym, ap, subst, ◌∙◌}
use Rattle.ac_input.specs.Work.{longest}
use Rattle.ac_automaton.specs.Stream.{IsSearched, ReadsMore, StreamCounts}
use Rattle.ac_automaton.proofs.stream.words.overlapping.ListedKeptLemmas.{grown-kept, holds-text}
use Rattle.ac_automaton.proofs.stream.words.overlapping.ListedSearchLemmas.{IsRight, come_by}
use Rattle.ac_automaton.proofs.stream.words.held.HoldsLemmas.{read-on}
use Rattle.ac_automaton.proofs.stream.words.overlapping.OverlappingWordSearch.read_more.Given.{Over}
use Rattle.ac_automaton.proofs.stream.words.overlapping.OverlappingWordSearch.read_more.Goals as goal

-- what was read
read : (g : Over) (c : goal.After-read_more g)
    → IsRight g.A.Automaton (record c.self.inside { text = c.read_more.new.self })
    × ReadsMore g.R.Read.remaining (come_by g.A.Automaton c.self.inside)
    (come_by g.A.Automaton (record c.self.inside { text = c.read_more.new.self })) c.args.reader.now c.read_more.new.reader
    c.read_more.result
    × StreamCounts (come_by g.A.Automaton c.self.inside)
    (come_by g.A.Automaton (record c.self.inside { text = c.read_more.new.self })) c.args.steps.now c.read_more.new.steps
read g c =
    let A = g.A.Automaton in
    let i = c.self.inside in
    let is = c.self.invariant in
    let at = c.needed-needed.ensures ∙ ap (λ s. s.at - longest s.built.dictionary.patterns - 1) (sym c.self.view_is) in
    let searched = subst IsSearched (sym c.self.view_is) c.requires.searched in
    let open_ = ap (λ s. s.closed) c.self.view_is ∙ c.requires.unclosed in
    read-on (holds-text A i is c.needed-needed.result at searched) (λ t. IsRight A (record i { text = t }))
    (λ t. come_by A (record i { text = t })) (λ t piece grows. grown-kept A i is at open_ grows) c.read_more.new.self
    g.R.Read.remaining c.args.reader.now c.read_more.new.reader c.read_more.result c.read_more.ensures.read
    c.read_more.ensures.counts

pub invariant_of-self : goal.invariant_of-self
invariant_of-self g c = (read g c).0

pub returns-clause-read : goal.returns-clause-read
returns-clause-read g c =
    subst (λ s. ReadsMore g.R.Read.remaining s (come_by g.A.Automaton (record c.self.inside { text = c.read_more.new.self }))
    c.args.reader.now c.read_more.new.reader c.read_more.result) c.self.view_is (read g c).1

pub returns-clause-counts : goal.returns-clause-counts
returns-clause-counts g c =
    subst (λ s. StreamCounts s (come_by g.A.Automaton (record c.self.inside { text = c.read_more.new.self })) c.args.steps.now
    c.read_more.new.steps) c.self.view_is (read g c).2

pub returns-clause-kept : goal.returns-clause-kept
returns-clause-kept g c = (read g c).0.0
