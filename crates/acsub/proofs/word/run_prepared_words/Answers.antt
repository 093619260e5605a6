-- The result is that of the stream.
use Rattle.acsub.specs.Early.{as_early}
use Rattle.acsub.specs.WordRun.{WritesWords, word_demand}
use Rattle.acsub.proofs.early.EarlyLemmas.{early-ok, early-says, told-ok}
use Rattle.acsub.proofs.tally.TallyLemmas.{counts-told}
use Rattle.acsub.proofs.word.WordRunLemmas.{words-costs, words-within}
use Rattle.acsub.specs.Tally.{plan_words}
use Rattle.std.proofs.Common.{refl}
use Rattle.acsub.proofs.word.run_prepared_words.Goals as goal

pub returns-clause-answered : goal.returns-clause-answered
returns-clause-answered g c =
    let p = c.args.prepared.now in
    let ready = c.requires.ready in
    let written = c.stream_words in
    early-says (c.args.reader.now, c.args.writer.now) (written.new.reader, written.new.writer)
    (word_demand p.settings p.rules.now)
    (WritesWords g.R.Read.remaining g.W.Write.contents (c.args.reader.now, c.args.writer.now)
    (written.new.reader, written.new.writer) p.settings p.rules.now) ready.searchable written.result c.told.result
    c.told.ensures
    (record {
      searchable = ready.searchable;
      within = words-within p.settings p.rules.now p.automaton ready.serves;
      writes = written.ensures.writes;
    }) written.ensures.memory

pub returns-clause-cost : goal.returns-clause-cost
returns-clause-cost g c =
    let p = c.args.prepared.now in
    let written = c.stream_words in
    words-costs p.settings p.rules.now p.automaton c.args.reader.now written.new.reader c.args.steps.now
    written.new.steps written.result (as_early c.told.result) c.requires.ready.serves written.ensures.costs
    (λ e. told-ok written.result c.told.result c.told.ensures (early-ok c.told.result e))

pub returns-clause-counts : goal.returns-clause-counts
returns-clause-counts g c =
    let written = c.stream_words in
    let found = plan_words c.args.prepared.now.settings c.args.prepared.now.rules.now in
    counts-told found found (λ x. refl) c.args.reader.now written.new.reader c.args.tally.now written.new.tally
    written.result c.told.result c.told.ensures written.ensures.counts
