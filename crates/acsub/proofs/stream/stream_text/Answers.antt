-- Each mode's search of the stream is supported, and writes the text of the plan. The run returns its result.
use Rattle.std.proofs.Common.{ap, subst, sym, ◌∙◌}
use Rattle.ac_automaton.specs.Stream.{Occurrences, Picks, items_of}
use Rattle.ac_automaton.specs.Stream.Replace.{ReplacesStream}
use Rattle.ac_automaton.proofs.stream.SequenceLemmas.{picks≢occurrences}
use Rattle.aho_corasick.specs.AhoCorasick.{as_built}
use Rattle.acsub.specs.Rules.Sides.{replacements_of, rule_patterns}
use Rattle.acsub.specs.Tally.{plan_matches}
use Rattle.acsub.specs.declared.prepared.Finder.TheVariants as finders
use Rattle.acsub.proofs.prepared.ServedLemmas.{finder-buildable}
use Rattle.acsub.proofs.stream.StreamListLemmas.{every-can, list-plan}
use Rattle.acsub.proofs.stream.StreamedLemmas.{begun-memory, replace-plan, streamed-can, streamed_answer, streamed_cost}
use Rattle.acsub.proofs.tally.TallyLemmas.{counts-told, every-matches, listed-matches, replaced-matches}
use Rattle.acsub.proofs.stream.stream_text.Goals as goal

-- ---- the matches are replaced

pub replace_stream-replaced-requires-clause-can : goal.replace_stream-replaced-requires-clause-can
replace_stream-replaced-requires-clause-can g c =
    streamed-can c.args.engine.now c.args.prepared.now c.requires.serves c.requires.streamed

pub replace_stream-replaced-requires-clause-patterns : goal.replace_stream-replaced-requires-clause-patterns
replace_stream-replaced-requires-clause-patterns g c =
    ap (λ m. m.patterns) c.requires.serves.built.dictionary ∙ ap rule_patterns (sym c.rules-rules.ensures)

pub returns-in-Replace-clause-ran : goal.returns-in-Replace-clause-ran
returns-in-Replace-clause-ran g c =
    let plan = c.args.prepared.now in
    let replaced = c.replace_stream-replaced in
    let moved =
    subst (λ rules. ReplacesStream g.R.Read.remaining g.W.Write.contents (as_built c.args.engine.now) (replacements_of rules)
    c.args.reader.now replaced.new.reader c.args.writer.now replaced.new.writer replaced.result) c.rules-rules.ensures
    replaced.ensures.replaced in
    streamed_answer g.R.Read.remaining g.W.Write.contents plan c.args.reader.now replaced.new.reader c.args.writer.now
    replaced.new.writer replaced.result c.told.result c.requires.accepted
    (finder-buildable plan.settings plan.rules (finders.Automaton c.args.engine.now) c.requires.serves)
    c.requires.streamed c.told.ensures
    (begun-memory c.args.reader.now replaced.new.reader c.args.writer.now replaced.new.writer replaced.result
    replaced.ensures.replaced.1)
    (replace-plan g.R.Read.remaining g.W.Write.contents (as_built c.args.engine.now) plan
    (c.args.reader.now, c.args.writer.now) (replaced.new.reader, replaced.new.writer) replaced.result
    c.requires.serves.built.dictionary (sym c.mode.ensures ∙ c.in-Replace.is) moved)

pub returns-in-Replace-clause-cost : goal.returns-in-Replace-clause-cost
returns-in-Replace-clause-cost g c =
    let replaced = c.replace_stream-replaced in
    streamed_cost c.args.prepared.now c.args.engine.now c.args.reader.now replaced.new.reader c.args.steps.now
    replaced.new.steps replaced.result c.told.result c.requires.serves c.requires.streamed c.told.ensures
    replaced.ensures.costs

pub returns-in-Replace-clause-counts : goal.returns-in-Replace-clause-counts
returns-in-Replace-clause-counts g c =
    let replaced = c.replace_stream-replaced in
    let m = (as_built c.args.engine.now).dictionary in
    counts-told (items_of Picks m) (plan_matches c.args.prepared.now)
    (λ x. replaced-matches c.args.prepared.now m c.requires.serves.built.dictionary x
    (sym c.mode.ensures ∙ c.in-Replace.is)) c.args.reader.now replaced.new.reader c.args.tally.now replaced.new.tally
    replaced.result c.told.result c.told.ensures replaced.ensures.counts

-- ---- the matches are listed

pub list_stream-requires-clause-can : goal.list_stream-requires-clause-can
list_stream-requires-clause-can g c =
    streamed-can c.args.engine.now c.args.prepared.now c.requires.serves c.requires.streamed

pub returns-in-List-clause-ran : goal.returns-in-List-clause-ran
returns-in-List-clause-ran g c =
    let plan = c.args.prepared.now in
    let listed = c.list_stream in
    streamed_answer g.R.Read.remaining g.W.Write.contents plan c.args.reader.now listed.new.reader c.args.writer.now
    listed.new.writer listed.result c.told-in-List.result c.requires.accepted
    (finder-buildable plan.settings plan.rules (finders.Automaton c.args.engine.now) c.requires.serves)
    c.requires.streamed c.told-in-List.ensures listed.ensures.memory
    (list-plan plan (as_built c.args.engine.now) c.requires.serves.built.dictionary Picks
    (sym c.mode.ensures ∙ c.in-List.is) (λ e. absurd (picks≢occurrences e))
    g.R.Read.remaining g.W.Write.contents (c.args.reader.now, c.args.writer.now)
    (listed.new.reader, listed.new.writer) listed.result listed.ensures.lists)

pub returns-in-List-clause-cost : goal.returns-in-List-clause-cost
returns-in-List-clause-cost g c =
    let listed = c.list_stream in
    streamed_cost c.args.prepared.now c.args.engine.now c.args.reader.now listed.new.reader c.args.steps.now
    listed.new.steps listed.result c.told-in-List.result c.requires.serves c.requires.streamed c.told-in-List.ensures
    listed.ensures.costs

pub returns-in-List-clause-counts : goal.returns-in-List-clause-counts
returns-in-List-clause-counts g c =
    let listed = c.list_stream in
    let m = (as_built c.args.engine.now).dictionary in
    counts-told (items_of Picks m) (plan_matches c.args.prepared.now)
    (λ x. listed-matches c.args.prepared.now m c.requires.serves.built.dictionary x
    (sym c.mode.ensures ∙ c.in-List.is)) c.args.reader.now listed.new.reader c.args.tally.now listed.new.tally
    listed.result c.told-in-List.result c.told-in-List.ensures listed.ensures.counts

-- ---- all that overlap are listed

pub list_every-requires-clause-can : goal.list_every-requires-clause-can
list_every-requires-clause-can g c =
    every-can c.args.engine.now c.args.prepared.now c.requires.serves c.requires.accepted
    (sym c.mode.ensures ∙ c.in-Overlap.is) c.requires.streamed

pub returns-in-Overlap-clause-ran : goal.returns-in-Overlap-clause-ran
returns-in-Overlap-clause-ran g c =
    let plan = c.args.prepared.now in
    let listed = c.list_every in
    streamed_answer g.R.Read.remaining g.W.Write.contents plan c.args.reader.now listed.new.reader c.args.writer.now
    listed.new.writer listed.result c.told-in-Overlap.result c.requires.accepted
    (finder-buildable plan.settings plan.rules (finders.Automaton c.args.engine.now) c.requires.serves)
    c.requires.streamed c.told-in-Overlap.ensures listed.ensures.memory
    (list-plan plan (as_built c.args.engine.now) c.requires.serves.built.dictionary Occurrences
    (sym c.mode.ensures ∙ c.in-Overlap.is) (λ _. (every-can c.args.engine.now plan c.requires.serves c.requires.accepted
    (sym c.mode.ensures ∙ c.in-Overlap.is) c.requires.streamed).1)
    g.R.Read.remaining g.W.Write.contents (c.args.reader.now, c.args.writer.now)
    (listed.new.reader, listed.new.writer) listed.result listed.ensures.lists)

pub returns-in-Overlap-clause-cost : goal.returns-in-Overlap-clause-cost
returns-in-Overlap-clause-cost g c =
    let listed = c.list_every in
    streamed_cost c.args.prepared.now c.args.engine.now c.args.reader.now listed.new.reader c.args.steps.now
    listed.new.steps listed.result c.told-in-Overlap.result c.requires.serves c.requires.streamed
    c.told-in-Overlap.ensures listed.ensures.costs

pub returns-in-Overlap-clause-counts : goal.returns-in-Overlap-clause-counts
returns-in-Overlap-clause-counts g c =
    let listed = c.list_every in
    let m = (as_built c.args.engine.now).dictionary in
    counts-told (items_of Occurrences m) (plan_matches c.args.prepared.now)
    (λ x. every-matches c.args.prepared.now m c.requires.serves.built.dictionary x
    (sym c.mode.ensures ∙ c.in-Overlap.is)) c.args.reader.now listed.new.reader c.args.tally.now listed.new.tally
    listed.result c.told-in-Overlap.result c.told-in-Overlap.ensures listed.ensures.counts
