-- Each mode's search of the stream is supported, and writes the text of the words.
use Rattle.std.proofs.Common.{ap, subst, sym, ◌∙◌}
use Rattle.ac_automaton.specs.Stream.{AllWords, Words, items_of}
use Rattle.ac_automaton.specs.Stream.Replace.{CostsItems}
use Rattle.ac_automaton.specs.Stream.WholeWords.{asked_for}
use Rattle.aho_corasick.specs.AhoCorasick.{as_built}
use Rattle.acsub.specs.WordRun.{sequence_of}
use Rattle.acsub.proofs.stream.StreamedLemmas.{begun-memory}
use Rattle.acsub.proofs.word.WordRunLemmas.{all_words-lined, words-asked, words-can, words-every, words-lined, words-replaced}
use Rattle.acsub.specs.Tally.{plan_words}
use Rattle.acsub.proofs.tally.TallyLemmas.{counts-ok, every-words, listed-words, replaced-words}
use Rattle.acsub.proofs.stream.words.stream_words.Goals as goal

-- ---- words are replaced

pub replace_words-requires-clause-can : goal.replace_words-requires-clause-can
replace_words-requires-clause-can g c =
    words-can c.args.prepared.now.settings c.args.prepared.now.rules.now c.args.prepared.now.automaton c.requires.ready.serves c.requires.ready.searchable

pub replace_words-requires-clause-patterns : goal.replace_words-requires-clause-patterns
replace_words-requires-clause-patterns g c = ap (λ m. m.patterns) c.requires.ready.serves.built.dictionary

pub returns-in-Replace-clause-writes : goal.returns-in-Replace-clause-writes
returns-in-Replace-clause-writes g c =
    let replaced = c.replace_words in
    words-replaced g.R.Read.remaining g.W.Write.contents (c.args.reader.now, c.args.writer.now)
    (replaced.new.reader, replaced.new.writer) c.args.prepared.now.settings c.args.prepared.now.rules.now
    (asked_for c.args.prepared.now.settings.kind (as_built c.args.prepared.now.automaton))
    (words-asked c.args.prepared.now.settings c.args.prepared.now.rules.now c.args.prepared.now.automaton c.requires.ready.serves) replaced.result c.in-Replace.is
    replaced.ensures.replaced

pub returns-in-Replace-clause-costs : goal.returns-in-Replace-clause-costs
returns-in-Replace-clause-costs g c =
    let replaced = c.replace_words in
    subst (λ mode. CostsItems (sequence_of mode) (asked_for c.args.prepared.now.settings.kind (as_built c.args.prepared.now.automaton))
    c.args.reader.now replaced.new.reader c.args.steps.now replaced.new.steps replaced.result) (sym c.in-Replace.is)
    replaced.ensures.costs

pub returns-in-Replace-clause-memory : goal.returns-in-Replace-clause-memory
returns-in-Replace-clause-memory g c =
    let replaced = c.replace_words in
    begun-memory c.args.reader.now replaced.new.reader c.args.writer.now replaced.new.writer replaced.result
    replaced.ensures.replaced.1

pub returns-in-Replace-clause-counts : goal.returns-in-Replace-clause-counts
returns-in-Replace-clause-counts g c =
    let made = c.replace_words in
    let settings = c.args.prepared.now.settings in
    let rules = c.args.prepared.now.rules.now in
    let m = (asked_for c.args.prepared.now.settings.kind (as_built c.args.prepared.now.automaton)).dictionary in
    counts-ok (items_of Words m) (plan_words settings rules)
    (λ x. replaced-words settings rules m (words-asked settings rules c.args.prepared.now.automaton c.requires.ready.serves)
    x c.in-Replace.is) c.args.reader.now made.new.reader c.args.tally.now made.new.tally made.result made.ensures.counts

-- ---- words are listed

pub list_words-requires-clause-can : goal.list_words-requires-clause-can
list_words-requires-clause-can g c =
    words-can c.args.prepared.now.settings c.args.prepared.now.rules.now c.args.prepared.now.automaton c.requires.ready.serves c.requires.ready.searchable

pub returns-in-List-clause-writes : goal.returns-in-List-clause-writes
returns-in-List-clause-writes g c =
    let listed = c.list_words in
    words-lined g.R.Read.remaining g.W.Write.contents (c.args.reader.now, c.args.writer.now)
    (listed.new.reader, listed.new.writer) c.args.prepared.now.settings c.args.prepared.now.rules.now
    (asked_for c.args.prepared.now.settings.kind (as_built c.args.prepared.now.automaton))
    (words-asked c.args.prepared.now.settings c.args.prepared.now.rules.now c.args.prepared.now.automaton c.requires.ready.serves) listed.result c.in-List.is
    listed.ensures.lists

pub returns-in-List-clause-costs : goal.returns-in-List-clause-costs
returns-in-List-clause-costs g c =
    let listed = c.list_words in
    subst (λ mode. CostsItems (sequence_of mode) (asked_for c.args.prepared.now.settings.kind (as_built c.args.prepared.now.automaton))
    c.args.reader.now listed.new.reader c.args.steps.now listed.new.steps listed.result) (sym c.in-List.is)
    listed.ensures.costs

pub returns-in-List-clause-counts : goal.returns-in-List-clause-counts
returns-in-List-clause-counts g c =
    let made = c.list_words in
    let settings = c.args.prepared.now.settings in
    let rules = c.args.prepared.now.rules.now in
    let m = (asked_for c.args.prepared.now.settings.kind (as_built c.args.prepared.now.automaton)).dictionary in
    counts-ok (items_of Words m) (plan_words settings rules)
    (λ x. listed-words settings rules m (words-asked settings rules c.args.prepared.now.automaton c.requires.ready.serves)
    x c.in-List.is) c.args.reader.now made.new.reader c.args.tally.now made.new.tally made.result made.ensures.counts

-- ---- all words are listed

pub list_all_words-requires-clause-can : goal.list_all_words-requires-clause-can
list_all_words-requires-clause-can g c =
    words-can c.args.prepared.now.settings c.args.prepared.now.rules.now c.args.prepared.now.automaton c.requires.ready.serves c.requires.ready.searchable

pub returns-in-Overlap-clause-writes : goal.returns-in-Overlap-clause-writes
returns-in-Overlap-clause-writes g c =
    let listed = c.list_all_words in
    let same = words-every c.args.prepared.now.settings c.args.prepared.now.rules.now c.args.prepared.now.automaton c.requires.ready.serves c.requires.ready.searchable
    c.in-Overlap.is in
    all_words-lined g.R.Read.remaining g.W.Write.contents (c.args.reader.now, c.args.writer.now)
    (listed.new.reader, listed.new.writer) c.args.prepared.now.settings c.args.prepared.now.rules.now (as_built c.args.prepared.now.automaton)
    (ap (λ b. b.dictionary) (sym same)
    ∙ words-asked c.args.prepared.now.settings c.args.prepared.now.rules.now c.args.prepared.now.automaton c.requires.ready.serves) listed.result c.in-Overlap.is
    listed.ensures.lists

pub returns-in-Overlap-clause-costs : goal.returns-in-Overlap-clause-costs
returns-in-Overlap-clause-costs g c =
    let listed = c.list_all_words in
    subst (λ mode. CostsItems (sequence_of mode) (asked_for c.args.prepared.now.settings.kind (as_built c.args.prepared.now.automaton))
    c.args.reader.now listed.new.reader c.args.steps.now listed.new.steps listed.result) (sym c.in-Overlap.is)
    (subst (λ b. CostsItems AllWords b c.args.reader.now listed.new.reader c.args.steps.now listed.new.steps
    listed.result)
    (sym (words-every c.args.prepared.now.settings c.args.prepared.now.rules.now c.args.prepared.now.automaton c.requires.ready.serves c.requires.ready.searchable
    c.in-Overlap.is)) listed.ensures.costs)

pub returns-in-Overlap-clause-counts : goal.returns-in-Overlap-clause-counts
returns-in-Overlap-clause-counts g c =
    let made = c.list_all_words in
    let settings = c.args.prepared.now.settings in
    let rules = c.args.prepared.now.rules.now in
    let m = (as_built c.args.prepared.now.automaton).dictionary in
    counts-ok (items_of AllWords m) (plan_words settings rules)
    (λ x. every-words settings rules m (ap (λ b. b.dictionary) (sym (words-every settings rules c.args.prepared.now.automaton c.requires.ready.serves c.requires.ready.searchable c.in-Overlap.is)) ∙ words-asked settings rules c.args.prepared.now.automaton c.requires.ready.serves)
    x c.in-Overlap.is) c.args.reader.now made.new.reader c.args.tally.now made.new.tally made.result made.ensures.counts
