-- The buffer is filled by the walk that stands at the place.
use Rattle.std.proofs.Common.{length, ◌≤◌, sym, subst, arith}
use Rattle.ac_automaton.specs.InMemory.Words.{WordWalk}
use Rattle.ac_c.proofs.words.FillWordsLemmas.{words-by, words-cost}
use Rattle.ac_c.proofs.words.next_words_counted.Goals as goal

pub fill-count-requires : goal.fill-count-requires
fill-count-requires c =
    let inside : c.args.from ≤ length c.args.haystack.now = omega arith in
    subst (λ (x : WordWalk). x.at ≤ length x.haystack) (sym c.in-Ok.ensures.3) inside

pub returns-in-Ok-clause-words : goal.returns-in-Ok-clause-words
returns-in-Ok-clause-words c =
    words-by c.args.ac.now c.args.kind c.args.haystack.now c.args.from c.in-Ok.words c.fill-count.new.words _ _ _ _
    (omega arith) c.in-Ok.ensures c.fill-count.ensures.gives c.place.ensures.value

pub returns-in-Ok-clause-cost : goal.returns-in-Ok-clause-cost
returns-in-Ok-clause-cost c =
    words-cost c.args.ac.now c.args.kind c.args.haystack.now c.args.from c.in-Ok.words c.fill-count.new.words _ _ _ _ _
    c.in-Ok.ensures c.fill-count.ensures.cost c.place.ensures.value
