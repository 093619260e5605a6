-- The next word, and what it costs.
use Rattle.std.proofs.Common.{true, subst, refl, arith}
use Rattle.ac_input.specs.declared.search.Anchored.TheVariants.{No}
use Rattle.ac_automaton.specs.InMemory.Words.{CostsNextWord, GivesWord, word_walk_at}
use Rattle.ac_automaton.proofs.in_memory.words.WordWalkLemmas.{word-ends, word-given, word-over, word-paid}
use Rattle.ac_automaton.proofs.in_memory.words.FindWordIter.next_counted.Goals as goal

pub returns-clause-gives : goal.returns-clause-gives
returns-clause-gives g c =
    let i = c.self.inside in
    let a = i.automaton.now in
    let b = g.A.Automaton.built a in
    let finds = c.next_word-found.ensures.finds i.haystack.now (record { within = omega arith; shown = refl })
    c.self.invariant.stands in
    subst (λ w. GivesWord w c.next_word-found.result
    (word_walk_at b i.haystack.now c.next_word-found.new.place c.add-2.new.self)) c.self.view_is
    (word-given b (g.A.Automaton.Reaches a No) 0 i.haystack.now i.place c.next_word-found.new.place i.sums c.add-2.new.self
    c.next_word-found.result finds)

pub returns-clause-cost : goal.returns-clause-cost
returns-clause-cost g c =
    let i = c.self.inside in
    let a = i.automaton.now in
    let b = g.A.Automaton.built a in
    let finds = c.next_word-found.ensures.finds i.haystack.now (record { within = omega arith; shown = refl })
    c.self.invariant.stands in
    let cost = c.next_word-found.ensures.cost i.haystack.now (record { within = omega arith; shown = refl })
    c.self.invariant.stands in
    let paid = word-paid b (g.A.Automaton.Reaches a No) 0 i.haystack.now i.place c.next_word-found.new.place
    c.next_word-found.result c.new-taken.result c.next_word-found.new.steps c.self.invariant.stands finds cost in
    let bound = paid.0 in
    let only = paid.1 in
    subst (λ w. CostsNextWord w (word_walk_at b i.haystack.now c.next_word-found.new.place c.add-2.new.self)
    c.args.steps.now c.add.new.self c.next_word-found.result) c.self.view_is
    (record {
      counts = (
        c.next_word-found.new.steps.looked.value,
        c.next_word-found.new.steps.scanned.value,
        c.next_word-found.new.steps.moved.value,
        record { looked = c.add.ensures.looked; scanned = c.add.ensures.scanned; moved = c.add.ensures.moved },
        c.add-2.ensures.looked,
        c.add-2.ensures.scanned,
        c.add-2.ensures.moved,
      );
      looked = let none = c.new-taken.ensures.looked in let all = c.add.ensures.looked in omega arith;
      scanned = let none = c.new-taken.ensures.scanned in let all = c.add.ensures.scanned in let same = only.scanned in omega arith;
      moved = let none = c.new-taken.ensures.moved in let all = c.add.ensures.moved in let same = only.moved in omega arith;
      ends = word-ends b.dictionary (g.A.Automaton.Reaches a No) 0 i.haystack.now i.place c.next_word-found.new.place
          c.next_word-found.result finds;
      over = λ all. let none = c.new-taken.ensures.looked in let sum = c.add.ensures.looked in
          let same = word-over b (g.A.Automaton.Reaches a No) 0 true i.haystack.now i.place c.next_word-found.new.place
          c.next_word-found.result _ _ finds cost all in omega (arith, none, sum, same);
    })
