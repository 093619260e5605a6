-- The run begins with all of the listing of its input left.
use Rattle.std.proofs.lemmas.Grind.{common_steps}
use Rattle.std.proofs.Common.{◌≡◌, rules, arith}
use Rattle.ac_input.specs.declared.search.Anchored.TheVariants.{No}
use Rattle.ac_automaton.specs.Ahead.{less_ahead}
use Rattle.ac_automaton.specs.InMemory.Overlapping.OverlappingIter.{Run}
use Rattle.ac_automaton.proofs.in_memory.iter.ItemsLemmas.{listing-few, listing-lies}
use Rattle.ac_automaton.proofs.in_memory.overlapping.OverlappingAheadLemmas.{first-ahead, first-run}
use Rattle.ac_automaton.proofs.in_memory.overlapping.OverlappingStateLemmas.{first-counted}
use Rattle.ac_automaton.proofs.in_memory.overlapping.iter.find_overlapping_iter.Given.{Over}
use Rattle.ac_automaton.proofs.in_memory.overlapping.iter.find_overlapping_iter.Goals as goal
use Rattle.ac_automaton.proofs.in_memory.overlapping.iter.find_overlapping_iter.Goals.{After-none}

pub invariant_of-result : goal.invariant_of-result
invariant_of-result g c =
    let a = c.args.automaton.now in
    let begun = c.in_ok-beginning.ensures in
    let place = c.in_ok-beginning.beginning.place in
    let free : c.args.input.anchored ≡ No = search rules in (
      begun.0.1,
      free,
      begun.1,
      first-run g.A.Automaton a c.args.input place c.zero.result.value c.none.result begun.2 begun.3
          c.zero.ensures c.new.ensures,
      first-counted (g.A.Automaton.built a) c.args.input place (less_ahead c.new.result c.none.result) begun.4,
      first-ahead c.is_none.result g.A.Automaton a c.args.input place c.none.result c.none.ensures.room
          c.none.ensures.none c.none.ensures.nothing,
      omega (arith, c.none.ensures.nothing),
    )

-- the run before its first occurrence
abbrev fresh : (g : Over) → After-none g → Run
fresh g c =
    record {
      built = g.A.Automaton.built c.args.automaton.now;
      asked = c.args.input;
      shown = c.zero.result.value;
      looked = c.new.result.looked.value;
      scanned = c.new.result.scanned.value;
      moved = c.new.result.moved.value;
    }

pub returns-in-No-clause-few : goal.returns-in-No-clause-few
returns-in-No-clause-few g c =
    listing-few (g.A.Automaton.built c.args.automaton.now) c.args.input
    (fresh g (goal.at.returns-in-No-clause-few g c).After-none) (search rules) (search rules)

pub returns-in-No-clause-lie : goal.returns-in-No-clause-lie
returns-in-No-clause-lie g c =
    listing-lies (g.A.Automaton.built c.args.automaton.now) c.args.input
    (fresh g (goal.at.returns-in-No-clause-lie g c).After-none) (search rules) (search rules)

pub returns-in_err-beginning-clause-answer : goal.returns-in_err-beginning-clause-answer
returns-in_err-beginning-clause-answer g c = grind (arith, common_steps)

pub returns-in_err-beginning-clause-few : goal.returns-in_err-beginning-clause-few
returns-in_err-beginning-clause-few g c = grind (arith, common_steps)

pub returns-in_err-beginning-clause-lie : goal.returns-in_err-beginning-clause-lie
returns-in_err-beginning-clause-lie g c = grind (arith, common_steps)

pub usable_prefilter-requires : goal.usable_prefilter-requires
usable_prefilter-requires g c = grind (arith, common_steps)

pub returns-in-Yes-clause-answer : goal.returns-in-Yes-clause-answer
returns-in-Yes-clause-answer g c = grind (arith, common_steps)

pub returns-in-No-clause-answer : goal.returns-in-No-clause-answer
returns-in-No-clause-answer g c = grind (arith, common_steps)
