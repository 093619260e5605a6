-- Each turn adds the bytes before a match, and its replacement. The walk ends past the last match.
use Rattle.std.proofs.Common.{◌≡◌, [], ◌∷◌, sym, rules, arith}
use Rattle.std.proofs.lemmas.Grind.{common_steps}
use Rattle.std.proofs.lemmas.List.{get_or-map}
use Rattle.ac_automaton.specs.InMemory.Iter.{left_of}
use Rattle.ac_automaton.proofs.lemmas.ReplaceLemmas.{lies-first}
use Rattle.ac_c.proofs.replace.ReplaceLemmas.{sum-more}
use Rattle.ac_c.proofs.walking.WalkingLemmas.{walks-ended, walks-none, walks-on}
use Rattle.ac_c.proofs.replace.text_len.Goals as goal

pub loop-found-init : goal.loop-found-init
loop-found-init g c =
    record {
      sum = omega arith;
      lies = c.requires.lie;
      within = omega arith;
      cost =
          walks-none g.W.Walking.ahead _ _ c.requires.counted;
    }

pub returns-in_default-checked_add-clause-cost : goal.returns-in_default-checked_add-clause-cost
returns-in_default-checked_add-clause-cost g c = (
  g.W.Walking.walk c.next_match.new.self,
  walks-on g.W.Walking.ahead _ _ _ _ _ _ c.loop-found.invariant.cost c.in-Some.ensures.cost,
)

pub returns-in_default-checked_add-2-clause-cost : goal.returns-in_default-checked_add-2-clause-cost
returns-in_default-checked_add-2-clause-cost g c = (
  g.W.Walking.walk c.next_match.new.self,
  walks-on g.W.Walking.ahead _ _ _ _ _ _ c.loop-found.invariant.cost c.in-Some.ensures.cost,
)

pub loop-found-preserved : goal.loop-found-preserved
loop-found-preserved g c =
    let i = c.loop-found.invariant in
    let seen : left_of (g.W.Walking.walk c.loop-found.matches)
    ≡ c.in-Some.found ∷ left_of (g.W.Walking.walk c.next_match.new.self) = c.in-Some.ensures.yields in
    let lies = lies-first seen i.lies in
    let number : c.as_usize.result ≡ c.in-Some.found.pattern = search rules in
    record {
      sum =
          rw c.end-at.ensures.value (sum-more _ _ _ _ _ _ _ _ _ _ _ i.sum seen (omega (arith, lies.2, lies.3))
          (rw c.start.ensures.value at c.in-Some-checked_add.ensures.1)
          (rw number (sym (get_or-map (λ r. r.now) c.args.replacements.now c.in-Some.found.pattern _ [] lies.0)))
          c.in-Some-checked_add-2.ensures.1);
      lies = rw c.end-at.ensures.value lies.4;
      within = rw c.end-at.ensures.value lies.3;
      cost = walks-on g.W.Walking.ahead _ _ _ _ _ _ i.cost c.in-Some.ensures.cost;
    }

pub returns-in-Some-checked_add-3-clause-cost : goal.returns-in-Some-checked_add-3-clause-cost
returns-in-Some-checked_add-3-clause-cost g c =
    walks-ended g.W.Walking.ahead _ _ _ _ _ _ c.loop-found.invariant.cost c.in_default.ensures.gives
    c.in_default.ensures.cost

pub returns-clause-cost : goal.returns-clause-cost
returns-clause-cost g c = (
  g.W.Walking.walk c.next_match.new.self,
  walks-on g.W.Walking.ahead _ _ _ _ _ _ c.loop-found.invariant.cost c.in_default.ensures.cost,
)

pub returns-in_default-checked_add-clause-len : goal.returns-in_default-checked_add-clause-len
returns-in_default-checked_add-clause-len g c = grind (arith, common_steps)

pub returns-in_default-checked_add-2-clause-len : goal.returns-in_default-checked_add-2-clause-len
returns-in_default-checked_add-2-clause-len g c = grind (arith, common_steps)

pub returns-in-Some-checked_add-3-clause-len : goal.returns-in-Some-checked_add-3-clause-len
returns-in-Some-checked_add-3-clause-len g c = grind (arith, common_steps)

pub returns-clause-len : goal.returns-clause-len
returns-clause-len g c = grind (arith, common_steps)
