-- Each turn writes the bytes before a match, and those of its replacement.
use Rattle.std.proofs.Common.{◌≡◌, ◌∷◌, [], sym, rules, arith}
use Rattle.std.proofs.lemmas.Grind.{common_steps}
use Rattle.std.proofs.lemmas.List.{get_or-map}
use Rattle.ac_automaton.specs.InMemory.Iter.{left_of}
use Rattle.ac_automaton.proofs.lemmas.ReplaceLemmas.{lies-first}
use Rattle.ac_c.proofs.replace.ReplaceLemmas.{written-fits, written-none, written-turn}
use Rattle.ac_c.proofs.walking.WalkingLemmas.{walks-ended, walks-none, walks-on}
use Rattle.ac_c.proofs.replace.write_text.Goals as goal

pub loop-found-init : goal.loop-found-init
loop-found-init g c =
    record {
      written = written-none _ _;
      lies = c.requires.lie;
      within = omega arith;
      cost =
          walks-none g.W.Walking.ahead _ _ c.requires.counted;
    }

pub copy_to-len-requires-in-Some : goal.copy_to-len-requires-in-Some
copy_to-len-requires-in-Some g c =
    let i = c.loop-found.invariant in
    let seen : left_of (g.W.Walking.walk c.loop-found.matches)
    ≡ c.in-Some.found ∷ left_of (g.W.Walking.walk c.next_match.new.self) = c.in-Some.ensures.yields in
    let lies = lies-first seen i.lies in
    let number : c.as_usize.result ≡ c.in-Some.found.pattern = search rules in
    written-fits _ _ _ _ _ _ _ _ _ _ _ _ _ _ i.written seen (rw c.start.ensures.value) c.copy_to-len.ensures.copied
    c.copy_to-len.ensures.end (rw number
    (sym (get_or-map (λ r. r.now) c.args.replacements.now c.in-Some.found.pattern _ [] lies.0))) c.requires.fits

pub returns-clause-cost : goal.returns-clause-cost
returns-clause-cost g c =
    walks-ended g.W.Walking.ahead _ _ _ _ _ _ c.loop-found.invariant.cost c.in_default.ensures.gives
    c.in_default.ensures.cost

pub loop-found-preserved : goal.loop-found-preserved
loop-found-preserved g c =
    let i = c.loop-found.invariant in
    let seen : left_of (g.W.Walking.walk c.loop-found.matches)
    ≡ c.in-Some.found ∷ left_of (g.W.Walking.walk c.next_match.new.self) = c.in-Some.ensures.yields in
    let lies = lies-first seen i.lies in
    let number : c.as_usize.result ≡ c.in-Some.found.pattern = search rules in
    record {
      written =
          rw c.end-at.ensures.value (written-turn _ _ _ _ _ _ _ _ _ _ _ _ _ _ _ _ i.written seen
          (rw c.start.ensures.value) c.copy_to-len.ensures.copied c.copy_to-len.ensures.end
          (rw number (sym (get_or-map (λ r. r.now) c.args.replacements.now c.in-Some.found.pattern _ [] lies.0)))
          c.copy_to-len-in-Some.ensures.copied c.copy_to-len-in-Some.ensures.end);
      lies = rw c.end-at.ensures.value lies.4;
      within = rw c.end-at.ensures.value lies.3;
      cost = walks-on g.W.Walking.ahead _ _ _ _ _ _ i.cost c.in-Some.ensures.cost;
    }

pub copy_to-len-requires : goal.copy_to-len-requires
copy_to-len-requires g c = grind (arith, common_steps)

pub copy_to-requires : goal.copy_to-requires
copy_to-requires g c = grind (arith, common_steps)

pub returns-clause-text : goal.returns-clause-text
returns-clause-text g c = grind (arith, common_steps)
