-- Each turn moves one match into the buffer.
use Rattle.std.proofs.Common.{◌≡◌, ◌+◌, ◌∷◌, ap, drop, length, refl, sym, ◌∙◌, arith}
use Rattle.ac_automaton.specs.InMemory.Iter.{left_of}
use Rattle.ac_c.proofs.walk.FillLemmas.{fill-end, fill-enough, fill-given, fill-rest}
use Rattle.ac_c.proofs.walking.WalkingLemmas.{walks-none, walks-on}
use Rattle.ac_c.proofs.walk.fill.Goals as goal

pub loop-at-init : goal.loop-at-init
loop-at-init g c =
    record {
      rest = refl;
      counted = omega arith;
      enough = omega arith;
      given = refl;
      cost = walks-none g.W.Walking.ahead _ _ c.requires;
    }

pub returns-in-None : goal.returns-in-None
returns-in-None g c =
    let walk = g.W.Walking.walk in let n = c.in-None.ensures in let i = c.loop-at.invariant in
    let end : c.loop-at.at ≡ length (left_of (walk c.args.matches.now)) =
    fill-end _ c.loop-at.at (sym i.rest ∙ n.yields.0) i.enough in
    record {
      given = record { count = omega arith; given = i.given };
      past =
          let same = ap (λ w. w.given) n.gives.1 in
          (n.yields.1 ∙ sym (sym i.rest ∙ n.yields.0), omega (arith, same, i.counted));
      cost = walks-on g.W.Walking.ahead _ _ _ _ _ _ i.cost n.cost;
    }

pub loop-at-preserved : goal.loop-at-preserved
loop-at-preserved g c =
    let walk = g.W.Walking.walk in let n = c.in-Some.ensures in let i = c.loop-at.invariant in
    let next : drop c.loop-at.at (left_of (walk c.args.matches.now))
    ≡ c.in-Some.found ∷ left_of (walk c.next_match.new.self) = sym i.rest ∙ n.yields in
    record {
      rest = fill-rest _ c.loop-at.at c.in-Some.found _ next;
      counted = let more = ap (λ w. w.given) n.gives.1 in omega (arith, more, i.counted);
      enough = fill-enough _ c.loop-at.at c.in-Some.found _ next;
      given =
          rw c.from_match.ensures (fill-given _ c.loop-at.out c.loop-at.at c.in-Some.found _ (omega arith) next
          i.given);
      cost = walks-on g.W.Walking.ahead _ _ _ _ _ _ i.cost n.cost;
    }
