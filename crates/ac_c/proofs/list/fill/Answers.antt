-- Each turn moves one occurrence into the buffer.
use Rattle.std.proofs.Common.{◌≡◌, ◌∷◌, drop, length, refl, sym, ◌∙◌, arith}
use Rattle.ac_c.specs.List.{wanted_of}
use Rattle.ac_c.proofs.list.RunLemmas.{last-written, runs-none, runs-on}
use Rattle.ac_c.proofs.walk.FillLemmas.{fill-end, fill-enough, fill-given, fill-rest}
use Rattle.ac_c.proofs.list.fill.Goals as goal

pub loop-at-init : goal.loop-at-init
loop-at-init c =
    record {
      rest = refl;
      enough = omega arith;
      given = refl;
      cost = runs-none _ _ c.requires;
      counted =
          λ some. absurd (omega (arith, some));
      near = λ some. absurd (omega (arith, some));
    }

pub returns-in-None : goal.returns-in-None
returns-in-None c =
    let i = c.loop-at.invariant in
    let end : c.loop-at.at ≡ length (wanted_of c.args.haystack.now c.args.wanted c.args.matches.now) =
    fill-end _ c.loop-at.at (sym i.rest ∙ c.in-None.ensures.wanted.0) i.enough in
    record {
      given = record { count = omega arith; given = i.given };
      cost = runs-on _ _ _ _ _ _ i.cost c.in-None.ensures.cost;
      counted =
          record {
            last = λ some full. absurd (omega arith);
            near = λ some full. absurd (omega arith);
            all =
                λ less. c.in-None.ensures.counted;
          };
    }

pub loop-at-preserved : goal.loop-at-preserved
loop-at-preserved c =
    let i = c.loop-at.invariant in
    let next : drop c.loop-at.at (wanted_of c.args.haystack.now c.args.wanted c.args.matches.now)
    ≡ c.in-Some.found ∷ wanted_of c.args.haystack.now c.args.wanted c.next_wanted.new.matches =
    sym i.rest ∙ c.in-Some.ensures.wanted in
    record {
      rest = fill-rest _ c.loop-at.at c.in-Some.found _ next;
      enough = fill-enough _ c.loop-at.at c.in-Some.found _ next;
      given =
          rw c.from_match.ensures (fill-given _ c.loop-at.out c.loop-at.at c.in-Some.found _ (omega arith) next
          i.given);
      cost = runs-on _ _ _ _ _ _ i.cost c.in-Some.ensures.cost;
      counted =
          λ some. rw c.from_match.ensures (rw (last-written c.args.wanted.place c.loop-at.out c.loop-at.at c.in-Some.found
          (omega arith)) c.in-Some.ensures.counted);
      near =
          λ some. rw c.from_match.ensures (rw (last-written c.args.wanted.place c.loop-at.out c.loop-at.at c.in-Some.found
          (omega arith)) c.in-Some.ensures.near);
    }
