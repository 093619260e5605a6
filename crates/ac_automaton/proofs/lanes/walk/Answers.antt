-- Each lane reads the same number of bytes, and each byte takes one look.
use Rattle.std.proofs.Common.{◌≡◌, ◌*◌, arith, subst}
use Rattle.ac_input.specs.declared.search.Anchored.TheVariants.{No}
use Rattle.ac_input.specs.Steps.{Done}
use Rattle.ac_automaton.proofs.lanes.CountLemmas.{done-none, done-turn, read-by}
use Rattle.ac_automaton.proofs.lanes.LaneLemmas.{turn-none, turn-on, turn-ends, turn-all}
use Rattle.ac_automaton.proofs.lanes.walk.Goals as goal

pub loop-read-init : goal.loop-read-init
loop-read-init g c =
    let R = g.A.LookUp.Reaches c.args.automaton.now No in
    let w = c.requires.walked in
    record {
      a = turn-none R c.args.bytes.now c.args.last c.args.lanes.a w.a;
      b = turn-none R c.args.bytes.now c.args.last c.args.lanes.b w.b;
      c = turn-none R c.args.bytes.now c.args.last c.args.lanes.c w.c;
      d = turn-none R c.args.bytes.now c.args.last c.args.lanes.d w.d;
      counted = done-none c.args.steps.now;
    }

pub loop-read-preserved : goal.loop-read-preserved
loop-read-preserved g c =
    let R = g.A.LookUp.Reaches c.args.automaton.now No in
    let bytes = c.args.bytes.now in
    let last = c.args.last in
    let inv = c.loop-read.invariant in
    let left = c.requires.left.0 in
    let past = c.any_up_to.ensures c.if-any_up_to.false in
    let some = c.requires.left.1 in
    record {
      a = turn-on R bytes last c.args.lanes.a c.loop-read.read c.loop-read.a c.step-a.result inv.a
          (omega (arith, left.a some)) c.step-a.ensures.next past.0;
      b = turn-on R bytes last c.args.lanes.b c.loop-read.read c.loop-read.b c.step-b.result inv.b
          (omega (arith, left.b some)) c.step-b.ensures.next past.1;
      c = turn-on R bytes last c.args.lanes.c c.loop-read.read c.loop-read.c c.step-c.result inv.c
          (omega (arith, left.c some)) c.step-c.ensures.next past.2;
      d = turn-on R bytes last c.args.lanes.d c.loop-read.read c.loop-read.d c.step-d.result inv.d
          (omega (arith, left.d some)) c.step-d.ensures.next past.3;
      counted = done-turn c.loop-read.read inv.counted c.step-a.ensures.cost c.step-b.ensures.cost
          c.step-c.ensures.cost c.step-d.ensures.cost;
    }

pub returns-then-any_up_to-clause-gone : goal.returns-then-any_up_to-clause-gone
returns-then-any_up_to-clause-gone g c =
    let R = g.A.LookUp.Reaches c.args.automaton.now No in
    let bytes = c.args.bytes.now in
    let last = c.args.last in
    let inv = c.loop-read.invariant in
    let left = c.requires.left.0 in
    let some = c.requires.left.1 in
    record {
      a = turn-ends R bytes last c.args.lanes.a c.loop-read.read c.loop-read.a c.step-a.result c.on.result.a inv.a
          (omega (arith, left.a some)) c.step-a.ensures.next c.on.ensures.a;
      b = turn-ends R bytes last c.args.lanes.b c.loop-read.read c.loop-read.b c.step-b.result c.on.result.b inv.b
          (omega (arith, left.b some)) c.step-b.ensures.next c.on.ensures.b;
      c = turn-ends R bytes last c.args.lanes.c c.loop-read.read c.loop-read.c c.step-c.result c.on.result.c inv.c
          (omega (arith, left.c some)) c.step-c.ensures.next c.on.ensures.c;
      d = turn-ends R bytes last c.args.lanes.d c.loop-read.read c.loop-read.d c.step-d.result c.on.result.d inv.d
          (omega (arith, left.d some)) c.step-d.ensures.next c.on.ensures.d;
    }

pub returns-clause-gone : goal.returns-clause-gone
returns-clause-gone g c =
    let R = g.A.LookUp.Reaches c.args.automaton.now No in
    let bytes = c.args.bytes.now in
    let inv = c.loop-read.invariant in
    let some = c.requires.left.1 in
    record {
      a = turn-all R bytes c.args.last c.args.lanes.a c.loop-read.read c.args.len c.loop-read.a c.on-2.result.a inv.a
          (omega arith) some c.on-2.ensures.a;
      b = turn-all R bytes c.args.last c.args.lanes.b c.loop-read.read c.args.len c.loop-read.b c.on-2.result.b inv.b
          (omega arith) some c.on-2.ensures.b;
      c = turn-all R bytes c.args.last c.args.lanes.c c.loop-read.read c.args.len c.loop-read.c c.on-2.result.c inv.c
          (omega arith) some c.on-2.ensures.c;
      d = turn-all R bytes c.args.last c.args.lanes.d c.loop-read.read c.args.len c.loop-read.d c.on-2.result.d inv.d
          (omega arith) some c.on-2.ensures.d;
    }

pub returns-then-any_up_to-clause-read : goal.returns-then-any_up_to-clause-read
returns-then-any_up_to-clause-read g c =
    let on = c.on.ensures in
    read-by c.args.lanes c.on.result _ _ _ _ _ on.a on.b on.c on.d
    (done-turn c.loop-read.read c.loop-read.invariant.counted c.step-a.ensures.cost c.step-b.ensures.cost
    c.step-c.ensures.cost c.step-d.ensures.cost)

pub returns-clause-read : goal.returns-clause-read
returns-clause-read g c =
    let on = c.on-2.ensures in
    let all : c.loop-read.read ≡ c.args.len = omega arith in
    read-by c.args.lanes c.on-2.result c.args.len _ _ _ _ on.a on.b on.c on.d
    (subst (λ n. Done (4 * n) 0 0 c.args.steps.now c.loop-read.steps) all c.loop-read.invariant.counted)
