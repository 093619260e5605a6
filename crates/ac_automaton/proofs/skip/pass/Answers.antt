-- The bytes before a place were passed, and those after it that are too few for an opening were read.
use Rattle.std.proofs.Common.{◌-◌, drop, take, refl, subst, arith}
use Rattle.ac_automaton.specs.Skip.{ReadsAll}
use Rattle.ac_automaton.proofs.skip.pass.Goals as goal

pub returns : goal.returns
returns g c =
    let less = c.min-passed.ensures in
    let size = c.len-end.ensures in
    let wide = c.args.openings.now.wide in
    let room = c.requires.room in
    record {
      skipped = c.min-passed.result;
      end = c.len-end.result - 1;
      taken = refl;
      within = omega (arith, less, size, room);
      short = omega (arith, size, wide);
      none = λ m are at early. c.pass.ensures.passed m are at (omega (arith, less, early));
      between = c.looks.new.self;
      looks = c.looks.ensures;
      reads = subst (λ n. ReadsAll g.A.LookUp c.args.automaton.now c.args.start
          (take n (drop c.min-passed.result c.args.bytes.now)) c.read_all.result c.looks.new.self c.read_all.new.steps)
          (omega arith) c.read_all.ensures;
    }
