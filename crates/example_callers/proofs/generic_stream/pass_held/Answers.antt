-- No match in what was read is left, and nothing more was read.
use Rattle.std.proofs.Common.{ap, length, ◌∙◌, refl, arith}
use Rattle.std.specs.List.{concat}
use Rattle.example_callers.proofs.generic_stream.pass_held.Goals as goal

pub loop-init : goal.loop-init
loop-init g c = record { reader = refl; read = refl }

pub loop-preserved : goal.loop-preserved
loop-preserved g c = record {
  reader = c.next_held_counted.ensures.reader.0 ∙ c.loop.invariant.reader;
  read = ap concat c.in-Some.ensures.finds.0.pieces ∙ c.loop.invariant.read;
}

pub returns-clause-reader : goal.returns-clause-reader
returns-clause-reader g c = c.next_held_counted.ensures.reader.0 ∙ c.loop.invariant.reader

pub returns-clause-all : goal.returns-clause-all
returns-clause-all g c =
    let read = ap length c.loop.invariant.read in
    c.in_default.ensures.finds.2 (omega (arith, read, c.requires))
