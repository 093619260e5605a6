-- The row is that of the place, and the rows between the two bounds are those of the places between the two given ones.
use Rattle.std.proofs.Common.{sym, subst}
use Rattle.ac_input.specs.declared.search.Anchored.TheVariants.{No}
use Rattle.ac_automaton.specs.Automaton.{IsReached}
use Rattle.ac_automaton.specs.Look.{ReadsTo}
use Rattle.ac_tables.specs.Contiguous.Reads.{contiguous_built_as, IsContiguousRead}
use Rattle.ac_tables.proofs.contiguous.NFA.read_rows.Goals as goal

pub read_rows_from-requires-clause-reached : goal.read_rows_from-requires-clause-reached
read_rows_from-requires-clause-reached c =
    subst (IsReached (IsContiguousRead c.args.self.now No)) (sym c.in-Some.ensures.1) c.requires.reached

pub returns-in-Some-between : goal.returns-in-Some-between
returns-in-Some-between c =
    let a = c.args.self.now in
    subst (λ sid. ReadsTo (contiguous_built_as a) (IsContiguousRead a) No c.args.to sid c.args.bytes.now
    c.read_rows_from.result c.args.steps.now c.read_rows_from.new.steps) c.in-Some.ensures.1
    (c.read_rows_from.ensures c.args.to c.in-Some-between.ensures)
