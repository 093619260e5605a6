-- The rows lead where the words do.
use Rattle.std.proofs.Common.{refl, sym, subst}
use Rattle.std.proofs.Math.Logic.{∥∥₁_map}
use Rattle.ac_input.specs.declared.search.Anchored.TheVariants.{No}
use Rattle.ac_automaton.proofs.lemmas.CursorLemmas.{reached-on}
use Rattle.ac_tables.specs.Contiguous.ByRows.{IsRowRead, ReadsRows}
use Rattle.ac_tables.proofs.contiguous.ByRowLemmas.{reached-row, row-read, reads-by_rows}
use Rattle.ac_tables.proofs.contiguous.NFA.read_rows_from.Goals as goal

pub read_until-stop-requires : goal.read_until-stop-requires
read_until-stop-requires c =
    ∥∥₁_map c.requires.reached (λ w. (w.0, row-read _ No w.0 c.args.row c.requires.row refl w.1))

pub place-requires : goal.place-requires
place-requires c =
    reached-row _ No c.read_until-stop.result.sid
    (reached-on (IsRowRead _ No) c.args.row _ c.read_until-stop.result.sid
    (∥∥₁_map c.requires.reached (λ w. (w.0, row-read _ No w.0 c.args.row c.requires.row refl w.1)))
    c.read_until-stop.ensures.goes.reads)

pub returns : goal.returns
returns c =
    subst (λ sid. ReadsRows c.args.self.now c.args.rows.now c.args.row c.args.bytes.now c.args.two
    (record { sid = sid; taken = c.read_until-stop.result.taken }) c.args.steps.now c.read_until-stop.new.steps)
    (sym c.place.ensures)
    (reads-by_rows _ c.args.row c.args.bytes.now c.args.two c.read_until-stop.result c.args.steps.now
    c.read_until-stop.new.steps c.requires.row c.requires.reached c.read_until-stop.ensures)
