use Rattle.std.proofs.Common.{◌+◌, [], ◌∷◌, length, refl, ap, ◌∙◌, arith}
use Rattle.std.specs.Prelude.{slice_index}
use Rattle.ac_input.specs.Alphabet.{class}
use Rattle.ac_automaton.proofs.automaton.NamedLemmas.{cost-looks}
use Rattle.ac_tables.specs.Contiguous.ByRows.{by_rows_built_as, IsRowRead}
use Rattle.ac_tables.proofs.contiguous.ByRowLemmas.{reached-room, row-leads}
use Rattle.ac_tables.proofs.contiguous.by_rows.ByRowsLookUp.look_up.Goals as goal

pub next-requires-clause-within : goal.next-requires-clause-within
next-requires-clause-within c =
    let room = reached-room c.args.self.now c.args.anchored c.args.sid c.args.byte c.ranges.byte.fits c.requires in
    let all = ap length c.deref.ensures.value in
    omega (arith, room, all)

pub returns-clause-next : goal.returns-clause-next
returns-clause-next c =
    let by = c.args.self.now in
    row-leads by c.args.anchored c.args.sid c.args.byte c.next.result c.ranges.byte.fits
    (c.next.ensures ∙ ap (λ trans. slice_index trans (c.args.sid + class by.nfa.now.table.classes c.args.byte))
    c.deref.ensures.value)

pub returns-clause-cost : goal.returns-clause-cost
returns-clause-cost c =
    cost-looks (by_rows_built_as c.args.self.now) (IsRowRead c.args.self.now) (c.args.byte ∷ []) refl c.look.ensures
