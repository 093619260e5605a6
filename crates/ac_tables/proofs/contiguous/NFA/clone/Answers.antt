-- A copy of the table holds the states of the old one.
use Rattle.std.proofs.Common.{sym, subst, ◌∙◌}
use Rattle.ac_input.specs.Dictionary.{dictionary_of}
use Rattle.ac_input.specs.Limits.{IsWithinLimits}
use Rattle.ac_noncontiguous.proofs.lemmas.CopyLemmas.{opened-copied, opened-same, held-same}
use Rattle.ac_tables.specs.Contiguous.Table.{AreSomeStates}
use Rattle.ac_tables.specs.Contiguous.Reads.{contiguous_dictionary}
use Rattle.std.specs.Prelude.{IfSome}
use Rattle.ac_tables.specs.Contiguous.Near.{AreNearRows}
use Rattle.ac_tables.proofs.contiguous.NearCopyLemmas.{near-copied}
use Rattle.ac_tables.proofs.contiguous.WordTableLemmas.{states-copied}
use Rattle.ac_tables.proofs.contiguous.NFA.clone.Goals as goal

pub from_parts-copy-requires-clause-parts : goal.from_parts-copy-requires-clause-parts
from_parts-copy-requires-clause-parts c =
    let a = c.args.self.now in
    let same = sym c.in_ok-lens.ensures in
    record {
      within = subst (λ patterns. ∥ IsWithinLimits (dictionary_of patterns a.pairing a.kind) ∥₁) same a.within;
      stands =
          subst (λ patterns. AreSomeStates (dictionary_of patterns a.pairing a.kind) c.in_ok-table.table
          c.in_ok-rows.rows)
          same (states-copied (contiguous_dictionary a) a.table c.in_ok-table.table a.rows c.in_ok-rows.rows
          c.in_ok-table.ensures c.in_ok-rows.ensures a.stands);
      held = held-same a.pairing a.kind c.in_ok-lens.ensures (c.in_ok-prefilter.ensures ∙ c.as_ref.ensures.value)
          a.held;
      paired = a.paired;
    }

pub from_parts-copy-requires-clause-opened : goal.from_parts-copy-requires-clause-opened
from_parts-copy-requires-clause-opened c = let a = c.args.self.now in
    opened-same c.in_ok-openings.openings a.pairing a.kind c.in_ok-lens.ensures
    (opened-copied _ _ _ c.in_ok-openings.ensures a.opened)

pub set_near-requires : goal.set_near-requires
set_near-requires c =
    let a = c.args.self.now in
    let made = c.from_parts-copy.ensures.made in
    let same = sym c.in_ok-lens.ensures in
    let near = near-copied (contiguous_dictionary a) a.table c.in_ok-table.table a.near c.in_ok-near.near
    c.in_ok-table.ensures c.in_ok-near.ensures a.near_lead in
    let here = subst (λ patterns. ∥ IfSome c.in_ok-near.near
    (AreNearRows (dictionary_of patterns a.pairing a.kind) c.in_ok-table.table) ∥₁) same near in
    subst (λ t. ∥ IfSome c.in_ok-near.near (AreNearRows (contiguous_dictionary c.from_parts-copy.result) t) ∥₁)
    (sym made.table)
    (subst (λ m. ∥ IfSome c.in_ok-near.near (AreNearRows m c.in_ok-table.table) ∥₁) (sym made.dictionary) here)
