-- The copy has a copy of the table, and is built as the DFA was.
use Rattle.std.proofs.Common.{◌≡◌, ◌^◌, true, sym, ap, subst, ◌∙◌}
use Rattle.ac_input.specs.Dictionary.{dictionary_of}
use Rattle.ac_noncontiguous.proofs.lemmas.CopyLemmas.{opened-copied, opened-same}
use Rattle.ac_tables.specs.Dfa.Reads.{dfa_dictionary}
use Rattle.ac_tables.specs.Dfa.Table.{AreDfaParts}
use Rattle.ac_tables.proofs.dfa.CopyLemmas.{copy-rows}
use Rattle.ac_tables.proofs.dfa.DFA.clone.Goals as goal

pub from_parts-copy-requires-clause-parts : goal.from_parts-copy-requires-clause-parts
from_parts-copy-requires-clause-parts c =
    let a = c.args.self.now in
    let same : dictionary_of c.in_ok-lens.lens a.pairing a.kind ≡ dfa_dictionary a =
    ap (λ patterns. dictionary_of patterns a.pairing a.kind) c.in_ok-lens.ensures in
    subst (λ m. AreDfaParts m c.in_ok-table.table c.in_ok-prefilter.prefilter) (sym same)
    (record {
      stands = copy-rows (dfa_dictionary a) a.table c.in_ok-table.table c.in_ok-table.ensures a.stands;
      held = λ f is. a.held f (sym (c.in_ok-prefilter.ensures ∙ c.as_ref.ensures.value) ∙ is);
      paired = a.paired;
    })

pub from_parts-copy-requires-clause-opened : goal.from_parts-copy-requires-clause-opened
from_parts-copy-requires-clause-opened c = let a = c.args.self.now in
    opened-same c.in_ok-openings.openings a.pairing a.kind c.in_ok-lens.ensures
    (opened-copied _ _ _ c.in_ok-openings.ensures a.opened)

pub returns : goal.returns
returns c =
    let a = c.args.self.now in
    let made = c.from_parts-copy.ensures in
    let kept = c.set_lanes.ensures in
    let table = c.in_ok-table.ensures in
    let same : dictionary_of c.in_ok-lens.lens a.pairing a.kind ≡ dfa_dictionary a =
    ap (λ patterns. dictionary_of patterns a.pairing a.kind) c.in_ok-lens.ensures in
    record {
      built = λ j. record {
        dictionary = (kept.dictionary ∙ made.dictionary ∙ same) j;
        deterministic = true;
        prefilter = (kept.prefilter ∙ made.prefilter ∙ (c.in_ok-prefilter.ensures ∙ c.as_ref.ensures.value)) j;
        lanes = kept.lanes j;
      };
      starts = ap (λ t. t.kind) (kept.table ∙ made.table) ∙ table.kind;
      classes = ap (λ t. t.classes) (kept.table ∙ made.table) ∙ table.classes;
      stride = ap (λ t. 2 ^ t.stride2) (kept.table ∙ made.table) ∙ ap (λ e. 2 ^ e) table.stride2;
      transitions = ap (λ t. t.trans.items) (kept.table ∙ made.table) ∙ table.trans;
    }
