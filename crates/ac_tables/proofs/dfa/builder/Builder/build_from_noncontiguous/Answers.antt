-- The table is made from the automaton, and the DFA is built as the automaton was.
use Rattle.std.proofs.Common.{sym, subst, refl, ◌∙◌}
use Rattle.std.proofs.lemmas.Result.{err_from_is_err_and}
use Rattle.std.specs.Prelude.{IfSome}
use Rattle.ac_literal.specs.Openings.{AreOpenings}
use Rattle.ac_noncontiguous.specs.Nfa.Reads.{dictionary, built_as}
use Rattle.ac_noncontiguous.proofs.lemmas.CopyLemmas.{opened-copied, same-dictionary}
use Rattle.ac_tables.specs.Dfa.Made.{IsTableFor, IsTableRefused}
use Rattle.ac_tables.specs.Dfa.Reads.{IsDfaMadeOf}
use Rattle.ac_tables.proofs.dfa.BuildLemmas.{dfa-of, refused-of, parts-of}
use Rattle.ac_tables.proofs.dfa.builder.Builder.build_from_noncontiguous.Goals as goal

pub returns-in_err-table-clause-refused : goal.returns-in_err-table-clause-refused
returns-in_err-table-clause-refused c =
    let p = err_from_is_err_and c.from_residual.result c.from_residual.ensures.1 in
    let h = subst (λ s. IsTableRefused c.args.nfa.now s.start_kind s.byte_classes c.in_err-table.field-0.0)
    c.self.view_is c.in_err-table.ensures.refused in
    rw (p.1, p.2) (refused-of c.args.self.now c.args.nfa.now c.in_err-table.field-0.0 h)

pub from_parts-dfa-requires-clause-parts : goal.from_parts-dfa-requires-clause-parts
from_parts-dfa-requires-clause-parts c =
    let nfa = c.args.nfa.now in
    let same = same-dictionary (dictionary nfa) (c.in_ok-lens.ensures ∙ c.pattern_lens.ensures) c.pairing.ensures.value
    c.match_kind.ensures in
    parts-of nfa c.in_ok-table.table c.in_ok-prefilter.prefilter _ same c.in_ok-table.ensures.made.made
    c.prefilter.ensures.made (c.in_ok-prefilter.ensures ∙ c.prefilter.ensures.value)

pub from_parts-dfa-requires-clause-opened : goal.from_parts-dfa-requires-clause-opened
from_parts-dfa-requires-clause-opened c =
    let nfa = c.args.nfa.now in
    let same = same-dictionary (dictionary nfa) (c.in_ok-lens.ensures ∙ c.pattern_lens.ensures) c.pairing.ensures.value
    c.match_kind.ensures in
    subst (λ m. ∥ IfSome c.in_ok-openings.openings (AreOpenings m) ∥₁) (sym same)
    (opened-copied _ _ _ c.in_ok-openings.ensures c.openings.ensures)

pub returns-clause-built : goal.returns-clause-built
returns-clause-built c =
    let nfa = c.args.nfa.now in
    let same = same-dictionary (dictionary nfa) (c.in_ok-lens.ensures ∙ c.pattern_lens.ensures) c.pairing.ensures.value
    c.match_kind.ensures in
    let h = subst (λ s. IsTableFor nfa s.start_kind s.byte_classes c.in_ok-table.table) c.self.view_is
    c.in_ok-table.ensures.made in
    let parts = c.from_parts-dfa.ensures in
    let kept = c.set_lanes.ensures in
    let dfa = c.set_lanes.new.self in
    let made : IsDfaMadeOf (dictionary nfa) c.in_ok-table.table (built_as nfa).prefilter dfa.lanes dfa = record {
      dictionary = kept.dictionary ∙ parts.dictionary ∙ same;
      table = kept.table ∙ parts.table;
      prefilter = kept.prefilter ∙ parts.prefilter ∙ (c.in_ok-prefilter.ensures ∙ c.prefilter.ensures.value);
      lanes = refl;
    } in
    dfa-of c.args.self.now nfa c.in_ok-table.table dfa h made
