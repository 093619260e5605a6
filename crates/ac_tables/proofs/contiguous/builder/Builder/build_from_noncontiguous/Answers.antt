-- The new automaton is built as the noncontiguous one was.
use Rattle.std.proofs.Common.{◌≡◌, false, ap, sym, subst, ◌∙◌}
use Rattle.std.proofs.lemmas.Result.{err_from_is_err_and}
use Rattle.ac_input.specs.Limits.{IsWithinLimits}
use Rattle.std.specs.Prelude.{◌/◌, IfSome, IsTrue, is_some}
use Rattle.ac_input.specs.Alphabet.Classes.{ClassesLeadAlike}
use Rattle.ac_literal.specs.Openings.{AreOpenings}
use Rattle.ac_noncontiguous.specs.Nfa.Reads.{dictionary}
use Rattle.ac_noncontiguous.proofs.lemmas.CopyLemmas.{opened-copied, same-dictionary}
use Rattle.ac_tables.specs.Contiguous.Table.{AreWordsOf, AreSomeStates}
use Rattle.ac_tables.specs.Contiguous.Builder.{IsLaidOf, IsMadeFrom, contiguous_dense_depth}
use Rattle.ac_tables.specs.Contiguous.Build.{AreRowsWithin, IsRefusedFor}
use Rattle.ac_tables.specs.Contiguous.NearReads.{near_part, AreNearWithin}
use Rattle.ac_tables.specs.Source.{AreClassesFor}
use Rattle.ac_tables.proofs.contiguous.NearPlacesLemmas.{near-same-any}
use Rattle.ac_tables.proofs.contiguous.WordTableLemmas.{refused-laid}
use Rattle.ac_tables.proofs.contiguous.builder.Builder.build_from_noncontiguous.Goals as goal

pub returns-in_err-laid-clause-refused : goal.returns-in_err-laid-clause-refused
returns-in_err-laid-clause-refused c =
    let nfa = c.args.nfa.now in
    let classes = c.in_ok-classes.classes in
    let p = err_from_is_err_and c.from_residual-in_err-laid.result c.from_residual-in_err-laid.ensures.1 in
    let depth = c.unwrap_or-dense_depth.ensures in
    let own = subst (λ n. IsRefusedFor nfa n classes c.in_err-laid.field-0.0) depth c.in_err-laid.ensures.refused in
    let h = subst (λ s. IsRefusedFor nfa (contiguous_dense_depth s) classes c.in_err-laid.field-0.0) c.self.view_is
    own in
    let chosen = subst (λ s. AreClassesFor nfa s.byte_classes classes) c.self.view_is c.in_ok-classes.ensures.classes in
    rw (p.1, p.2) (refused-laid c.args.self.now nfa classes c.in_err-laid.field-0.0 chosen h)

pub from_parts-made-requires-clause-parts : goal.from_parts-made-requires-clause-parts
from_parts-made-requires-clause-parts c =
    let nfa = c.args.nfa.now in
    let made = c.in_ok-laid.ensures.made in
    let e = same-dictionary (dictionary nfa) (c.in_ok-lens.ensures ∙ c.pattern_lens.ensures)
    c.pairing-pairing.ensures.value c.match_kind-kind.ensures in
    record {
      within = subst (λ d. ∥ IsWithinLimits d ∥₁) (sym e) made.within;
      stands = subst (λ d. AreSomeStates d c.in_ok-laid.laid.table c.in_ok-laid.laid.rows) (sym e) made.stands;
      held = λ f is. c.prefilter.ensures.made f (sym (c.in_ok-prefilter.ensures ∙ c.prefilter.ensures.value) ∙ is)
          ∙ sym e;
      paired = c.pairing-pairing.ensures.paired;
    }

pub from_parts-made-requires-clause-opened : goal.from_parts-made-requires-clause-opened
from_parts-made-requires-clause-opened c =
    let nfa = c.args.nfa.now in
    let e = same-dictionary (dictionary nfa) (c.in_ok-lens.ensures ∙ c.pattern_lens.ensures)
    c.pairing-pairing.ensures.value c.match_kind-kind.ensures in
    subst (λ d. ∥ IfSome c.in_ok-openings.openings (AreOpenings d) ∥₁) (sym e)
    (opened-copied _ _ _ c.in_ok-openings.ensures c.openings.ensures)

pub add_near-requires-clause-alike : goal.add_near-requires-clause-alike
add_near-requires-clause-alike c =
    let nfa = c.args.nfa.now in
    let e = same-dictionary (dictionary nfa) (c.in_ok-lens.ensures ∙ c.pattern_lens.ensures)
    c.pairing-pairing.ensures.value c.match_kind-kind.ensures in
    let made = c.from_parts-made.ensures.made in
    let classes = ap (λ t. t.classes) made.table ∙ c.in_ok-laid.ensures.made.classed in
    subst (λ d. ClassesLeadAlike d c.from_parts-made.result.table.classes) (sym (made.dictionary ∙ e))
    (subst (ClassesLeadAlike (dictionary nfa)) (sym classes) c.in_ok-classes.ensures.serve.alike)

pub returns-clause-made : goal.returns-clause-made
returns-clause-made c =
    let nfa = c.args.nfa.now in
    let depth = c.unwrap_or-dense_depth.ensures in
    let made = subst (λ n. IsLaidOf nfa n c.self.inside.settings.row_memory c.in_ok-classes.classes c.in_ok-laid.laid)
    depth c.in_ok-laid.ensures.made in
    let e = same-dictionary (dictionary nfa) (c.in_ok-lens.ensures ∙ c.pattern_lens.ensures)
    c.pairing-pairing.ensures.value c.match_kind-kind.ensures in
    let parts = c.from_parts-made.ensures.made in
    let last = c.in_ok-add_near.ensures.made in
    let kept = c.set_lanes.ensures.made in
    let made_nfa = c.set_lanes.new.self in
    let words : made_nfa.table.words.items ≡ c.in_ok-laid.laid.table.words.items =
    ap (λ t. t.words.items) (kept.table ∙ last.table ∙ parts.table) in
    subst (λ s. IsMadeFrom s nfa made_nfa) c.self.view_is
    (record {
      built =
          ap (λ d. record { dictionary = d; deterministic = false; prefilter = made_nfa.prefilter; lanes = made_nfa.lanes })
          (kept.dictionary ∙ last.dictionary ∙ (parts.dictionary ∙ e))
          ∙ ap (λ f. record { dictionary = dictionary nfa; deterministic = false; prefilter = f; lanes = made_nfa.lanes })
          (kept.prefilter ∙ last.prefilter ∙ (parts.prefilter ∙ (c.in_ok-prefilter.ensures ∙ c.prefilter.ensures.value)));
      lanes = λ yes. subst (λ r. IsTrue (is_some r)) (sym kept.rows)
          (c.pays_for_lanes-lanes.ensures (sym c.set_lanes.ensures.value ∙ yes));
      classes = c.in_ok-classes.classes;
      serve = c.in_ok-classes.ensures.classes;
      words = subst (AreWordsOf nfa (contiguous_dense_depth c.self.inside.settings) c.in_ok-classes.classes) (sym words)
          made.words;
      within = made.small;
      rows = subst
          (AreRowsWithin nfa (contiguous_dense_depth c.self.inside.settings) c.in_ok-classes.classes
          c.self.inside.settings.row_memory) (sym (kept.rows ∙ last.rows ∙ parts.rows)) made.rows;
      near = subst (λ near. IfSome near (AreNearWithin made_nfa (c.self.inside.settings.row_memory / near_part)))
          (sym c.set_lanes.ensures.near)
          (near-same-any c.add_near.new.self made_nfa (c.self.inside.settings.row_memory / near_part) c.add_near.new.self.near
          kept c.in_ok-add_near.ensures.within);
    })
