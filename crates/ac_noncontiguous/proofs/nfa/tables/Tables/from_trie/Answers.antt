-- The tables are those of every dictionary whose trie and links these are.
use Rattle.std.proofs.Common.{length, refl, sym, subst, arith, rules}
use Rattle.std.proofs.lemmas.Result.{err_from_is_err_and}
use Rattle.ac_input.specs.Limits.{HasStates}
use Rattle.ac_noncontiguous.specs.Links.{by_state}
use Rattle.ac_noncontiguous.specs.Compiler.Assembly.{AreKept}
use Rattle.ac_noncontiguous.proofs.nfa.CountLemmas.{stand-counts}
use Rattle.ac_noncontiguous.proofs.nfa.MeaningLemmas.{text_of, are-texts}
use Rattle.ac_noncontiguous.proofs.nfa.TableLemmas.{setting, are-transitions, are-rows, are-failures, are-lists}
use Rattle.ac_noncontiguous.proofs.nfa.ByteLemmas.{trie-classed}
use Rattle.ac_noncontiguous.proofs.compiler.RowedLemmas.{rows-below}
use Rattle.ac_noncontiguous.proofs.nfa.tables.Tables.from_trie.Goals as goal

pub returns-clause-stands : goal.returns-clause-stands
returns-clause-stands c m t l =
    let trie = c.args.trie in
    let links = c.args.links in
    let numbering = c.in_ok-numbering.numbering in
    let made = c.in_ok-numbering.ensures.made in
    let offsets = c.in_ok-layout.layout.offsets.items in
    let row_offsets = c.in_ok-rows.rows.offsets.items in
    let states = c.in_ok-states.states.items in
    let outlines = c.in_ok-outlines.outlines in
    let s = setting t l made c.in_ok-numbering.ensures.runs c.start_back-back.ensures in
    let kept : AreKept outlines.items numbering.at.items (by_state links.ranges) offsets row_offsets states =
    rw (
      c.deref-3.ensures.value,
      c.deref-4.ensures.value,
      c.deref-5.ensures.value,
      c.deref-6.ensures.value,
    ) at c.in_ok-states.ensures in (
      text_of trie numbering,
      record {
        len = length numbering.at.items;
        counted = kept.counted;
        few = omega (arith, made.places.counted, trie.few);
        has = subst (HasStates m) (sym made.places.counted) (stand-counts trie.tree t.stands);
        texts = are-texts s;
        transitions = are-transitions s c.in_ok-layout.ensures kept;
        rows = are-rows s l c.in_ok-rows.ensures.rows kept;
        failures = are-failures s l c.in_ok-outlines.ensures kept;
        lists = are-lists s l c.in_ok-numbering.ensures.matches kept;
      },
    )

pub returns-clause-rowed : goal.returns-clause-rowed
returns-clause-rowed c =
    let trie = c.args.trie in
    let links = c.args.links in
    let numbering = c.in_ok-numbering.numbering in
    let offsets = c.in_ok-layout.layout.offsets.items in
    let row_offsets = c.in_ok-rows.rows.offsets.items in
    let states = c.in_ok-states.states.items in
    let outlines = c.in_ok-outlines.outlines in
    let kept : AreKept outlines.items numbering.at.items (by_state links.ranges) offsets row_offsets states =
    rw (
      c.deref-3.ensures.value,
      c.deref-4.ensures.value,
      c.deref-5.ensures.value,
      c.deref-6.ensures.value,
    ) at c.in_ok-states.ensures in
    rows-below refl c.in_ok-numbering.ensures.made c.in_ok-numbering.ensures.runs c.requires.order
    c.in_ok-rows.ensures.rows (rw c.deref-2.ensures.value at c.in_ok-rows.ensures.rowed) c.in_ok-outlines.ensures kept

pub returns-clause-classed : goal.returns-clause-classed
returns-clause-classed c m t = trie-classed c.classes-classes.ensures.made t

pub returns-in_err-layout-clause-stands : goal.returns-in_err-layout-clause-stands
returns-in_err-layout-clause-stands c =
    let p = err_from_is_err_and c.from_residual-in_err-layout.result c.from_residual-in_err-layout.ensures.1 in
    rw p.1 (search rules)

pub returns-in_err-layout-clause-classed : goal.returns-in_err-layout-clause-classed
returns-in_err-layout-clause-classed c =
    let p = err_from_is_err_and c.from_residual-in_err-layout.result c.from_residual-in_err-layout.ensures.1 in
    rw p.1 (search rules)

pub returns-in_err-layout-clause-rowed : goal.returns-in_err-layout-clause-rowed
returns-in_err-layout-clause-rowed c =
    let p = err_from_is_err_and c.from_residual-in_err-layout.result c.from_residual-in_err-layout.ensures.1 in
    rw p.1 (search rules)
