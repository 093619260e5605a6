-- The row is made from the failure's row.
use Rattle.std.proofs.Common.{◌≡◌, ◌∙◌, length, refl, ap, subst, arith}
use Rattle.ac_noncontiguous.specs.Trie.Tree.{depth}
use Rattle.ac_noncontiguous.specs.Compiler.Layout.{AreWithFailures, IsRowAppended}
use Rattle.ac_noncontiguous.proofs.lemmas.IndexLemmas.{read-there}
use Rattle.ac_noncontiguous.proofs.compiler.NumberingLemmas.{number-read}
use Rattle.ac_noncontiguous.proofs.compiler.RowLemmas.{lead-alike, failures-alike, failure-within, have-more}
use Rattle.ac_noncontiguous.proofs.compiler.RowedLemmas.{rowed-added}
use Rattle.ac_noncontiguous.proofs.compiler.rows.Rows.push_state.Goals as goal

pub with_failures-leads-requires : goal.with_failures-leads-requires
with_failures-leads-requires c b small =
    let offsets = c.args.self.now.offsets.items in
    let f = failure-within c.args.id c.requires.numbering c.requires.links c.failure.ensures in
    let from = read-there offsets (omega (arith, f.0, c.requires.have.counted)) c.as_usize.ensures.value
    c.index-from.ensures in
    let h = c.requires.have.right c.failure.result (omega (arith, f.0, c.requires.have.counted)) f.1
    (λ e. c.if-from.false (from ∙ e)) b small in
    omega (arith, h.0, from, ap length c.deref.ensures.value)

pub push_row-requires : goal.push_row-requires
push_row-requires c =
    let own = c.requires.numbering.numbers.numbers c.args.id c.requires.within in
    let is = number-read c.args.numbering.now c.requires.numbering c.requires.within c.as_usize-2.ensures.value
    c.index.ensures in
    failures-alike c.args.classes.now c.edges-edges.result c.deref.result.now c.with_failures-leads.result
    c.index-from.result.now
    (lead-alike c.args.classes.now c.edges-edges.result c.requires.classes
    (λ e. omega (arith, e, own.0, is, c.as_usize-state.ensures.value)) c.edges-edges.ensures)
    c.with_failures-leads.ensures

pub index_mut-requires : goal.index_mut-requires
index_mut-requires c =
    let own = c.requires.numbering.numbers.numbers c.args.id c.requires.within in
    let is = number-read c.args.numbering.now c.requires.numbering c.requires.within c.as_usize-2.ensures.value
    c.index.ensures in
    omega (arith, own.1, is, c.as_usize-state.ensures.value, c.requires.have.counted)

pub returns-clause-have : goal.returns-clause-have
returns-clause-have c =
    let offsets = c.args.self.now.offsets.items in
    let rows = c.args.self.now.rows.items in
    let f = failure-within c.args.id c.requires.numbering c.requires.links c.failure.ensures in
    let from = read-there offsets (omega (arith, f.0, c.requires.have.counted)) c.as_usize.ensures.value
    c.index-from.ensures in
    let is = c.as_usize-state.ensures.value
    ∙ number-read c.args.numbering.now c.requires.numbering c.requires.within c.as_usize-2.ensures.value c.index.ensures
    in
    let with : AreWithFailures c.args.classes.now c.edges-edges.result rows c.index-from.result.now
    c.with_failures-leads.result =
    subst (λ xs.
    AreWithFailures c.args.classes.now c.edges-edges.result xs c.index-from.result.now c.with_failures-leads.result)
    c.deref.ensures.value c.with_failures-leads.ensures in
    have-more c.args.trie.now c.args.numbering.now c.args.links.now c.args.back c.args.id c.as_usize-state.result
    c.failure.result c.index-from.result.now c.len-row.result c.args.classes.now offsets c.edges-edges.result
    c.with_failures-leads.result rows c.push_row.new.rows.items
    c.requires.numbering c.requires.links c.requires.within is
    (record { fails = c.failure.ensures; is = from; some = c.if-from.false }) c.edges-edges.ensures
    (record { with = with; at = omega (arith, c.len-row.ensures); appended = c.in_ok-push_row.ensures }) c.requires.have

pub returns-clause-rowed : goal.returns-clause-rowed
returns-clause-rowed c =
    let own = c.requires.numbering.numbers.numbers c.args.id c.requires.within in
    let is = c.as_usize-state.ensures.value
    ∙ number-read c.args.numbering.now c.requires.numbering c.requires.within c.as_usize-2.ensures.value c.index.ensures
    in
    let appended : IsRowAppended c.args.classes.now c.with_failures-leads.result 256 c.args.self.now.rows.items
    c.push_row.new.rows.items = c.in_ok-push_row.ensures in
    let deep : c.state-depth.result.depth ≡ depth c.args.trie.now.states.items c.args.id =
    ap (λ s. s.depth) c.state-depth.ensures in
    rowed-added refl is
    (omega (arith, own.1, is, c.requires.have.counted)) (omega (arith, deep)) (omega arith) appended.keeps.longer

pub edges-edges-requires-clause-within : goal.edges-edges-requires-clause-within
edges-edges-requires-clause-within c =
    let own = c.requires.numbering.numbers.numbers c.args.id c.requires.within in
    let is = number-read c.args.numbering.now c.requires.numbering c.requires.within c.as_usize-2.ensures.value
    c.index.ensures in
    omega (arith, own.1, is, c.as_usize-state.ensures.value)
