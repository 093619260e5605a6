-- One state after another, each after its failure; then the anchored start.
use Rattle.std.proofs.Common.{◌≡◌, ◌+◌, ◌<◌, length, sym, ap, subst, arith, slice_set, refl}
use Rattle.ac_noncontiguous.specs.Compiler.Layout.{AreOfDead, AreRowedUpTo, AreRowsOf}
use Rattle.ac_noncontiguous.proofs.trie.FailsLemmas.{order-read}
use Rattle.ac_noncontiguous.proofs.lemmas.IndexLemmas.{read-there}
use Rattle.ac_noncontiguous.proofs.compiler.RowLemmas.{have-dead, have-shared}
use Rattle.ac_noncontiguous.proofs.compiler.RowedLemmas.{rowed-none, rowed-above, rowed-more, rowed-shared}
use Rattle.ac_noncontiguous.proofs.compiler.rows.Rows.new.Goals as goal

pub loop-id-init : goal.loop-id-init
loop-id-init c =
    let all : c.len.result ≡ length c.args.numbering.now.at.items = omega (arith, c.len.ensures) in
    let dead =
    subst (λ n. AreOfDead n c.args.dense_depth c.args.classes.now c.in_ok-rows.rows) all c.in_ok-rows.ensures in
    record {
      have = have-dead c.requires.numbering dead;
      rowed = rowed-none dead;
    }

pub push_state-requires-clause-within : goal.push_state-requires-clause-within
push_state-requires-clause-within c = (order-read c.requires.order (omega arith) c.id-item.is).1

pub push_state-requires-clause-above : goal.push_state-requires-clause-above
push_state-requires-clause-above c =
    let lt : c.loop-id.id-index < length c.args.order.now = omega arith in
    rowed-above c.requires.order lt
    (order-read c.requires.order lt c.id-item.is).0 c.loop-id.invariant.rowed

pub loop-id-preserved : goal.loop-id-preserved
loop-id-preserved c =
    let lt : c.loop-id.id-index < length c.args.order.now = omega arith in
    record {
      have = c.in_ok-push_state.ensures.have;
      rowed = rowed-more c.requires.numbering c.requires.order lt
          (order-read c.requires.order lt c.id-item.is).0 c.in_ok-push_state.ensures.rowed c.loop-id.invariant.rowed;
    }

pub returns-clause-rowed : goal.returns-clause-rowed
returns-clause-rowed c =
    let offsets = c.loop-id.rows.offsets.items in
    let order = c.args.order.now in
    let start = c.as_usize-start.ensures.value in
    let counted = c.loop-id.invariant.have.counted in
    let is = read-there offsets (omega (arith, c.requires.numbering.places.starts.1, counted)) start c.index.ensures in
    let all : c.loop-id.id-index ≡ length order = omega arith in
    let rowed = subst (λ k. AreRowedUpTo c.args.trie.now c.args.numbering.now order c.args.dense_depth k c.loop-id.rows)
    all c.loop-id.invariant.rowed in
    rowed-shared (ap (λ k. slice_set offsets (k + 1) c.index.result.now) start) refl c.requires.numbering
    c.requires.order counted is rowed

pub returns-clause-rows : goal.returns-clause-rows
returns-clause-rows c =
    let offsets = c.loop-id.rows.offsets.items in
    let rows = c.loop-id.rows.rows.items in
    let n = c.requires.numbering in
    let start = c.as_usize-start.ensures.value in
    let is = read-there offsets (omega (arith, n.places.starts.1, c.loop-id.invariant.have.counted)) start
    c.index.ensures in
    subst (λ k.
    AreRowsOf c.args.trie.now c.args.numbering.now c.args.links.now c.args.back c.args.classes.now
    (slice_set offsets (k + 1) c.index.result.now) rows) (sym start)
    (have-shared n is c.loop-id.invariant.have)
