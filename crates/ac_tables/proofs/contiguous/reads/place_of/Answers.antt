-- The first byte equal to the class is in the first word that has it.
use Rattle.std.proofs.Common.{◌≢◌, ℕ, get_or, arith, below_none, below_more}
use Rattle.ac_tables.proofs.contiguous.PackedLemmas.{first-there, none-before, unpack-long}
use Rattle.ac_tables.proofs.contiguous.reads.place_of.Goals as goal

pub returns-then-a-class : goal.returns-then-a-class
returns-then-a-class c =
    first-there c.args.packed.now c.args.class c.loop-at.at c.to_le_bytes.result c.to_le_bytes.ensures
    c.loop-at-test.true c.loop-at.invariant 0 _ (omega arith) (omega arith)
    (below_none (λ (h : ℕ). get_or c.to_le_bytes.result h 0 ≢ c.args.class)) c.if-a-class.true

pub returns-then-b-class : goal.returns-then-b-class
returns-then-b-class c =
    let P = λ (h : ℕ). get_or c.to_le_bytes.result h 0 ≢ c.args.class in
    first-there c.args.packed.now c.args.class c.loop-at.at c.to_le_bytes.result c.to_le_bytes.ensures
    c.loop-at-test.true c.loop-at.invariant 1 _ (omega arith) (omega arith)
    (below_more P 0 (below_none P) c.if-a-class.false) c.if-b-class.true

pub returns-then-c-class : goal.returns-then-c-class
returns-then-c-class c =
    let P = λ (h : ℕ). get_or c.to_le_bytes.result h 0 ≢ c.args.class in
    first-there c.args.packed.now c.args.class c.loop-at.at c.to_le_bytes.result c.to_le_bytes.ensures
    c.loop-at-test.true c.loop-at.invariant 2 _ (omega arith) (omega arith)
    (below_more P 1 (below_more P 0 (below_none P) c.if-a-class.false) c.if-b-class.false) c.if-c-class.true

pub returns-then-d-class : goal.returns-then-d-class
returns-then-d-class c =
    let P = λ (h : ℕ). get_or c.to_le_bytes.result h 0 ≢ c.args.class in
    first-there c.args.packed.now c.args.class c.loop-at.at c.to_le_bytes.result c.to_le_bytes.ensures
    c.loop-at-test.true c.loop-at.invariant 3 _ (omega arith) (omega arith)
    (below_more P 2 (below_more P 1 (below_more P 0 (below_none P) c.if-a-class.false) c.if-b-class.false)
    c.if-c-class.false) c.if-d-class.true

pub loop-at-preserved : goal.loop-at-preserved
loop-at-preserved c = λ k lt.
    let P = λ (h : ℕ). get_or c.to_le_bytes.result h 0 ≢ c.args.class in
    none-before c.args.packed.now c.args.class c.loop-at.at c.to_le_bytes.result c.to_le_bytes.ensures
    c.loop-at-test.true c.loop-at.invariant 4 (omega arith)
    (below_more P 3
    (below_more P 2 (below_more P 1 (below_more P 0 (below_none P) c.if-a-class.false) c.if-b-class.false)
    c.if-c-class.false) c.if-d-class.false) k (omega (arith, lt))

pub returns : goal.returns
returns c = λ k lt.
    let long = unpack-long c.args.packed.now in
    let done = c.loop-at-test.false in
    c.loop-at.invariant k (omega (arith, lt, long, done))
