-- Each place looked at holds a child of the state, and in the end all of them were looked at.
use Rattle.std.proofs.Common.{◌∙◌, arith, sym, ◌≢◌, ◌≤◌, slice_index, below_more}
use Rattle.std.proofs.lemmas.List.{get_or_read}
use Rattle.ac_noncontiguous.proofs.trie.ChildrenLemmas.{first-read, among-within, read-among, one-among, none-among}
use Rattle.ac_noncontiguous.proofs.trie.Trie.child_among.Goals as goal

pub index-requires : goal.index-requires
index-requires c = let in_ =
    read-among c.loop-at.at c.requires.children c.requires.within (omega arith) c.index-end.ensures (omega arith) in
    omega (arith, in_)

pub index-requires-then-index-byte : goal.index-requires-then-index-byte
index-requires-then-index-byte c = let in_ =
    read-among c.loop-at.at c.requires.children c.requires.within (omega arith) c.index-end.ensures (omega arith) in
    omega (arith, in_)

pub returns-then-index-byte : goal.returns-then-index-byte
returns-then-index-byte c =
    let a = c.requires.children in
    let at = c.loop-at.at in
    let from = first-read a (omega (arith, c.requires.within)) (omega arith) c.index-from.ensures in
    let end = first-read a (omega (arith, c.requires.within)) (omega arith) c.index-end.ensures in
    let in_ = among-within at a c.requires.within end (omega arith) in
    let byte = get_or_read c.args.children.now.bytes.items at c.index.result.now in_.1 c.index.ensures 0 in
    let id = get_or_read c.args.children.now.ids.items at c.index-then-index-byte.result.now in_.0
    c.index-then-index-byte.ensures 0 in
    one-among a c.requires.within from end (omega arith) (omega arith) (sym byte ∙ c.if-index-byte.true) id

pub returns : goal.returns
returns c =
    let a = c.requires.children in
    let from = first-read a (omega (arith, c.requires.within)) (omega arith) c.index-from.ensures in
    let end = first-read a (omega (arith, c.requires.within)) (omega arith) c.index-end.ensures in
    none-among a c.requires.within from end (λ k low high. c.loop-at.invariant k low (omega arith))

pub loop-at-preserved : goal.loop-at-preserved
loop-at-preserved c =
    λ k low high.
    let a = c.requires.children in
    let bytes = c.args.children.now.bytes.items in
    let at = c.loop-at.at in
    let end = first-read a (omega (arith, c.requires.within)) (omega arith) c.index-end.ensures in
    let in_ = among-within at a c.requires.within end (omega arith) in
    let byte = get_or_read bytes at c.index.result.now in_.1 c.index.ensures 0 in
    below_more (λ i. c.index-from.result.now ≤ i → slice_index bytes i ≢ c.args.byte) at
    (λ i below from. c.loop-at.invariant i from below) (λ _ same. c.if-index-byte.false (byte ∙ same)) k high low
