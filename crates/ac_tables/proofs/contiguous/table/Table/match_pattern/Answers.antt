use Rattle.std.proofs.Common.{◌≡◌, ◌<◌, ◌+◌, ◌-◌, get_or, sym, subst, arith}
use Rattle.std.specs.Prelude.{slice_index}
use Rattle.ac_tables.specs.Contiguous.WordReads.{list_place}
use Rattle.ac_tables.proofs.contiguous.StateLemmas.{first-of}
use Rattle.ac_tables.proofs.contiguous.MatchLemmas.{one-at_index, many-at_index}
use Rattle.ac_tables.proofs.contiguous.table.Table.match_pattern.Goals as goal

pub must-requires : goal.must-requires
must-requires c =
    let t = c.args.self.now in
    let word = first-of t.words.items (list_place t c.args.sid) c.list_place-at.result c.index-word.result.now
    c.requires.list.list c.list_place-at.ensures c.index-word.ensures in
    let high = c.if-word-ge-ONE_PATTERN.true in
    c.requires.known c.args.index (c.index-word.result.now - 2147483648)
    (one-at_index t.words.items (list_place t c.args.sid) c.args.index (c.index-word.result.now - 2147483648)
    (omega (arith, word, high)) c.requires.within (omega (arith, word)))

pub must-requires-2 : goal.must-requires-2
must-requires-2 c =
    let t = c.args.self.now in
    let word = first-of t.words.items (list_place t c.args.sid) c.list_place-at.result c.index-word.result.now
    c.requires.list.list c.list_place-at.ensures c.index-word.ensures in
    let low = c.if-word-ge-ONE_PATTERN.false in
    let less : slice_index t.words.items (list_place t c.args.sid) < 2147483648 = omega (arith, word, low) in
    c.requires.known c.args.index c.index.result.now
    (many-at_index t.words.items (list_place t c.args.sid) c.args.index c.index.result.now less
    (c.requires.list.rest less) c.requires.within
    (subst (λ n. c.index.result.now ≡ get_or t.words.items (n + 1 + c.args.index) c.index.result.now)
    c.list_place-at.ensures c.index.ensures))

pub returns : goal.returns
returns c =
    let t = c.args.self.now in
    let word = first-of t.words.items (list_place t c.args.sid) c.list_place-at.result c.index-word.result.now
    c.requires.list.list c.list_place-at.ensures c.index-word.ensures in
    let low = c.if-word-ge-ONE_PATTERN.false in
    let less : slice_index t.words.items (list_place t c.args.sid) < 2147483648 = omega (arith, word, low) in
    many-at_index t.words.items (list_place t c.args.sid) c.args.index c.must-2.result less (c.requires.list.rest less)
    c.requires.within
    (subst (λ x. x ≡ get_or t.words.items (list_place t c.args.sid + 1 + c.args.index) x) (sym c.must-2.ensures)
    (subst (λ n. c.index.result.now ≡ get_or t.words.items (n + 1 + c.args.index) c.index.result.now)
    c.list_place-at.ensures c.index.ensures))
