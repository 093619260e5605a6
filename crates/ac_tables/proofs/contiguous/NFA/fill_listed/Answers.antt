-- A copied row is right but for the entries of the classes that the state lists, which are put one after another.
use Rattle.std.proofs.Common.{◌≡◌, ℕ, ◌+◌, ◌*◌, ◌/◌, ◌^◌, ◌<◌, ◌≤◌, false, List, length, slice_index, ap, sym, subst, ◌∙◌, arith}
use Rattle.std.proofs.lemmas.List.{get_or_read}
use Rattle.ac_tables.specs.Contiguous.Near.{LeadsToNumber}
use Rattle.ac_tables.specs.Contiguous.NearReads.{AreBytesOf, FailsToNumber}
use Rattle.ac_tables.specs.Contiguous.Reads.{contiguous_dictionary, IsMet}
use Rattle.ac_tables.specs.Contiguous.Rows.{row_len}
use Rattle.ac_tables.specs.Contiguous.WordReads.{ListsEdges, edge_class}
use Rattle.ac_tables.specs.declared.contiguous.rows.Rows.{Rows}
use Rattle.ac_tables.specs.declared.contiguous.table.Table.{Table}
use Rattle.ac_tables.proofs.contiguous.CutLemmas.{row-room}
use Rattle.ac_tables.proofs.contiguous.NearFillLemmas.{edges-copied, edges-more, edges-all, part-failed}
use Rattle.ac_tables.proofs.contiguous.NFA.fill_listed.Goals as goal

-- a class that is listed has a byte
class-less : (table : Table) (bytes : List ℕ) (place sid len at class : ℕ) → ListsEdges table sid len
    → AreBytesOf table.classes bytes → place ≡ sid → at < len → class ≡ edge_class table place at → class < length bytes
class-less table bytes place sid len at class listed those here less is =
    let same = is ∙ ap (λ p. edge_class table p at) here in
    let fits = listed.classes at less in
    let counted = those.counted in
    omega (arith, same, fits, counted)

-- its entry in a row is within the rows
entry-within : (old now : Rows) (row class stride len : ℕ) → row < length old.places.items
    → length now.trans.items ≡ length old.trans.items → stride ≡ row_len old → class < len → len ≤ row_len old
    → row * stride + class < length now.trans.items
entry-within old now row class stride len within kept wide less letters =
    let room = row-room (length old.places.items) row (row_len old) within in
    let all = old.len in
    let is : row * stride + class ≡ row * row_len old + class = ap (λ n. row * n + class) wide in
    omega (arith, room, all, kept, less, letters, is)

pub loop-at-init : goal.loop-at-init
loop-at-init c =
    edges-copied c.args.self.now c.args.bytes.now c.args.row c.args.from c.args.len c.args.near.now c.copy_row.new.self
    c.requires.alone c.requires.letters c.requires.bytes c.requires.before c.requires.failure c.copy_row.ensures
    c.requires.listed

pub edge_class-class-requires : goal.edge_class-class-requires
edge_class-class-requires c =
    let read = get_or_read c.args.near.now.places.items c.args.row c.index-place.result.now c.requires.met.0
    c.index-place.ensures 0 in
    subst (λ p. p + 2 + c.loop-at.at / 4 < length c.args.self.now.table.words.items) (sym read)
    (c.requires.listed.there c.loop-at.at c.loop-at-test.true)

pub bounds-bytes-class : goal.bounds-bytes-class
bounds-bytes-class c =
    let read = get_or_read c.args.near.now.places.items c.args.row c.index-place.result.now c.requires.met.0
    c.index-place.ensures 0 in
    class-less c.args.self.now.table c.args.bytes.now _ _ c.args.len c.loop-at.at _ c.requires.listed c.requires.bytes read
    c.loop-at-test.true c.edge_class-class.ensures

pub overflow_add-failed : goal.overflow_add-failed
overflow_add-failed c =
    let read = get_or_read c.args.near.now.places.items c.args.row c.index-place.result.now c.requires.met.0
    c.index-place.ensures 0 in
    let less = class-less c.args.self.now.table c.args.bytes.now _ _ c.args.len c.loop-at.at _ c.requires.listed
    c.requires.bytes read c.loop-at-test.true c.edge_class-class.ensures in
    let wide : c.stride-2.result ≡ row_len c.args.near.now = c.stride-2.ensures ∙ ap (λ s. 2 ^ s) c.copy_row.ensures.stride in
    let before = c.requires.failure.before in
    let row = c.requires.met.0 in
    let there = entry-within c.args.near.now c.loop-at.near c.args.from c.edge_class-class.result c.stride-2.result
    (length c.args.bytes.now) (omega (arith, before, row)) c.loop-at.invariant.kept.len wide less c.requires.letters in
    let few = c.loop-at.near.few in
    omega (arith, there, few)

pub index-requires : goal.index-requires
index-requires c =
    let read = get_or_read c.args.near.now.places.items c.args.row c.index-place.result.now c.requires.met.0
    c.index-place.ensures 0 in
    let less = class-less c.args.self.now.table c.args.bytes.now _ _ c.args.len c.loop-at.at _ c.requires.listed
    c.requires.bytes read c.loop-at-test.true c.edge_class-class.ensures in
    let wide : c.stride-2.result ≡ row_len c.args.near.now = c.stride-2.ensures ∙ ap (λ s. 2 ^ s) c.copy_row.ensures.stride in
    let before = c.requires.failure.before in
    let row = c.requires.met.0 in
    let there = entry-within c.args.near.now c.loop-at.near c.args.from c.edge_class-class.result c.stride-2.result
    (length c.args.bytes.now) (omega (arith, before, row)) c.loop-at.invariant.kept.len wide less c.requires.letters in
    omega (arith, there)

pub overflow_add-first : goal.overflow_add-first
overflow_add-first c =
    let read = get_or_read c.args.near.now.places.items c.args.row c.index-place.result.now c.requires.met.0
    c.index-place.ensures 0 in
    let less = class-less c.args.self.now.table c.args.bytes.now _ _ c.args.len c.loop-at.at _ c.requires.listed
    c.requires.bytes read c.loop-at-test.true c.edge_class-class.ensures in
    let wide : c.stride.result ≡ row_len c.args.near.now = c.stride.ensures ∙ ap (λ s. 2 ^ s) c.copy_row.ensures.stride in
    let there = entry-within c.args.near.now c.loop-at.near c.args.row c.edge_class-class.result c.stride.result
    (length c.args.bytes.now) c.requires.met.0 c.loop-at.invariant.kept.len wide less c.requires.letters in
    let few = c.loop-at.near.few in
    omega (arith, there, few)

pub put-requires : goal.put-requires
put-requires c =
    let read = get_or_read c.args.near.now.places.items c.args.row c.index-place.result.now c.requires.met.0
    c.index-place.ensures 0 in
    let less = class-less c.args.self.now.table c.args.bytes.now _ _ c.args.len c.loop-at.at _ c.requires.listed
    c.requires.bytes read c.loop-at-test.true c.edge_class-class.ensures in
    let wide : c.stride.result ≡ row_len c.args.near.now = c.stride.ensures ∙ ap (λ s. 2 ^ s) c.copy_row.ensures.stride in
    entry-within c.args.near.now c.loop-at.near c.args.row c.edge_class-class.result c.stride.result
    (length c.args.bytes.now) c.requires.met.0 c.loop-at.invariant.kept.len wide less c.requires.letters

pub number_over-number-requires-clause-met : goal.number_over-number-requires-clause-met
number_over-number-requires-clause-met c =
    let read = get_or_read c.args.near.now.places.items c.args.row c.index-place.result.now c.requires.met.0
    c.index-place.ensures 0 in
    subst (IsMet c.args.self.now false) (sym read) c.requires.met.1

pub number_over-number-requires-clause-failed : goal.number_over-number-requires-clause-failed
number_over-number-requires-clause-failed c =
    let a = c.args.self.now in
    let old = c.args.near.now in
    let now = c.loop-at.near in
    let row = c.args.row in
    let from = c.args.from in
    let class = c.edge_class-class.result in
    let h = c.loop-at.invariant.kept in
    let read = get_or_read old.places.items row c.index-place.result.now c.requires.met.0 c.index-place.ensures 0 in
    let less = class-less a.table c.args.bytes.now _ _ c.args.len c.loop-at.at class c.requires.listed c.requires.bytes read
    c.loop-at-test.true c.edge_class-class.ensures in
    let wide : c.stride-2.result ≡ row_len old = c.stride-2.ensures ∙ ap (λ s. 2 ^ s) c.copy_row.ensures.stride in
    let before = c.requires.failure.before in
    let last = c.requires.met.0 in
    let within = entry-within old now from class c.stride-2.result (length c.args.bytes.now) (omega (arith, before, last)) h.len
    wide less c.requires.letters in
    let is : from * c.stride-2.result + class ≡ from * row_len old + class = ap (λ n. from * n + class) wide in
    let entry = get_or_read now.trans.items (from * c.stride-2.result + class) c.index.result.now within c.index.ensures 0 in
    subst (FailsToNumber a now c.index-place.result.now (slice_index c.args.bytes.now class))
    (sym (entry ∙ ap (slice_index now.trans.items) is))
    (part-failed a c.args.bytes.now row from 0 class c.index-place.result.now old now c.requires.letters less
    c.requires.before c.requires.failure h read)

pub loop-at-preserved : goal.loop-at-preserved
loop-at-preserved c =
    let a = c.args.self.now in
    let old = c.args.near.now in
    let now = c.loop-at.near in
    let row = c.args.row in
    let class = c.edge_class-class.result in
    let h = c.loop-at.invariant.kept in
    let read = get_or_read old.places.items row c.index-place.result.now c.requires.met.0 c.index-place.ensures 0 in
    let place : c.index-place.result.now ≡ slice_index now.places.items row =
    read ∙ sym (ap (λ ps. slice_index ps row) h.places) in
    let less = class-less a.table c.args.bytes.now _ _ c.args.len c.loop-at.at class c.requires.listed c.requires.bytes read
    c.loop-at-test.true c.edge_class-class.ensures in
    let wide : c.stride.result ≡ row_len old = c.stride.ensures ∙ ap (λ s. 2 ^ s) c.copy_row.ensures.stride in
    edges-more a c.args.bytes.now row c.args.len c.loop-at.at class (row * c.stride.result + class) _ old now c.put.new.self
    c.loop-at.invariant (c.edge_class-class.ensures ∙ ap (λ p. edge_class a.table p c.loop-at.at) read)
    (ap (λ n. row * n + class) wide)
    (entry-within old now row class c.stride.result (length c.args.bytes.now) c.requires.met.0 h.len wide less
    c.requires.letters) c.put.ensures
    (subst (λ p. LeadsToNumber (contiguous_dictionary a) a.table now.places.items (row_len now) p
    (slice_index c.args.bytes.now class) c.number_over-number.result) place c.number_over-number.ensures)

pub returns : goal.returns
returns c =
    edges-all c.args.self.now c.args.bytes.now c.args.row c.args.len c.loop-at.at c.args.near.now c.loop-at.near
    c.loop-at.invariant c.loop-at-test.false
