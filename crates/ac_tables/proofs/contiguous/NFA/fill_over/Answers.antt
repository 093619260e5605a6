-- One entry after another is filled.
use Rattle.std.proofs.Common.{◌≡◌, ◌+◌, ◌*◌, ◌<◌, false, length, slice_index, ap, sym, subst, ◌∙◌, arith}
use Rattle.std.proofs.lemmas.List.{get_or_read}
use Rattle.ac_tables.specs.Contiguous.Near.{LeadsToNumber}
use Rattle.ac_tables.specs.Contiguous.NearReads.{FailsToNumber}
use Rattle.ac_tables.specs.Contiguous.Reads.{contiguous_dictionary, IsMet}
use Rattle.ac_tables.specs.Contiguous.Rows.{row_len}
use Rattle.ac_tables.proofs.contiguous.CutLemmas.{row-room}
use Rattle.ac_tables.proofs.contiguous.NearFillLemmas.{part-none, part-more, part-failed}
use Rattle.ac_tables.proofs.contiguous.NFA.fill_over.Goals as goal

pub loop-class-init : goal.loop-class-init
loop-class-init c = part-none c.args.self.now c.args.bytes.now c.args.row c.args.near.now

pub number_over-number-requires-clause-met : goal.number_over-number-requires-clause-met
number_over-number-requires-clause-met c =
    let read = get_or_read c.args.near.now.places.items c.args.row c.index-place.result.now c.requires.met.0
    c.index-place.ensures 0 in
    subst (IsMet c.args.self.now false) (sym read) c.requires.met.1

pub number_over-number-requires-clause-failed : goal.number_over-number-requires-clause-failed
number_over-number-requires-clause-failed c =
    let a = c.args.self.now in
    let old = c.args.near.now in
    let now = c.loop-class.near in
    let row = c.args.row in
    let read = get_or_read old.places.items row c.index-place.result.now c.requires.met.0 c.index-place.ensures 0 in
    let from = c.args.from in
    let class = c.loop-class.class in
    let h = c.loop-class.invariant in
    let before = c.requires.failure.before in
    let room = row-room (length old.places.items) row (row_len old) c.requires.met.0 in
    let size = row-room row from (row_len old) before in
    let all = old.len in
    let kept = h.len in
    let letters = c.requires.letters in
    let less = c.loop-class-test.true in
    let is : from * c.stride-2.result + class ≡ from * row_len old + class = ap (λ n. from * n + class) c.stride-2.ensures in
    let within : from * c.stride-2.result + class < length now.trans.items = omega (arith, room, size, all, kept, letters, less, is) in
    let entry = get_or_read now.trans.items (from * c.stride-2.result + class) c.index.result.now within c.index.ensures 0 in
    subst (FailsToNumber a now c.index-place.result.now (slice_index c.args.bytes.now class))
    (sym (entry ∙ ap (slice_index now.trans.items) is))
    (part-failed a c.args.bytes.now row from class class c.index-place.result.now old now letters less c.requires.before
    c.requires.failure h read)

pub loop-class-preserved : goal.loop-class-preserved
loop-class-preserved c =
    let a = c.args.self.now in
    let old = c.args.near.now in
    let now = c.loop-class.near in
    let row = c.args.row in
    let h = c.loop-class.invariant in
    let read = get_or_read old.places.items row c.index-place.result.now c.requires.met.0 c.index-place.ensures 0 in
    let place : c.index-place.result.now ≡ slice_index now.places.items row =
    read ∙ sym (ap (λ ps. slice_index ps row) h.places) in
    let room = row-room (length old.places.items) row (row_len old) c.requires.met.0 in
    let all = old.len in
    let kept = h.len in
    let letters = c.requires.letters in
    let less = c.loop-class-test.true in
    let is : row * c.stride.result + c.loop-class.class ≡ row * row_len old + c.loop-class.class =
    ap (λ n. row * n + c.loop-class.class) c.stride.ensures in
    part-more a c.args.bytes.now row c.loop-class.class (row * c.stride.result + c.loop-class.class) _ old now c.put.new.self
    h is (omega (arith, room, all, kept, letters, less, is)) c.put.ensures
    (subst (λ p. LeadsToNumber (contiguous_dictionary a) a.table now.places.items (row_len now) p
    (slice_index c.args.bytes.now c.loop-class.class) c.number_over-number.result) place c.number_over-number.ensures)
