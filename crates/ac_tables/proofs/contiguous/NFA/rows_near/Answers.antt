-- The rows are blank at first, and then filled.
use Rattle.std.proofs.Common.{ℕ, ◌≡◌, ◌+◌, ◌*◌, ◌^◌, ◌<◌, ◌≤◌, false, List, length, slice_index, ap, sym, subst, ◌∙◌, arith}
use Rattle.ac_input.specs.Number.{greatest_number}
use Rattle.ac_tables.specs.Contiguous.Filled.{index_entries}
use Rattle.ac_tables.specs.Contiguous.NearReads.{near_depth, ArePlacesNear, HasFilledAll, HasRoomNear}
use Rattle.ac_tables.specs.Contiguous.Reads.{IsMet}
use Rattle.ac_tables.specs.Contiguous.Rows.{row_len}
use Rattle.ac_tables.proofs.contiguous.NearFillLemmas.{near-filled, rows-fit}
use Rattle.ac_tables.proofs.contiguous.NearPlacesLemmas.{near-small, within-met}
use Rattle.ac_tables.proofs.contiguous.NFA.rows_near.Goals as goal

pub fill-requires-clause-met : goal.fill-requires-clause-met
fill-requires-clause-met c =
    subst (λ (ps : List ℕ). (i : ℕ) → i < length ps → IsMet c.args.self.now false (slice_index ps i))
    (sym c.in_ok-near.ensures.at)
    (λ i less. within-met c.args.self.now near_depth _ (c.in_ok-places.ensures.near i less))

pub returns-clause-lead : goal.returns-clause-lead
returns-clause-lead c =
    let a = c.args.self.now in
    let near = c.in_ok-near.near in
    let stride2 = c.stride2-stride2.result in
    let most = c.most_near-most.result in
    let other = c.if-most-eq0.false in
    let some : 0 < most = omega (arith, other) in
    let fit = rows-fit most (length c.in_ok-places.places.items) _ (2 ^ stride2) c.in_ok-places.ensures.few
    (c.most_near-most.ensures some).numbers in
    let stride : row_len near ≡ 2 ^ stride2 = ap (λ e. 2 ^ e) c.in_ok-near.ensures.stride in
    let size : length near.places.items * row_len near ≡ length c.in_ok-places.places.items * 2 ^ stride2 =
    ap (λ (ps : List ℕ). length ps * row_len near) c.in_ok-near.ensures.at
    ∙ ap (λ n. length c.in_ok-places.places.items * n) stride in
    let len = near.len in
    let room : length near.trans.items + length a.table.words.items ≤ greatest_number = omega (arith, fit, size, len) in
    let those = c.in_ok-bytes.ensures in
    let counted = those.counted in
    let enough = c.stride2-stride2.ensures.value.enough in
    let letters : length c.in_ok-bytes.bytes.items ≤ row_len near = omega (arith, counted, enough, stride) in
    let filled = near-filled a c.in_ok-bytes.bytes.items near c.fill.new.near c.requires.alike those letters room in
    ∣ filled (subst (λ bytes. HasFilledAll a bytes near c.fill.new.near) c.deref-2.ensures.value c.fill.ensures) ∣₁

pub returns-clause-within : goal.returns-clause-within
returns-clause-within c =
    let a = c.args.self.now in
    let near = c.in_ok-near.near in
    let most = c.most_near-most.result in
    let other = c.if-most-eq0.false in
    let some : 0 < most = omega (arith, other) in
    let made = c.fill.ensures in
    let places = made.places ∙ c.in_ok-near.ensures.at in
    let stride : row_len c.fill.new.near ≡ 2 ^ c.stride2-stride2.result =
    ap (λ e. 2 ^ e) (made.stride ∙ c.in_ok-near.ensures.stride) in
    near-small a c.args.memory most c.fill.new.near
    (subst (λ n. HasRoomNear a n c.args.memory most) (sym stride) (c.most_near-most.ensures some))
    (subst (ArePlacesNear a most) (sym places) c.in_ok-places.ensures)
    (ap length made.index ∙ (c.in_ok-near.ensures.index ∙ sym (ap index_entries places)))
