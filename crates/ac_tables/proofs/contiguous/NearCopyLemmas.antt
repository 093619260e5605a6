-- The rows of the states near the start, of a copy.
use Rattle.std.proofs.Common.{◌≡◌, ℕ, ◌+◌, ◌^◌, List, length, Option, None, Some, slice_index, sym, ap, subst, arith}
use Rattle.std.specs.Prelude.{IfSome}
use Rattle.std.proofs.Math.Logic.{∥∥₁_map}
use Rattle.ac_input.specs.Alphabet.{class}
use Rattle.ac_input.specs.Dictionary.{Dictionary}
use Rattle.ac_tables.specs.Contiguous.Build.{IsCopiedTable}
use Rattle.ac_tables.specs.Contiguous.Near.{AreNearRows, LeadsToNumber}
use Rattle.ac_tables.specs.Contiguous.Rows.{AreSameIfAny, AreSameRows, IsRow, place_at, row_len}
use Rattle.ac_tables.specs.declared.contiguous.rows.Rows.{Rows}
use Rattle.ac_tables.specs.declared.contiguous.table.Table.{Table}
use Rattle.ac_tables.proofs.contiguous.WordTableLemmas.{names-copied}

-- a table is a copy of its copy
copied-back : (old new : Table) → IsCopiedTable old new → IsCopiedTable new old
copied-back old new h = record {
  words = sym h.words;
  classes = sym h.classes;
  alphabet_len = sym h.alphabet_len;
  start = sym h.start;
  start_anchored = sym h.start_anchored;
  max_match = sym h.max_match;
}

-- where a byte leads by a table, it leads by a copy of it
leads-copied : (m : Dictionary) (old new : Table) (places : List ℕ) (stride place byte number : ℕ) → IsCopiedTable old new
    → LeadsToNumber m old places stride place byte number → LeadsToNumber m new places stride place byte number
leads-copied m old new places stride place byte number same h = (
  h.0,
  λ names fits met. h.1 names (fits.0, names-copied m new old names fits.0 (copied-back old new same) fits.1) met,
)

-- copied rows are those of the copied table
rows-of-copy : (m : Dictionary) (old new : Table) (rows copy : Rows) → IsCopiedTable old new → AreSameRows rows copy
    → AreNearRows m old rows → AreNearRows m new copy
rows-of-copy m old new rows copy same same_rows h =
    let stride : row_len copy ≡ row_len rows = ap (λ s. 2 ^ s) same_rows.stride2 in
    record {
      room =
          let r = h.room in
          let t = ap length same_rows.trans in
          let w = ap length same.words in
          omega (arith, r, t, w);
      letters = λ byte small.
          let l = h.letters byte small in
          let c = ap (λ classes. class classes byte) same.classes in
          omega (arith, l, c, stride);
      lead = λ row byte one small.
          let row_is : IsRow rows.places.items (row_len rows) row =
          subst (λ ps. IsRow ps (row_len rows) row) same_rows.places (subst (λ s. IsRow copy.places.items s row) stride one) in
          let there = leads-copied m old new rows.places.items (row_len rows) (place_at rows.places.items (row_len rows) row)
          byte (slice_index rows.trans.items (row + class old.classes byte)) same (h.lead row byte row_is small) in
          subst (λ ps. LeadsToNumber m new ps (row_len copy) (place_at ps (row_len copy) row) byte
          (slice_index copy.trans.items (row + class new.classes byte))) (sym same_rows.places)
          (subst (λ s. LeadsToNumber m new rows.places.items s (place_at rows.places.items s row) byte
          (slice_index copy.trans.items (row + class new.classes byte))) (sym stride)
          (subst (λ ts. LeadsToNumber m new rows.places.items (row_len rows) (place_at rows.places.items (row_len rows) row) byte
          (slice_index ts (row + class new.classes byte))) (sym same_rows.trans)
          (subst (λ cs. LeadsToNumber m new rows.places.items (row_len rows) (place_at rows.places.items (row_len rows) row) byte
          (slice_index rows.trans.items (row + class cs byte))) (sym same.classes) there)));
    }

-- the same, if there are any
pub near-copied : (m : Dictionary) (old new : Table) (rows copy : Option Rows) → IsCopiedTable old new
    → AreSameIfAny rows copy → (∥ IfSome rows (AreNearRows m old) ∥₁) → ∥ IfSome copy (AreNearRows m new) ∥₁
near-copied m old new rows copy same same_rows h = ∥∥₁_map h (of rows copy same_rows)
  where
    of : (rows copy : Option Rows) → AreSameIfAny rows copy → IfSome rows (AreNearRows m old)
        → IfSome copy (AreNearRows m new)
    of None None are h = h
    of None (Some two) are h = absurd are
    of (Some one) None are h = absurd are
    of (Some one) (Some two) are h = rows-of-copy m old new one two same are h
