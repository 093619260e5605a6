-- The transitions that the words of a state list with their classes, and that it leads on by no other class.
use Rattle.std.proofs.Common.{◌≡◌, ◌≢◌, ℕ, ◌+◌, ◌*◌, ◌/◌, ◌%◌, ◌<◌, List, [], ◌∷◌, length, drop, get_or, refl, sym, ap, ◌∙◌, arith}
use Rattle.std.specs.Prelude.{◌==◌, bit_and, slice_index}
use Rattle.std.specs.Coded.{le_prop}
use Rattle.std.specs.Int.{w32, to_le_bytes}
use Rattle.std.specs.List.{flat_map}
use Rattle.std.proofs.Math.Logic.{∥∥₁_elim}
use Rattle.std.proofs.lemmas.Bool.{eq-eqb, ne_eqb, cond-true, cond-false}
use Rattle.std.proofs.lemmas.List.{get_or-take, get_or-drop, get_or_append_left, length-map}
use Rattle.std.proofs.lemmas.Nat.{and_mask}
use Rattle.ac_input.specs.Alphabet.{class}
use Rattle.ac_tables.specs.declared.contiguous.table.Table.{Table}
use Rattle.ac_tables.specs.Contiguous.Words.{StateParts, packed, classes_of, kind_word, first_class}
use Rattle.ac_tables.specs.Contiguous.WordReads.{IsStateAt, IsSparseAt, ListsEdges, edge_class}
use Rattle.ac_tables.proofs.contiguous.DecodeLemmas.{state-kind, form-one, kind-one}
use Rattle.ac_tables.proofs.contiguous.PackedLemmas.{unpack-packed, unpack-at, no-hit}
use Rattle.ac_tables.proofs.contiguous.StateLemmas.{first-of, same-kind, class-fits, sparse-at, sparse-within, one-at, one-place}

-- ---- a single transition

-- the first class is that of the first transition
first-is : (edges : List (ℕ × ℕ)) → 0 < length edges → first_class edges ≡ get_or (classes_of edges) 0 0
first-is [] some = absurd (omega (arith, some))
first-is (edge ∷ edges) some = refl

-- the class above the kind is one of the alphabet
one-fits : (table : Table) (sid : ℕ) (s : StateParts) → IsStateAt table sid s
    → slice_index table.words.items sid % 256 ≡ 254 → slice_index table.words.items sid / 256 < table.alphabet_len
one-fits table sid s h kind =
    let form = form-one s (same-kind table sid s 254 h kind) in
    let one = form.1 in
    let first : slice_index table.words.items sid / 256 ≡ first_class s.edges =
    ap (λ n. n / 256)
    ((state-kind table.words.items sid table.alphabet_len s h.stands).1 ∙ ap (λ f. kind_word f s.edges) form.0)
    ∙ (kind-one s.edges).1 in
    let some : 0 < length s.edges = omega (arith, one) in
    let fits = class-fits table sid s h 0 some in
    omega (arith, first, first-is s.edges some, fits)

-- the class that is listed is the one above the kind
one-class : (table : Table) (sid at : ℕ) → slice_index table.words.items sid % 256 ≡ 254
    → edge_class table sid at ≡ slice_index table.words.items sid / 256
one-class table sid at kind = cond-true (slice_index table.words.items sid % 256 == 254) _ _ (eq-eqb _ _ kind)

-- a state with a single transition lists that one
pub one-listed : (table : Table) (sid : ℕ) → (∥ ((s : StateParts) × IsStateAt table sid s) ∥₁)
    → slice_index table.words.items sid % 256 ≡ 254 → ListsEdges table sid 1
one-listed table sid h kind = record {
  there = λ at less. let first = one-place table sid h kind in omega (arith, first, less);
  classes = λ at less. ∥∥₁_elim h le_prop (λ w.
      let fits = one-fits table sid w.0 w.1 kind in
      let all = w.1.alphabet in
      omega (arith, one-class table sid at kind, fits, all));
  others = λ byte none s is. sym ((one-at table sid s is kind).2 (class table.classes byte)
      (λ e. none 0 (omega arith) (one-class table sid 0 kind ∙ e)));
}

-- the class above the kind is read there
pub edge-one : (table : Table) (sid at first word : ℕ) → sid < length table.words.items → first ≡ sid
    → word ≡ get_or table.words.items first word → bit_and word 255 ≡ 254 → word / 256 ≡ edge_class table sid at
edge-one table sid at first word within is read kind =
    let here = first-of table.words.items sid first word within is read in
    let low : slice_index table.words.items sid % 256 ≡ 254 = ap (λ n. n % 256) here ∙ (sym (and_mask word 8) ∙ kind) in
    sym (one-class table sid at low ∙ ap (λ n. n / 256) here)

-- ---- few transitions

-- the class of another kind of state is read in its word
pub edge-few : (table : Table) (sid at first word place four : ℕ) (classes : List ℕ)
    → sid + 2 + at / 4 < length table.words.items → first ≡ sid → word ≡ get_or table.words.items first word
    → bit_and word 255 ≢ 254 → place ≡ sid + 2 + at / 4 → four ≡ get_or table.words.items place four
    → classes ≡ to_le_bytes w32 four → get_or classes (at % 4) 0 ≡ edge_class table sid at
edge-few table sid at first word place four classes within is read kind there read_four unpacked =
    let here = first-of table.words.items sid first word (omega (arith, within)) is read in
    let found : get_or table.words.items (sid + 2 + at / 4) 0 ≡ four =
    first-of table.words.items (sid + 2 + at / 4) place four within there read_four in
    ap (λ xs. get_or xs (at % 4) 0) (unpacked ∙ ap (to_le_bytes w32) (sym found))
    ∙ sym (cond-false (slice_index table.words.items sid % 256 == 254) _ _
    (ne_eqb _ _ (λ e. kind (and_mask word 8 ∙ (ap (λ n. n % 256) (sym here) ∙ e)))))

-- the class that is listed at a number is that of the transition of this number
sparse-class : (table : Table) (sid len at : ℕ) (s : StateParts) → IsStateAt table sid s → IsSparseAt table sid len
    → at < len → edge_class table sid at ≡ get_or (classes_of s.edges) at 0
sparse-class table sid len at s h sparse less =
    let a = sparse-at table sid len s h sparse in
    let more = unpack-packed (classes_of s.edges) a.bytes in
    let long = length-map s.edges (λ (edge : ℕ × ℕ). edge.0) in
    let count = a.counted in
    let size = a.words_of in
    let below : at / 4 < (len + 3) / 4 = omega (arith, less) in
    let word : slice_index table.words.items (sid + 2 + at / 4) ≡ get_or (packed (classes_of s.edges)) (at / 4) 0 =
    sym (get_or-drop (sid + 2) table.words.items (at / 4) 0)
    ∙ (sym (get_or-take ((len + 3) / 4) (drop (sid + 2) table.words.items) (at / 4) 0 below)
    ∙ ap (λ xs. get_or xs (at / 4) 0) a.classes.1) in
    let whole : 4 * (at / 4) + at % 4 ≡ at = omega arith in
    cond-false (slice_index table.words.items sid % 256 == 254) _ _
    (ne_eqb _ _ (λ e. sparse.one (sym sparse.kind ∙ e)))
    ∙ (ap (λ w. get_or (to_le_bytes w32 w) (at % 4) 0) word
    ∙ (sym (unpack-at (packed (classes_of s.edges)) (at / 4) (at % 4) (omega (arith, below, size)) (omega arith))
    ∙ (ap (λ n. get_or (flat_map (to_le_bytes w32) (packed (classes_of s.edges))) n 0) whole
    ∙ (ap (λ xs. get_or xs at 0) more.1
    ∙ get_or_append_left (classes_of s.edges) _ 0 at (omega (arith, long, count, less))))))

-- a state with few transitions lists them all
pub sparse-listed : (table : Table) (sid len : ℕ) → (∥ ((s : StateParts) × IsStateAt table sid s) ∥₁)
    → IsSparseAt table sid len → ListsEdges table sid len
sparse-listed table sid len h sparse = record {
  there = λ at less. let within = sparse-within table sid len h sparse in omega (arith, within, less);
  classes = λ at less. ∥∥₁_elim h le_prop (λ w.
      let count = (sparse-at table sid len w.0 w.1 sparse).counted in
      let fits = class-fits table sid w.0 w.1 at (omega (arith, count, less)) in
      let all = w.1.alphabet in
      omega (arith, sparse-class table sid len at w.0 w.1 sparse less, fits, all));
  others = λ byte none s is.
      let count = (sparse-at table sid len s is sparse).counted in
      sym (no-hit s.edges (class table.classes byte) (λ at less e.
      let low : at < len = omega (arith, less, count) in
      none at low (sparse-class table sid len at s is sparse low ∙ e)));
}
