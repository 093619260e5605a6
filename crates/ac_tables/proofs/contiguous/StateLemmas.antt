-- Where a byte leads from a state of the table, read from its words.
use Rattle.std.proofs.Common.{◌≡◌, ◌≢◌, ℕ, ◌+◌, ◌/◌, ◌%◌, ◌-◌, ◌<◌, ◌≤◌, List, length, take, drop, get_or, Option, Some, None, refl, sym, ap, subst, ◌∙◌, ⊎_elim, arith}
use Rattle.std.specs.Prelude.{slice_index, bit_and}
use Rattle.std.specs.Coded.{le_prop, Coded-set, coded_ℕ}
use Rattle.std.proofs.Math.Logic.{∥∥₁_elim}
use Rattle.std.proofs.lemmas.Bool.{cases_lt}
use Rattle.std.proofs.lemmas.List.{get_or-map, length-map, get_or_append_left, get_or_read}
use Rattle.std.proofs.lemmas.Nat.{and_mask}
use Rattle.std.proofs.lemmas.Option.{slice_get-get_or}
use Rattle.ac_input.specs.Number.{greatest_number}
use Rattle.ac_input.specs.Alphabet.{alphabet_len}
use Rattle.ac_tables.specs.declared.contiguous.table.Table.{Table}
use Rattle.ac_tables.specs.Contiguous.Words.{StateParts, form_of, next_by, packed, classes_of, kind_word, first_class, nexts_of}
use Rattle.ac_tables.specs.Contiguous.WordReads.{IsFirstPlace, IsStateAt, IsSparseAt, ByteLeadsTo}
use Rattle.std.specs.Int.{w32}
use Rattle.std.specs.List.{flat_map}
use Rattle.std.specs.Int.{to_le_bytes}
use Rattle.ac_noncontiguous.proofs.lemmas.IndexLemmas.{read-there}
use Rattle.ac_tables.proofs.contiguous.DecodeLemmas.{state-kind, state-fail, form-dense, form-one, form-sparse, kind-one, dense-next, one-next, sparse-classes, sparse-nexts, stands-item}
use Rattle.ac_tables.proofs.contiguous.PackedLemmas.{AreBytes, unpack-packed, unpack-long, first-hit, no-hit}

-- ---- a place

-- a state begins within the words
pub place-within : (table : Table) (sid : ℕ) → (∥ ((s : StateParts) × IsStateAt table sid s) ∥₁)
    → sid < length table.words.items
place-within table sid h =
    ∥∥₁_elim h le_prop (λ w. (state-kind table.words.items sid table.alphabet_len w.0 w.1.stands).0)

-- the word read at a state's place is its first word
pub first-of : (words : List ℕ) (sid at word : ℕ) → sid < length words → at ≡ sid → word ≡ get_or words at word
    → get_or words sid 0 ≡ word
first-of words sid at word within is read = sym (read-there words within is read)

-- the word that is read at a state's place is its first word, and its low bits are the kind
pub word-of : (table : Table) (sid : ℕ) {at word : ℕ} → (∥ ((s : StateParts) × IsStateAt table sid s) ∥₁) → at ≡ sid
    → word ≡ get_or table.words.items at word
    → (get_or table.words.items sid 0 ≡ word) × (get_or table.words.items sid 0 % 256 ≡ bit_and word 255)
word-of table sid {at} {word} h is read =
    let first = first-of table.words.items sid at word (place-within table sid h) is read in
    (first, ap (λ n. n % 256) first ∙ sym (and_mask word 8))

-- the kind in the first word is the kind of the state
pub same-kind : (table : Table) (sid : ℕ) (s : StateParts) (low : ℕ) → IsStateAt table sid s
    → slice_index table.words.items sid % 256 ≡ low → kind_word (form_of s) s.edges % 256 ≡ low
same-kind table sid s low h is =
    ap (λ n. n % 256) (sym (state-kind table.words.items sid table.alphabet_len s h.stands).1) ∙ is

-- ---- a state with an entry for each class

pub dense-at : (table : Table) (sid c place : ℕ) (s : StateParts) → IsStateAt table sid s
    → slice_index table.words.items sid % 256 ≡ 255 → c < table.alphabet_len → place ≡ sid + 2 + c
    → (place < length table.words.items) × (slice_index table.words.items place ≡ next_by s.edges c)
dense-at table sid c place s h kind within there =
    dense-next table.words.items sid table.alphabet_len s h.stands c place
    (form-dense s (same-kind table sid s 255 h kind)) within there

-- ---- a state with one transition

pub one-at : (table : Table) (sid : ℕ) (s : StateParts) → IsStateAt table sid s
    → slice_index table.words.items sid % 256 ≡ 254
    → (sid + 2 < length table.words.items)
    × ((c : ℕ) → slice_index table.words.items sid / 256 ≡ c
    → slice_index table.words.items (sid + 2) ≡ next_by s.edges c)
    × ((c : ℕ) → slice_index table.words.items sid / 256 ≢ c → next_by s.edges c ≡ 1)
one-at table sid s h kind =
    let form = form-one s (same-kind table sid s 254 h kind) in
    let next = one-next table.words.items sid table.alphabet_len s h.stands form.0 form.1 in
    let first : slice_index table.words.items sid / 256 ≡ first_class s.edges =
    ap (λ n. n / 256)
    ((state-kind table.words.items sid table.alphabet_len s h.stands).1 ∙ ap (λ f. kind_word f s.edges) form.0)
    ∙ (kind-one s.edges).1 in
    (next.0, λ c hit. next.1 c (sym first ∙ hit), λ c other. next.2 c (λ e. other (first ∙ e)))

-- ---- a state with few transitions

-- the class of each of its transitions is one of the alphabet
pub class-fits : (table : Table) (sid : ℕ) (s : StateParts) → IsStateAt table sid s → (i : ℕ) → i < length s.edges
    → get_or (classes_of s.edges) i 0 < table.alphabet_len
class-fits table sid s h i less =
    let fits = h.fits i (get_or s.edges i (0, 0)) (slice_get-get_or s.edges i (0, 0) less) in
    let same : get_or (classes_of s.edges) i 0 ≡ (get_or s.edges i (0, 0)).0 =
    get_or-map (λ (edge : ℕ × ℕ). edge.0) s.edges i (0, 0) 0 less in
    omega (arith, fits, same)

-- so it is a byte
classes-bytes : (table : Table) (sid : ℕ) (s : StateParts) → IsStateAt table sid s → AreBytes (classes_of s.edges)
classes-bytes table sid s h i within =
    let long = length-map s.edges (λ (edge : ℕ × ℕ). edge.0) in
    let fits = class-fits table sid s h i (omega (arith, within, long)) in
    let few = h.few_classes in
    omega (arith, fits, few)

-- What is known of a sparse state's words: how many classes it has, and that they are packed before the next places.
pub record AreSparse (words : List ℕ) (sid len : ℕ) (edges : List (ℕ × ℕ)) : Type 0 where
  pub few : len ≤ 127
  pub counted : length edges ≡ len
  pub words_of : length (packed (classes_of edges)) ≡ (len + 3) / 4
  pub classes : (sid + 2 + (len + 3) / 4 ≤ length words)
      × (take ((len + 3) / 4) (drop (sid + 2) words) ≡ packed (classes_of edges))
  pub nexts : (k place : ℕ) → k < len → place ≡ sid + 2 + (len + 3) / 4 + k
      → (place < length words) × (get_or words place 0 ≡ get_or (nexts_of edges) k 0)
  pub bytes : AreBytes (classes_of edges)

pub sparse-at : (table : Table) (sid len : ℕ) (s : StateParts) → IsStateAt table sid s → IsSparseAt table sid len
    → AreSparse table.words.items sid len s.edges
sparse-at table sid len s h sparse =
    let kind = same-kind table sid s len h sparse.kind in
    let form = form-sparse s (λ e. sparse.dense (sym kind ∙ e)) (λ e. sparse.one (sym kind ∙ e)) in
    let count : length s.edges ≡ len = sym form.2 ∙ kind in
    let few = form.1 in
    let bytes = classes-bytes table sid s h in
    let more = unpack-packed (classes_of s.edges) bytes in
    let filled = more.2 in
    let less = more.3 in
    let long = length-map s.edges (λ (edge : ℕ × ℕ). edge.0) in
    let same : length (packed (classes_of s.edges)) ≡ (len + 3) / 4 = omega (arith, filled, less, long, count) in
    let classes = sparse-classes table.words.items sid table.alphabet_len s h.stands form.0 in
    let nexts = sparse-nexts table.words.items sid table.alphabet_len s h.stands form.0 in
    let all = length-map s.edges (λ (edge : ℕ × ℕ). edge.1) in
    record {
      few = omega (arith, few, count);
      counted = count;
      words_of = same;
      classes =
          subst (λ n. (sid + 2 + n ≤ length table.words.items)
          × (take n (drop (sid + 2) table.words.items) ≡ packed (classes_of s.edges))) same classes;
      nexts = λ k place within there.
          stands-item table.words.items (nexts_of s.edges) (sid + 2 + length (packed (classes_of s.edges))) k place
          nexts
          (omega (arith, within, all, count)) (omega (arith, there, same));
      bytes = bytes;
    }

-- the place of the wanted class is that of a transition, which gives the next state
pub sparse-hit : (words : List ℕ) (sid len wanted i : ℕ) (edges : List (ℕ × ℕ)) → AreSparse words sid len edges
    → IsFirstPlace (flat_map (to_le_bytes w32) (packed (classes_of edges))) wanted (Some i)
    → (i < len) × (next_by edges wanted ≡ get_or (nexts_of edges) i 0)
sparse-hit words sid len wanted i edges h hit =
    let more = unpack-packed (classes_of edges) h.bytes in
    let is = more.1 in
    let filled = more.2 in
    let less = more.3 in
    let count = h.counted in
    let long = length-map edges (λ (edge : ℕ × ℕ). edge.0) in
    let all = unpack-long (packed (classes_of edges)) in
    let within = hit.0 in
    let some : 0 < length edges = omega (arith, within, all, filled, less, long) in
    let there = first-hit edges wanted more.0 i (omega (arith, within, all, filled, long))
    (ap (λ xs. get_or xs i 0) (sym is) ∙ hit.1) (λ k lt e. hit.2 k lt (ap (λ xs. get_or xs k 0) is ∙ e)) some in
    (omega (arith, there.0, count), there.1)

-- if the wanted class isn't there, no transition has it
pub sparse-miss : (words : List ℕ) (sid len wanted : ℕ) (edges : List (ℕ × ℕ)) → AreSparse words sid len edges
    → IsFirstPlace (flat_map (to_le_bytes w32) (packed (classes_of edges))) wanted None → next_by edges wanted ≡ 1
sparse-miss words sid len wanted edges h miss =
    let more = unpack-packed (classes_of edges) h.bytes in
    let is = more.1 in
    let filled = more.2 in
    let long = length-map edges (λ (edge : ℕ × ℕ). edge.0) in
    let all = unpack-long (packed (classes_of edges)) in
    no-hit edges wanted
    (λ k lt e. miss k (omega (arith, lt, all, filled, long))
    (ap (λ xs. get_or xs k 0) is ∙ (get_or_append_left (classes_of edges) _ 0 k (omega (arith, lt, long)) ∙ e)))

-- the packed classes, and the places after them, are within the words
pub sparse-within : (table : Table) (sid len : ℕ) → (∥ ((s : StateParts) × IsStateAt table sid s) ∥₁)
    → IsSparseAt table sid len → sid + 2 + (len + 3) / 4 + len ≤ length table.words.items
sparse-within table sid len h sparse = ∥∥₁_elim h le_prop (λ w.
    let a = sparse-at table sid len w.0 w.1 sparse in
    ⊎_elim
    (λ (some : 0 < len). let last = a.nexts (len - 1) (sid + 2 + (len + 3) / 4 + (len - 1)) (omega (arith, some))
    refl in omega (arith, last.0, some))
    (λ (none : len ≤ 0). let front = a.classes.0 in omega (arith, front, none))
    (cases_lt 0 len))

-- What a search of the packed classes of a state found.
module _ (table : Table) (sid len wanted : ℕ) (part : List ℕ) (s : StateParts) (h : IsStateAt table sid s)
    (sparse : IsSparseAt table sid len) (is : part ≡ take ((len + 3) / 4) (drop (sid + 2) table.words.items)) where
  sparse-part : (r : Option ℕ) → IsFirstPlace (flat_map (to_le_bytes w32) part) wanted r
      → IsFirstPlace (flat_map (to_le_bytes w32) (packed (classes_of s.edges))) wanted r
  sparse-part r found =
      subst (λ xs. IsFirstPlace (flat_map (to_le_bytes w32) xs) wanted r)
      (is ∙ (sparse-at table sid len s h sparse).classes.1) found

  -- the place of the wanted class is that of a transition
  pub sparse-at_place : (i : ℕ) → IsFirstPlace (flat_map (to_le_bytes w32) part) wanted (Some i) → i < len
  sparse-at_place i found =
      (sparse-hit table.words.items sid len wanted i s.edges (sparse-at table sid len s h sparse)
      (sparse-part (Some i) found)).0

  -- the word at that transition gives where the class leads
  pub sparse-leads : (i place next : ℕ) → IsFirstPlace (flat_map (to_le_bytes w32) part) wanted (Some i)
      → place ≡ sid + 2 + (len + 3) / 4 + i → next ≡ get_or table.words.items place next → next ≡ next_by s.edges wanted
  sparse-leads i place next found there read =
      let a = sparse-at table sid len s h sparse in
      let hit = sparse-hit table.words.items sid len wanted i s.edges a (sparse-part (Some i) found) in
      let at = a.nexts i place hit.0 there in
      get_or_read table.words.items place next at.0 read 0 ∙ (at.1 ∙ sym hit.1)

  -- if the wanted class isn't there, it leads nowhere
  pub sparse-nowhere : IsFirstPlace (flat_map (to_le_bytes w32) part) wanted None → next_by s.edges wanted ≡ 1
  sparse-nowhere found =
      sparse-miss table.words.items sid len wanted s.edges (sparse-at table sid len s h sparse) (sparse-part None found)

-- the place of the wanted class is that of a transition, whatever state stands there
pub sparse-some_place : (table : Table) (sid len wanted i : ℕ) (part : List ℕ)
    → (∥ ((s : StateParts) × IsStateAt table sid s) ∥₁) → IsSparseAt table sid len
    → part ≡ take ((len + 3) / 4) (drop (sid + 2) table.words.items)
    → IsFirstPlace (flat_map (to_le_bytes w32) part) wanted (Some i) → i < len
sparse-some_place table sid len wanted i part h sparse is found =
    ∥∥₁_elim h le_prop (λ w. sparse-at_place table sid len wanted part w.0 w.1 sparse is i found)

-- ---- where a byte leads, in any state

-- a byte leads to a number that is at most the greatest, also if that is the number of nowhere
pub step-small : (table : Table) (sid byte next : ℕ) → (∥ ((s : StateParts) × IsStateAt table sid s) ∥₁) → byte < 256
    → ByteLeadsTo table sid byte next → next ≤ greatest_number
step-small table sid byte next h small leads =
    ∥∥₁_elim h le_prop (λ w. let fits = w.1.nexts byte small in omega (arith, leads w.0 w.1, fits))

-- the table's alphabet is that of its classes
pub place-alphabet : (table : Table) (sid : ℕ) → (∥ ((s : StateParts) × IsStateAt table sid s) ∥₁)
    → table.alphabet_len ≡ alphabet_len table.classes
place-alphabet table sid h = ∥∥₁_elim h (Coded-set coded_ℕ _ _) (λ w. w.1.alphabet)

-- the entry of a class is within the words, in a state with an entry for each class
pub dense-place : (table : Table) (sid c : ℕ) → (∥ ((s : StateParts) × IsStateAt table sid s) ∥₁)
    → slice_index table.words.items sid % 256 ≡ 255 → c < table.alphabet_len → sid + 2 + c < length table.words.items
dense-place table sid c h kind within =
    ∥∥₁_elim h le_prop (λ w. (dense-at table sid c (sid + 2 + c) w.0 w.1 kind within refl).0)

-- the entry of the only transition is within the words
pub one-place : (table : Table) (sid : ℕ) → (∥ ((s : StateParts) × IsStateAt table sid s) ∥₁)
    → slice_index table.words.items sid % 256 ≡ 254 → sid + 2 < length table.words.items
one-place table sid h kind = ∥∥₁_elim h le_prop (λ w. (one-at table sid w.0 w.1 kind).0)

-- ---- the failure of a state

-- the second word of a state is within the words
pub fail-within : (table : Table) (sid : ℕ) → (∥ ((s : StateParts) × IsStateAt table sid s) ∥₁)
    → sid + 1 < length table.words.items
fail-within table sid h =
    ∥∥₁_elim h le_prop (λ w. (state-fail table.words.items sid table.alphabet_len w.0 w.1.stands).0)

-- the second word of a state gives its failure
pub fail-read : (table : Table) (sid place fail : ℕ) → place ≡ sid + 1 → fail ≡ get_or table.words.items place fail
    → ((s : StateParts) → IsStateAt table sid s → fail ≡ s.fail)
fail-read table sid place fail is read s h =
    let there = state-fail table.words.items sid table.alphabet_len s h.stands in
    let within = there.0 in
    get_or_read table.words.items place fail (omega (arith, within, is)) read 0
    ∙ (ap (λ n. get_or table.words.items n 0) is ∙ there.1)
