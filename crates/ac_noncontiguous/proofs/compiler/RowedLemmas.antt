-- Which states have a row.
use Rattle.std.proofs.Common.{◌≡◌, ◌≢◌, ◌⊎◌, ◌↔◌, ℕ, ◌+◌, ◌<◌, ◌≤◌, List, length, inl, inr, sym, ap, subst, ◌∙◌, ⊎_elim, arith, slice_index, slice_set, get_or-set_same, get_or-set_other}
use Rattle.std.proofs.lemmas.Bool.{cases_lt, cases_eq}
use Rattle.ac_noncontiguous.specs.Links.{by_state}
use Rattle.ac_noncontiguous.specs.declared.links.Links.{Links}
use Rattle.ac_noncontiguous.specs.declared.trie.Trie.{Trie}
use Rattle.ac_noncontiguous.specs.declared.compiler.numbering.Numbering.{Numbering}
use Rattle.ac_noncontiguous.specs.declared.compiler.outlines.Outline.{Outline}
use Rattle.ac_noncontiguous.specs.declared.compiler.rows.Rows.{Rows}
use Rattle.ac_noncontiguous.specs.declared.nfa.tables.Tables.{Tables}
use Rattle.ac_noncontiguous.specs.Trie.Tree.{depth}
use Rattle.ac_noncontiguous.specs.Links.Order.{IsBreadthFirst}
use Rattle.ac_noncontiguous.specs.Nfa.{kept_of, row_of, no_row, AreRowsBelow}
use Rattle.ac_noncontiguous.specs.Compiler.Assembly.{AreOutlines, AreKept}
use Rattle.ac_noncontiguous.specs.Compiler.Layout.{AreOfDead, AreRowsOf, IsRowedOrFull, AreRowedAbove, AddsRow, AreRowedUpTo}
use Rattle.ac_noncontiguous.specs.Compiler.Numbering.{IsNumbering, AreInRuns}
use Rattle.ac_noncontiguous.proofs.compiler.AssemblyLemmas.{kept-deep, kept-flat}
use Rattle.ac_noncontiguous.proofs.trie.FailsLemmas.{place-of, shallower-before, order-apart}

-- ---- one more state

-- a state gets a row after the others, if it is less deep than `below`
pub rowed-added : {trie : Trie} {numbering : Numbering} {below id i row : ℕ} {old new : Rows}
    → new.offsets.items ≡ slice_set old.offsets.items i row → i ≡ slice_index numbering.of.items id
    → i < length old.offsets.items → depth trie.states.items id < below → row < no_row
    → length old.rows.items ≤ length new.rows.items → AddsRow trie numbering below id old new
rowed-added {i} {row} {old} {new} set is room less fits longer =
    let offsets = old.offsets.items in
    let at : (j : ℕ) → slice_index new.offsets.items j ≡ slice_index (slice_set offsets i row) j =
    λ j. ap (λ xs. slice_index xs j) set in
    record {
      others = λ j ne. at j ∙ get_or-set_other offsets i j row 0 (λ e. ne (e ∙ is));
      longer = longer;
      deep = λ deep. absurd (omega (arith, deep, less));
      shallow = λ _. subst (IsRowedOrFull new) is
          (inl (λ e. let has = at i ∙ get_or-set_same offsets i row 0 room in omega (arith, e, has, fits)));
    }

-- the states before a place of the order have their rows, and so have all that are less deep than the state there
pub rowed-above : {trie : Trie} {numbering : Numbering} {order : List ℕ} {below k id : ℕ} {it : Rows}
    → IsBreadthFirst trie.states.items order → k < length order → id ≡ slice_index order k
    → AreRowedUpTo trie numbering order below k it → AreRowedAbove trie numbering below id it
rowed-above {trie} {numbering} {k} {it} o k_in is h =
    let states = trie.states.items in
    record {
      dead = h.dead.1;
      shallow = λ f f_in less shallow.
          let p = place-of o f_in in
          let at = ap (depth states) p.2 in
          let own = ap (depth states) is in
          let lt : p.0 < k = shallower-before o p.1 k_in (omega (arith, at, own, less)) in
          subst (λ x. IsRowedOrFull it (slice_index numbering.of.items x)) p.2
          (h.shallow p.0 lt (omega (arith, at, shallow)));
    }

-- ---- all states

-- at first the dead state alone has a row, if any is wanted
pub rowed-none : {trie : Trie} {numbering : Numbering} {order : List ℕ} {below : ℕ} {classes : List ℕ} {it : Rows}
    → AreOfDead (length numbering.at.items) below classes it → AreRowedUpTo trie numbering order below 0 it
rowed-none h =
    record {
      dead = h.wanted;
      deep = λ i past i_in deep. h.none i (omega (arith, past)) i_in;
      shallow = λ k lt less. absurd (omega (arith, lt));
    }

-- one more state of the order has its row
pub rowed-more : {trie : Trie} {numbering : Numbering} {order : List ℕ} {below k id : ℕ} {old new : Rows}
    → IsNumbering (length trie.states.items) numbering → IsBreadthFirst trie.states.items order → k < length order
    → id ≡ slice_index order k → AddsRow trie numbering below id old new → AreRowedUpTo trie numbering order below k old
    → AreRowedUpTo trie numbering order below (k + 1) new
rowed-more {trie} {numbering} {order} {below} {k} {id} {old} {new} n o k_in is r h =
    let states = trie.states.items in
    let of = numbering.of.items in
    let at = numbering.at.items in
    let id_in : id < length states = omega (arith, is, o.within k k_in) in
    let own = n.numbers.numbers id id_in in
    let zero : slice_index new.offsets.items 0 ≡ slice_index old.offsets.items 0 =
    r.others 0 (λ e. omega (arith, e, own.0)) in
    record {
      dead = subst (λ place. (place ≢ no_row) ↔ (0 < below)) (sym zero) h.dead;
      deep = λ i past i_in deep.
          ⊎_elim
          (λ (here : i ≡ slice_index of id).
          let same = ap (depth states) (ap (slice_index at) here ∙ own.3) in
          let kept = r.deep (omega (arith, same, deep)) in
          ap (slice_index new.offsets.items) here
          ∙ (kept ∙ (ap (slice_index old.offsets.items) (sym here) ∙ h.deep i past i_in deep)))
          (λ (there : i ≢ slice_index of id). r.others i there ∙ h.deep i past i_in deep)
          (cases_eq i (slice_index of id));
      shallow = λ j lt less.
          ⊎_elim
          (λ (before : j < k).
          let x = slice_index order j in
          let x_in = o.within j (omega (arith, before, k_in)) in
          let apart : slice_index of x ≢ slice_index of id =
          λ e. order-apart o before k_in (sym (n.numbers.numbers x x_in).3 ∙ (ap (slice_index at) e ∙ (own.3 ∙ is))) in
          ⊎_elim
          (λ (some : slice_index old.offsets.items (slice_index of x) ≢ no_row).
          inl (λ e. some (sym (r.others (slice_index of x) apart) ∙ e)))
          (λ (full : no_row ≤ length old.rows.items). inr (omega (arith, full, r.longer)))
          (h.shallow j before less))
          (λ (last : k ≤ j).
          let here : slice_index order j ≡ id = ap (slice_index order) (let e : j ≡ k = omega (arith, lt, last) in e)
          ∙ sym is in
          let same = ap (depth states) here in
          subst (λ x. IsRowedOrFull new (slice_index of x)) (sym here) (r.shallow (omega (arith, same, less))))
          (cases_lt j k);
    }

-- the anchored start shares the row of the unanchored one
pub rowed-shared : {trie : Trie} {numbering : Numbering} {order : List ℕ} {below row : ℕ} {old new : Rows}
    → new.offsets.items ≡ slice_set old.offsets.items (numbering.start + 1) row
    → length old.rows.items ≡ length new.rows.items → IsNumbering (length trie.states.items) numbering
    → IsBreadthFirst trie.states.items order → length old.offsets.items ≡ length numbering.at.items
    → row ≡ slice_index old.offsets.items numbering.start → AreRowedUpTo trie numbering order below (length order) old
    → AreRowedUpTo trie numbering order below (length order) new
rowed-shared {trie} {numbering} {order} {below} {row} {old} {new} set same_rows n o counted is h =
    let start = numbering.start in
    let p = n.places.starts in
    let states = trie.states.items in
    let at = numbering.at.items in
    let offsets = old.offsets.items in
    let read : (j : ℕ) → slice_index new.offsets.items j ≡ slice_index (slice_set offsets (start + 1) row) j =
    λ j. ap (λ xs. slice_index xs j) set in
    let other : (j : ℕ) → j ≢ start + 1
    → slice_index new.offsets.items j ≡ slice_index offsets j = λ j apart. read j
    ∙ get_or-set_other offsets (start + 1) j row 0 apart in
    let zero : slice_index new.offsets.items 0 ≡ slice_index offsets 0 = other 0 (λ e. omega (arith, e)) in
    record {
      dead = subst (λ place. (place ≢ no_row) ↔ (0 < below)) (sym zero) h.dead;
      deep = λ i past i_in deep.
          ⊎_elim
          (λ (here : i ≡ start + 1).
          let same = ap (depth states) (ap (slice_index at) here ∙ (p.3 ∙ sym p.2)) in
          let none : row ≡ no_row = is ∙ h.deep start p.0 (omega (arith, p.1)) (omega (arith, same, deep)) in
          ap (slice_index new.offsets.items) here
          ∙ (read (start + 1) ∙ (get_or-set_same offsets (start + 1) row 0 (omega (arith, p.1, counted)) ∙ none)))
          (λ (there : i ≢ start + 1). other i there ∙ h.deep i past i_in deep)
          (cases_eq i (start + 1));
      shallow = λ k lt less.
          let j = slice_index numbering.of.items (slice_index order k) in
          let own = n.numbers.numbers (slice_index order k) (o.within k lt) in
          ⊎_elim
          (λ (some : slice_index offsets j ≢ no_row). inl (λ e. some (sym (other j own.2) ∙ e)))
          (λ (full : no_row ≤ length old.rows.items). inr (omega (arith, full, same_rows)))
          (h.shallow k lt less);
    }

-- ---- the tables

-- a state has a row if that of its trie state's number has one: it is that state, or the anchored start, which shares
-- the row
own-rowed : {trie : Trie} {numbering : Numbering} {links : Links} {back i : ℕ} {classes : List ℕ} (it : Rows)
    → IsNumbering (length trie.states.items) numbering → AreInRuns trie.states.items numbering.at.items numbering.start
    → AreRowsOf trie numbering links back classes it.offsets.items it.rows.items → 1 < i → i < length numbering.at.items
    → IsRowedOrFull it (slice_index numbering.of.items (slice_index numbering.at.items i)) → IsRowedOrFull it i
own-rowed {numbering} {i} it n runs r past i_in some =
    let x = slice_index numbering.at.items i in
    let number = n.numbers.numbers x (n.places.within i i_in) in
    let j = slice_index numbering.of.items x in
    ⊎_elim
    (λ (lower : i < j). let two = runs.apart i j past lower number.1 (sym number.3) in absurd (number.2 two.1))
    (λ (not_lower : j ≤ i).
    ⊎_elim
    (λ (same : j ≡ i). subst (IsRowedOrFull it) same some)
    (λ (apart : j ≢ i).
    let two = runs.apart j i number.0 (omega (arith, not_lower, apart)) i_in number.3 in
    let shared : slice_index it.offsets.items j ≡ slice_index it.offsets.items i =
    ap (slice_index it.offsets.items) two.0 ∙ (sym r.shared ∙ ap (slice_index it.offsets.items) (sym two.1)) in
    subst (λ k. (k ≢ no_row) ⊎ (no_row ≤ length it.rows.items)) shared some)
    (cases_eq j i))
    (cases_lt i j)

-- the rows of the tables are those of the states less deep than `below`
pub rows-below : {trie : Trie} {numbering : Numbering} {links : Links} {order : List ℕ} {back below : ℕ}
    {outlines : List Outline} {transitions : List ℕ} {it : Rows} {tables : Tables}
    → tables.rows.items ≡ it.rows.items
    → IsNumbering (length trie.states.items) numbering → AreInRuns trie.states.items numbering.at.items numbering.start
    → IsBreadthFirst trie.states.items order
    → AreRowsOf trie numbering links back tables.classes it.offsets.items it.rows.items
    → AreRowedUpTo trie numbering order below (length order) it
    → AreOutlines trie numbering links (length numbering.at.items) outlines
    → AreKept outlines numbering.at.items (by_state links.ranges) transitions it.offsets.items tables.states.items
    → AreRowsBelow below tables
rows-below {trie} {numbering} {below} {it} {tables} same_rows n runs o r h outlined kept =
    let states = tables.states.items in
    let offsets = it.offsets.items in
    let at = numbering.at.items in
    let inside : (i : ℕ) → i + 1 < length states → i < length at = λ i lt. omega (arith, kept.counted, lt) in
    let place : (i : ℕ) → i + 1 < length states
    → row_of states i ≡ slice_index offsets i = λ i lt. (kept.kept i (inside i lt)).places.1 in
    record {
      only = λ i lt has.
          let some : slice_index offsets i ≢ no_row = λ e. has (place i lt ∙ e) in
          let stands : i ≢ 1 = λ e. some (ap (slice_index offsets) e ∙ r.have.fail) in
          ⊎_elim
          (λ (dead : i ≡ 0).
          let flat = (kept-flat outlined kept (omega (arith, dead)) (inside i lt)).1 in
          (stands, omega (arith, flat, h.dead.0 (λ e. some (ap (slice_index offsets) dead ∙ e)))))
          (λ (live : i ≢ 0).
          let past : 1 < i = omega arith in
          let deep = kept-deep outlined kept past (inside i lt) in (
            stands,
            ⊎_elim
                (λ (less : (kept_of states i).depth < below). less)
                (λ (more : below ≤ (kept_of states i).depth).
                absurd (some (h.deep i past (inside i lt) (omega (arith, deep, more)))))
                (cases_lt ((kept_of states i).depth) below),
          ))
          (cases_eq i 0);
      all = λ i lt stands less.
          let rowed : IsRowedOrFull it i =
          ⊎_elim
          (λ (dead : i ≡ 0). inl (λ e. h.dead.1 (omega arith) (ap (slice_index offsets) (sym dead) ∙ e)))
          (λ (live : i ≢ 0).
          let past : 1 < i = omega arith in
          let deep = kept-deep outlined kept past (inside i lt) in
          let k = place-of o (n.places.within i (inside i lt)) in
          let same = ap (depth trie.states.items) k.2 in
          own-rowed it n runs r past (inside i lt)
          (subst (λ y. IsRowedOrFull it (slice_index numbering.of.items y)) k.2
          (h.shallow k.0 k.1 (omega (arith, same, deep, less)))))
          (cases_eq i 0) in
          subst (λ xs. (row_of states i ≢ no_row) ⊎ (no_row ≤ length xs)) (sym same_rows)
          (subst (λ m. (m ≢ no_row) ⊎ (no_row ≤ length it.rows.items)) (sym (place i lt)) rowed);
    }
