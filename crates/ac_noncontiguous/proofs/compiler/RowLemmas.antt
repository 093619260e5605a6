-- The rows of the states, by classes of bytes.
use Rattle.std.proofs.Common.{◌≡◌, ◌≢◌, ℕ, ◌+◌, ◌<◌, ◌≤◌, Bool, true, List, length, refl, sym, ap, ap₂, subst, ◌∙◌, ⊎_elim, arith, slice_index, slice_set, slice_get, Option, Some, None, length-set, get_or-set_same, get_or-set_other}
use Rattle.std.proofs.lemmas.Bool.{cases_lt, cases_eq}
use Rattle.std.proofs.lemmas.Bool.Decides.{nat_tests}
use Rattle.ac_input.specs.Same.{other}
use Rattle.ac_input.specs.Alphabet.{has, class, AreClassesOf}
use Rattle.ac_input.specs.Alphabet.Classes.{IsParted}
use Rattle.ac_input.specs.Laws.LiveLaws.{canonical}
use Rattle.ac_input.proofs.lemmas.ClassLemmas.{parted-alone}
use Rattle.ac_noncontiguous.specs.declared.links.Links.{Links}
use Rattle.ac_noncontiguous.specs.declared.trie.Trie.{Trie}
use Rattle.ac_noncontiguous.specs.declared.compiler.numbering.Numbering.{Numbering}
use Rattle.ac_noncontiguous.specs.declared.compiler.rows.Rows.{Rows}
use Rattle.ac_noncontiguous.specs.Trie.Tree.{byte}
use Rattle.ac_noncontiguous.specs.Nfa.{no_row}
use Rattle.ac_noncontiguous.specs.Compiler.Numbering.{FitsTrie, IsNumbering}
use Rattle.ac_noncontiguous.specs.Compiler.Assembly.{IsFailureOf, number_or_dead}
use Rattle.ac_noncontiguous.specs.Trie.Entering.{HasNoChild}
use Rattle.ac_noncontiguous.specs.Compiler.Edges.{IsEdgeTo}
use Rattle.ac_noncontiguous.specs.Compiler.Layout.{AreAlone, LeadAlike, KeepsRows, IsRowAppended, or_failure, AreWithFailures, LeadsOver, ByItself, ByFailure, AreOfDead, IsRowAt, HaveRows, AreRowsOf, AreStateEdges}
use Rattle.ac_noncontiguous.proofs.compiler.EdgeLemmas.{edge-dead}
use Rattle.ac_input.proofs.lemmas.SameLemmas.{other-small, own-inverse}

-- ---- classes

-- more boundaries leave a parted byte parted
parted-kept : (old new : List Bool) (x : ℕ) → ((b : ℕ) → has old b ≡ true → has new b ≡ true) → IsParted old x
    → IsParted new x
parted-kept old new x kept h = (kept x h.0, λ before e. kept before (h.1 before e))

-- the boundaries around the bytes of the first n states of a trie and their partners, and no others
pub record AreBoundaries (trie : Trie) (states : ℕ) (boundaries : List Bool) : Type 0 where
  pub parted : (c : ℕ) → 0 < c → c < states
      → (byte trie.states.items c < 256) × IsParted boundaries (byte trie.states.items c)
      × IsParted boundaries (other trie.pairing (byte trie.states.items c))
  pub edges : AreStateEdges trie states boundaries

-- the boundaries around the byte of one more state
pub parted-more : (trie : Trie) (id b o : ℕ) (old mid new : List Bool)
    → ((c : ℕ) → 0 < c → c < id → (byte trie.states.items c < 256) × IsParted old (byte trie.states.items c)
    × IsParted old (other trie.pairing (byte trie.states.items c))) → b ≡ byte trie.states.items id → b < 256
    → o ≡ other trie.pairing b → IsParted mid b → ((x : ℕ) → has old x ≡ true → has mid x ≡ true) → IsParted new o
    → ((x : ℕ) → has mid x ≡ true → has new x ≡ true)
    → ((c : ℕ) → 0 < c → c < (id + 1)
    → (byte trie.states.items c < 256) × IsParted new (byte trie.states.items c)
    × IsParted new (other trie.pairing (byte trie.states.items c)))
parted-more trie id b o old mid new before is_byte small is_other at_byte first at_other second c some within =
    let both : (x : ℕ) → has old x ≡ true → has new x ≡ true = λ x h. second x (first x h) in
    ⊎_elim
    (λ (lt : c < id).
    let h = before c some lt in
    (h.0, parted-kept old new _ both h.1, parted-kept old new _ both h.2))
    (λ (ge : id ≤ c).
    let here : c ≡ id = omega arith in
    let low : b ≡ byte trie.states.items c = is_byte ∙ ap (byte trie.states.items) (sym here) in (
      omega arith,
      subst (IsParted new) low (parted-kept mid new b second at_byte),
      subst (IsParted new) (is_other ∙ ap (other trie.pairing) low) at_other,
    ))
    (cases_lt c id)

-- the byte of each state, if it is parted from the others, is a class of its own
pub parted-all : (trie : Trie) {boundaries : List Bool} {classes : List ℕ} → AreClassesOf boundaries classes
    → ((c : ℕ) → 0 < c → c < (length trie.states.items)
    → (byte trie.states.items c < 256) × IsParted boundaries (byte trie.states.items c)
    × IsParted boundaries (other trie.pairing (byte trie.states.items c))) → AreAlone trie classes
parted-all trie h parted c some within =
    let p = parted c some within in (
      parted-alone h p.0 (λ _. p.1.0) p.1.1,
      parted-alone h (other-small trie.pairing trie.paired _ p.0) (λ _. p.2.0) p.2.1,
    )

-- a byte that shares a class with another byte is not the byte of a child
alike-none : (trie : Trie) (classes : List ℕ) {of x y : ℕ} → AreAlone trie classes → x ≢ y → x < 256 → y < 256
    → class classes y ≡ class classes x → HasNoChild trie.states.items of (canonical trie.pairing x)
alike-none trie classes {x} {y} alone ne small y_small same c some within above is_low =
    let a = alone c some within in
    let low = byte trie.states.items c in
    ⊎_elim
    (λ (own : x < other trie.pairing x + 1).
    let here : low ≡ x = omega arith in
    ne (sym (a.0 y y_small (same ∙ ap (class classes) (sym here)) ∙ here)))
    (λ (less : other trie.pairing x + 1 ≤ x).
    let here : low ≡ other trie.pairing x = omega arith in
    let back : other trie.pairing low ≡ x = ap (other trie.pairing) here ∙ own-inverse trie.pairing x in
    ne (sym (a.1 y y_small (same ∙ ap (class classes) (sym back)) ∙ back)))
    (cases_lt x (other trie.pairing x + 1))

-- bytes of one class lead to one state
pub lead-alike : {trie : Trie} {numbering : Numbering} {back i : ℕ} (classes edges : List ℕ) → AreAlone trie classes
    → i ≢ 1 → ((b : ℕ) → b < 256 → IsEdgeTo trie numbering back i b (slice_index edges b)) → LeadAlike classes edges
lead-alike {trie} {numbering} {i} classes edges alone not_fail e b c b_small c_small same =
    ⊎_elim
    (λ (equal : b ≡ c). ap (slice_index edges) equal)
    (λ (ne : b ≢ c).
    let eb = e b b_small in
    let ec = e c c_small in
    ⊎_elim
    (λ (dead : i ≡ 0). eb.dead dead ∙ sym (ec.dead dead))
    (λ (live : i ≢ 0).
    let past : 1 < i = omega arith in
    let of = slice_index numbering.at.items i in
    eb.none past (alike-none trie classes alone ne b_small c_small (sym same))
    ∙ sym (ec.none past (alike-none trie classes alone (λ h. ne (sym h)) c_small b_small same)))
    (cases_eq i 0))
    (cases_eq b c)

-- ---- rows

-- a row is written class by class, in order of byte
pub row-none : {classes edges old new : List ℕ} → KeepsRows old new → IsRowAppended classes edges 0 old new
row-none kept = record { keeps = kept; row = λ b lt. absurd (omega arith) }

pub row-more : {classes edges old new : List ℕ} {b at next : ℕ} → LeadAlike classes edges → b < 256
    → at ≡ length old + class classes b → next ≡ slice_index edges b → at < length new
    → IsRowAppended classes edges b old new → IsRowAppended classes edges (b + 1) old (slice_set new at next)
row-more {classes} {old} {new} {b} {at} {next} alike small is_at is_next room h =
    let more = slice_set new at next in
    let len : length more ≡ length new = length-set new at next in
    record {
      keeps = record {
        longer = omega (arith, h.keeps.longer);
        same = λ k within. get_or-set_other new at k next 0 (omega arith) ∙ h.keeps.same k within;
      };
      row = λ c lt.
          let place = length old + class classes c in
          ⊎_elim
          (λ (here : place ≡ at).
          let written : slice_index more place ≡ next = ap (slice_index more) here
          ∙ get_or-set_same new at next 0 room in
          let one : class classes c ≡ class classes b = omega arith in
          (omega arith, written ∙ (is_next ∙ sym (alike c b (omega arith) small one))))
          (λ (there : place ≢ at).
          ⊎_elim
          (λ (before : c < b).
          let r = h.row c before in
          (omega (arith, r.0), get_or-set_other new at place next 0 there ∙ r.1))
          (λ (after : b ≤ c).
          let is_b : c ≡ b = omega arith in
          absurd (there (ap (λ x. length old + class classes x) is_b ∙ sym is_at)))
          (cases_lt c b))
          (cases_eq place at);
    }

-- the row of a state stays if the entries are kept
row-kept : {trie : Trie} {numbering : Numbering} {links : Links} {back i row : ℕ} (classes : List ℕ) {old new : List ℕ}
    → KeepsRows old new → IsRowAt trie numbering links back classes i row old
    → IsRowAt trie numbering links back classes i row new
row-kept {trie} {numbering} {links} {back} {i} {row} classes kept h ne b small =
    let r = h ne b small in (
      omega (arith, r.0, kept.longer),
      subst (LeadsOver trie numbering links back b i) (sym (kept.same (row + class classes b) r.0)) r.1,
    )

-- ---- the failures

-- bytes of one class lead to one state after those that lead nowhere take the failure's entry
pub failures-alike : (classes edges rows leads : List ℕ) (failure : ℕ) → LeadAlike classes edges
    → AreWithFailures classes edges rows failure leads → LeadAlike classes leads
failures-alike classes edges rows leads failure alike with b c b_small c_small same =
    with b b_small
    ∙ (ap₂ (λ x y. or_failure x y) (alike b c b_small c_small same) (ap (λ k. slice_index rows (failure + k)) same)
    ∙ sym (with c c_small))

-- a next state that is nowhere is replaced by the other
or_failure-none : {next other : ℕ} → next ≡ 1 → or_failure next other ≡ other
or_failure-none none = grind (arith, nat_tests)

-- a next state that leads somewhere is kept
or_failure-some : {next : ℕ} (other : ℕ) → next ≢ 1 → or_failure next other ≡ next
or_failure-some other some = grind (arith, nat_tests)

-- the failure of a state is one of the states, and not the anchored start
number-within : {numbering : Numbering} {links : Links} {states : ℕ} (id : ℕ) (to : Option ℕ)
    → IsNumbering states numbering → FitsTrie states links → slice_get links.fails.items id ≡ Some to
    → (number_or_dead numbering.of.items to < length numbering.at.items)
    × (number_or_dead numbering.of.items to ≢ numbering.start + 1)
number-within id None n fits at = (omega (arith, n.places.starts.1), λ e. omega (arith, e))
number-within id (Some f) n fits at = let h = n.numbers.numbers f (fits.within id f at) in (h.1, h.2)

pub failure-within : {numbering : Numbering} {links : Links} {states : ℕ} (id : ℕ) {failure : ℕ}
    → IsNumbering states numbering → FitsTrie states links → IsFailureOf numbering links id failure
    → (failure < length numbering.at.items) × (failure ≢ numbering.start + 1)
failure-within id n fits fails =
    let h = number-within id fails.0 n fits fails.1 in
    (omega (arith, h.0, fails.2), λ e. h.1 (sym fails.2 ∙ e))

-- a state's row is its failure's row with the state's own transitions written over it
over-failure : {trie : Trie} {numbering : Numbering} {links : Links} {back i failure : ℕ} (from : ℕ) {b next : ℕ}
    (classes edges rows : List ℕ) → 1 < i → IsFailureOf numbering links (slice_index numbering.at.items i) failure
    → IsEdgeTo trie numbering back i b (slice_index edges b)
    → LeadsOver trie numbering links back b failure (slice_index rows (from + class classes b))
    → next ≡ or_failure (slice_index edges b) (slice_index rows (from + class classes b))
    → LeadsOver trie numbering links back b i next
over-failure {trie} {numbering} {links} {back} {i} {failure} from {b} classes edges rows past fails edge row is =
    let own = slice_index edges b in
    let other = slice_index rows (from + class classes b) in
    ⊎_elim
    (λ (none : own ≡ 1).
    subst (LeadsOver trie numbering links back b i) (sym (is ∙ or_failure-none none))
    (ByFailure i failure other past (subst (IsEdgeTo trie numbering back i b) none edge) fails row))
    (λ (some : own ≢ 1).
    subst (LeadsOver trie numbering links back b i) (sym (is ∙ or_failure-some other some))
    (ByItself i own edge some))
    (cases_eq own 1)

-- ---- the rows of all states

-- at first only the dead state may have a row
pub have-dead : {trie : Trie} {numbering : Numbering} {links : Links} {back below : ℕ} {classes : List ℕ} {it : Rows}
    → IsNumbering (length trie.states.items) numbering → AreOfDead (length numbering.at.items) below classes it
    → HaveRows trie numbering links back classes it.offsets.items it.rows.items
have-dead {trie} {numbering} {links} {back} {classes} {it} n h =
    let p = n.places.starts in
    record {
      counted = h.counted;
      fail = h.none 1 (omega arith) (omega (arith, p.0, p.1));
      right = λ i within apart ne b small.
          ⊎_elim
          (λ (dead : i ≡ 0).
          let at = ap (slice_index it.offsets.items) dead in
          let d = h.dead (λ e. ne (at ∙ e)) b small in
          let place = ap (λ k. k + class classes b) at in
          let read : slice_index it.rows.items (slice_index it.offsets.items i + class classes b) ≡ 0 =
          ap (slice_index it.rows.items) place ∙ d.1 in (
            omega (arith, d.0, at),
            subst (λ k. LeadsOver trie numbering links back b k
                (slice_index it.rows.items (slice_index it.offsets.items i + class classes b))) (sym dead)
                (subst (LeadsOver trie numbering links back b 0) (sym read)
                (ByItself 0 0 (edge-dead n refl) (λ e. omega (arith, e)))),
          ))
          (λ (live : i ≢ 0). absurd (ne (h.none i (omega arith) (omega (arith, within, h.counted)))))
          (cases_eq i 0);
    }

-- the row of a state's failure begins here
pub record HasFailureRow (numbering : Numbering) (links : Links) (offsets : List ℕ) (id failure from : ℕ) : Type 0 where
  pub fails : IsFailureOf numbering links id failure
  pub is : from ≡ slice_index offsets failure
  pub some : from ≢ no_row

-- A row is written after the others: a state's transitions over its failure's row.
pub record IsRowWritten (classes edges leads : List ℕ) (from row : ℕ) (old new : List ℕ) : Type 0 where
  pub with : AreWithFailures classes edges old from leads
  pub at : row ≡ length old
  pub appended : IsRowAppended classes leads 256 old new

-- one more state gets its row, made from its failure's
pub have-more : (trie : Trie) (numbering : Numbering) (links : Links) (back id i failure from row : ℕ)
    (classes offsets edges leads old new : List ℕ) → IsNumbering (length trie.states.items) numbering
    → FitsTrie (length trie.states.items) links → id < length trie.states.items → i ≡ slice_index numbering.of.items id
    → HasFailureRow numbering links offsets id failure from
    → ((b : ℕ) → b < 256 → IsEdgeTo trie numbering back i b (slice_index edges b))
    → IsRowWritten classes edges leads from row old new
    → HaveRows trie numbering links back classes offsets old
    → HaveRows trie numbering links back classes (slice_set offsets i row) new
have-more trie numbering links back id i failure from row classes offsets edges leads old new n fits within is other e
    written h =
    let own = n.numbers.numbers id within in
    let past : 1 < i = omega (arith, is, own.0) in
    let room : i < length offsets = omega (arith, is, own.1, h.counted) in
    let back_to : slice_index numbering.at.items i ≡ id = ap (slice_index numbering.at.items) is ∙ own.3 in
    let f = failure-within id n fits other.fails in
    let fails_there : IsFailureOf numbering links (slice_index numbering.at.items i) failure =
    subst (λ k. IsFailureOf numbering links k failure) (sym back_to) other.fails in
    let failure_row : IsRowAt trie numbering links back classes failure from old = subst
    (λ k. IsRowAt trie numbering links back classes failure k old) (sym other.is)
    (h.right failure (omega (arith, f.0, h.counted)) f.1) in
    let made : IsRowAt trie numbering links back classes i row new = λ _ b small.
    let r = written.appended.row b small in
    let place : row + class classes b ≡ length old + class classes b = ap (λ k. k + class classes b) written.at in (
      omega (arith, r.0, written.at),
      over-failure from classes edges old past fails_there (e b small) (failure_row other.some b small).1
          (ap (slice_index new) place ∙ (r.1 ∙ written.with b small)),
    ) in
    record {
      counted = length-set offsets i row ∙ h.counted;
      fail = get_or-set_other offsets i 1 row 0 (omega (arith, past)) ∙ h.fail;
      right = λ j j_in apart.
          ⊎_elim
          (λ (here : j ≡ i).
          let read : slice_index (slice_set offsets i row) j ≡ row = ap (slice_index (slice_set offsets i row)) here
          ∙ get_or-set_same offsets i row 0 room in
          subst (λ k. IsRowAt trie numbering links back classes j k new) (sym read)
          (subst (λ k. IsRowAt trie numbering links back classes k row new) (sym here) made))
          (λ (there : j ≢ i).
          let read : slice_index (slice_set offsets i row) j ≡ slice_index offsets j =
          get_or-set_other offsets i j row 0 there in
          subst (λ k. IsRowAt trie numbering links back classes j k new) (sym read)
          (row-kept classes written.appended.keeps (h.right j (omega (arith, j_in, length-set offsets i row)) apart)))
          (cases_eq j i);
    }

-- the anchored start shares the unanchored start's row
pub have-shared : {trie : Trie} {numbering : Numbering} {links : Links} {back row : ℕ} {classes offsets rows : List ℕ}
    → IsNumbering (length trie.states.items) numbering → row ≡ slice_index offsets numbering.start
    → HaveRows trie numbering links back classes offsets rows
    → AreRowsOf trie numbering links back classes (slice_set offsets (numbering.start + 1) row) rows
have-shared {trie} {numbering} {links} {back} {row} {classes} {offsets} {rows} n is h =
    let start = numbering.start in
    let p = n.places.starts in
    let new = slice_set offsets (start + 1) row in
    let other : (j : ℕ) → j ≢ start + 1
    → slice_index new j ≡ slice_index offsets j = λ j apart. get_or-set_other offsets (start + 1) j row 0 apart in
    record {
      have = record {
        counted = length-set offsets (start + 1) row ∙ h.counted;
        fail = other 1 (omega (arith, p.0)) ∙ h.fail;
        right = λ j within apart. subst (λ k. IsRowAt trie numbering links back classes j k rows) (sym (other j apart))
            (h.right j (omega (arith, within, length-set offsets (start + 1) row)) apart);
      };
      shared = get_or-set_same offsets (start + 1) row 0 (omega (arith, p.1, h.counted))
          ∙ (is ∙ sym (other start (omega arith)));
    }
