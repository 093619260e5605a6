-- What the numbers of a DFA stand for, and where one look-up leads.
use Rattle.std.proofs.Common.{◌≡◌, ◌≢◌, ◌⊎◌, ◌↔◌, ℕ, zero, suc, ◌+◌, ◌-◌, ◌*◌, ◌<◌, ◌≤◌, Bool, true, false, IsTrue, List, [], ◌∷◌, length, slice_get, Some, inl, inr, ⊎_elim, sym, ap, subst, ◌∙◌, arith}
use Rattle.std.specs.Prelude.{◌==◌, ◌&&◌, nat_le, not, slice_index}
use Rattle.std.specs.Coded.{le_prop}
use Rattle.std.proofs.Math.Logic.{∥∥₁_elim, ∥∥₁_map}
use Rattle.std.proofs.Math.Nat.{add-mul, mul-le-mul_right, le_of_mul-le-mul_right}
use Rattle.std.proofs.lemmas.Bool.{cases_lt, cases_eq, cases_Bool, and_parts, and_from, ne_eqb, cond-true, cond-false, eq-eqb, leb-true, le-leb, false≢true}
use Rattle.std.proofs.lemmas.Nat.{pow_pos}
use Rattle.ac_input.specs.declared.search.Anchored.{Anchored}
use Rattle.ac_input.specs.Alphabet.{class, alphabet_len, IsClasses}
use Rattle.ac_input.specs.Dfa.{Serves}
use Rattle.ac_input.specs.Dictionary.{Dictionary}
use Rattle.ac_input.specs.Input.{is_anchored}
use Rattle.ac_automaton.specs.Automaton.{IsReached, IsState, AtEach, Leads, TellsDead, TellsStart}
use Rattle.ac_automaton.specs.Named.{Naming, IsStep}
use Rattle.ac_automaton.proofs.automaton.NamedLemmas.{reached-met, read-met, read-next, read-start, read-dead, read-starts, read-known, AllNames, AreNames}
use Rattle.ac_tables.specs.declared.dfa.DFA.{DFA}
use Rattle.ac_tables.specs.declared.dfa.table.Table.{Table}
use Rattle.ac_tables.specs.Dfa.Table.{AreDfaRows, stride_of, dfa_list_of, list_start, dfa_matches_by, start_by}
use Rattle.ac_tables.specs.Dfa.Lookups.{list_at, ArePlain, HasRow, HasDfaList}
use Rattle.ac_tables.specs.Dfa.Reads.{dfa_dictionary, dfa_built_as, dfa_matches_at, is_dfa_start_at, IsDfaRead, dfa_named_states}
use Rattle.ac_automaton.proofs.automaton.SpecialLemmas.{ranked-special}
use Rattle.ac_automaton.proofs.automaton.TestLemmas.{start-has, start-is, start-none}

-- ---- where the starts stand

-- the unanchored start is past the fail state, and the anchored start's row follows its row
pub starts-placed : (m : Dictionary) (table : Table) (names : Naming) → AreDfaRows m table names
    → (0 < stride_of table) × (2 * stride_of table ≤ table.start)
    × (table.start_anchored ≡ table.start + stride_of table)
starts-placed m table names rows =
    let w = rows.starts in
    let some = pow_pos table.stride2 in
    let low : 2 * stride_of table ≤ w.0 * stride_of table = mul-le-mul_right (stride_of table) w.1 in
    let more = add-mul w.0 1 (stride_of table) in
    (some, omega (arith, low, w.2), omega (arith, more, w.2, w.3))

-- a row past the last one before the starts, and not past the anchored start's, is a start's
between-starts : (sid row q stride start next max : ℕ) → 0 < stride → sid ≡ row * stride → start ≡ q * stride
    → next ≡ (q + 1) * stride → max + stride ≡ start → max < sid → sid ≤ next → (sid ≡ start) ⊎ (sid ≡ next)
between-starts sid row q stride start next max some at first second last past le =
    let more = add-mul q 1 stride in
    let low : q ≤ row = ⊎_elim
    (λ (less : row < q).
    let step : row + 1 ≤ q = omega (arith, less) in
    let k : (row + 1) * stride ≤ q * stride = mul-le-mul_right stride step in
    let e = add-mul row 1 stride in
    absurd (omega (arith, k, e, at, first, last, past)))
    (λ (ge : q ≤ row). ge)
    (cases_lt row q) in
    let bound : row * stride ≤ (q + 1) * stride = omega (arith, at, second, le) in
    let high : row ≤ q + 1 = le_of_mul-le-mul_right bound some in
    ⊎_elim
    (λ (same : row ≡ q). inl (at ∙ (ap (λ r. r * stride) same ∙ sym first)))
    (λ (other : row ≢ q). let is : row ≡ q + 1 = omega (arith, low, high, other) in
    inr (at ∙ (ap (λ r. r * stride) is ∙ sym second)))
    (cases_eq row q)

-- ---- the patterns and the tests of a number

-- a number with patterns isn't the dead state's, and is at most the last that matches
pub listed-within : (table : Table) (sid : ℕ) → dfa_matches_by table sid ≢ [] → (sid ≢ 0) × (sid ≤ table.max_match)
listed-within table sid some =
    ⊎_elim
    (λ (yes : (not (sid == 0) && nat_le sid table.max_match) ≡ true).
    let both = and_parts (not (sid == 0)) (nat_le sid table.max_match) yes in
    (λ zero. false≢true (sym (ap (λ b. not b) (eq-eqb sid 0 zero)) ∙ both.0), leb-true sid table.max_match both.1))
    (λ (no : (not (sid == 0) && nat_le sid table.max_match) ≡ false).
    absurd (some
    (cond-false (not (sid == 0) && nat_le sid table.max_match) (dfa_list_of table.lists (list_at table sid)) [] no)))
    (cases_Bool (not (sid == 0) && nat_le sid table.max_match))

-- ---- what the numbers stand for

-- the lists and the tests of the numbers are those of their states
pub are-names : (dfa : DFA) (served : Anchored) (names : Naming) → AreDfaRows (dfa_dictionary dfa) dfa.table names
    → AreNames (dfa_named_states dfa served) names
are-names dfa served names rows =
    record {
      lists = rows.lists;
      none = λ anchored sid met none.
          let zero = (rows.dead anchored sid met).0 none in (
            ap (dfa_matches_by dfa.table) zero,
            start-none sid dfa.table.start dfa.table.start_anchored zero (omega (arith, placed))
                (omega (arith, placed)),
          );
      starting = λ anchored sid text met is. (
        λ yes.
            let empty =
            (rows.starting anchored sid met).1 (start-is sid dfa.table.start dfa.table.start_anchored yes) in
            let same : Some text ≡ Some [] = sym is ∙ empty in
            cc,
        λ none. start-has sid dfa.table.start dfa.table.start_anchored
            ((rows.starting anchored sid met).0 (is ∙ ap Some none)),
      );
      stopping = λ anchored sid met.
          ranked-special (dfa_built_as dfa) (dfa_matches_by dfa.table sid) (names.text sid) dfa.table.start
          dfa.table.start_anchored
          dfa.table.max_match dfa.max_special sid (omega (arith, placed)) top dfa.special
          (record {
            dead = rows.dead anchored sid met;
            matching = λ some. (rows.matching anchored sid met some).1;
            within = λ match. (listed-within dfa.table sid match).1;
            starts = starts anchored sid met;
          });
    }
  where
    placed : (0 < stride_of dfa.table) × (2 * stride_of dfa.table ≤ dfa.table.start)
        × (dfa.table.start_anchored ≡ dfa.table.start + stride_of dfa.table)
    placed = starts-placed (dfa_dictionary dfa) dfa.table names rows

    top : dfa.table.max_match ≤ dfa.table.start_anchored
    top = ⊎_elim
        (λ (a : dfa.table.max_match + stride_of dfa.table ≡ dfa.table.start). omega (arith, a, placed))
        (λ (b : dfa.table.max_match ≡ dfa.table.start_anchored). omega (arith, b))
        rows.greatest

    starts : (anchored : Bool) (sid : ℕ) → IsTrue (names.met anchored sid) → dfa.table.max_match < sid
        → sid ≤ dfa.table.start_anchored
        → (sid ≡ dfa.table.start) ⊎ (sid ≡ dfa.table.start_anchored)
    starts anchored sid met past le =
        let w = rows.starts in
        let row = rows.rows anchored sid met in
        ⊎_elim
        (λ (a : dfa.table.max_match + stride_of dfa.table ≡ dfa.table.start).
        between-starts sid row.0 w.0 (stride_of dfa.table) dfa.table.start dfa.table.start_anchored dfa.table.max_match
        placed.0 row.1 w.2 w.3 a past le)
        (λ (b : dfa.table.max_match ≡ dfa.table.start_anchored). absurd (omega (arith, b, past, le)))
        rows.greatest

-- the lists and the tests of the numbers are those of their states by every naming
pub all-names : (dfa : DFA) (anchored : Anchored) → AllNames (dfa_named_states dfa anchored)
all-names dfa anchored = λ names fits. are-names dfa anchored names fits.1

-- ---- a number that some text reaches

-- What follows from a number that is met, whatever the naming is, holds of one that is reached.
pub state-holds : (P : Type 0) (dfa : DFA) (sid : ℕ) → ((x y : P) → x ≡ y)
    → ((names : Naming) (anchored : Bool) → AreDfaRows (dfa_dictionary dfa) dfa.table names
    → IsTrue (names.met anchored sid) → P) → IsState (IsDfaRead dfa) sid → P
state-holds P dfa sid prop follows h =
    ∥∥₁_elim h prop
    (λ w. read-met P (dfa_named_states dfa w.0) w.0 w.1 sid prop
    (λ names fits met. follows names (is_anchored w.0) fits.1 met) w.2)

-- a number that a search reaches has a row
pub read-row : (dfa : DFA) (anchored : Anchored) (sid : ℕ) → IsReached (IsDfaRead dfa anchored) sid
    → HasRow dfa.table sid
read-row dfa anchored sid h =
    record {
      within = reached-met (sid + stride_of dfa.table ≤ length dfa.table.trans.items) (dfa_named_states dfa anchored)
          anchored sid le_prop (λ names fits met. (fits.1.within (is_anchored anchored) sid met).0) h;
      classes = λ byte small. reached-met (class dfa.table.classes byte < stride_of dfa.table)
          (dfa_named_states dfa anchored) anchored sid le_prop (λ names fits met. fits.1.classes byte small) h;
    }

-- the table's entry for a byte leads where the byte does
pub row-leads : (dfa : DFA) (anchored : Anchored) (sid byte next : ℕ) → byte < 256
    → next ≡ slice_index dfa.table.trans.items (sid + class dfa.table.classes byte)
    → Leads (IsDfaRead dfa anchored) sid (byte ∷ []) next
row-leads dfa anchored sid byte next small is =
    read-next (dfa_named_states dfa anchored) anchored sid byte next (all-names dfa anchored)
    (λ names fits met. subst (IsStep (dfa_dictionary dfa) names (is_anchored anchored) sid byte) (sym is)
    (fits.1.steps anchored sid byte fits.0 met small))

-- the start of a search that is served is read before the first byte
pub start-read : (dfa : DFA) (anchored : Anchored) (sid : ℕ) → Serves dfa.table.kind anchored
    → sid ≡ start_by dfa.table (is_anchored anchored) → IsDfaRead dfa anchored [] sid
start-read dfa anchored sid serves is =
    subst (IsDfaRead dfa anchored []) (sym is)
    (read-start (dfa_named_states dfa anchored) anchored (start_by dfa.table (is_anchored anchored))
    (all-names dfa anchored)
    (∥∥₁_map dfa.stands (λ w. (w.0, (serves, w.1), w.1.first anchored serves))))

-- a reached number matches if it isn't the dead state's and is at most the last that matches
pub state-matches : (dfa : DFA) (sid : ℕ) → IsState (IsDfaRead dfa) sid → sid ≢ 0 → sid ≤ dfa.table.max_match
    → dfa_matches_at dfa sid ≢ []
state-matches dfa sid h some le none =
    state-holds ⊥ dfa sid (λ x y. absurd x) (λ names anchored rows met. (rows.matching anchored sid met some).1 le none)
    h

-- a reached number that matches has a list in the table
pub state-list : (dfa : DFA) (sid : ℕ) → IsState (IsDfaRead dfa) sid → dfa_matches_at dfa sid ≢ []
    → HasDfaList dfa.table sid
state-list dfa sid h match =
    let w = listed-within dfa.table sid match in
    record {
      wide = state-holds (dfa.table.stride2 ≤ 8) dfa sid le_prop (λ names anchored rows met. rows.wide) h;
      past = state-holds (2 * stride_of dfa.table ≤ sid) dfa sid le_prop
          (λ names anchored rows met. ⊎_elim (λ (zero : sid ≡ 0). absurd (w.0 zero))
          (λ (past : 2 * stride_of dfa.table ≤ sid). past) (rows.within anchored sid met).1) h;
      listed = state-holds (list_at dfa.table sid < length dfa.table.lists.ends.items) dfa sid le_prop
          (λ names anchored rows met. rows.listed anchored sid met w.0 w.1) h;
      rising =
          state-holds
          (list_start dfa.table.lists (list_at dfa.table sid)
          ≤ slice_index dfa.table.lists.ends.items (list_at dfa.table sid)) dfa sid le_prop
          (λ names anchored rows met. rows.ranges.rising (list_at dfa.table sid) (rows.listed anchored sid met w.0 w.1))
          h;
      within =
          state-holds
          (slice_index dfa.table.lists.ends.items (list_at dfa.table sid) ≤ length dfa.table.lists.patterns.items)
          dfa sid le_prop
          (λ names anchored rows met. rows.ranges.within (list_at dfa.table sid) (rows.listed anchored sid met w.0 w.1))
          h;
    }

-- a list with an element at a place isn't empty
pub some-within : (ns : List ℕ) (index : ℕ) → index < length ns → ns ≢ []
some-within [] index within = absurd (omega (arith, within))
some-within (n ∷ ns) index within = λ e. let d : n ∷ ns ≡ [] = e in cc

-- the patterns of a number that matches are its list
pub state-listed : (table : Table) (sid : ℕ) → dfa_matches_by table sid ≢ []
    → dfa_matches_by table sid ≡ dfa_list_of table.lists (list_at table sid)
state-listed table sid match =
    let w = listed-within table sid match in
    cond-true (not (sid == 0) && nat_le sid table.max_match) (dfa_list_of table.lists (list_at table sid)) []
    (and_from (not (sid == 0)) (nat_le sid table.max_match) (ap (λ b. not b) (ne_eqb sid 0 w.0))
    (le-leb sid table.max_match w.1))

-- each entry of a reached number's list is the number of a pattern
pub state-known : (dfa : DFA) (sid index n : ℕ) → IsState (IsDfaRead dfa) sid
    → slice_get (dfa_matches_at dfa sid) index ≡ Some n → n < length (dfa_dictionary dfa).patterns
state-known dfa sid index n h is =
    ∥∥₁_elim h le_prop
    (λ w. read-known (dfa_named_states dfa w.0) sid index n (all-names dfa w.0) ∣ (w.0, w.1, w.2) ∣₁ is)

-- ---- what its tests say

-- the test for the dead state
pub dead-said : (dfa : DFA) (sid : ℕ) (dead : Bool) → IsTrue dead ↔ (sid ≡ 0)
    → AtEach (IsDfaRead dfa) sid (TellsDead (dfa_built_as dfa) dead)
dead-said dfa sid dead is = λ anchored text reads.
    read-dead (dfa_named_states dfa anchored) sid dead
    (λ other names fits met. let zero = fits.1.dead other sid met in
    (λ none. is.1 (zero.0 none), λ yes. zero.1 (is.0 yes))) anchored text reads

-- the test for a start
pub start-said : (dfa : DFA) (sid : ℕ) (start : Bool) → start ≡ is_dfa_start_at dfa sid
    → TellsStart (dfa_built_as dfa) (IsDfaRead dfa) (dfa_matches_at dfa) sid start
start-said dfa sid start is =
    subst (TellsStart (dfa_built_as dfa) (IsDfaRead dfa) (dfa_matches_at dfa) sid) (sym is)
    (λ anchored text reads. read-starts (dfa_named_states dfa anchored) sid (all-names dfa anchored) anchored text
    reads)

-- ---- classes

-- no class is greater than the byte
class-below : (classes : List ℕ) (byte : ℕ) → IsClasses classes → byte < 256 → class classes byte ≤ byte
class-below classes zero is small = let e = is.first in omega (arith, e)
class-below classes (suc b) is small =
    let before = class-below classes b is (omega (arith, small)) in
    let same : b + 1 ≡ suc b = omega arith in
    subst (λ n. class classes n ≤ n) same
    (⊎_elim
    (λ (one : class classes (b + 1) ≡ class classes b). omega (arith, one, before))
    (λ (more : class classes (b + 1) ≡ class classes b + 1). omega (arith, more, before))
    (is.next b (omega (arith, small))))

-- the bytes that are left add at most one class each
class-above : (classes : List ℕ) (left byte : ℕ) → IsClasses classes → byte + left ≡ 255
    → class classes 255 ≤ class classes byte + left
class-above classes zero byte is at = let e : byte ≡ 255 = omega (arith, at) in
    subst (λ n. class classes 255 ≤ class classes n + 0) (sym e) (omega arith)
class-above classes (suc left) byte is at =
    let after = class-above classes left (byte + 1) is (omega (arith, at)) in
    ⊎_elim
    (λ (one : class classes (byte + 1) ≡ class classes byte). omega (arith, one, after))
    (λ (more : class classes (byte + 1) ≡ class classes byte + 1). omega (arith, more, after))
    (is.next byte (omega (arith, at)))

-- with as many classes as bytes, each byte is a class of its own
pub classes-plain : (classes : List ℕ) → IsClasses classes → alphabet_len classes ≡ 256 → ArePlain classes
classes-plain classes is all byte small =
    let below = class-below classes byte is small in
    let above = class-above classes (255 - byte) byte is (omega (arith, small)) in
    omega (arith, below, above, all)

-- ---- the layout
