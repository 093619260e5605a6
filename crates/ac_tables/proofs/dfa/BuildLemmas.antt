-- How large the table of an automaton is, and what is built from it.
use Rattle.std.proofs.Common.{◌≡◌, ℕ, ◌+◌, ◌-◌, ◌*◌, ◌^◌, ◌<◌, ◌≤◌, Bool, true, false, List, length, Option, inl, ⊎_elim, refl, sym, ap, ap₂, subst, ◌∙◌, arith}
use Rattle.std.specs.Prelude.{◌/◌}
use Rattle.std.specs.Coded.{le_prop}
use Rattle.std.proofs.Math.Logic.{∥∥₁_elim, ∥∥₁_map, ∥∥₁_prop}
use Rattle.ac_input.specs.Number.{greatest_number}
use Rattle.ac_input.specs.declared.search.Anchored.{Anchored}
use Rattle.ac_input.specs.declared.search.StartKind.{StartKind}
use Rattle.ac_input.specs.declared.search.StartKind.TheVariants as starts
use Rattle.ac_input.specs.Alphabet.{class, alphabet_len, IsLeastExponent, IsLeastPowerOfTwo}
use Rattle.ac_input.specs.Candidate.{Filter}
use Rattle.ac_input.specs.Alphabet.Classes.{AreByteClasses}
use Rattle.ac_input.specs.Dfa.{dfa_states, IsDfaSize, IsDfaTooLarge}
use Rattle.ac_input.specs.Dictionary.{Dictionary}
use Rattle.ac_input.specs.Input.{is_anchored}
use Rattle.ac_input.proofs.lemmas.ClassLemmas.{class-later}
use Rattle.ac_input.proofs.lemmas.DfaLemmas.{dfa-one}
use Rattle.ac_automaton.specs.Automaton.{OwnsPrefilter}
use Rattle.ac_noncontiguous.specs.declared.error.BuildErrorKind.{BuildErrorKind}
use Rattle.ac_noncontiguous.specs.declared.error.BuildErrorKind.TheVariants.{StateIDOverflow, PatternIDOverflow, PatternTooLong, Memory}
use Rattle.ac_noncontiguous.specs.declared.nfa.NFA.{NFA}
use Rattle.ac_noncontiguous.specs.declared.nfa.Special.{Special}
use Rattle.ac_noncontiguous.specs.Nfa.Reads.{dictionary, built_as}
use Rattle.ac_noncontiguous.specs.Nfa.ReadCalls.{state_len, special_in, classes_in, IsReadable}
use Rattle.ac_tables.specs.declared.dfa.table.Table.{Table}
use Rattle.ac_tables.specs.declared.dfa.DFA.{DFA}
use Rattle.ac_noncontiguous.specs.declared.settings.Settings.{Settings}
use Rattle.ac_tables.specs.Dfa.Builder.{IsDfaOf, IsTooLargeOr}
use Rattle.ac_tables.specs.Dfa.Lists.{AreListsOf}
use Rattle.ac_tables.specs.Dfa.Reads.{IsDfaMadeOf}
use Rattle.ac_tables.specs.Dfa.Made.{IsDfaTableOf, IsTableFor, IsTableRefused}
use Rattle.ac_tables.specs.Dfa.Table.{dfa_number_of, stride_of, AreTransitionsOf, AreDfaParts, AreDfaRows}
use Rattle.ac_automaton.specs.Named.{Naming}
use Rattle.ac_tables.specs.Source.{AreClassesFor}
use Rattle.ac_tables.specs.Dfa.Filling.{RowPlan, IsFit, IsOverflow, AreRowsUpTo}
use Rattle.ac_tables.proofs.dfa.CellLemmas.{source-of, last-match_is}
use Rattle.ac_tables.proofs.dfa.FilledLemmas.{number-small}
use Rattle.ac_tables.proofs.dfa.RowLemmas.{number-row}
use Rattle.ac_tables.proofs.dfa.TableLemmas.{table-rows, stride-some}

-- ---- the size

-- a table has at least one row
pub rows-some : (nfa : NFA) (kind : StartKind) → IsReadable nfa → 1 ≤ dfa_states kind (state_len nfa)
rows-some nfa starts.Unanchored r = let s = (source-of nfa r).starts in omega (arith, s.0, s.1)
rows-some nfa starts.Anchored r = let s = (source-of nfa r).starts in omega (arith, s.0, s.1)
rows-some nfa starts.Both r = let s = (source-of nfa r).starts in omega (arith, s.0, s.1)

-- the table's size is that of the dictionary's DFA
pub size-some : (nfa : NFA) (kind : StartKind) (classed : Bool) (classes : List ℕ) (stride : ℕ) → IsReadable nfa
    → AreClassesFor nfa classed classes → IsLeastPowerOfTwo (alphabet_len classes) stride
    → ∥ IsDfaSize (dictionary nfa) kind classed ((dfa_states kind (state_len nfa) - 1) * stride) ∥₁
size-some nfa kind true classes stride r chosen least =
    ∥∥₁_elim r.counted.counted ∥∥₁_prop (λ states.
    ∥∥₁_map chosen.1 (λ (are : AreByteClasses (dictionary nfa) (classes_in nfa)). (
      state_len nfa,
      alphabet_len classes,
      stride,
      states,
      (classes_in nfa, are, ap alphabet_len chosen.0),
      least,
      refl,
    )))
size-some nfa kind false classes stride r chosen least =
    ∥∥₁_map r.counted.counted (λ states. (
      state_len nfa,
      alphabet_len classes,
      stride,
      states,
      (let last = chosen 255 (omega arith) in omega (arith, last)),
      least,
      refl,
    ))

-- if the last row's number is past the greatest, the table is too large
pub size-refused : (nfa : NFA) (kind : StartKind) (classed : Bool) (classes : List ℕ) (stride : ℕ)
    (error : BuildErrorKind) → IsReadable nfa → AreClassesFor nfa classed classes
    → IsLeastPowerOfTwo (alphabet_len classes) stride
    → IsOverflow ((dfa_states kind (state_len nfa) - 1) * stride) error → IsTableRefused nfa kind classed error
size-refused nfa kind classed classes stride (StateIDOverflow max requested) r chosen least over = (
  over.0,
  over.1,
  ∥∥₁_map (size-some nfa kind classed classes stride r chosen least)
      (λ size. ((dfa_states kind (state_len nfa) - 1) * stride, size, over.2)),
)
size-refused nfa kind classed classes stride (PatternIDOverflow max requested) r chosen least over = over
size-refused nfa kind classed classes stride (PatternTooLong pattern len) r chosen least over = over
size-refused nfa kind classed classes stride Memory r chosen least over = absurd over

-- if the last row's number is at most the greatest, the table isn't too large
pub size-within : (nfa : NFA) (kind : StartKind) (classed : Bool) (classes : List ℕ) (stride : ℕ) → IsReadable nfa
    → AreClassesFor nfa classed classes → IsLeastPowerOfTwo (alphabet_len classes) stride
    → (dfa_states kind (state_len nfa) - 1) * stride ≤ greatest_number → ¬ IsDfaTooLarge (dictionary nfa) kind classed
size-within nfa kind classed classes stride r chosen least fits large =
    ∥∥₁_elim (size-some nfa kind classed classes stride r chosen least) (λ x y. absurd x) (λ mine.
    let same : large.0 ≡ (dfa_states kind (state_len nfa) - 1) * stride =
    dfa-one (dictionary nfa) kind classed large.0 ((dfa_states kind (state_len nfa) - 1) * stride) large.1 mine in
    let over = large.2 in
    omega (arith, over, same, fits))

-- the stride is two to the exponent
pub stride-is : (n stride exponent : ℕ) → IsLeastPowerOfTwo n stride → IsLeastExponent n exponent
    → stride ≡ 2 ^ exponent
stride-is n stride exponent g h =
    let low = g.1.least exponent h.enough in
    let high = h.least g.0 g.1.enough in
    let same : g.0 ≡ exponent = omega (arith, low, high) in
    g.2 ∙ ap (λ e. 2 ^ e) same

-- ---- classes

-- bytes that share a chosen class share a class of the automaton
chosen-finer : (classed : Bool) (nfa : NFA) (classes : List ℕ) → AreClassesFor nfa classed classes → (b c : ℕ) → b < 256
    → c < 256 → class classes b ≡ class classes c → class (classes_in nfa) b ≡ class (classes_in nfa) c
chosen-finer true nfa classes chosen b c b_in c_in same =
    ap (λ xs. class xs b) (sym chosen.0) ∙ (same ∙ ap (λ xs. class xs c) chosen.0)
chosen-finer false nfa classes chosen b c b_in c_in same =
    ap (class (classes_in nfa)) (sym (chosen b b_in) ∙ (same ∙ chosen c c_in))

-- the chosen class of a byte is one of the alphabet
chosen-within : (classed : Bool) (nfa : NFA) (classes : List ℕ) → AreClassesFor nfa classed classes → (byte : ℕ)
    → byte < 256 → class classes byte < alphabet_len classes
chosen-within true nfa classes chosen byte small =
    let le : class (classes_in nfa) byte ≤ class (classes_in nfa) 255 =
    ∥∥₁_elim chosen.1 le_prop (λ (are : AreByteClasses (dictionary nfa) (classes_in nfa)).
    let e : byte + (255 - byte) ≡ 255 = omega (arith, small) in
    subst (λ n. class (classes_in nfa) byte ≤ class (classes_in nfa) n) e
    (class-later are.1 (255 - byte) byte (omega (arith, small)))) in
    let b = ap (λ xs. class xs byte) chosen.0 in
    let l = ap (λ xs. class xs 255) chosen.0 in
    omega (arith, le, b, l)
chosen-within false nfa classes chosen byte small =
    let b = chosen byte small in
    let l = chosen 255 (omega arith) in
    omega (arith, b, l, small)

-- rows over the chosen classes may be filled
pub chosen-fit : (classed : Bool) (nfa : NFA) (kind : StartKind) (classes : List ℕ) (stride : ℕ) → IsReadable nfa
    → AreClassesFor nfa classed classes → IsLeastPowerOfTwo (alphabet_len classes) stride → stride ≤ 256
    → (dfa_states kind (state_len nfa) - 1) * stride ≤ greatest_number
    → IsFit (record { nfa = nfa; kind = kind; classes = classes; stride = stride })
chosen-fit classed nfa kind classes stride r chosen least wide fits =
    let enough = least.1.enough in
    let is = least.2 in
    record {
      source = source-of nfa r;
      wide = wide;
      letters = λ byte small. let low = chosen-within classed nfa classes chosen byte small in
          omega (arith, low, enough, is);
      finer = chosen-finer classed nfa classes chosen;
      few = fits;
    }

-- so they may by the rows that were counted
pub counted-fit : (classed : Bool) {nfa : NFA} (kind : StartKind) (classes : List ℕ) {stride rows states : ℕ}
    → IsReadable nfa → AreClassesFor nfa classed classes → IsLeastPowerOfTwo (alphabet_len classes) stride
    → stride ≤ 256 → rows ≡ dfa_states kind states → states ≡ state_len nfa → (rows - 1) * stride ≤ greatest_number
    → IsFit (record { nfa = nfa; kind = kind; classes = classes; stride = stride })
counted-fit classed {nfa} kind classes {stride} r chosen least wide rows states fits =
    chosen-fit classed nfa kind classes stride r chosen least wide
    (subst (λ n. (n - 1) * stride ≤ greatest_number) (rows ∙ ap (dfa_states kind) states) fits)

-- ---- the table

-- The table's rows are so long: the least power of two for its alphabet, and at most 256.
pub record IsStrideOf (table : Table) (stride : ℕ) : Type 0 where
  pub is : stride ≡ stride_of table
  pub wide : table.stride2 ≤ 8
  pub least : IsLeastExponent (alphabet_len table.classes) table.stride2

-- the table is made for the automaton, the start kind and the classes
pub table-for : (nfa : NFA) (table : Table) (classed : Bool) (stride : ℕ) → IsReadable nfa
    → AreClassesFor nfa classed table.classes → IsStrideOf table stride
    → IsFit (record { nfa = nfa; kind = table.kind; classes = table.classes; stride = stride })
    → AreRowsUpTo (record { nfa = nfa; kind = table.kind; classes = table.classes; stride = stride }) (state_len nfa)
    (state_len nfa) table.trans.items → AreListsOf nfa table.lists
    → table.start ≡ dfa_number_of table.kind (special_in nfa).start_unanchored_id stride false
    (special_in nfa).start_unanchored_id
    → table.start_anchored ≡ dfa_number_of table.kind (special_in nfa).start_unanchored_id stride true
    ((special_in nfa).start_unanchored_id + 1)
    → table.max_match ≡ dfa_number_of table.kind (special_in nfa).start_unanchored_id stride true
    (special_in nfa).max_match_id → IsTableFor nfa table.kind classed table
table-for nfa table classed stride r chosen long fit rows lists first second last = record {
  made = record {
    readable = r;
    fit = subst (λ s. IsFit (record { nfa = nfa; kind = table.kind; classes = table.classes; stride = s })) long.is fit;
    wide = long.wide;
    least = long.least;
    rows = subst
        (λ s. AreRowsUpTo (record { nfa = nfa; kind = table.kind; classes = table.classes; stride = s }) (state_len nfa)
        (state_len nfa) table.trans.items) long.is rows;
    lists = lists;
    start = subst
        (λ s. table.start ≡ dfa_number_of table.kind (special_in nfa).start_unanchored_id s false
        (special_in nfa).start_unanchored_id) long.is first;
    start_anchored =
        subst (λ s. table.start_anchored
        ≡ dfa_number_of table.kind (special_in nfa).start_unanchored_id s true
        ((special_in nfa).start_unanchored_id + 1))
        long.is second;
    max_match =
        subst (λ s. table.max_match ≡ dfa_number_of table.kind (special_in nfa).start_unanchored_id s true
        (special_in nfa).max_match_id) long.is last;
  };
  kind = refl;
  classes = chosen;
}

-- a table made from an automaton is that of its dictionary
pub made-some : (nfa : NFA) (table : Table) → IsDfaTableOf nfa table
    → (∥ ((names : Naming) × AreDfaRows (dictionary nfa) table names) ∥₁)
made-some nfa table h = ∥∥₁_map h.readable.stand (λ w. (_, table-rows nfa table w.0 h w.1))

-- a table made from an automaton has the automaton's transitions
pub made-laid : (nfa : NFA) (table : Table) → IsDfaTableOf nfa table
    → AreTransitionsOf nfa table.kind table.classes (stride_of table) table.trans.items
made-laid nfa table h = record {
  least = (table.stride2, h.least, refl);
  len = h.rows.len;
  cells = λ anchored sid byte serves met small. ∣ h.rows.right anchored sid serves met (inl met.within) byte small ∣₁;
}

-- a table made from an automaton has a row for each of its states
pub made-states : (nfa : NFA) (table : Table) → IsDfaTableOf nfa table
    → length table.trans.items / stride_of table ≡ dfa_states table.kind (state_len nfa)
made-states nfa table h =
    ap (λ n. n / stride_of table) h.rows.len
    ∙ number-row (dfa_states table.kind (state_len nfa)) (stride_of table) (stride-some nfa table h)

-- the starts and the last state with a match are among the states
pub special-within : {nfa : NFA} {special : Special} → IsReadable nfa → special ≡ special_in nfa
    → (special.start_unanchored_id < state_len nfa) × (special.start_anchored_id < state_len nfa)
    × (special.max_match_id < state_len nfa)
special-within {nfa} {special} r is =
    let s = (source-of nfa r).starts in
    let start = ap (λ x. x.start_unanchored_id) is in
    let next : special.start_anchored_id ≡ (special_in nfa).start_unanchored_id + 1 =
    ap (λ x. x.start_anchored_id) is in
    let last = ap (λ x. x.max_match_id) is in (
      omega (arith, start, s.1),
      omega (arith, next, s.1),
      ⊎_elim
          (λ (l : (special_in nfa).max_match_id + 1 ≡ (special_in nfa).start_unanchored_id).
          omega (arith, last, l, s.1))
          (λ (h : (special_in nfa).max_match_id ≡ (special_in nfa).start_unanchored_id + 1).
          omega (arith, last, h, s.1))
          (last-match_is nfa r),
    )

-- the number of each state is at most the greatest number
pub number-kept : {p : RowPlan} (anchored : Anchored) {special : Special} {sid : ℕ} → IsFit p
    → special ≡ special_in p.nfa → sid < state_len p.nfa
    → dfa_number_of p.kind special.start_unanchored_id p.stride (is_anchored anchored) sid ≤ greatest_number
number-kept {p} anchored {sid} fit is within =
    subst (λ s. dfa_number_of p.kind s.start_unanchored_id p.stride (is_anchored anchored) sid ≤ greatest_number)
    (sym is) (number-small p anchored sid fit within)

-- ---- the automaton

-- a DFA with a table for the settings is made by the settings
pub dfa-of : (s : Settings) (nfa : NFA) (table : Table) (dfa : DFA) → IsTableFor nfa s.start_kind s.byte_classes table
    → IsDfaMadeOf (dictionary nfa) table (built_as nfa).prefilter dfa.lanes dfa → IsDfaOf s nfa dfa
dfa-of s nfa table dfa h made =
    let back = sym made.table in
    record {
      built = ap₂ (λ m f. record { dictionary = m; deterministic = true; prefilter = f; lanes = dfa.lanes }) made.dictionary
          made.prefilter;
      starts = ap (λ t. t.kind) made.table ∙ h.kind;
      classes = subst (λ t. AreClassesFor nfa s.byte_classes t.classes) back h.classes;
      states = subst (λ t. length t.trans.items / stride_of t ≡ dfa_states s.start_kind (state_len nfa)) back
          (subst (λ k. length table.trans.items / stride_of table ≡ dfa_states k (state_len nfa)) h.kind
          (made-states nfa table h.made));
      laid = subst (λ t. AreTransitionsOf nfa s.start_kind t.classes (stride_of t) t.trans.items) back
          (subst (λ k. AreTransitionsOf nfa k table.classes (stride_of table) table.trans.items) h.kind
          (made-laid nfa table h.made));
      within = size-within nfa s.start_kind s.byte_classes table.classes (stride_of table) h.made.readable h.classes
          (table.stride2, h.made.least, refl)
          (subst (λ k. (dfa_states k (state_len nfa) - 1) * stride_of table ≤ greatest_number) h.kind h.made.fit.few);
    }

-- a refused table is a refused DFA
pub refused-of : (s : Settings) (nfa : NFA) (error : BuildErrorKind)
    → IsTableRefused nfa s.start_kind s.byte_classes error → IsTooLargeOr s (dictionary nfa) (λ _. ⊥) error
refused-of s nfa (StateIDOverflow max requested) h = inl h
refused-of s nfa (PatternIDOverflow max requested) h = h
refused-of s nfa (PatternTooLong pattern len) h = h
refused-of s nfa Memory h = h

-- a DFA that is refused for an automaton is refused for its patterns
pub refused-from : (s : Settings) (m : Dictionary) (nfa : NFA) (error : BuildErrorKind)
    (other : BuildErrorKind → Type 0) → dictionary nfa ≡ m → IsTooLargeOr s (dictionary nfa) (λ _. ⊥) error
    → IsTooLargeOr s m other error
refused-from s m nfa (StateIDOverflow max requested) other is h =
    ⊎_elim (λ (large : (max ≡ greatest_number) × (max < requested)
    × ∥ IsDfaTooLarge (dictionary nfa) s.start_kind s.byte_classes ∥₁).
    inl (large.0, large.1, subst (λ d. ∥ IsDfaTooLarge d s.start_kind s.byte_classes ∥₁) is large.2))
    (λ (never : ⊥). absurd never) h
refused-from s m nfa (PatternIDOverflow max requested) other is h = absurd h
refused-from s m nfa (PatternTooLong pattern len) other is h = absurd h
refused-from s m nfa Memory other is h = h

-- the table, the prefilter and the pairing are those of the dictionary
pub parts-of : (nfa : NFA) (table : Table) (prefilter : Option Filter) (m : Dictionary) → m ≡ dictionary nfa
    → IsDfaTableOf nfa table → OwnsPrefilter (built_as nfa) → prefilter ≡ (built_as nfa).prefilter
    → AreDfaParts m table prefilter
parts-of nfa table prefilter m is h owns same =
    subst (λ d. AreDfaParts d table prefilter) (sym is)
    (record {
      stands = made-some nfa table h;
      held = λ f held. owns f (sym same ∙ held);
      paired = h.readable.paired;
    })
