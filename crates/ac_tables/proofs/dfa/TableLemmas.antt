-- A table made from an automaton is that of its dictionary: its numbers stand for what the automaton's states stand
-- for.
use Rattle.std.proofs.Common.{◌≡◌, ◌≢◌, ◌⊎◌, ◌↔◌, ℕ, ◌+◌, ◌*◌, ◌<◌, ◌≤◌, Bool, true, false, IsTrue, List, [], ◌∷◌, ◌++◌, length, Some, None, inl, inr, ⊎_elim, refl, sym, ap, subst, ◌∙◌, arith}
use Rattle.std.specs.Prelude.{slice_index, nat_le, ◌==◌, ◌&&◌, ◌/◌, not}
use Rattle.std.specs.Coded.{Coded-set, coded_ℕ}
use Rattle.std.proofs.Math.Logic.{∥∥₁_elim}
use Rattle.std.proofs.lemmas.Bool.{cases_lt, cases_Bool, cond-true, cond-false}
use Rattle.std.proofs.lemmas.Bool.Decides.{nat_tests}
use Rattle.std.proofs.lemmas.Nat.{mul-le}
use Rattle.std.proofs.lemmas.List.{nil_from_length}
use Rattle.ac_input.specs.declared.search.Anchored.{Anchored}
use Rattle.ac_input.specs.declared.search.Anchored.TheVariants.{No, Yes}
use Rattle.ac_input.specs.Alphabet.{class}
use Rattle.ac_input.specs.Dfa.{Serves, dfa_states}
use Rattle.ac_input.specs.Failure.{IsList}
use Rattle.ac_input.specs.Input.{is_anchored}
use Rattle.ac_input.specs.States.{LeadsTo}
use Rattle.ac_input.proofs.lemmas.ClassLemmas.{byte-alone}
use Rattle.ac_automaton.specs.Named.{Naming, IsStep, IsFirst}
use Rattle.ac_noncontiguous.specs.declared.nfa.NFA.{NFA}
use Rattle.ac_noncontiguous.specs.Nfa.Lookups.{other_start}
use Rattle.ac_noncontiguous.specs.Nfa.{state_of, AreTables}
use Rattle.ac_noncontiguous.specs.Nfa.Reads.{dictionary, matches_at}
use Rattle.ac_noncontiguous.specs.Nfa.ReadCalls.{state_len, special_in, MayBeMet, IsReadable}
use Rattle.ac_noncontiguous.proofs.nfa.NextLemmas.{state-some, state-none}
use Rattle.ac_tables.specs.declared.dfa.table.Table.{Table}
use Rattle.ac_tables.specs.Source.{AreBytesAlone}
use Rattle.ac_tables.specs.Dfa.Made.{IsDfaTableOf}
use Rattle.ac_tables.specs.Dfa.Table.{dfa_row_of, stride_of, list_index, dfa_list_of, dfa_matches_by, start_by, AreDfaRows, dfa_number_of}
use Rattle.ac_tables.proofs.contiguous.PlacesLemmas.{AreApartInTable, named-met, named-state, named-text, met-stands, met-unanchored, met-anchored, met-start, met-start_anchored, named_by, is_met}
use Rattle.ac_tables.proofs.dfa.RowLemmas.{row-first, row-below, row-past, row-room, row-one, row-le, row-starts, row-before_starts, scale-one, scale-le, number-row, index-is}
use Rattle.ac_tables.proofs.dfa.CellLemmas.{texts-of, last-match_is}

-- ---- which states are met

-- a state that is met isn't the other start
met-own : (start : ℕ) (a : Bool) (i : ℕ) → IsTrue (is_met start a i) → i ≢ other_start start a
met-own start true i met = met-anchored start i met
met-own start false i met = met-unanchored start i met

-- each other state is met
met-of : (start : ℕ) (a : Bool) (i : ℕ) → i ≢ 1 → i ≢ other_start start a → IsTrue (is_met start a i)
met-of start true i stands own = let e : i ≢ start = own in grind (arith, nat_tests)
met-of start false i stands own = let e : i ≢ start + 1 = own in grind (arith, nat_tests)

-- the states that are met are those that searches may come to
met-may : (nfa : NFA) (anchored : Anchored) (i : ℕ) → i < state_len nfa
    → IsTrue (is_met (special_in nfa).start_unanchored_id (is_anchored anchored) i) → MayBeMet nfa anchored i
met-may nfa anchored i within met =
    record {
      within = within;
      stands = met-stands (special_in nfa).start_unanchored_id (is_anchored anchored) i met;
      own = met-own (special_in nfa).start_unanchored_id (is_anchored anchored) i met;
    }

may-met : (nfa : NFA) (anchored : Anchored) (i : ℕ) → MayBeMet nfa anchored i
    → IsTrue (is_met (special_in nfa).start_unanchored_id (is_anchored anchored) i)
may-met nfa anchored i met = met-of (special_in nfa).start_unanchored_id (is_anchored anchored) i met.stands met.own

-- ---- numbers

-- rows have entries
pub stride-some : (nfa : NFA) (table : Table) → IsDfaTableOf nfa table → 0 < stride_of table
stride-some nfa table h = let l = h.fit.letters 0 (omega arith) in omega (arith, l)

-- no two states that are met have one number
pub numbers-apart : (nfa : NFA) (table : Table) → IsDfaTableOf nfa table
    → AreApartInTable (state_len nfa) (special_in nfa).start_unanchored_id
    (dfa_number_of table.kind (special_in nfa).start_unanchored_id (stride_of table))
numbers-apart nfa table h a b i j i_in j_in met_i met_j same =
    let start = (special_in nfa).start_unanchored_id in
    (row-one table.kind start a b i j h.fit.source.starts.0 (met-own start a i met_i) (met-own start b j met_j)
    (scale-one (dfa_row_of table.kind start a i) (dfa_row_of table.kind start b j) (stride_of table)
    (stride-some nfa table h) same)).0

-- the dead state has number 0
number-dead : (nfa : NFA) (table : Table) (a : Bool)
    → dfa_number_of table.kind (special_in nfa).start_unanchored_id (stride_of table) a 0 ≡ 0
number-dead nfa table a = let none : 0 * stride_of table ≡ 0 = omega arith in
    ap (λ row. row * stride_of table) (row-first table.kind (special_in nfa).start_unanchored_id a 0 (omega arith))
    ∙ none

-- every other state that is met has a number past the first two rows
number-past : (nfa : NFA) (table : Table) (a : Bool) (i : ℕ) → IsDfaTableOf nfa table → 1 < i
    → IsTrue (is_met (special_in nfa).start_unanchored_id a i)
    → 2 * stride_of table ≤ dfa_number_of table.kind (special_in nfa).start_unanchored_id (stride_of table) a i
number-past nfa table a i h past met =
    let row = row-past table.kind (special_in nfa).start_unanchored_id a i h.fit.source.starts.0 past
    (met-own (special_in nfa).start_unanchored_id a i met) in
    mul-le 2 (stride_of table) (dfa_row_of table.kind (special_in nfa).start_unanchored_id a i) (stride_of table)
    (omega (arith, row)) (omega arith)

-- a state that is met is the dead state or is past 1
dead-or : (nfa : NFA) (a : Bool) (i : ℕ) → IsTrue (is_met (special_in nfa).start_unanchored_id a i) → (i ≡ 0) ⊎ (1 < i)
dead-or nfa a i met =
    let stands = met-stands (special_in nfa).start_unanchored_id a i met in
    ⊎_elim (λ (l : 1 < i). inr l) (λ (r : i ≤ 1). inl (omega (arith, r, stands))) (cases_lt 1 i)

-- ---- the names of the numbers

abbrev names_of : NFA → Table → (ℕ → List ℕ) → Naming
names_of nfa table text =
    named_by (state_of text) (state_len nfa) (special_in nfa).start_unanchored_id
    (dfa_number_of table.kind (special_in nfa).start_unanchored_id (stride_of table))

-- What is known of a number that is met: it is the number of a state, and stands for what the state stands for.
record IsNumber (nfa : NFA) (table : Table) (text : ℕ → List ℕ) (a : Bool) (sid i : ℕ) : Type 0 where
  within : i < state_len nfa
  met : IsTrue (is_met (special_in nfa).start_unanchored_id a i)
  number : sid ≡ dfa_number_of table.kind (special_in nfa).start_unanchored_id (stride_of table) a i
  named : (names_of nfa table text).text sid ≡ state_of text i

-- a number that is met is the number of a state
number-of : (nfa : NFA) (table : Table) (text : ℕ → List ℕ) (a : Bool) (sid : ℕ) → IsDfaTableOf nfa table
    → IsTrue ((names_of nfa table text).met a sid) → (i : ℕ) × IsNumber nfa table text a sid i
number-of nfa table text a sid h met =
    let s = named-state (state_of text) (state_len nfa) (special_in nfa).start_unanchored_id
    (dfa_number_of table.kind (special_in nfa).start_unanchored_id (stride_of table)) a sid met in
    let named = named-text (state_of text) (state_len nfa) (special_in nfa).start_unanchored_id
    (dfa_number_of table.kind (special_in nfa).start_unanchored_id (stride_of table)) a s.0 (numbers-apart nfa table h)
    s.1 s.2 in (
      s.0,
      record {
        within = s.1;
        met = s.2;
        number = sym s.3;
        named = ap (names_of nfa table text).text (sym s.3) ∙ named;
      },
    )

-- a state that stands for a text is past 1, and the text is its own
text-some : (text : ℕ → List ℕ) (i : ℕ) (t : List ℕ) → i ≢ 1 → state_of text i ≡ Some t → (1 < i) × (t ≡ text i)
text-some text i t stands is =
    ⊎_elim
    (λ (past : 1 < i). (past, let e : Some (text i) ≡ Some t = sym (state-some text i past) ∙ is in cc))
    (λ (low : i ≤ 1). absurd (let e : None ≡ Some t = sym (state-none text (omega (arith, low, stands))) ∙ is in cc))
    (cases_lt 1 i)

-- ---- look-ups

-- a look-up leads where the byte does
table-steps : (nfa : NFA) (table : Table) (text : ℕ → List ℕ) → IsDfaTableOf nfa table
    → AreTables (dictionary nfa) text nfa.tables → (anchored : Anchored) (sid byte : ℕ) → Serves table.kind anchored
    → IsTrue ((names_of nfa table text).met (is_anchored anchored) sid) → byte < 256
    → IsStep (dictionary nfa) (names_of nfa table text) (is_anchored anchored) sid byte
    (slice_index table.trans.items (sid + class table.classes byte))
table-steps nfa table text h t anchored sid byte serves met small =
    let a = is_anchored anchored in
    let n = number-of nfa table text a sid h met in
    let i = n.0 in
    let may = met-may nfa anchored i n.1.within n.1.met in
    let cell = h.rows.right anchored i serves may (inl n.1.within) byte small in
    let next = cell.0 in
    let leads = cell.1.0 in
    let is : slice_index table.trans.items (sid + class table.classes byte)
    ≡ dfa_number_of table.kind (special_in nfa).start_unanchored_id (stride_of table) a next =
    ap (λ k. slice_index table.trans.items (k + class table.classes byte)) n.1.number ∙ cell.1.1 in
    let next_met = may-met nfa anchored next leads.met in
    let named = named-text (state_of text) (state_len nfa) (special_in nfa).start_unanchored_id
    (dfa_number_of table.kind (special_in nfa).start_unanchored_id (stride_of table)) a next (numbers-apart nfa table h)
    leads.met.within next_met in
    subst (λ to. IsStep (dictionary nfa) (names_of nfa table text) a sid byte to) (sym is)
    (record {
      met = named-met (state_of text) (state_len nfa) (special_in nfa).start_unanchored_id
          (dfa_number_of table.kind (special_in nfa).start_unanchored_id (stride_of table)) a next leads.met.within
          next_met;
      dead = λ none.
          ⊎_elim
          (λ (zero_is : i ≡ 0). named ∙ state-none text (leads.dead zero_is))
          (λ (past : 1 < i).
          absurd (let e : None ≡ Some (text i) = sym none ∙ (n.1.named ∙ state-some text i past) in cc))
          (dead-or nfa a i n.1.met);
      leads = λ of some.
          let s = text-some text i of (met-stands (special_in nfa).start_unanchored_id a i n.1.met)
          (sym n.1.named ∙ some) in
          subst (LeadsTo (dictionary nfa) a (of ++ byte ∷ [])) (sym named)
          (subst (λ u. LeadsTo (dictionary nfa) a (u ++ byte ∷ []) (state_of text next)) (sym s.1)
          (leads.leads text t s.0));
    })

-- each start is the first number of its searches
table-first : (nfa : NFA) (table : Table) (text : ℕ → List ℕ) → IsDfaTableOf nfa table
    → AreTables (dictionary nfa) text nfa.tables
    → IsFirst (names_of nfa table text) false table.start × IsFirst (names_of nfa table text) true table.start_anchored
table-first nfa table text h t =
    let start = (special_in nfa).start_unanchored_id in
    let s = h.fit.source.starts in
    let texts = texts-of nfa text t in
    let names = names_of nfa table text in
    let apart = numbers-apart nfa table h in
    let plain : start < state_len nfa = omega (arith, s.1) in (
      subst (IsFirst names false) (sym h.start)
          (record {
            met = named-met (state_of text) (state_len nfa) start
                (dfa_number_of table.kind (special_in nfa).start_unanchored_id (stride_of table)) false start plain
                (met-start start s.0);
            empty = named-text (state_of text) (state_len nfa) start
                (dfa_number_of table.kind (special_in nfa).start_unanchored_id (stride_of table)) false start apart
                plain
                (met-start start s.0) ∙ (state-some text start s.0 ∙ ap Some texts.starts.2);
          }),
      subst (IsFirst names true) (sym h.start_anchored)
          (record {
            met = named-met (state_of text) (state_len nfa) start
                (dfa_number_of table.kind (special_in nfa).start_unanchored_id (stride_of table)) true (start + 1) s.1
                (met-start_anchored start s.0);
            empty = named-text (state_of text) (state_len nfa) start
                (dfa_number_of table.kind (special_in nfa).start_unanchored_id (stride_of table)) true (start + 1) apart
                s.1
                (met-start_anchored start s.0)
                ∙ (state-some text (start + 1) (omega (arith, s.0)) ∙ ap Some texts.starts.3);
          }),
    )

-- a byte that stands in an entered pattern is a class of the table alone, since it is one of the automaton's classes
-- alone
table-alone : (nfa : NFA) (table : Table) → IsDfaTableOf nfa table → AreBytesAlone (dictionary nfa) table.classes
table-alone nfa table h b small stands c c_small same =
    ∥∥₁_elim h.fit.source.classes (Coded-set coded_ℕ c b)
    (λ are. byte-alone (dictionary nfa) are small stands c c_small (h.fit.finer c b c_small small same))

-- a number that stands for the empty text is the start of its searches
table-empty : (nfa : NFA) (table : Table) (text : ℕ → List ℕ) → IsDfaTableOf nfa table
    → AreTables (dictionary nfa) text nfa.tables → (a : Bool) (sid : ℕ) → IsTrue ((names_of nfa table text).met a sid)
    → (names_of nfa table text).text sid ≡ Some [] → sid ≡ start_by table a
table-empty nfa table text h t a sid met empty =
    let n = number-of nfa table text a sid h met in
    let s = text-some text n.0 [] (met-stands (special_in nfa).start_unanchored_id a n.0 n.1.met)
    (sym n.1.named ∙ empty) in
    by a n.0 ((texts-of nfa text t).others n.0 s.0 n.1.within (sym s.1)) n.1.met n.1.number
  where
    by : (b : Bool) (i : ℕ) → (i ≡ (special_in nfa).start_unanchored_id)
        ⊎ (i ≡ (special_in nfa).start_unanchored_id + 1) → IsTrue (is_met (special_in nfa).start_unanchored_id b i)
        → sid ≡ dfa_number_of table.kind (special_in nfa).start_unanchored_id (stride_of table) b i
        → sid ≡ start_by table b
    by false i (inl here) met_i is =
        is ∙ (ap (dfa_number_of table.kind (special_in nfa).start_unanchored_id (stride_of table) false) here
        ∙ sym h.start)
    by false i (inr other) met_i is = absurd (met-unanchored (special_in nfa).start_unanchored_id i met_i other)
    by true i (inl other) met_i is = absurd (met-anchored (special_in nfa).start_unanchored_id i met_i other)
    by true i (inr here) met_i is =
        is ∙ (ap (dfa_number_of table.kind (special_in nfa).start_unanchored_id (stride_of table) true) here
        ∙ sym h.start_anchored)

-- a number stands for the empty text exactly if it is a start
table-starting : (nfa : NFA) (table : Table) (text : ℕ → List ℕ) → IsDfaTableOf nfa table
    → AreTables (dictionary nfa) text nfa.tables → (a : Bool) (sid : ℕ) → IsTrue ((names_of nfa table text).met a sid)
    → ((names_of nfa table text).text sid ≡ Some []) ↔ ((sid ≡ table.start) ⊎ (sid ≡ table.start_anchored))
table-starting nfa table text h t a sid met =
    let first = table-first nfa table text h t in (
      λ empty. by a (table-empty nfa table text h t a sid met empty),
      λ is. ⊎_elim (λ (l : sid ≡ table.start). ap (names_of nfa table text).text l ∙ first.0.empty)
          (λ (r : sid ≡ table.start_anchored). ap (names_of nfa table text).text r ∙ first.1.empty) is,
    )
  where
    by : (b : Bool) → sid ≡ start_by table b → (sid ≡ table.start) ⊎ (sid ≡ table.start_anchored)
    by false is = inl is
    by true is = inr is

-- ---- lists

-- a number is at most the last one that matches exactly if its state is at most the last that matches
number-matches : (nfa : NFA) (table : Table) (a : Bool) (i : ℕ) → IsDfaTableOf nfa table
    → IsTrue (is_met (special_in nfa).start_unanchored_id a i)
    → (dfa_number_of table.kind (special_in nfa).start_unanchored_id (stride_of table) a i ≤ table.max_match)
    ↔ (i ≤ (special_in nfa).max_match_id)
number-matches nfa table a i h met =
    let start = (special_in nfa).start_unanchored_id in
    let last = (special_in nfa).max_match_id in
    let scale = scale-le (dfa_row_of table.kind start a i) (dfa_row_of table.kind start true last) (stride_of table)
    (stride-some nfa table h) in
    let rows = row-le table.kind start last a i h.fit.source.starts.0 (last-match_is nfa h.readable)
    (met-stands start a i met) (met-own start a i met) in
    let is = h.max_match in (
      λ le. rows.0 (scale.0 (omega (arith, le, is))),
      λ le. let up = scale.1 (rows.1 le) in omega (arith, up, is),
    )

-- What is known of the list of a state that matches: it is that of the state itself, or of the other start, whose text
-- is the same.
record IsListed (nfa : NFA) (table : Table) (text : ℕ → List ℕ) (a : Bool) (i j : ℕ) : Type 0 where
  past : 1 < j
  low : j ≤ (special_in nfa).max_match_id
  same : text j ≡ text i
  index : list_index table.kind
      (dfa_number_of table.kind (special_in nfa).start_unanchored_id (stride_of table) a i / stride_of table) + 2 ≡ j

-- a state that matches has a list of the table
listed-of : (nfa : NFA) (table : Table) (text : ℕ → List ℕ) (a : Bool) (i : ℕ) → IsDfaTableOf nfa table
    → AreTables (dictionary nfa) text nfa.tables → 1 < i → IsTrue (is_met (special_in nfa).start_unanchored_id a i)
    → i ≤ (special_in nfa).max_match_id → (j : ℕ) × IsListed nfa table text a i j
listed-of nfa table text a i h t past met low =
    let start = (special_in nfa).start_unanchored_id in
    let s = h.fit.source.starts in
    let texts = texts-of nfa text t in
    let up : i ≤ start + 1 = ⊎_elim (λ (l : (special_in nfa).max_match_id + 1 ≡ start). omega (arith, l, low))
    (λ (r : (special_in nfa).max_match_id ≡ start + 1). omega (arith, r, low)) (last-match_is nfa h.readable) in
    let row = number-row (dfa_row_of table.kind start a i) (stride_of table) (stride-some nfa table h) in
    let at : list_index table.kind
    (dfa_number_of table.kind (special_in nfa).start_unanchored_id (stride_of table) a i / stride_of table)
    ≡ list_index table.kind (dfa_row_of table.kind start a i) = ap (list_index table.kind) row in
    ⊎_elim
    (λ (own : list_index table.kind (dfa_row_of table.kind start a i) + 2 ≡ i).
    (i, record { past = past; low = low; same = refl; index = omega (arith, at, own) }))
    (λ (shared : (list_index table.kind (dfa_row_of table.kind start a i) + 2 ≡ start) × (i ≡ start + 1)).
    let here = shared.1 in
    let first = shared.0 in (
      start,
      record {
        past = s.0;
        low = omega (arith, here, low);
        same = texts.starts.2 ∙ (sym texts.starts.3 ∙ ap text (sym here));
        index = omega (arith, at, first);
      },
    ))
    (index-is table.kind start a i s.0 past up (met-own start a i met))

-- a state has patterns exactly if it is at most the last that matches
some-at : (nfa : NFA) (text : ℕ → List ℕ) (i : ℕ) → IsReadable nfa → AreTables (dictionary nfa) text nfa.tables → 1 < i
    → i < state_len nfa → (0 < length (matches_at nfa i)) ↔ (i ≤ (special_in nfa).max_match_id)
some-at nfa text i r t past within = (r.bounds text t).matching i past within

-- a number past 0 and up to the last one that matches passes the test for a list
listed-test : (sid last : ℕ) → sid ≢ 0 → sid ≤ last → (not (sid == 0) && nat_le sid last) ≡ true
listed-test sid last some le = grind (arith, nat_tests)

-- the patterns of a number up to the last that matches are the list of its state
matches-low : (nfa : NFA) (table : Table) (text : ℕ → List ℕ) (a : Bool) (sid i : ℕ) → IsDfaTableOf nfa table
    → AreTables (dictionary nfa) text nfa.tables → 1 < i → IsNumber nfa table text a sid i
    → i ≤ (special_in nfa).max_match_id
    → (j : ℕ) × IsListed nfa table text a i j × (dfa_matches_by table sid ≡ matches_at nfa j)
matches-low nfa table text a sid i h t past n low =
    let l = listed-of nfa table text a i h t past n.met low in
    let some = number-past nfa table a i h past n.met in
    let stride = stride-some nfa table h in
    let is = n.number in
    let le : sid ≤ table.max_match = let up = (number-matches nfa table a i h n.met).1 low in omega (arith, up, is) in
    let not_zero : sid ≢ 0 = λ e. omega (arith, e, some, is, stride) in
    let test = listed-test sid table.max_match not_zero le in
    let index = l.1.index in
    let top = l.1.low in
    let j_past = l.1.past in
    let k = list_index table.kind
    (dfa_number_of table.kind (special_in nfa).start_unanchored_id (stride_of table) a i / stride_of table) in
    let counted = h.lists.1 in
    let shown : dfa_matches_by table sid
    ≡ dfa_list_of table.lists k = cond-true (not (sid == 0) && nat_le sid table.max_match)
    (dfa_list_of table.lists (list_index table.kind (sid / stride_of table))) [] test
    ∙ ap (λ m. dfa_list_of table.lists (list_index table.kind (m / stride_of table))) is in
    (l.0, l.1, shown ∙ (h.lists.2.each k (omega (arith, index, top, counted)) ∙ ap (matches_at nfa) index))

-- a number past the last that matches has no patterns
matches-high : (nfa : NFA) (table : Table) (text : ℕ → List ℕ) (a : Bool) (sid i : ℕ) → IsDfaTableOf nfa table
    → IsNumber nfa table text a sid i → (special_in nfa).max_match_id < i → dfa_matches_by table sid ≡ []
matches-high nfa table text a sid i h n high =
    let is = n.number in
    let past : table.max_match < sid =
    ⊎_elim
    (λ (l : table.max_match < sid). l)
    (λ (r : sid ≤ table.max_match). let low = (number-matches nfa table a i h n.met).0 (omega (arith, r, is)) in
    absurd (omega (arith, low, high)))
    (cases_lt table.max_match sid) in
    let test : (not (sid == 0) && nat_le sid table.max_match) ≡ false = grind (arith, nat_tests) in
    cond-false (not (sid == 0) && nat_le sid table.max_match)
    (dfa_list_of table.lists (list_index table.kind (sid / stride_of table))) [] test

-- a list isn't empty exactly if its length is positive
some-list : (xs : List ℕ) → xs ≢ [] → 0 < length xs
some-list [] some = absurd (some refl)
some-list (x ∷ xs) some = omega arith

list-some : (xs : List ℕ) → 0 < length xs → xs ≢ []
list-some xs some e = let n = ap length e in omega (arith, n, some)

-- each list is that of the text
table-lists : (nfa : NFA) (table : Table) (text : ℕ → List ℕ) → IsDfaTableOf nfa table
    → AreTables (dictionary nfa) text nfa.tables → (a : Bool) (sid : ℕ) (of : List ℕ)
    → IsTrue ((names_of nfa table text).met a sid) → (names_of nfa table text).text sid ≡ Some of
    → IsList (dictionary nfa) of (dfa_matches_by table sid)
table-lists nfa table text h t a sid of met some =
    let n = number-of nfa table text a sid h met in
    let i = n.0 in
    let s = text-some text i of (met-stands (special_in nfa).start_unanchored_id a i n.1.met) (sym n.1.named ∙ some) in
    subst (λ u. IsList (dictionary nfa) u (dfa_matches_by table sid)) (sym s.1)
    (⊎_elim
    (λ (high : (special_in nfa).max_match_id < i).
    let list = (h.readable.lists i n.1.within).list text t s.0 in
    let empty : length (matches_at nfa i) ≡ 0 =
    ⊎_elim
    (λ (more : 0 < length (matches_at nfa i)). let low = (some-at nfa text i h.readable t s.0 n.1.within).0 more in
    absurd (omega (arith, low, high)))
    (λ (le : length (matches_at nfa i) ≤ 0). omega (arith, le))
    (cases_lt 0 (length (matches_at nfa i))) in
    subst (IsList (dictionary nfa) (text i))
    (nil_from_length (matches_at nfa i) empty ∙ sym (matches-high nfa table text a sid i h n.1 high)) list)
    (λ (low : i ≤ (special_in nfa).max_match_id).
    let m = matches-low nfa table text a sid i h t s.0 n.1 low in
    let top = m.1.low in
    let j_in : m.0 < state_len nfa = let st = h.fit.source.starts in
    ⊎_elim (λ (l : (special_in nfa).max_match_id + 1 ≡ (special_in nfa).start_unanchored_id).
    omega (arith, l, top, st.1))
    (λ (r : (special_in nfa).max_match_id ≡ (special_in nfa).start_unanchored_id + 1). omega (arith, r, top, st.1))
    (last-match_is nfa h.readable) in
    subst (IsList (dictionary nfa) (text i)) (sym m.2)
    (subst (λ u. IsList (dictionary nfa) u (matches_at nfa m.0)) m.1.same
    ((h.readable.lists m.0 j_in).list text t m.1.past)))
    (cases_lt (special_in nfa).max_match_id i))

-- a number has patterns exactly up to the last one that matches
table-matching : (nfa : NFA) (table : Table) (text : ℕ → List ℕ) → IsDfaTableOf nfa table
    → AreTables (dictionary nfa) text nfa.tables → (a : Bool) (sid : ℕ) → IsTrue ((names_of nfa table text).met a sid)
    → sid ≢ 0 → ((dfa_matches_by table sid ≢ []) ↔ (sid ≤ table.max_match))
    × (sid ≤ table.max_match → list_index table.kind (sid / stride_of table) < length table.lists.ends.items)
table-matching nfa table text h t a sid met not_zero =
    let n = number-of nfa table text a sid h met in
    let i = n.0 in
    let is = n.1.number in
    let counted = h.lists.1 in
    let ends = h.lists.2.counted in
    let past : 1 < i =
    ⊎_elim (λ (zero_is : i ≡ 0). absurd
    (not_zero
    (is ∙ (ap (dfa_number_of table.kind (special_in nfa).start_unanchored_id (stride_of table) a) zero_is
    ∙ number-dead nfa table a)))) (λ (l : 1 < i). l) (dead-or nfa a i n.1.met) in
    let iff = number-matches nfa table a i h n.1.met in
    let below : sid ≤ table.max_match → i ≤ (special_in nfa).max_match_id = λ le. iff.0 (omega (arith, le, is)) in (
      (
        λ some.
            ⊎_elim
            (λ (high : (special_in nfa).max_match_id < i).
            absurd (some (matches-high nfa table text a sid i h n.1 high)))
            (λ (low : i ≤ (special_in nfa).max_match_id). let up = iff.1 low in omega (arith, up, is))
            (cases_lt (special_in nfa).max_match_id i),
        λ le.
            let m = matches-low nfa table text a sid i h t past n.1 (below le) in
            let top = m.1.low in
            let j_in : m.0 < state_len nfa = let st = h.fit.source.starts in
            ⊎_elim (λ (l : (special_in nfa).max_match_id + 1 ≡ (special_in nfa).start_unanchored_id).
            omega (arith, l, top, st.1))
            (λ (r : (special_in nfa).max_match_id ≡ (special_in nfa).start_unanchored_id + 1).
            omega (arith, r, top, st.1))
            (last-match_is nfa h.readable) in
            λ e. list-some (matches_at nfa m.0) ((some-at nfa text m.0 h.readable t m.1.past j_in).1 top) (sym m.2 ∙ e),
      ),
      λ le.
          let l = listed-of nfa table text a i h t past n.1.met (below le) in
          let index = l.1.index in
          let top = l.1.low in
          let same : list_index table.kind (sid / stride_of table)
          ≡ list_index table.kind
          (dfa_number_of table.kind (special_in nfa).start_unanchored_id (stride_of table) a i / stride_of table) =
          ap (λ m. list_index table.kind (m / stride_of table)) is in
          omega (arith, same, index, top, counted, ends),
    )

-- ---- the table

-- the table made from an automaton is that of its dictionary
pub table-rows : (nfa : NFA) (table : Table) (text : ℕ → List ℕ) → IsDfaTableOf nfa table
    → AreTables (dictionary nfa) text nfa.tables → AreDfaRows (dictionary nfa) table (names_of nfa table text)
table-rows nfa table text h t =
    let start = (special_in nfa).start_unanchored_id in
    let s = h.fit.source.starts in
    let stride = stride-some nfa table h in
    record {
      classes = h.fit.letters;
      alone = table-alone nfa table h;
      within = λ a sid met.
          let n = number-of nfa table text a sid h met in
          let is = n.1.number in
          let room = row-room (dfa_states table.kind (state_len nfa)) (dfa_row_of table.kind start a n.0)
          (stride_of table) (length table.trans.items)
          (row-below table.kind start (state_len nfa) a n.0 s.0 s.1 n.1.within)
          h.rows.len in (
            omega (arith, room, is),
            ⊎_elim (λ (zero_is : n.0 ≡ 0).
                inl (is ∙ (ap (dfa_number_of table.kind (special_in nfa).start_unanchored_id (stride_of table) a)
                zero_is
                ∙ number-dead nfa table a)))
                (λ (past : 1 < n.0). let p = number-past nfa table a n.0 h past n.1.met in inr (omega (arith, p, is)))
                (dead-or nfa a n.0 n.1.met),
          );
      rows = λ a sid met. let n = number-of nfa table text a sid h met in
          (dfa_row_of table.kind start a n.0, n.1.number);
      dead = λ a sid met.
          let n = number-of nfa table text a sid h met in
          let is = n.1.number in (
            λ none. ⊎_elim
                (λ (zero_is : n.0 ≡ 0). is
                ∙ (ap (dfa_number_of table.kind (special_in nfa).start_unanchored_id (stride_of table) a) zero_is
                ∙ number-dead nfa table a))
                (λ (past : 1 < n.0).
                absurd (let e : None ≡ Some (text n.0) = sym none ∙ (n.1.named ∙ state-some text n.0 past) in cc))
                (dead-or nfa a n.0 n.1.met),
            λ zero_is. ⊎_elim (λ (here : n.0 ≡ 0). n.1.named ∙ state-none text here)
                (λ (past : 1 < n.0). let p = number-past nfa table a n.0 h past n.1.met in
                absurd (omega (arith, p, is, zero_is, stride))) (dead-or nfa a n.0 n.1.met),
          );
      steps = table-steps nfa table text h t;
      first = by-first;
      starting = table-starting nfa table text h t;
      lists = table-lists nfa table text h t;
      matching = λ a sid met not_zero. (table-matching nfa table text h t a sid met not_zero).0;
      listed = λ a sid met not_zero. (table-matching nfa table text h t a sid met not_zero).1;
      ranges = h.lists.2.ranges;
      unanchored = by-unanchored;
      only = table-empty nfa table text h t false;
      greatest =
          ⊎_elim
          (λ (before : (special_in nfa).max_match_id + 1 ≡ start).
          let rows = row-before_starts table.kind start (special_in nfa).max_match_id s.0 before in
          let e : (dfa_row_of table.kind start true (special_in nfa).max_match_id + 1) * stride_of table
          ≡ dfa_row_of table.kind start true (special_in nfa).max_match_id * stride_of table + stride_of table =
          omega arith in
          let f = ap (λ row. row * stride_of table) rows in
          let is = h.max_match in
          let at = h.start in
          inl (omega (arith, e, f, is, at)))
          (λ (own : (special_in nfa).max_match_id ≡ start + 1).
          inr (h.max_match
          ∙ (ap (dfa_number_of table.kind (special_in nfa).start_unanchored_id (stride_of table) true) own
          ∙ sym h.start_anchored)))
          (last-match_is nfa h.readable);
      wide = h.wide;
      starts =
          let past = row-past table.kind start false start s.0 s.0 (λ e. omega (arith, e)) in (
            dfa_row_of table.kind start false start,
            omega (arith, past),
            h.start,
            h.start_anchored ∙ ap (λ row. row * stride_of table) (row-starts table.kind start s.0),
          );
      known = h.lists.2.known;
    }
  where
    by-first : (anchored : Anchored) → Serves table.kind anchored
        → IsFirst (names_of nfa table text) (is_anchored anchored) (start_by table (is_anchored anchored))
    by-first No serves = (table-first nfa table text h t).0
    by-first Yes serves = (table-first nfa table text h t).1

    by-unanchored : (names_of nfa table text).met true table.start ≡ false
    by-unanchored =
        ⊎_elim
        (λ (up : (names_of nfa table text).met true table.start ≡ true).
        let n = named-state (state_of text) (state_len nfa) (special_in nfa).start_unanchored_id
        (dfa_number_of table.kind (special_in nfa).start_unanchored_id (stride_of table)) true table.start up in
        let s = h.fit.source.starts in
        absurd (met-anchored (special_in nfa).start_unanchored_id n.0 n.2
        (numbers-apart nfa table h true false n.0 (special_in nfa).start_unanchored_id n.1 (omega (arith, s.1)) n.2
        (met-start (special_in nfa).start_unanchored_id s.0) (n.3 ∙ h.start))))
        (λ (down : (names_of nfa table text).met true table.start ≡ false). down)
        (cases_Bool ((names_of nfa table text).met true table.start))
