-- What a search by a contiguous automaton may pass in the start: places at which no pattern opens.
use Rattle.std.proofs.Common.{◌≡◌, ◌≢◌, ℕ, zero, suc, ◌+◌, ◌/◌, ◌%◌, ◌<◌, ◌≤◌, Bool, true, false, List, [], ◌∷◌, length, take, drop, slice_get, Option, None, Some, inl, refl, sym, subst, ◌∙◌, arith}
use Rattle.std.specs.Coded.{le_prop}
use Rattle.std.specs.Prelude.{◌==◌, nat_le, if◌then◌else◌, slice_index}
use Rattle.std.proofs.Math.Logic.{∥∥₁_elim}
use Rattle.std.proofs.lemmas.Bool.{eqb-true, eq-eqb, leb-true, le-leb, false≢true}
use Rattle.ac_input.specs.Alphabet.{class}
use Rattle.ac_input.specs.declared.search.Anchored.TheVariants.{No}
use Rattle.ac_input.specs.Dictionary.{IsPattern}
use Rattle.ac_automaton.specs.Named.{Naming, AreLinked}
use Rattle.ac_automaton.specs.Skip.{MayPass, MayReadBy}
use Rattle.ac_automaton.proofs.automaton.NamedLemmas.{read-dead}
use Rattle.ac_automaton.proofs.automaton.NamedPassingLemmas.{linked-may-pass}
use Rattle.ac_automaton.proofs.skip.PassingLemmas.{may-read}
use Rattle.ac_automaton.proofs.skip.StopLemmas.{AreMatching, StopsBefore}
use Rattle.ac_automaton.specs.declared.look.Between.{Between}
use Rattle.ac_automaton.specs.declared.look.LookUp.{Ghosts}
use Rattle.ac_tables.specs.declared.contiguous.NFA.{NFA}
use Rattle.ac_tables.specs.declared.contiguous.table.Table.{Table}
use Rattle.ac_tables.specs.Contiguous.Words.{StateParts, next_by}
use Rattle.ac_tables.specs.Contiguous.WordReads.{IsFirstPlace, IsStateAt, IsSparseAt, ByteLeadsTo}
use Rattle.std.specs.Int.{w32}
use Rattle.std.specs.List.{flat_map}
use Rattle.std.specs.Int.{to_le_bytes}
use Rattle.ac_tables.specs.Contiguous.Reads.{contiguous_dictionary, contiguous_built_as, contiguous_matches_at, contiguous_named_states, IsLaidOut, IsContiguousRead}
use Rattle.ac_tables.proofs.contiguous.DecodeLemmas.{state-fail}
use Rattle.ac_tables.proofs.contiguous.FollowLemmas.{laid-numbers, laid-edge, laid-failure}
use Rattle.ac_tables.proofs.contiguous.NameLemmas.{list-past, names-are, start-read, state-apart, state-many, state-matches}
use Rattle.ac_tables.proofs.contiguous.IdleLemmas.{stays-in-start}
use Rattle.ac_tables.proofs.contiguous.StateLemmas.{dense-at, one-at, sparse-at, sparse-hit, sparse-miss}
use Rattle.ac_automaton.proofs.automaton.TestLemmas.{start-has}

-- ---- the place of a byte

-- one place further on
abbrev pub further : Option ℕ → Option ℕ
further None = None
further (Some k) = Some (suc k)

-- the first place at which a byte stands
pub place_in : List ℕ → ℕ → Option ℕ
place_in [] wanted = None
place_in (x ∷ xs) wanted = if x == wanted then Some 0 else further (place_in xs wanted)

first-further : (x : ℕ) (xs : List ℕ) (wanted : ℕ) (r : Option ℕ) → x ≢ wanted → IsFirstPlace xs wanted r
    → IsFirstPlace (x ∷ xs) wanted (further r)
first-further x xs wanted None apart none = by
  where
    by : (k : ℕ) → k < length (x ∷ xs) → slice_index (x ∷ xs) k ≢ wanted
    by zero lt = apart
    by (suc k) lt = none k (omega (arith, lt))
first-further x xs wanted (Some i) apart found = (let lt = found.0 in omega (arith, lt), found.1, by)
  where
    by : (k : ℕ) → k < suc i → slice_index (x ∷ xs) k ≢ wanted
    by zero lt = apart
    by (suc k) lt = found.2 k (omega (arith, lt))

first-here : (x : ℕ) (xs : List ℕ) (wanted : ℕ) → x ≡ wanted → IsFirstPlace (x ∷ xs) wanted (Some 0)
first-here x xs wanted is = (omega arith, is, λ k lt. absurd (omega (arith, lt)))

place_in-is : (xs : List ℕ) (wanted : ℕ) → IsFirstPlace xs wanted (place_in xs wanted)
unfolding place_in
place_in-is [] wanted = λ k lt. absurd (omega (arith, lt))
place_in-is (x ∷ xs) wanted = by (place_in-is xs wanted) (x == wanted) refl
  where
    by : IsFirstPlace xs wanted (place_in xs wanted) → (here : Bool) → (x == wanted) ≡ here
        → IsFirstPlace (x ∷ xs) wanted (if here then Some 0 else further (place_in xs wanted))
    by rest true is = first-here x xs wanted (eqb-true x wanted is)
    by rest false is =
        first-further x xs wanted (place_in xs wanted) (λ e. false≢true (sym is ∙ eq-eqb x wanted e)) rest

-- ---- where a class leads, by the words

-- where a class leads from a state with an entry for each class
abbrev pub dense_by : Table → ℕ → ℕ → ℕ
dense_by table sid c = if nat_le (suc c) table.alphabet_len then slice_index table.words.items (sid + 2 + c) else 1

-- where a class leads from a state with a single transition
abbrev pub one_by : Table → ℕ → ℕ → ℕ
one_by table sid c = if slice_index table.words.items sid / 256 == c then slice_index table.words.items (sid + 2) else 1

-- where a class leads from a state with packed classes: to the word for the class's place, or nowhere if the class
-- isn't there
abbrev pub next_at : Table → ℕ → ℕ → Option ℕ → ℕ
next_at table sid len None = 1
next_at table sid len (Some i) = slice_index table.words.items (sid + 2 + (len + 3) / 4 + i)

abbrev pub sparse_by : Table → ℕ → ℕ → ℕ → ℕ
sparse_by table sid len c =
    next_at table sid len (place_in (flat_map (to_le_bytes w32)
    (take ((len + 3) / 4) (drop (sid + 2) table.words.items))) c)

-- where a class leads from any state
abbrev pub class_by : Table → ℕ → ℕ → ℕ
class_by table sid c =
    if slice_index table.words.items sid % 256 == 255 then dense_by table sid c else if slice_index table.words.items
    sid % 256 == 254 then one_by table sid c else sparse_by table sid (slice_index table.words.items sid % 256) c

-- a class that no transition has leads nowhere
none-leads : (edges : List (ℕ × ℕ)) (c : ℕ) → ((k : ℕ) (edge : ℕ × ℕ) → slice_get edges k ≡ Some edge → edge.0 ≢ c)
    → next_by edges c ≡ 1
none-leads [] c apart = refl
none-leads (edge ∷ edges) c apart =
    by (none-leads edges c (λ k other there. apart (suc k) other there)) (edge.0 == c) refl
  where
    by : next_by edges c ≡ 1 → (here : Bool) → (edge.0 == c) ≡ here → (if here then edge.1 else next_by edges c) ≡ 1
    by rest true is = absurd (apart 0 edge refl (eqb-true edge.0 c is))
    by rest false is = rest

dense-leads : (table : Table) (sid c : ℕ) (s : StateParts) → IsStateAt table sid s
    → slice_index table.words.items sid % 256 ≡ 255 → dense_by table sid c ≡ next_by s.edges c
dense-leads table sid c s h kind = by (nat_le (suc c) table.alphabet_len) refl
  where
    by : (within : Bool) → nat_le (suc c) table.alphabet_len ≡ within
        → (if within then slice_index table.words.items (sid + 2 + c) else 1) ≡ next_by s.edges c
    by true is =
        let lt = leb-true (suc c) table.alphabet_len is in
        (dense-at table sid c (sid + 2 + c) s h kind (omega (arith, lt)) refl).1
    by false is =
        sym (none-leads s.edges c (λ k edge there e. let lt = h.fits k edge there in
        false≢true (sym is ∙ le-leb (suc c) table.alphabet_len (omega (arith, lt, e)))))

one-leads : (table : Table) (sid c : ℕ) (s : StateParts) → IsStateAt table sid s
    → slice_index table.words.items sid % 256 ≡ 254 → one_by table sid c ≡ next_by s.edges c
one-leads table sid c s h kind = by (slice_index table.words.items sid / 256 == c) refl
  where
    by : (here : Bool) → (slice_index table.words.items sid / 256 == c) ≡ here
        → (if here then slice_index table.words.items (sid + 2) else 1) ≡ next_by s.edges c
    by true is =
        let one = one-at table sid s h kind in one.1 c (eqb-true (slice_index table.words.items sid / 256) c is)
    by false is =
        let one = one-at table sid s h kind in
        sym (one.2 c (λ e. false≢true (sym is ∙ eq-eqb (slice_index table.words.items sid / 256) c e)))

sparse-leads : (table : Table) (sid len c : ℕ) (s : StateParts) → IsStateAt table sid s → IsSparseAt table sid len
    → sparse_by table sid len c ≡ next_by s.edges c
sparse-leads table sid len c s h sparse =
    by (place_in (flat_map (to_le_bytes w32) (take ((len + 3) / 4) (drop (sid + 2) table.words.items))) c)
    (place_in-is (flat_map (to_le_bytes w32) (take ((len + 3) / 4) (drop (sid + 2) table.words.items))) c)
  where
    by : (r : Option ℕ) → IsFirstPlace (flat_map (to_le_bytes w32)
        (take ((len + 3) / 4) (drop (sid + 2) table.words.items))) c r → next_at table sid len r ≡ next_by s.edges c
    by None found =
        let a = sparse-at table sid len s h sparse in
        sym (sparse-miss table.words.items sid len c s.edges a
        (subst (λ xs. IsFirstPlace (flat_map (to_le_bytes w32) xs) c None) a.classes.1 found))
    by (Some i) found =
        let a = sparse-at table sid len s h sparse in
        let hit = sparse-hit table.words.items sid len c i s.edges a
        (subst (λ xs. IsFirstPlace (flat_map (to_le_bytes w32) xs) c (Some i)) a.classes.1 found) in
        (a.nexts i (sid + 2 + (len + 3) / 4 + i) hit.0 refl).1 ∙ sym hit.1

-- where the words lead by a class is where the state there leads
class-leads : (table : Table) (sid c : ℕ) (s : StateParts) → IsStateAt table sid s
    → class_by table sid c ≡ next_by s.edges c
class-leads table sid c s h =
    by (slice_index table.words.items sid % 256 == 255) (slice_index table.words.items sid % 256 == 254) refl refl
  where
    by : (dense one : Bool) → (slice_index table.words.items sid % 256 == 255) ≡ dense
        → (slice_index table.words.items sid % 256 == 254) ≡ one
        → (if dense then dense_by table sid c else if one then one_by table sid c else sparse_by table sid
        (slice_index table.words.items sid % 256) c) ≡ next_by s.edges c
    by true one is other = dense-leads table sid c s h (eqb-true (slice_index table.words.items sid % 256) 255 is)
    by false true is other = one-leads table sid c s h (eqb-true (slice_index table.words.items sid % 256) 254 other)
    by false false is other =
        sparse-leads table sid (slice_index table.words.items sid % 256) c s h
        (record {
          kind = refl;
          dense = λ e. false≢true (sym is ∙ eq-eqb (slice_index table.words.items sid % 256) 255 e);
          one = λ e. false≢true (sym other ∙ eq-eqb (slice_index table.words.items sid % 256) 254 e);
        })

-- ---- every text leads somewhere

-- where a byte leads from a number, and to which number one fails
abbrev pub edge_by : Table → ℕ → ℕ → ℕ
edge_by table sid byte = class_by table sid (class table.classes byte)

abbrev pub fail_by : Table → ℕ → ℕ
fail_by table sid = slice_index table.words.items (sid + 1)

byte-leads : (table : Table) (sid byte : ℕ) → ByteLeadsTo table sid byte (edge_by table sid byte)
byte-leads table sid byte = λ s h. class-leads table sid (class table.classes byte) s h

fails-by : (table : Table) (sid : ℕ) → ((s : StateParts) → IsStateAt table sid s → (fail_by table sid) ≡ s.fail)
fails-by table sid = λ s h. (state-fail table.words.items sid table.alphabet_len s h.stands).1

-- by its words the automaton is one that follows failures
pub linked-by : (nfa : NFA) (names : Naming) → IsLaidOut nfa names
    → AreLinked (contiguous_dictionary nfa) names nfa.table.start (edge_by nfa.table) (fail_by nfa.table)
linked-by nfa names fits = record {
  numbers = laid-numbers nfa names fits;
  edges =
      λ anchored sid byte met small. laid-edge nfa anchored sid byte (edge_by nfa.table sid byte) small
      (byte-leads nfa.table sid byte) names fits met;
  failures = λ sid met. laid-failure nfa sid (fail_by nfa.table sid) (fails-by nfa.table sid) names fits met;
}

-- ---- by its skips

-- what a search that skips asks of the automaton
abbrev pub look_ups : Ghosts NFA
look_ups = record { built = contiguous_built_as; Reaches = IsContiguousRead; matches = contiguous_matches_at }

-- if the start matches nothing, a search in it may pass places at which no pattern opens
words-may-pass : (nfa : NFA) (len : ℕ) → 0 < len
    → ((n : ℕ) (p : List ℕ) → IsPattern (contiguous_dictionary nfa) n p → len ≤ length p)
    → nfa.table.max_match < nfa.table.start
    → MayPass (contiguous_dictionary nfa) len (IsContiguousRead nfa No) nfa.table.start
words-may-pass nfa len some long past =
    let start = nfa.table.start in
    linked-may-pass (contiguous_named_states nfa) len start (edge_by nfa.table) (fail_by nfa.table) (names-are nfa)
    (linked-by nfa) some long
    (start-read nfa No start refl) (start-has start start nfa.table.start_anchored (inl refl))
    (list-past nfa.table start past)

-- the states that match have the numbers from 1 to the greatest that matches
pub are-matching : (nfa : NFA) → AreMatching look_ups nfa 1 nfa.table.max_match
are-matching nfa = record {
  some =
      λ sid state past. let apart = state-apart nfa sid state in state-many nfa sid state (omega (arith, past, apart));
  within = λ sid state some. let w = state-matches nfa sid state some in let past = w.0 in (omega (arith, past), w.1);
  dead = λ text sid reads early.
      let zero_is : sid ≡ 0 = omega (arith, early) in
      let dead = read-dead (contiguous_named_states nfa) sid true
      (λ anchored names fits met. (λ none. refl, λ yes. (fits.1.dead anchored sid met).1 zero_is)) in
      (dead No text reads).0 refl;
}

-- the unanchored start stands before the anchored one
pub starts-ordered : (nfa : NFA) → nfa.table.start ≤ nfa.table.start_anchored
starts-ordered nfa = ∥∥₁_elim nfa.stands le_prop (λ w. let past = w.2.past in omega (arith, past.1))

-- A search may read on by its skips if its last stop, where that is before the start, is the greatest state that
-- matches.
pub may-read-by : (nfa : NFA) (two : Between) → StopsBefore nfa.table.start two.last nfa.table.max_match
    → MayReadBy look_ups nfa nfa.skips two
may-read-by nfa two =
    may-read look_ups nfa nfa.skips two nfa.table.start 1 nfa.table.max_match nfa.begins nfa.opened (stays-in-start nfa)
    (λ len sid some long reached past. words-may-pass nfa len some long past) (are-matching nfa)
