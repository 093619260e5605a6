-- What a search by a DFA may pass in the start: places at which no pattern opens.
use Rattle.std.proofs.Common.{◌≡◌, ◌≢◌, inl, ℕ, suc, ◌+◌, ◌<◌, ◌≤◌, true, IsTrue, List, [], ◌∷◌, ◌++◌, Option, refl, sym, subst, ◌∙◌, arith}
use Rattle.std.specs.Coded.{le_prop}
use Rattle.std.specs.Prelude.{slice_index, length}
use Rattle.std.proofs.Math.Logic.{∥∥₁_elim, ∥∥₁_map, ∥∥₁_prop}
use Rattle.std.proofs.lemmas.List.{append_assoc}
use Rattle.ac_input.specs.Alphabet.{class}
use Rattle.ac_input.specs.declared.search.Anchored.TheVariants.{No, Yes}
use Rattle.ac_input.specs.declared.search.MatchKind.TheVariants.{Standard}
use Rattle.ac_input.specs.declared.search.StartKind.{StartKind}
use Rattle.ac_input.specs.declared.search.StartKind.TheVariants.{Both, Unanchored, Anchored}
use Rattle.ac_input.specs.Dfa.{Serves}
use Rattle.ac_input.specs.Dictionary.{IsPattern}
use Rattle.ac_input.specs.declared.steps.Steps.{Steps}
use Rattle.ac_input.proofs.lemmas.LiveLemmas.{dead-best}
use Rattle.ac_automaton.specs.Ahead.{IsLaneCut, MayNote, ReadsAhead, ReadsAheadBy}
use Rattle.ac_automaton.specs.Automaton.{IsReached, Leads, is_matching}
use Rattle.ac_automaton.specs.Skip.{MayPass, MayReadBy}
use Rattle.ac_automaton.proofs.lemmas.CursorLemmas.{leads-none}
use Rattle.ac_automaton.proofs.automaton.PassLemmas.{matching-some}
use Rattle.ac_automaton.proofs.lanes.ReadLemmas.{reads-weaker}
use Rattle.ac_automaton.proofs.automaton.NamedPassingLemmas.{may-pass}
use Rattle.ac_automaton.proofs.skip.PassingLemmas.{may-read}
use Rattle.ac_automaton.proofs.skip.StopLemmas.{AreMatching, StopsBefore}
use Rattle.ac_automaton.specs.declared.ahead.Note.{Note}
use Rattle.ac_automaton.specs.declared.look.Between.{Between}
use Rattle.ac_automaton.specs.declared.look.LookUp.{Ghosts}
use Rattle.ac_tables.specs.declared.dfa.DFA.{DFA}
use Rattle.ac_tables.specs.declared.dfa.table.Table.{Table}
use Rattle.ac_tables.specs.Dfa.Reads.{dfa_dictionary, dfa_built_as, dfa_matches_at, dfa_named_states, IsDfaRead}
use Rattle.ac_tables.proofs.dfa.IdleLemmas.{past-none, stays-in-start}
use Rattle.ac_tables.proofs.dfa.FreeLemmas.{dfa-frees}
use Rattle.ac_tables.proofs.dfa.ReadLemmas.{all-names, dead-said, listed-within, row-leads, start-read, starts-placed, state-matches}
use Rattle.ac_automaton.proofs.automaton.TestLemmas.{start-has}

-- ---- every text leads somewhere

-- the number to which bytes lead by the table
pub run : Table → ℕ → List ℕ → ℕ
run table sid [] = sid
run table sid (b ∷ bs) = run table (slice_index table.trans.items (sid + class table.classes b)) bs

run-leads : (dfa : DFA) (sid : ℕ) (bytes : List ℕ) → ((k : ℕ) → slice_index bytes k < 256)
    → Leads (IsDfaRead dfa No) sid bytes (run dfa.table sid bytes)
unfolding run
run-leads dfa sid [] small = leads-none (IsDfaRead dfa No) sid
run-leads dfa sid (b ∷ bs) small = λ text reads.
    let next = slice_index dfa.table.trans.items (sid + class dfa.table.classes b) in
    let there = row-leads dfa No sid b next (small 0) refl text reads in
    subst (λ l. IsDfaRead dfa No l (run dfa.table next bs)) (append_assoc text (b ∷ []) bs)
    (run-leads dfa next bs (λ k. small (suc k)) (text ++ b ∷ []) there)

-- ---- the start

-- if it is merely known that unanchored searches are served, they are served
serves-told : (kind : StartKind) → ∥ Serves kind No ∥₁ → Serves kind No
serves-told Both h = tt
serves-told Unanchored h = refl
serves-told Anchored h = absurd (∥∥₁_elim h (λ x y. absurd x) (λ (e : No ≡ Yes). let r : ⊥ = cc in r))

-- if an unanchored search reaches a number, unanchored searches are served
pub reached-serves : (dfa : DFA) (sid : ℕ) → IsReached (IsDfaRead dfa No) sid → Serves dfa.table.kind No
reached-serves dfa sid h = serves-told dfa.table.kind (∥∥₁_elim h ∥∥₁_prop (λ w. ∥∥₁_map w.1.reached (λ v. v.1.0)))

-- if the start matches nothing, a search in it may pass places at which no pattern opens
dfa-may-pass : (dfa : DFA) (len sid : ℕ) → 0 < len
    → ((n : ℕ) (p : List ℕ) → IsPattern (dfa_dictionary dfa) n p → len ≤ length p) → IsReached (IsDfaRead dfa No) sid
    → dfa.table.max_match < dfa.table.start → MayPass (dfa_dictionary dfa) len (IsDfaRead dfa No) dfa.table.start
dfa-may-pass dfa len sid some long h past =
    let start = dfa.table.start in
    may-pass (dfa_named_states dfa No) len start (all-names dfa No) some long
    (start-read dfa No start (reached-serves dfa sid h) refl)
    (start-has start start dfa.table.start_anchored (inl refl)) (past-none dfa.table start past)
    (λ bytes small. (run dfa.table start bytes, run-leads dfa start bytes small))

-- the unanchored start stands before the anchored one
pub starts-ordered : (dfa : DFA) → dfa.table.start ≤ dfa.table.start_anchored
starts-ordered dfa =
    ∥∥₁_elim dfa.stands le_prop (λ w. let placed = starts-placed (dfa_dictionary dfa) dfa.table w.0 w.1 in
    omega (arith, placed))

-- ---- by its skips

-- what a search that skips asks of the automaton
abbrev pub look_ups : Ghosts DFA
look_ups = record { built = dfa_built_as; Reaches = IsDfaRead; matches = dfa_matches_at }

-- the states that match have the numbers from 1 to the greatest that matches
pub are-matching : (dfa : DFA) → AreMatching look_ups dfa 1 dfa.table.max_match
are-matching dfa = record {
  some = λ sid state past. state-matches dfa sid state (omega (arith, past));
  within = λ sid state some. let w = listed-within dfa.table sid some in let apart = w.0 in (omega (arith, apart), w.1);
  dead = λ text sid reads early. (dead-said dfa sid true (λ _. omega (arith, early), λ _. refl) No text reads).0 refl;
}

-- A search may read on by its skips if its last stop, where that is before the start, is the greatest state that
-- matches.
pub may-read-by : (dfa : DFA) (two : Between) → StopsBefore dfa.table.start two.last dfa.table.max_match
    → MayReadBy look_ups dfa dfa.skips two
may-read-by dfa two =
    may-read look_ups dfa dfa.skips two dfa.table.start 1 dfa.table.max_match dfa.begins dfa.opened (stays-in-start dfa)
    (dfa-may-pass dfa) (are-matching dfa)

-- a number that an unanchored search of the standard kind reaches matches, if it is at most the last that matches
dfa-some : (dfa : DFA) (sid : ℕ) → (dfa_dictionary dfa).kind ≡ Standard → IsReached (IsDfaRead dfa No) sid
    → sid ≤ dfa.table.max_match → IsTrue (is_matching (dfa_matches_at dfa) sid)
dfa-some dfa sid standard reached le =
    let some : sid ≢ 0 = λ zero. ∥∥₁_elim reached (λ x y. absurd x)
    (λ w. (dead-best ((dead-said dfa sid true (λ _. zero, λ _. refl) No w.0 w.1).0 refl)).0
    standard) in
    matching-some (dfa_matches_at dfa sid) (state-matches dfa sid (∥∥₁_map reached (λ w. (No, w.0, w.1))) some le)

-- several walks may go side by side
pub may-note : (dfa : DFA) (sid : ℕ) → IsTrue dfa.lanes → IsReached (IsDfaRead dfa No) sid
    → MayNote look_ups dfa dfa.table.start dfa.table.max_match dfa.unused
may-note dfa sid lanes h = record {
  one = refl;
  lanes = lanes;
  starts = start-read dfa No dfa.table.start (reached-serves dfa sid h) refl;
  quiet = past-none dfa.table;
  some = λ standard other reached le. dfa-some dfa other standard reached le;
  frees = λ standard byte small is text other reads. dfa-frees dfa byte standard small is text other reads;
}

-- what was read ahead, cut after unused bytes, a search takes
pub dfa-ahead : (dfa : DFA) (anew : Option ℕ) (sid : ℕ) (bytes : List ℕ) (at len read : ℕ) (notes : List Note)
    (s t : Steps)
    → ReadsAheadBy (IsLaneCut dfa.unused dfa.table.start (dfa_matches_at dfa)) (dfa_built_as dfa) (IsDfaRead dfa No)
    (dfa_matches_at dfa) anew sid bytes at len read notes s t
    → ReadsAhead (dfa_built_as dfa) (IsDfaRead dfa No) (dfa_matches_at dfa) anew sid bytes at len read notes s t
dfa-ahead dfa anew sid bytes at len read notes s t h =
    let R = IsDfaRead dfa No in
    let M = dfa_matches_at dfa in
    reads-weaker
    (λ standard byte state cut. record {
      only = λ text other reads. dfa-frees dfa byte standard cut.small cut.is text other reads ∙ sym cut.state;
      quiet = cut.quiet;
    })
    h
