-- How the states of the tables are named, and where a byte leads from one: by an edge of its own, or over its failures.
use Rattle.std.proofs.Common.{◌≡◌, ◌≢◌, ◌⊎◌, ℕ, zero, suc, ◌+◌, ◌<◌, Bool, true, false, IsTrue, map, List, [], ◌∷◌, ◌++◌, length, drop, Option, None, Some, inl, inr, ⊎_elim, refl, sym, ap, subst, ◌∙◌, arith, length-append}
use Rattle.std.specs.Prelude.{◌==◌, ◌&&◌, nat_lt, not}
use Rattle.std.specs.Coded.{le_prop}
use Rattle.std.proofs.Math.Logic.{∥∥₁_elim, ∥∥₁_map}
use Rattle.std.proofs.lemmas.Bool.{and_parts, and_from, ne_eqb, eq-eqb, lt-ltb, ltb-true}
use Rattle.std.proofs.lemmas.List.{length-map, nil_from_length}
use Rattle.std.proofs.lemmas.Option.{same_Some}
use Rattle.ac_input.specs.declared.steps.Steps.{Steps}
use Rattle.ac_input.specs.Dictionary.{Dictionary, BeginsEntered}
use Rattle.ac_input.specs.Laws.LiveLaws.{canonical}
use Rattle.ac_input.specs.States.{LeadsTo, FailsTo}
use Rattle.ac_input.specs.Steps.{Done}
use Rattle.ac_input.proofs.lemmas.FailureLemmas.{failure-shorter}
use Rattle.ac_input.proofs.lemmas.LeadsLemmas.{leads-dead}
use Rattle.ac_automaton.specs.Named.{Naming, OfNames, text_len, nowhere, IsEdgeBy, IsFailureBy, AreNumbers}
use Rattle.ac_automaton.proofs.automaton.LinkedLemmas as linked
use Rattle.ac_noncontiguous.specs.declared.nfa.tables.Tables.{Tables}
use Rattle.ac_noncontiguous.specs.Nfa.{state_of, IsEdge, AreTexts, AreTables, kept_of}
use Rattle.ac_noncontiguous.specs.Nfa.Lookups.{IsKept, IsVisited, StepsTo, other_start, naming_of, IsNamingOf, LeadsNext}

-- ---- what a number stands for

-- every number but 1 is that of the dead state or stands for a text
pub by-number : (text : ℕ → List ℕ) (P : Option (List ℕ) → Type 0) (i : ℕ) → i ≢ 1 → P (state_of text i)
    → ((i ≡ 0) × P None) ⊎ ((1 < i) × P (Some (text i)))
by-number text P zero apart h = inl (refl, h)
by-number text P (suc zero) apart h = absurd (apart refl)
by-number text P (suc (suc i)) apart h = inr (omega arith, h)

-- a number greater than 1 stands for its text
pub state-some : (text : ℕ → List ℕ) (i : ℕ) → 1 < i → state_of text i ≡ Some (text i)
state-some text zero some = absurd (omega arith)
state-some text (suc zero) some = absurd (omega arith)
state-some text (suc (suc i)) some = refl

-- number 0 stands for the dead state
pub state-none : (text : ℕ → List ℕ) {i : ℕ} → i ≡ 0 → state_of text i ≡ None
state-none text zero_is = ap (state_of text) zero_is

-- a number other than 1 that stands for no text is the dead state's
pub is-dead : (text : ℕ → List ℕ) {i : ℕ} → i ≢ 1 → state_of text i ≡ None → i ≡ 0
is-dead text {i} stands none =
    ⊎_elim
    (λ (dead : (i ≡ 0) × (◌≡◌ {A = Option (List ℕ)} None None)). dead.0)
    (λ (some : (1 < i) × (Some (text i) ≡ None)). absurd (let e = some.1 in cc))
    (by-number text (λ r. r ≡ None) i stands none)

-- a number that stands for a text is greater than 1
pub is-text : (text : ℕ → List ℕ) (i : ℕ) {state : List ℕ} → state_of text i ≡ Some state → (1 < i) × (text i ≡ state)
is-text text zero {state} some = absurd (let e : None ≡ Some state = some in cc)
is-text text (suc zero) {state} some = absurd (let e : None ≡ Some state = some in cc)
is-text text (suc (suc i)) {state} some = (omega arith, same_Some (text (suc (suc i))) state some)

-- ---- which numbers are met

-- a state other than the fail state and the start of the other anchoring is met
pub is-met : (text : ℕ → List ℕ) (len start : ℕ) (anchored : Bool) (i : ℕ) → i < len → i ≢ 1
    → i ≢ other_start start anchored → IsTrue ((naming_of text len start).met anchored i)
is-met text len start anchored i within stands own =
    and_from (nat_lt i len) (not (i == 1) && not (i == other_start start anchored)) (lt-ltb i len within)
    (and_from (not (i == 1)) (not (i == other_start start anchored)) (ap (λ b. not b) (ne_eqb i 1 stands))
    (ap (λ b. not b) (ne_eqb i (other_start start anchored) own)))

-- only those states are met
pub met-is : (text : ℕ → List ℕ) {len : ℕ} (start : ℕ) (anchored : Bool) {i : ℕ}
    → IsTrue ((naming_of text len start).met anchored i) → (i < len) × (i ≢ 1) × (i ≢ other_start start anchored)
met-is text {len} start anchored {i} met =
    let all = and_parts (nat_lt i len) (not (i == 1) && not (i == other_start start anchored)) met in
    let both = and_parts (not (i == 1)) (not (i == other_start start anchored)) all.1 in
    (ltb-true i len all.0, apart i 1 both.0, apart i (other_start start anchored) both.1)
  where
    apart : (a b : ℕ) → not (a == b) ≡ true → a ≢ b
    apart a b differ e = let same = eq-eqb a b e in let there : not (a == b) ≡ false = ap (λ x. not x) same in
        absurd (let f : true ≡ false = sym differ ∙ there in cc)

-- a state that isn't a start is met from both
pub both-met : (text : ℕ → List ℕ) (len start i : ℕ) → i < len → i ≢ 1 → i ≢ start → i ≢ start + 1 → (anchored : Bool)
    → IsTrue ((naming_of text len start).met anchored i)
both-met text len start i within stands one next true = is-met text len start true i within stands one
both-met text len start i within stands one next false = is-met text len start false i within stands next

-- ---- the names of the states of tables

-- the texts of the states are canonical bytes, and only the starts stand for the empty one
pub numbers-of : {m : Dictionary} {len start : ℕ} {text : ℕ → List ℕ} → AreTexts m len start text
    → AreNumbers m (naming_of text len start) start
numbers-of {m} {len} {start} {text} t = record {
  apart = λ anchored i met. (met-is text start anchored met).1;
  unanchored = never ((naming_of text len start).met true start) (λ met. (met-is text start true met).2 refl);
  only = λ i met empty.
      let w = met-is text start false met in
      let is = is-text text i empty in
      ⊎_elim (λ (one : i ≡ start). one) (λ (next : i ≡ start + 1). absurd (w.2 next)) (t.others i is.0 w.0 is.1);
  begin = λ anchored i state met some.
      let is = is-text text i some in
      let b = t.begin i is.0 (met-is text start anchored met).0 in
      subst (λ v. BeginsEntered m v × (map (canonical m.pairing) v ≡ v)) is.1 b;
}
  where
    never : (b : Bool) → ¬ IsTrue b → b ≡ false
    never true none = absurd (none refl)
    never false none = refl

-- a text with a byte after it is not empty
pub not-empty : (xs : List ℕ) (b : ℕ) → xs ++ b ∷ [] ≢ []
not-empty xs b e = let n = ap length e in let k = length-append xs (b ∷ []) in omega (arith, n, k)

-- an edge in the tables is an edge by their naming
pub edge-of : {m : Dictionary} {len start : ℕ} {text : ℕ → List ℕ} {i byte j : ℕ} → AreTexts m len start text
    → IsEdge m len start text i byte j → i ≢ 1 → IsEdgeBy m (naming_of text len start) start i byte j
edge-of {m} {len} {start} {text} {i} {byte} {j} t edge stands =
    let starts = t.starts in
    record {
      dead = λ none.
          let to = edge.dead (is-dead text {i = i} stands none) in
          let met = both-met text len start j (omega (arith, to, starts.1)) (λ e. omega (arith, to, e))
          (λ e. omega (arith, to, starts.0, e)) (λ e. omega (arith, to, e)) in
          (met true, met false, (λ e. omega (arith, to, e)), state-none text {i = j} to);
      child = λ state some begins.
          let is = is-text text i {state = state} some in
          let child = edge.child is.0 (subst (λ v. BeginsEntered m (v ++ byte ∷ [])) (sym is.1) begins) in
          let full : text j ≢ [] = λ e. not-empty (text i) (canonical m.pairing byte) (sym child.2 ∙ e) in
          let met = both-met text len start j child.1 (λ e. omega (arith, child.0, e))
          (λ e. full (ap text e ∙ starts.2)) (λ e. full (ap text e ∙ starts.3)) in (
            met true,
            met false,
            (λ e. omega (arith, child.0, e)),
            state-some text j child.0 ∙ ap Some (child.2 ∙ ap (λ v. v ++ canonical m.pairing byte ∷ []) is.1),
          );
      none = λ state some apart begins_none.
          let is = is-text text i {state = state} some in
          edge.none is.0 apart (subst (λ v. ¬ BeginsEntered m (v ++ byte ∷ [])) (sym is.1) begins_none);
      back = λ state some at begins_none.
          let is = is-text text i {state = state} some in
          let back = edge.back at (subst (λ v. ¬ BeginsEntered m (v ++ byte ∷ [])) (sym is.1) begins_none) in
          let there = there-back j back.0 in
          (there.0, there.1, there.2, subst (λ v. LeadsTo m false (v ++ byte ∷ []) (state_of text j)) is.1 back.1);
    }
  where
    there-back : (j : ℕ) → (j ≡ 0) ⊎ (j ≡ start)
        → IsTrue ((naming_of text len start).met false j) × (j ≢ nowhere) × (text_len (state_of text j) ≡ 0)
    there-back j (inl zero_is) =
        let starts = t.starts in (
          is-met text len start false j (omega (arith, zero_is, starts.1)) (λ e. omega (arith, zero_is, e))
              (λ e. omega (arith, zero_is, e)),
          (λ e. omega (arith, zero_is, e)),
          ap text_len (state-none text {i = j} zero_is),
        )
    there-back j (inr is) =
        let starts = t.starts in
        let past : 1 < j = omega (arith, starts.0, is) in (
          is-met text len start false j (omega (arith, is, starts.1)) (λ e. omega (arith, past, e))
              (λ e. omega (arith, is, e)),
          (λ e. omega (arith, past, e)),
          ap text_len (state-some text j past) ∙ ap length (ap text is ∙ starts.2),
        )

-- a failure in the tables is a failure by their naming
pub failure-of : {m : Dictionary} {tables : Tables} {text : ℕ → List ℕ} {i : ℕ} → (t : AreTables m text tables)
    → i < t.len → IsFailureBy m (naming_of text t.len tables.start) i (kept_of tables.states.items i).fail
failure-of {m} {tables} {text} {i} t within =
    let w = t.failures.within i within in
    record {
      met = is-met text t.len tables.start false (kept_of tables.states.items i).fail w.0 w.1 w.2;
      fails = λ state some.
          let is = is-text text i some in
          subst (λ v. FailsTo m v (state_of text (kept_of tables.states.items i).fail)) is.1
          (t.failures.fails i is.0 within);
    }

-- What holds of the naming by each choice of texts holds of every naming of the tables.
pub of-names : {m : Dictionary} {tables : Tables} (P : Naming → Type 0)
    → ((text : ℕ → List ℕ) (t : AreTables m text tables) → P (naming_of text t.len tables.start)) → (names : Naming)
    → IsNamingOf m tables names → P names
of-names P h names w = subst P (sym w.2) (h w.0 w.1)

-- the numbers are right by every naming of the tables
pub names-numbers : {m : Dictionary} {tables : Tables} → (names : Naming) → IsNamingOf m tables names
    → AreNumbers m names tables.start
names-numbers {m} {tables} = of-names (λ names. AreNumbers m names tables.start) (λ text t. numbers-of t.texts)

-- where a byte leads is right by every naming of the tables
pub names-edge : {m : Dictionary} {tables : Tables} {anchored : Bool} {i byte j : ℕ} → StepsTo tables i byte j
    → OfNames (IsNamingOf m tables) anchored i (λ names. IsEdgeBy m names tables.start i byte j)
names-edge {m} {tables} {anchored} {i} {byte} {j} steps =
    of-names (λ names. IsTrue (names.met anchored i) → IsEdgeBy m names tables.start i byte j) (λ text t met.
    let w = met-is text tables.start anchored met in
    edge-of t.texts (steps m text t w.0).1 w.1)

-- the failure of a state is right by every naming of the tables
pub names-failure : {m : Dictionary} {tables : Tables} {i fail : ℕ} → fail ≡ (kept_of tables.states.items i).fail
    → OfNames (IsNamingOf m tables) false i (λ names. IsFailureBy m names i fail)
names-failure {m} {tables} {i} {fail} is =
    of-names (λ names. IsTrue (names.met false i) → IsFailureBy m names i fail) (λ text t met.
    subst (IsFailureBy m (naming_of text t.len tables.start) i) (sym is)
    (failure-of t (met-is text tables.start false met).0))

-- ---- an edge that leads somewhere, and one that leads nowhere

-- The state to which a byte leads from another by an edge of its own.
pub record IsStraight (m : Dictionary) (len start : ℕ) (text : ℕ → List ℕ) (anchored : Bool)
    (i byte j : ℕ) : Type 0 where
  pub other : j ≢ other_start start anchored
  pub dead : i ≡ 0 → j ≡ 0
  pub leads : 1 < i → LeadsTo m anchored (text i ++ byte ∷ []) (state_of text j)

-- where an edge leads somewhere, a search goes there
pub straight : {m : Dictionary} {len start : ℕ} {text : ℕ → List ℕ} {anchored : Bool} {i byte j : ℕ}
    → AreTexts m len start text → IsEdge m len start text i byte j → i < len → i ≢ 1 → i ≢ other_start start anchored
    → j ≢ 1 → IsStraight m len start text anchored i byte j
straight {m} {len} {start} {text} {anchored} {i} {byte} {j} t edge within stands own some =
    let s = linked.straight m (naming_of text len start) start anchored i byte j (numbers-of t) (edge-of t edge stands)
    (is-met text len start anchored i within stands own) some in
    record {
      other = (met-is text start anchored s.step.met).2;
      dead = λ is. is-dead text some (s.step.dead (state-none text is));
      leads = λ past. s.step.leads (text i) (state-some text i past);
    }

-- What is known of a state from which a byte leads nowhere.
pub record IsStuck (m : Dictionary) (start : ℕ) (text : ℕ → List ℕ) (i byte : ℕ) : Type 0 where
  pub more : 1 < i
  pub none : ¬ BeginsEntered m (text i ++ byte ∷ [])
  pub apart : i ≢ start

-- a state from which a byte leads nowhere is past 1, isn't the unanchored start, and its text with the byte begins no
-- pattern
pub stuck : {m : Dictionary} {len start : ℕ} {text : ℕ → List ℕ} {i byte : ℕ} → AreTexts m len start text
    → IsEdge m len start text i byte 1 → i ≢ 1 → IsStuck m start text i byte
stuck {m} {len} {start} {text} {i} {byte} t edge stands =
    let s = linked.stuck m (naming_of text len start) start i byte 1 (edge-of t edge stands) refl in
    let is = is-text text i s.is in
    record { more = is.0; none = subst (λ v. ¬ BeginsEntered m (v ++ byte ∷ [])) (sym is.1) s.none; apart = s.apart }

-- in an anchored search a byte that leads nowhere leads to the dead state
pub stuck-dead : {m : Dictionary} {start : ℕ} {text : ℕ → List ℕ} {i byte : ℕ} → IsStuck m start text i byte
    → LeadsTo m true (text i ++ byte ∷ []) None
stuck-dead s = leads-dead s.none

-- ---- over the states to which it fails

-- the state to which a kept state fails is kept
pub kept-fail : {tables : Tables} {i : ℕ} → IsKept tables i → IsKept tables (kept_of tables.states.items i).fail
kept-fail {i} h = ∥∥₁_map h (λ w. (w.0, w.1, w.2, (w.2.failures.within i w.3).0))

-- an unanchored search may come to the state to which a kept state fails
pub visited-fail : {tables : Tables} {i : ℕ} → IsKept tables i
    → IsVisited tables false (kept_of tables.states.items i).fail
visited-fail {i} h = (
  kept-fail h,
  λ e. ∥∥₁_elim h (λ x y. absurd x) (λ w. (w.2.failures.within i w.3).1 e),
  λ e. ∥∥₁_elim h (λ x y. absurd x) (λ w. (w.2.failures.within i w.3).2 e),
)

-- a state from which a byte leads nowhere is deeper than the state to which it fails
pub kept-shallower : {tables : Tables} {i byte : ℕ} → IsVisited tables false i → StepsTo tables i byte 1
    → (kept_of tables.states.items (kept_of tables.states.items i).fail).depth < (kept_of tables.states.items i).depth
kept-shallower {tables} {i} h leads = ∥∥₁_elim h.0 le_prop (λ w. by w.0 w.1 w.2 w.3)
  where
    by : (m : Dictionary) (text : ℕ → List ℕ) → (t : AreTables m text tables) → i < t.len
        → (kept_of tables.states.items (kept_of tables.states.items i).fail).depth
        < (kept_of tables.states.items i).depth
    by m text t within =
        let s = stuck t.texts (leads m text t within).1 h.1 in
        let deep = t.failures.depths i s.more within in
        let f = (kept_of tables.states.items i).fail in
        let f_in = t.failures.within i within in
        let some : length (text i) ≢ 0 = λ e.
        ⊎_elim (λ (a : i ≡ tables.start). s.apart a) (λ (b : i ≡ tables.start + 1). h.2 b)
        (t.texts.others i s.more within (nil_from_length (text i) e)) in
        ⊎_elim
        (λ (none : (f ≡ 0) × FailsTo m (text i) None). let e = ap (λ i. (kept_of tables.states.items i).depth) none.0 in
        let flat = t.failures.flat.0 in omega (arith, e, flat, deep, some))
        (λ (more : (1 < f) × FailsTo m (text i) (Some (text f))).
        let e = t.failures.depths f more.0 f_in.0 in
        let n = failure-shorter more.1.1 in
        let k : length (text f) ≡ length (drop more.1.0 (text i)) = ap length more.1.2
        ∙ length-map (drop more.1.0 (text i)) (canonical m.pairing) in
        omega (arith, e, n, k, deep))
        (by-number text (FailsTo m (text i)) f f_in.1 (t.failures.fails i s.more within))

-- A look-up has followed some failures, to a state from which the byte leads nowhere.
pub record HasFollowed (tables : Tables) (i byte from : ℕ) (before after : Steps) : Type 0 where
  pub visited : IsVisited tables false from
  pub stuck : StepsTo tables from byte 1
  pub follows : (m : Dictionary) → linked.HasFollowed m (IsNamingOf m tables) tables.start i byte from before after

-- at first no failure is followed
pub followed-none : {tables : Tables} {i byte : ℕ} {steps : Steps} → IsVisited tables false i → StepsTo tables i byte 1
    → HasFollowed tables i byte i steps steps
followed-none {tables} {i} {byte} {steps} visited leads = record {
  visited = visited;
  stuck = leads;
  follows = λ m. linked.followed-none m (IsNamingOf m tables) tables.start i byte 1 steps (names-edge leads) refl;
}

-- one more failure is followed
pub followed-more : {tables : Tables} {i byte from fail : ℕ} {before between after : Steps}
    → HasFollowed tables i byte from before between → fail ≡ (kept_of tables.states.items from).fail
    → Done 1 0 0 between after → StepsTo tables fail byte 1 → HasFollowed tables i byte fail before after
followed-more {tables} {i} {byte} {from} {fail} {before} {between} {after} h is one leads = record {
  visited = subst (IsVisited tables false) (sym is) (visited-fail h.visited.0);
  stuck = leads;
  follows = λ m.
      linked.followed-more m (IsNamingOf m tables) tables.start i byte from fail 1 before between after (h.follows m)
      names-numbers (names-failure is) one (names-edge leads) refl;
}

-- the byte leads from the failure to a state, and the look-up ends
pub followed-end : {tables : Tables} {i byte from fail j : ℕ} {before between after : Steps}
    → HasFollowed tables i byte from before between → fail ≡ (kept_of tables.states.items from).fail
    → Done 1 0 0 between after → StepsTo tables fail byte j → j ≢ 1 → LeadsNext tables false 1 i byte j before after
followed-end {tables} {i} {byte} {from} {fail} {j} {before} {between} {after} h is one leads some = λ m.
    linked.followed-end m (IsNamingOf m tables) tables.start i byte from fail j before between after (h.follows m)
    names-numbers (names-failure is) one (names-edge leads) some

-- ---- a look-up

-- an edge of the state's own, with one look
pub leads-straight : {tables : Tables} {anchored : Bool} {i byte j : ℕ} {before after : Steps} → StepsTo tables i byte j
    → j ≢ 1 → Done 1 0 0 before after → LeadsNext tables anchored 0 i byte j before after
leads-straight {tables} {anchored} {i} {byte} {j} {before} {after} leads some one = λ m names fits met.
    linked.paid-straight m names tables.start anchored i byte j before after (names-numbers names fits)
    (names-edge leads names fits met) met some one

-- the dead state is met from either start, and stands for none
pub zero-named : {m : Dictionary} {tables : Tables} {anchored : Bool} → (names : Naming) → IsNamingOf m tables names
    → IsTrue (names.met anchored 0) × (names.text 0 ≡ None)
zero-named {tables} {anchored} = of-names (λ names. IsTrue (names.met anchored 0) × (names.text 0 ≡ None)) (λ text t.
    let s = t.texts.starts in (
      both-met text t.len tables.start 0 (omega (arith, s.1)) (λ e. omega (arith, e)) (λ e. omega (arith, s.0, e))
          (λ e. omega (arith, e)) anchored,
      refl,
    ))

-- the dead state, in an anchored search, where the byte leads nowhere
pub leads-to_dead : {tables : Tables} (anchored : Bool) {i byte j k : ℕ} {before after : Steps} → anchored ≡ true
    → StepsTo tables i byte j → j ≡ 1 → k ≡ 0 → Done 1 0 0 before after
    → LeadsNext tables anchored 0 i byte k before after
leads-to_dead false free leads none zero_is one = absurd (cc)
leads-to_dead {tables} true {i} {byte} {j} {k} {before} {after} free leads none zero_is one = λ m names fits met.
    let dead = subst (λ n. IsTrue (names.met true n) × (names.text n ≡ None)) (sym zero_is) (zero-named names fits) in
    linked.paid-dead m names tables.start i byte j k before after (names-edge leads names fits met) none dead.0 dead.1
    one

-- the look-up that goes on over failures after a look at the state itself
pub leads-followed : {tables : Tables} (anchored : Bool) {i byte j : ℕ} {before between after : Steps}
    → anchored ≡ false → Done 1 0 0 before between → LeadsNext tables false 1 i byte j between after
    → LeadsNext tables anchored 0 i byte j before after
leads-followed true free one h = absurd (cc)
leads-followed false {i} {byte} {j} {before} {between} {after} free one h =
    λ m names fits met. linked.paid-followed m names i byte j before between after one (h m names fits met)
