-- Where a byte leads by a row, in which all failures are followed.
use Rattle.std.proofs.Common.{◌≡◌, ◌≢◌, ℕ, ◌+◌, ◌<◌, ◌≤◌, Bool, true, false, IsTrue, map, List, [], ◌∷◌, ◌++◌, length, drop, Option, None, Some, ⊎_elim, sym, ap, subst, ◌∙◌, arith, length-append, length-drop}
use Rattle.std.proofs.Math.Logic.{∥∥₁_map}
use Rattle.std.specs.Prelude.{nat_lt, if◌then◌else◌}
use Rattle.std.proofs.lemmas.Bool.{cases_lt, cases_eq}
use Rattle.std.proofs.lemmas.Bool.Decides.{nat_tests}
use Rattle.std.proofs.lemmas.List.{length-map}
use Rattle.ac_input.specs.declared.steps.Steps.{Steps}
use Rattle.ac_input.specs.Dictionary.{Dictionary, BeginsEntered}
use Rattle.ac_input.specs.Laws.LiveLaws.{canonical}
use Rattle.ac_input.specs.States.{LeadsTo, FailsTo}
use Rattle.ac_input.specs.Steps.{Done}
use Rattle.ac_input.proofs.lemmas.LeadsLemmas.{leads-one, leads-itself, leads-dead, leads-failure, leads-failure_none}
use Rattle.ac_automaton.specs.Named.{OfNames, IsStep, text_len}
use Rattle.ac_automaton.proofs.automaton.NamedLemmas.{stands-for}
use Rattle.ac_automaton.proofs.automaton.LinkedLemmas as linked
use Rattle.ac_noncontiguous.specs.declared.nfa.tables.Tables.{Tables}
use Rattle.ac_noncontiguous.specs.Nfa.{state_of, IsEdge, IsRowEntry, AreTexts, AreTables, kept_of}
use Rattle.ac_noncontiguous.specs.Nfa.Lookups.{IsKept, StepsOver, own_next, IsNamingOf, LeadsNext}
use Rattle.ac_noncontiguous.proofs.nfa.NextLemmas.{by-number, state-some, state-none, is-dead, is-text, is-met, met-is, of-names, names-numbers, names-failure, straight, stuck, HasFollowed}

-- ---- what is a right entry of a row

-- where a byte leads by an edge of the state's own
pub entry-straight : {m : Dictionary} {len start : ℕ} {text : ℕ → List ℕ} {i byte j : ℕ} → AreTexts m len start text
    → IsEdge m len start text i byte j → j < len → i < len → i ≢ 1 → i ≢ start + 1 → j ≢ 1
    → IsRowEntry m len start text i byte j
entry-straight t edge j_in within stands own some =
    let s = straight t edge within stands own some in
    record { within = j_in; stands = some; unanchored = s.other; dead = s.dead; leads = s.leads }

-- where a byte leads nowhere from a state, it leads where it does from the failure
pub entry-failed : {m : Dictionary} {len start : ℕ} {text : ℕ → List ℕ} {i byte failure j : ℕ}
    → AreTexts m len start text → IsEdge m len start text i byte 1 → i < len → i ≢ 1 → i ≢ start + 1 → failure ≢ 1
    → FailsTo m (text i) (state_of text failure) → IsRowEntry m len start text failure byte j
    → IsRowEntry m len start text i byte j
entry-failed {m} {start} {text} {i} {byte} {failure} {j} t edge within stands own apart fails h =
    let s = stuck t edge stands in
    let some : text i ≢ [] =
    λ e. ⊎_elim (λ (a : i ≡ start). s.apart a) (λ (b : i ≡ start + 1). own b) (t.others i s.more within e) in
    record {
      within = h.within;
      stands = h.stands;
      unanchored = h.unanchored;
      dead = λ is. absurd (omega (arith, s.more, is));
      leads = λ past.
          ⊎_elim
          (λ (none : (failure ≡ 0) × FailsTo m (text i) None).
          subst (LeadsTo m false (text i ++ byte ∷ [])) (sym (state-none text (h.dead none.0)))
          (leads-failure_none byte some none.1 s.none))
          (λ (more : (1 < failure) × FailsTo m (text i) (Some (text failure))).
          (leads-failure byte (state_of text j) more.1 s.none).0 (h.leads more.0))
          (by-number text (FailsTo m (text i)) failure apart fails);
    }

-- both starts stand for the empty text, so an entry of one is an entry of the other
pub entry-shared : {m : Dictionary} {len start : ℕ} {text : ℕ → List ℕ} {i byte j : ℕ} → AreTexts m len start text
    → i ≡ start + 1 → IsRowEntry m len start text start byte j → IsRowEntry m len start text i byte j
entry-shared {m} {start} {text} {i} {byte} {j} t is h = record {
  within = h.within;
  stands = h.stands;
  unanchored = h.unanchored;
  dead = λ dead. absurd (omega (arith, is, dead));
  leads = λ past.
      let same : text start ≡ text i = t.starts.2 ∙ sym (ap text is ∙ t.starts.3) in
      subst (λ v. LeadsTo m false (v ++ byte ∷ []) (state_of text j)) same (h.leads t.starts.0);
}

-- ---- in an unanchored search

-- the state to which a text leads has no more bytes than the text
leads-short : (m : Dictionary) (anchored : Bool) (text : List ℕ) (r : Option (List ℕ)) → LeadsTo m anchored text r
    → text_len r ≤ length text
leads-short m anchored text None h = omega arith
leads-short m anchored text (Some state) h =
    let long : length state ≡ length (drop h.0 text) = ap length h.2
    ∙ length-map (drop h.0 text) (canonical m.pairing) in
    omega (arith, long, length-drop h.0 text)

-- a text with a byte after it is one longer
one-longer : (xs : List ℕ) (byte : ℕ) → length (xs ++ byte ∷ []) ≡ length xs + 1
one-longer xs byte = length-append xs (byte ∷ [])

-- the state of an entry is at most one byte longer than the state of the row
over-long : (m : Dictionary) (len start : ℕ) (text : ℕ → List ℕ) (i byte j : ℕ) → IsRowEntry m len start text i byte j
    → i ≢ 1 → text_len (state_of text j) ≤ text_len (state_of text i) + 1
over-long m len start text i byte j e stands =
    ⊎_elim
    (λ (dead : i ≡ 0). let none : text_len (state_of text j) ≡ 0 = ap text_len (state-none text (e.dead dead)) in
    omega (arith, none))
    (λ (live : i ≢ 0).
    let past : 1 < i = omega (arith, live, stands) in
    let short = leads-short m false (text i ++ byte ∷ []) (state_of text j) (e.leads past) in
    let long : text_len (state_of text i) ≡ length (text i) = ap text_len (state-some text i past) in
    omega (arith, short, long, one-longer (text i) byte))
    (cases_eq i 0)

-- an entry of a row is a step of an unanchored search
names-over : {m : Dictionary} {tables : Tables} {i byte j : ℕ} → StepsOver tables i byte j
    → OfNames (IsNamingOf m tables) false i
    (λ names. IsStep m names false i byte j × (text_len (names.text j) ≤ text_len (names.text i) + 1))
names-over {m} {tables} {i} {byte} {j} over =
    of-names
    (λ names. IsTrue (names.met false i)
    → IsStep m names false i byte j × (text_len (names.text j) ≤ text_len (names.text i) + 1)) (λ text t met.
    let w = met-is text tables.start false met in
    let e = over m text t w.0 in (
      record {
        met = is-met text t.len tables.start false j e.within e.stands e.unanchored;
        dead = λ none. state-none text (e.dead (is-dead text w.1 none));
        leads = λ state some. let is = is-text text i some in
            subst (λ v. LeadsTo m false (v ++ byte ∷ []) (state_of text j)) is.1 (e.leads is.0);
      },
      over-long m t.len tables.start text i byte j e w.1,
    ))

-- with one look
pub leads-over : {tables : Tables} (anchored : Bool) {i byte j : ℕ} {before after : Steps} → anchored ≡ false
    → StepsOver tables i byte j → Done 1 0 0 before after → LeadsNext tables anchored 0 i byte j before after
leads-over true free over one = absurd (cc)
leads-over false free over one = λ m names fits met.
    let s = names-over over names fits met in
    let longer = s.1 in
    (s.0, (1, one, omega arith, omega (arith, longer)))

-- the look-up ends with a row's entry after following failures
pub followed-over : {tables : Tables} {i byte from fail j : ℕ} {before between after : Steps}
    → HasFollowed tables i byte from before between → fail ≡ (kept_of tables.states.items from).fail
    → Done 1 0 0 between after → StepsOver tables fail byte j → LeadsNext tables false 1 i byte j before after
followed-over {tables} {i} {byte} {from} {fail} {j} {before} {after} h is one over = λ m names fits met.
    let so_far = h.follows m in
    let f = so_far.follows names fits met in
    let there = linked.following-more (names-numbers names fits) f.0 f.1 (names-failure is names fits f.0.met) in
    let s = names-over over names fits there.met in
    let longer = s.1 in
    let paid = there.paid in
    let count : Done (so_far.looks + 1) 0 0 before
    after = record {
      looked = omega (arith, one.looked, so_far.counted.looked);
      scanned = omega (arith, one.scanned, so_far.counted.scanned);
      moved = omega (arith, one.moved, so_far.counted.moved);
    } in (
      record {
        met = s.0.met;
        dead = λ none. absurd (f.2 none);
        leads = λ text is_text.
            ⊎_elim
            (λ (none : names.text fail ≡ None).
            subst (LeadsTo m false (text ++ byte ∷ [])) (sym (s.0.dead none)) (there.dead text is_text none))
            (λ (state : (v : List ℕ) × (names.text fail ≡ Some v)).
            there.leads text state.0 (names.text j) is_text state.1 (s.0.leads state.0 state.1))
            (stands-for names);
      },
      (so_far.looks + 1, count, omega arith, omega (arith, paid, longer)),
    )

-- ---- in an anchored search

-- What is known if an entry is deeper than its state: the entry stands for the whole text with the byte.
record IsWhole (m : Dictionary) (text : ℕ → List ℕ) (i byte j : ℕ) : Type 0 where
  past : 1 < i
  deep : 1 < j
  begins : BeginsEntered m (text i ++ byte ∷ [])
  is : text j ≡ map (canonical m.pairing) (text i ++ byte ∷ [])

-- the dead state has depth 0
depth-zero : {m : Dictionary} {text : ℕ → List ℕ} {tables : Tables} {i : ℕ} → AreTables m text tables → i ≡ 0
    → (kept_of tables.states.items i).depth ≡ 0
depth-zero {tables} {i} t is = ap (λ i. (kept_of tables.states.items i).depth) is ∙ t.failures.flat.0

-- an entry deeper than its state stands for the whole text
entry-whole : (m : Dictionary) (text : ℕ → List ℕ) (tables : Tables) (i byte j : ℕ) (t : AreTables m text tables)
    → i < t.len → i ≢ 1 → IsRowEntry m t.len tables.start text i byte j
    → (kept_of tables.states.items i).depth < (kept_of tables.states.items j).depth → IsWhole m text i byte j
entry-whole m text tables i byte j t within stands e deeper =
    let deep : 1 < j = ⊎_elim (λ (z : j ≡ 0). absurd (omega (arith, depth-zero t z, deeper)))
    (λ (more : j ≢ 0). omega (arith, more, e.stands)) (cases_eq j 0) in
    let past : 1 < i = ⊎_elim (λ (z : i ≡ 0). absurd (omega (arith, e.dead z, deep)))
    (λ (more : i ≢ 0). omega (arith, more, stands)) (cases_eq i 0) in
    let whole = text i ++ byte ∷ [] in
    let h : LeadsTo m false whole (Some (text j)) =
    subst (LeadsTo m false whole) (state-some text j deep) (e.leads past) in
    let long : length (text j) ≡ length (drop h.0 whole) = ap length h.2
    ∙ length-map (drop h.0 whole) (canonical m.pairing) in
    let all : h.0 ≡ 0 =
    omega (
      arith,
      long,
      length-drop h.0 whole,
      one-longer (text i) byte,
      t.failures.depths i past within,
      t.failures.depths j deep e.within,
      deeper,
    ) in
    let same : drop h.0 whole ≡ whole = ap (λ n. drop n whole) all in
    record {
      past = past;
      deep = deep;
      begins = subst (BeginsEntered m) same h.1.0.begins;
      is = h.2 ∙ ap (map (canonical m.pairing)) same;
    }

-- if the entry is no deeper than its state, the text with the byte begins no entered pattern
entry-none : {m : Dictionary} {text : ℕ → List ℕ} {tables : Tables} {i byte j : ℕ} (t : AreTables m text tables)
    → i < t.len → 1 < i → IsRowEntry m t.len tables.start text i byte j
    → (kept_of tables.states.items j).depth ≤ (kept_of tables.states.items i).depth
    → ¬ BeginsEntered m (text i ++ byte ∷ [])
entry-none {m} {text} {i} {byte} {j} t within past e level begins =
    let whole = text i ++ byte ∷ [] in
    let to = map (canonical m.pairing) whole in
    let one : state_of text j ≡ Some to =
    leads-one m false whole (state_of text j) (Some to) (e.leads past) (leads-itself begins) in
    let is = is-text text j one in
    let long : length (text j) ≡ length whole = ap length is.1 ∙ length-map whole (canonical m.pairing) in
    omega (
      arith,
      long,
      one-longer (text i) byte,
      t.failures.depths i past within,
      t.failures.depths j is.0 e.within,
      level,
    )

-- in an anchored search, an entry deeper than its state is the next state
names-deeper : (m : Dictionary) (tables : Tables) (i byte j : ℕ) → StepsOver tables i byte j
    → (kept_of tables.states.items i).depth < (kept_of tables.states.items j).depth
    → OfNames (IsNamingOf m tables) true i
    (λ names. IsStep m names true i byte j × (text_len (names.text j) ≤ text_len (names.text i) + 1))
names-deeper m tables i byte j over deeper =
    of-names {m = m} {tables = tables}
    (λ names. IsTrue (names.met true i)
    → IsStep m names true i byte j × (text_len (names.text j) ≤ text_len (names.text i) + 1)) (λ text t met.
    let w = met-is text {len = t.len} tables.start true {i = i} met in
    let e = over m text t w.0 in
    let h = entry-whole m text tables i byte j t w.0 w.1 e deeper in
    let whole = text i ++ byte ∷ [] in
    let long : length (text j) ≡ length whole = ap length h.is ∙ length-map whole (canonical m.pairing) in
    let one = one-longer (text i) byte in
    let to : state_of text j ≡ Some (map (canonical m.pairing) whole) = state-some text j h.deep
    ∙ ap (λ v. Some v) h.is in (
      record {
        met = is-met text t.len tables.start true j e.within e.stands
            (λ is. omega (arith, long, one, ap length (ap text is ∙ t.texts.starts.2)));
        dead = λ none. absurd (omega (arith, h.past, is-dead text {i = i} w.1 none));
        leads = λ state some.
            let is = is-text text i {state = state} some in
            subst (λ v. LeadsTo m true (v ++ byte ∷ []) (state_of text j)) is.1
            (subst (LeadsTo m true whole) (sym to) (leads-itself h.begins));
      },
      over-long m t.len tables.start text i byte j e w.1,
    ))

-- the dead state has no bytes
dead-long : {r : Option (List ℕ)} (bytes : ℕ) → r ≡ None → text_len r ≤ bytes + 1
dead-long {r} bytes none = let e : text_len r ≡ 0 = ap text_len none in omega (arith, e)

-- in an anchored search, the dead state replaces an entry that is no deeper than its state
names-level : {m : Dictionary} {tables : Tables} {i byte j k : ℕ} → StepsOver tables i byte j
    → (kept_of tables.states.items j).depth ≤ (kept_of tables.states.items i).depth → k ≡ 0
    → OfNames (IsNamingOf m tables) true i
    (λ names. IsStep m names true i byte k × (text_len (names.text k) ≤ text_len (names.text i) + 1))
names-level {m} {tables} {i} {byte} {k} over level zero_is =
    of-names
    (λ names. IsTrue (names.met true i)
    → IsStep m names true i byte k × (text_len (names.text k) ≤ text_len (names.text i) + 1)) (λ text t met.
    let w = met-is text tables.start true met in
    let e = over m text t w.0 in
    let none = state-none text zero_is in
    let s = t.texts.starts in (
      record {
        met = is-met text t.len tables.start true k (omega (arith, zero_is, s.1)) (λ is. omega (arith, zero_is, is))
            (λ is. omega (arith, zero_is, s.0, is));
        dead = λ _. none;
        leads = λ state some.
            let is = is-text text i some in
            subst (λ v. LeadsTo m true (v ++ byte ∷ []) (state_of text k)) is.1
            (subst (LeadsTo m true (text i ++ byte ∷ [])) (sym none) (leads-dead (entry-none t w.0 is.0 e level)));
      },
      dead-long (text_len (state_of text i)) none,
    ))

-- the choice is the entry if it is deeper, and the dead state otherwise
chosen-deeper : {d e j : ℕ} → d < e → (if nat_lt d e then j else 0) ≡ j
chosen-deeper deeper = grind (arith, nat_tests)

chosen-level : {d e : ℕ} (j : ℕ) → e ≤ d → (if nat_lt d e then j else 0) ≡ 0
chosen-level j level = grind (arith, nat_tests)

-- with one look
pub leads-own : {tables : Tables} (anchored : Bool) {i byte j k : ℕ} {before after : Steps} → anchored ≡ true
    → StepsOver tables i byte j → k ≡ own_next tables i j → Done 1 0 0 before after
    → LeadsNext tables anchored 0 i byte k before after
leads-own false held over is one = absurd (cc)
leads-own {tables} true {i} {byte} {j} {k} held over is one = λ m names fits met.
    let s : IsStep m names true i byte k × (text_len (names.text k) ≤ text_len (names.text i) + 1) =
    ⊎_elim
    (λ (deeper : (kept_of tables.states.items i).depth < (kept_of tables.states.items j).depth).
    subst (λ n. IsStep m names true i byte n × (text_len (names.text n) ≤ text_len (names.text i) + 1))
    (sym (is ∙ chosen-deeper deeper)) (names-deeper m tables i byte j over deeper names fits met))
    (λ (level : (kept_of tables.states.items j).depth ≤ (kept_of tables.states.items i).depth).
    names-level over level (is ∙ chosen-level j level) names fits met)
    (cases_lt (kept_of tables.states.items i).depth (kept_of tables.states.items j).depth) in
    let longer = s.1 in
    (s.0, (1, one, omega arith, omega (arith, longer)))

-- the state to which a row leads is a state of the tables
pub kept-over : {tables : Tables} {i byte j : ℕ} → IsKept tables i → StepsOver tables i byte j → IsKept tables j
kept-over h over = ∥∥₁_map h (λ w. (w.0, w.1, w.2, (over w.0 w.1 w.2 w.3).within))
