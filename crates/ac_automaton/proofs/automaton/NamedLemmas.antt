-- What follows for an automaton over named states: what its searches read, where one byte more leads, and what its
-- tests report.
use Rattle.std.proofs.Common.{◌≡◌, ◌≢◌, ◌⊎◌, ◌↔◌, ℕ, ◌+◌, ◌<◌, ◌≤◌, Bool, true, false, IsTrue, List, [], ◌∷◌, ◌++◌, length, slice_get, Option, None, Some, inl, inr, ⊎_elim, refl, sym, ap, subst, ◌∙◌, arith, length-append}
use Rattle.std.specs.Coded.{le_prop, Coded-set, coded_ℕ, coded_bool, coded_list}
use Rattle.std.specs.List.{Contains}
use Rattle.std.proofs.Math.Logic.{∥∥₁_elim, ∥∥₁_map}
use Rattle.std.proofs.lemmas.Bool.{false≢true}
use Rattle.std.proofs.lemmas.List.{nil_from_length}
use Rattle.std.proofs.lemmas.List.Elements.{Contains-get_or}
use Rattle.std.proofs.lemmas.Option.{slice_get_within, get_or_from_slice_get}
use Rattle.ac_input.specs.declared.search.Anchored.{Anchored}
use Rattle.ac_input.specs.declared.search.Anchored.TheVariants.{No, Yes}
use Rattle.ac_input.specs.declared.steps.Steps.{Steps}
use Rattle.ac_input.specs.Candidate.{Filter}
use Rattle.ac_input.specs.Dictionary.{Dictionary, BeginsEntered, IsLive, live_len}
use Rattle.ac_input.specs.Failure.{IsList}
use Rattle.ac_input.specs.Input.{is_anchored}
use Rattle.ac_input.specs.Laws.LiveLaws.{canonical}
use Rattle.ac_input.specs.States.{LeadsTo}
use Rattle.ac_input.specs.Steps.{Done}
use Rattle.ac_input.specs.Tells.{Tells}
use Rattle.ac_input.proofs.lemmas.LeadsLemmas.{leads-one, leads-some, leads-itself, leads-child, leads-next, leads-anchored, leads-stays_dead, leads-long, leads-empty, leads-dead, leads-state, state-tells, dead-tells}
use Rattle.ac_input.proofs.lemmas.LiveLemmas.{dead-append}
use Rattle.ac_input.proofs.lemmas.OnceLemmas.{list-once}
use Rattle.ac_input.proofs.lemmas.ShadowLemmas.{list-one}
use Rattle.ac_input.proofs.lemmas.SomeLemmas.{list-some, begins_cases}
use Rattle.ac_input.proofs.lemmas.StateLemmas.{live-one, live-forward}
use Rattle.ac_automaton.specs.Automaton.{Built, IsReached, IsState, AtEach, Leads, IsReadCost, IsSpecial, TellsDead, TellsStart}
use Rattle.ac_automaton.specs.Named.{NamedStates, Naming, IsNamed, OfNames, IsStep, text_len, IsPaidStep, IsFirst, IsReadBy}

-- A state at which a search has more to do than to read on: the dead one, one at which patterns match, or a start if
-- there is a prefilter to run.
abbrev pub IsSpecialState : Built → List ℕ → Bool → Option (List ℕ) → Type 0
IsSpecialState b matches start state = (state ≡ None) ⊎ (matches ≢ []) ⊎ (IsTrue start × (b.prefilter ≢ None))

-- The list of each number, and the tests whether it is a start and whether it is special, are those of its state.
pub record AreNames (states : NamedStates) (names : Naming) : Type 0 where
  pub lists : (anchored : Bool) (sid : ℕ) (text : List ℕ) → IsTrue (names.met anchored sid) → names.text sid ≡ Some text
      → IsList states.built.dictionary text (states.matches sid)
  pub none : (anchored : Bool) (sid : ℕ) → IsTrue (names.met anchored sid) → names.text sid ≡ None
      → (states.matches sid ≡ []) × (states.starts sid ≡ false)
  pub starting : (anchored : Bool) (sid : ℕ) (text : List ℕ) → IsTrue (names.met anchored sid)
      → names.text sid ≡ Some text → IsTrue (states.starts sid) ↔ (text ≡ [])
  pub stopping : (anchored : Bool) (sid : ℕ) → IsTrue (names.met anchored sid)
      → IsTrue (states.special sid) ↔ IsSpecialState states.built (states.matches sid) (states.starts sid)
      (names.text sid)

-- the list and tests of each number are right under every naming that fits the automaton
abbrev pub AllNames : NamedStates → Type 0
AllNames states = (names : Naming) → states.Fits names → AreNames states names

-- by a naming that fits, the text leads to the state for which the number stands
abbrev pub IsNumbered : NamedStates → Bool → List ℕ → ℕ → Type 0
IsNumbered states anchored text sid =
    ∥ ((names : Naming) × states.Fits names × IsNamed states.built.dictionary names anchored text sid) ∥₁

-- ---- what a number stands for

-- a number stands for the dead state or for a text
pub stands-for : (names : Naming) {sid : ℕ}
    → (names.text sid ≡ None) ⊎ ((state : List ℕ) × (names.text sid ≡ Some state))
stands-for names {sid} = by (names.text sid) refl
  where
    by : (r : Option (List ℕ)) → names.text sid ≡ r
        → (names.text sid ≡ None) ⊎ ((state : List ℕ) × (names.text sid ≡ Some state))
    by None is = inl is
    by (Some state) is = inr (state, is)

-- the number stands for the dead state exactly where the text is dead
pub named-dead : {m : Dictionary} {names : Naming} {anchored : Bool} {text : List ℕ} {sid : ℕ}
    → IsNamed m names anchored text sid → (names.text sid ≡ None) ↔ IsLive m anchored text None
named-dead {m} {names} {anchored} {text} {sid} named = (
  λ none. subst (LeadsTo m anchored text) none named.leads,
  λ dead. leads-one m anchored text (names.text sid) None named.leads dead,
)

-- ---- which numbers are met

-- What holds of each number that a search may meet holds of a number that it reads,
pub read-met : (P : Type 0) (states : NamedStates) (anchored : Anchored) (text : List ℕ) (sid : ℕ) → ((x y : P) → x ≡ y)
    → OfNames states.Fits (is_anchored anchored) sid (λ names. P) → IsReadBy states anchored text sid → P
read-met P states anchored text sid prop follows reads = ∥∥₁_elim reads.reached prop (λ w. follows w.0 w.1 w.2.met)

-- of a number reached from the start of an anchoring,
pub reached-met : (P : Type 0) (states : NamedStates) (anchored : Anchored) (sid : ℕ) → ((x y : P) → x ≡ y)
    → OfNames states.Fits (is_anchored anchored) sid (λ names. P) → IsReached (IsReadBy states anchored) sid → P
reached-met P states anchored sid prop follows h =
    ∥∥₁_elim h prop (λ w. read-met P states anchored w.0 sid prop follows w.1)

-- and of every state.
pub state-met : (P : Type 0) (states : NamedStates) (sid : ℕ) → ((x y : P) → x ≡ y)
    → ((anchored : Bool) → OfNames states.Fits anchored sid (λ names. P)) → IsState (IsReadBy states) sid → P
state-met P states sid prop follows h =
    ∥∥₁_elim h prop (λ w. read-met P states w.0 w.1 sid prop (follows (is_anchored w.0)) w.2)

-- ---- what is read

-- the list of a state describes each text that leads to it, from either start
tells-some : {m : Dictionary} (anchored : Anchored) {text state ns : List ℕ} → IsList m state ns
    → LeadsTo m (is_anchored anchored) text (Some state) → Tells m anchored text ns
tells-some No list leads = (state-tells list).0 leads
tells-some Yes list leads = (state-tells list).1 leads

tells-none : {m : Dictionary} (anchored : Anchored) {text : List ℕ} → LeadsTo m (is_anchored anchored) text None
    → Tells m anchored text []
tells-none No leads = (dead-tells).0 leads
tells-none Yes leads = (dead-tells).1 leads

-- the list of a number whose text leads to a state is the list of that state
reached-list : (states : NamedStates) (anchored : Bool) (text : List ℕ) {state ns : List ℕ} (sid : ℕ)
    → AllNames states
    → IsNumbered states anchored text sid → LeadsTo states.built.dictionary anchored text (Some state)
    → IsList states.built.dictionary state ns → ns ≡ states.matches sid
reached-list states anchored text {state} {ns} sid all h leads list =
    ∥∥₁_elim h (Coded-set (coded_list coded_ℕ) ns (states.matches sid)) (λ w.
    let is = leads-one states.built.dictionary anchored text (w.0.text sid) (Some state) w.2.leads leads in
    list-one list (states.matches sid)
    ((all w.0 w.1).lists anchored sid state w.2.met is))

-- where a text is dead, its number's list is empty
reached-none : (states : NamedStates) (anchored : Bool) (text : List ℕ) (sid : ℕ) → AllNames states
    → IsNumbered states anchored text sid → IsLive states.built.dictionary anchored text None → states.matches sid ≡ []
reached-none states anchored text sid all h dead =
    ∥∥₁_elim h (Coded-set (coded_list coded_ℕ) (states.matches sid) [])
    (λ w. ((all w.0 w.1).none anchored sid w.2.met
    ((named-dead w.2).1 dead)).0)

-- the list of a number describes the text that leads to it
reached-tells : (states : NamedStates) (anchored : Anchored) (text : List ℕ) (sid : ℕ) → AllNames states
    → IsNumbered states (is_anchored anchored) text sid
    → Tells states.built.dictionary anchored text (states.matches sid)
reached-tells states anchored text sid all h =
    by (leads-some).0
    (leads-some).1
  where
    by : (r : Option (List ℕ)) → LeadsTo states.built.dictionary (is_anchored anchored) text r
        → Tells states.built.dictionary anchored text (states.matches sid)
    by None dead =
        subst (Tells states.built.dictionary anchored text)
        (sym (reached-none states (is_anchored anchored) text sid all h dead))
        (tells-none anchored dead)
    by (Some state) leads =
        let ns = list-some in
        subst (Tells states.built.dictionary anchored text)
        (reached-list states (is_anchored anchored) text sid all h leads ns.1)
        (tells-some anchored ns.1 leads)

-- it is decidable whether a number that isn't the dead state is special
special-or-not : (ns : List ℕ) (start : Bool) (held : Option Filter)
    → ((ns ≢ []) ⊎ (IsTrue start × (held ≢ None))) ⊎ (¬ ((ns ≢ []) ⊎ (IsTrue start × (held ≢ None))))
special-or-not (n ∷ ns) start held = inl (inl (λ e. cc))
special-or-not [] true (Some f) = inl (inr (refl, λ e. cc))
special-or-not [] true None =
    inr (λ h. ⊎_elim (λ (some : [] ≢ []). some refl) (λ (w : IsTrue true × (None ≢ None)). w.1 refl) h)
special-or-not [] false held =
    inr (λ h. ⊎_elim (λ (some : [] ≢ []). some refl) (λ (w : IsTrue false × (held ≢ None)). false≢true w.0) h)

-- a number is special exactly where a search has more to do after the text
reached-stops : (states : NamedStates) (anchored : Anchored) (text : List ℕ) (sid : ℕ) → AllNames states
    → IsNumbered states (is_anchored anchored) text sid
    → IsTrue (states.special sid) ↔ IsSpecial states.built (states.matches sid) (states.starts sid) anchored text
reached-stops states anchored text sid all h = (
  by (leads-some).0
      (leads-some).1,
  back,
)
  where
    by : (r : Option (List ℕ)) → LeadsTo states.built.dictionary (is_anchored anchored) text r
        → IsTrue (states.special sid) → IsSpecial states.built (states.matches sid) (states.starts sid) anchored text
    by None dead is = inl dead
    by (Some state) leads is =
        ⊎_elim
        (λ (more : (states.matches sid ≢ []) ⊎ (IsTrue (states.starts sid) × (states.built.prefilter ≢ None))). inr
        more)
        (λ (no : ¬ ((states.matches sid ≢ []) ⊎ (IsTrue (states.starts sid) × (states.built.prefilter ≢ None)))).
        absurd (∥∥₁_elim h (λ x y. absurd x) (λ w.
        ⊎_elim
        (λ (none : w.0.text sid ≡ None). let e =
        leads-one states.built.dictionary (is_anchored anchored) text (w.0.text sid) (Some state) w.2.leads leads in
        cc)
        (λ (more : (states.matches sid ≢ []) ⊎ (IsTrue (states.starts sid) × (states.built.prefilter ≢ None))). no more)
        (((all w.0 w.1).stopping (is_anchored anchored) sid w.2.met).0 is))))
        (special-or-not (states.matches sid) (states.starts sid) states.built.prefilter)

    back : IsSpecial states.built (states.matches sid) (states.starts sid) anchored text → IsTrue (states.special sid)
    back is =
        ∥∥₁_elim h (Coded-set coded_bool (states.special sid) true) (λ w.
        ((all w.0 w.1).stopping (is_anchored anchored) sid w.2.met).1
        (⊎_elim
        (λ (dead : IsLive states.built.dictionary (is_anchored anchored) text None). inl
        ((named-dead w.2).1 dead))
        (λ (more : (states.matches sid ≢ []) ⊎ (IsTrue (states.starts sid) × (states.built.prefilter ≢ None))). inr
        more)
        is))

-- a number that is reached by a text is read by it
pub read-from : (states : NamedStates) (anchored : Anchored) (text : List ℕ) (sid : ℕ) → AllNames states
    → IsNumbered states (is_anchored anchored) text sid → IsReadBy states anchored text sid
read-from states anchored text sid all h =
    record {
      reached = h;
      tells = reached-tells states anchored text sid all h;
      stops = reached-stops states anchored text sid all h;
    }

-- a number for the state to which a text leads is read by that text
pub named-read : (states : NamedStates) (names : Naming) (anchored : Anchored) (text : List ℕ) (sid : ℕ)
    → AllNames states → states.Fits names → IsNamed states.built.dictionary names (is_anchored anchored) text sid
    → IsReadBy states anchored text sid
named-read states names anchored text sid all fits named =
    read-from states anchored text sid all ∣ (names, fits, named) ∣₁

-- ---- the start

-- the number of the empty text is read before the first byte
pub read-start : (states : NamedStates) (anchored : Anchored) (sid : ℕ) → AllNames states
    → ∥ ((names : Naming) × states.Fits names × IsFirst names (is_anchored anchored) sid) ∥₁
    → IsReadBy states anchored [] sid
read-start states anchored sid all h =
    read-from states anchored [] sid all
    (∥∥₁_map h (λ w. (
      w.0,
      w.1,
      record {
        met = w.2.met;
        leads =
            subst (LeadsTo states.built.dictionary (is_anchored anchored) []) (sym w.2.empty)
            (leads-itself tt);
      },
    )))

-- ---- one more byte

-- where the state and the byte lead, the text and the byte lead
pub leads-on : (m : Dictionary) (anchored : Bool) (text state : List ℕ) (byte : ℕ) (r : Option (List ℕ))
    → LeadsTo m anchored text (Some state) → LeadsTo m anchored (state ++ byte ∷ []) r
    → LeadsTo m anchored (text ++ byte ∷ []) r
leads-on m false text state byte r live h = (leads-next byte r live).0 h
leads-on m true text state byte r live h =
    let on = leads-anchored byte live in
    ⊎_elim
    (λ (begins : BeginsEntered m (state ++ byte ∷ [])).
    let child = leads-child byte (leads-state live).0 begins in
    subst (LeadsTo m true (text ++ byte ∷ []))
    (leads-one m true (state ++ byte ∷ []) (Some (state ++ canonical m.pairing byte ∷ [])) r child h) (on.0 begins))
    (λ (none : ¬ BeginsEntered m (state ++ byte ∷ [])). subst (LeadsTo m true (text ++ byte ∷ []))
    (leads-one m true (state ++ byte ∷ []) None r (leads-dead none) h) (on.1 none))
    (begins_cases m (state ++ byte ∷ []))

-- where one look-up is one step, the next number stands for the state to which the text and the byte lead
pub named-next : {m : Dictionary} {names : Naming} {anchored : Bool} {text : List ℕ} {sid byte next : ℕ}
    → IsStep m names anchored sid byte next → IsNamed m names anchored text sid
    → IsNamed m names anchored (text ++ byte ∷ []) next
named-next {m} {names} {anchored} {text} {sid} {byte} {next} step named =
    record {
      met = step.met;
      leads =
          ⊎_elim
          (λ (none : names.text sid ≡ None). subst (LeadsTo m anchored (text ++ byte ∷ [])) (sym (step.dead none))
          (leads-stays_dead (byte ∷ []) ((named-dead named).0 none)))
          (λ (some : (state : List ℕ) × (names.text sid ≡ Some state)).
          leads-on m anchored text some.0 byte (names.text next) (subst (LeadsTo m anchored text) some.1 named.leads)
          (step.leads some.0 some.1))
          (stands-for names);
    }

-- the byte leads from one number to the next, whatever was read before
pub read-next : (states : NamedStates) (anchored : Anchored) (sid byte next : ℕ) → AllNames states
    → OfNames states.Fits (is_anchored anchored) sid
    (λ names. IsStep states.built.dictionary names (is_anchored anchored) sid byte next)
    → Leads (IsReadBy states anchored) sid (byte ∷ []) next
read-next states anchored sid byte next all steps = λ text reads.
    read-from states anchored (text ++ byte ∷ []) next all
    (∥∥₁_map reads.reached (λ w. (
      w.0,
      w.1,
      named-next (steps w.0 w.1 w.2.met) w.2,
    )))

-- ---- what it costs

-- no more bytes are live than were live before, plus those read since
pub live-grows : (m : Dictionary) (anchored : Bool) (text more : List ℕ) (p q : Option ℕ) → IsLive m anchored text p
    → IsLive m anchored (text ++ more) q → live_len (text ++ more) q ≤ live_len text p + length more
live-grows m anchored text more p None g h = omega arith
live-grows m anchored text more None (Some after) g h =
    absurd (let e = live-one m anchored (text ++ more) None (Some after) (dead-append m anchored text more g) h in cc)
live-grows m anchored text more (Some before) (Some after) g h =
    let forward = live-forward more g h in
    let long = length-append text more in
    omega (arith, forward, long)

-- one look for each byte is within the read cost of any automaton
pub cost-looks : (b : Built) (Reaches : Anchored → List ℕ → ℕ → Type 0) {anchored : Anchored} {sid : ℕ} (bytes : List ℕ)
    {looks : ℕ} {old new : Steps} → length bytes ≡ looks → Done looks 0 0 old new
    → IsReadCost b Reaches anchored sid bytes old new
cost-looks b Reaches {anchored} bytes all done = λ text before after reads g h.
    let grows = live-grows b.dictionary (is_anchored anchored) text bytes before after g h in
    let d = done.looked in
    record {
      some = omega (arith, d, all);
      bound = omega (arith, d, grows, all);
      one = λ is. omega (arith, d, all);
      scanned = omega (arith, done.scanned);
      moved = omega (arith, done.moved);
    }

-- one look for one byte is within the read cost of any automaton
pub read-cost-one : (states : NamedStates) (anchored : Anchored) (sid byte : ℕ) (old new : Steps) → Done 1 0 0 old new
    → IsReadCost states.built (IsReadBy states) anchored sid (byte ∷ []) old new
read-cost-one states anchored sid byte old new done =
    cost-looks states.built (IsReadBy states) (byte ∷ []) refl done

-- as many bytes are live as the number's text has
pub named-live : {m : Dictionary} {names : Naming} {anchored : Bool} {text : List ℕ} {sid : ℕ} (live : Option ℕ)
    → IsNamed m names anchored text sid → IsLive m anchored text live → live_len text live ≡ text_len (names.text sid)
named-live {m} {names} {anchored} {text} {sid} live named is = by (names.text sid) named.leads
  where
    by : (r : Option (List ℕ)) → LeadsTo m anchored text r → live_len text live ≡ text_len r
    by None leads = ap (live_len text) (live-one m anchored text live None is leads)
    by (Some state) leads = leads-long live leads is

-- the looks of an automaton that follows failures are within its read cost
pub read-cost : (states : NamedStates) (anchored : Anchored) (sid byte next : ℕ) (old new : Steps)
    → states.built.deterministic ≡ false
    → OfNames states.Fits (is_anchored anchored) sid
    (λ names. IsPaidStep states.built.dictionary names (is_anchored anchored) 0 sid byte next old new)
    → IsReadCost states.built (IsReadBy states) anchored sid (byte ∷ []) old new
read-cost states anchored sid byte next old new many steps = λ text before after reads g h.
    let a = is_anchored anchored in
    record {
      some =
          ∥∥₁_elim reads.reached le_prop (λ w. let c = (steps w.0 w.1 w.2.met).1 in let d = c.1.looked in let e = c.2 in
          omega (arith, d, e));
      bound = ∥∥₁_elim reads.reached le_prop (λ w.
          let s = steps w.0 w.1 w.2.met in
          let d = s.1.1.looked in
          let e = s.1.3 in
          let there = named-next s.0 w.2 in
          let one = named-live before w.2 g in
          let two = named-live after there h in
          omega (arith, d, e, one, two));
      one = λ is. absurd (let e : true ≡ false = sym is ∙ many in cc);
      scanned =
          ∥∥₁_elim reads.reached (Coded-set coded_ℕ _ _)
          (λ w. let d = (steps w.0 w.1 w.2.met).1.1.scanned in omega (arith, d));
      moved =
          ∥∥₁_elim reads.reached (Coded-set coded_ℕ _ _)
          (λ w. let d = (steps w.0 w.1 w.2.met).1.1.moved in omega (arith, d));
    }

-- ---- what its tests say

-- the test for the dead state decides whether the text is dead
pub read-dead : (states : NamedStates) (sid : ℕ) (dead : Bool)
    → ((anchored : Bool) → OfNames states.Fits anchored sid (λ names. (names.text sid ≡ None) ↔ IsTrue dead))
    → AtEach (IsReadBy states) sid (TellsDead states.built dead)
read-dead states sid dead tests = λ anchored text reads. (
  λ is_true. there anchored text reads is_true (leads-some).0
      (leads-some).1,
  λ is. ∥∥₁_elim reads.reached (Coded-set coded_bool dead true)
      (λ w. (tests (is_anchored anchored) w.0 w.1 w.2.met).0
      ((named-dead w.2).1 is)),
)
  where
    there : (anchored : Anchored) (text : List ℕ) → IsReadBy states anchored text sid → IsTrue dead
        → (r : Option (List ℕ)) → LeadsTo states.built.dictionary (is_anchored anchored) text r
        → IsLive states.built.dictionary (is_anchored anchored) text None
    there anchored text reads is_true None leads = leads
    there anchored text reads is_true (Some state) leads =
        absurd (∥∥₁_elim reads.reached (λ x y. absurd x) (λ w.
        let none = (tests (is_anchored anchored) w.0 w.1 w.2.met).1 is_true in
        let some =
        leads-one states.built.dictionary (is_anchored anchored) text (w.0.text sid) (Some state) w.2.leads leads in
        cc))

-- a text that leads to a start is not dead,
start-alive : (states : NamedStates) (anchored : Bool) (text : List ℕ) (sid : ℕ) → AllNames states
    → IsNumbered states anchored text sid → IsTrue (states.starts sid)
    → ¬ IsLive states.built.dictionary anchored text None
start-alive states anchored text sid all h is_true dead =
    ∥∥₁_elim h (λ x y. absurd x) (λ w.
    let none = ((all w.0 w.1).none anchored sid w.2.met
    ((named-dead w.2).1 dead)).1 in
    false≢true (sym none ∙ is_true))

-- nothing of a text that leads to a start is live,
start-empty : (states : NamedStates) (anchored : Bool) (text : List ℕ) (sid : ℕ) → AllNames states
    → IsNumbered states anchored text sid → IsTrue (states.starts sid)
    → IsLive states.built.dictionary anchored text (Some (length text))
start-empty states anchored text sid all h is_true =
    by (leads-some).0 (leads-some).1
  where
    by : (r : Option (List ℕ)) → LeadsTo states.built.dictionary anchored text r
        → IsLive states.built.dictionary anchored text (Some (length text))
    by None dead = absurd (start-alive states anchored text sid all h is_true dead)
    by (Some state) leads =
        let empty : state ≡ [] = ∥∥₁_elim h (Coded-set (coded_list coded_ℕ) state []) (λ w.
        let is = leads-one states.built.dictionary anchored text (w.0.text sid) (Some state) w.2.leads leads in
        ((all w.0 w.1).starting anchored sid state w.2.met is).0 is_true) in
        leads-empty
        (subst (λ v. LeadsTo states.built.dictionary anchored text (Some v)) empty leads)

-- and where nothing of a text is live, its number is a start
empty-start : (states : NamedStates) (anchored : Bool) (text : List ℕ) (sid : ℕ) → AllNames states
    → IsNumbered states anchored text sid → IsLive states.built.dictionary anchored text (Some (length text))
    → IsTrue (states.starts sid)
empty-start states anchored text sid all h live =
    ∥∥₁_elim h (Coded-set coded_bool (states.starts sid) true) (λ w.
    ⊎_elim
    (λ (none : w.0.text sid ≡ None). absurd
    (let e = live-one states.built.dictionary anchored text None (Some (length text))
    ((named-dead w.2).0 none) live in cc))
    (λ (some : (state : List ℕ) × (w.0.text sid ≡ Some state)).
    let long = leads-long (Some (length text))
    (subst (LeadsTo states.built.dictionary anchored text) some.1 w.2.leads) live in
    ((all w.0 w.1).starting anchored sid some.0 w.2.met some.1).1 (nil_from_length some.0 (omega (arith, long))))
    (stands-for w.0))

-- what the test for a start reports
pub read-starts : (states : NamedStates) (sid : ℕ) → AllNames states
    → TellsStart states.built (IsReadBy states) states.matches sid (states.starts sid)
read-starts states sid all = λ anchored text reads.
    record {
      alive = λ is_true. start-alive states (is_anchored anchored) text sid all reads.reached is_true;
      empty = λ is_true none. start-empty states (is_anchored anchored) text sid all reads.reached is_true;
      back = λ live. empty-start states (is_anchored anchored) text sid all reads.reached live;
    }

-- ---- the patterns of a number

-- each number in a state's list is that of a pattern
pub read-known : (states : NamedStates) (sid index n : ℕ) → AllNames states → IsState (IsReadBy states) sid
    → slice_get (states.matches sid) index ≡ Some n → n < length states.built.dictionary.patterns
read-known states sid index n all h is =
    state-met (n < length states.built.dictionary.patterns) states sid le_prop (λ anchored names fits met.
    ⊎_elim
    (λ (none : names.text sid ≡ None). absurd
    (let e = ((all names fits).none anchored sid met none).0 in
    let within = slice_get_within (states.matches sid) index n is in let long = ap length e in
    omega (arith, within, long)))
    (λ (some : (state : List ℕ) × (names.text sid ≡ Some state)).
    (list-once states.built.dictionary some.0 (states.matches sid)
    ((all names fits).lists anchored sid some.0 met some.1)).known n
    (subst (Contains (states.matches sid)) (get_or_from_slice_get (states.matches sid) index n 0 is)
    (Contains-get_or (states.matches sid) index 0 (slice_get_within (states.matches sid) index n is))))
    (stands-for names)) h
