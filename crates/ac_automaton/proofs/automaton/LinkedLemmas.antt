-- Where a byte leads in an automaton that follows failures: straight on, or along failure links.
use Rattle.std.proofs.Common.{◌≡◌, ◌≢◌, ℕ, zero, suc, ◌+◌, ◌<◌, ◌≤◌, Bool, true, false, IsTrue, List, [], ◌∷◌, ◌++◌, length, Option, None, Some, ⊎_elim, refl, sym, ap, subst, ◌∙◌, arith, length-append}
use Rattle.std.specs.Coded.{le_prop}
use Rattle.std.specs.Prelude.{◌==◌, if◌then◌else◌, slice_index}
use Rattle.std.proofs.Math.Logic.{∥∥₁_elim}
use Rattle.std.proofs.lemmas.Bool.{cases_eq, eqb-true, eq-eqb, false≢true}
use Rattle.std.proofs.lemmas.List.{append_assoc, nil_from_length}
use Rattle.std.proofs.lemmas.Option.{same_Some}
use Rattle.ac_input.specs.declared.search.Anchored.TheVariants.{No}
use Rattle.ac_input.specs.declared.steps.Steps.{Steps}
use Rattle.ac_input.specs.Dictionary.{Dictionary, BeginsEntered}
use Rattle.ac_input.specs.Laws.LiveLaws.{canonical}
use Rattle.ac_input.specs.States.{LeadsTo, FailsTo}
use Rattle.ac_input.specs.Steps.{Done}
use Rattle.ac_input.specs.Work.{longest}
use Rattle.ac_input.proofs.lemmas.LeadsLemmas.{leads-child, leads-dead, leads-failure, leads-failure_none, fails-state}
use Rattle.ac_automaton.specs.Automaton.{Leads}
use Rattle.ac_automaton.specs.Named.{NamedStates, Naming, OfNames, IsStep, text_len, IsPaidStep, IsReadBy, nowhere, IsEdgeBy, IsFailureBy, AreNumbers, AreLinked}
use Rattle.ac_automaton.proofs.lemmas.CursorLemmas.{leads-none}
use Rattle.ac_automaton.proofs.automaton.NamedLemmas.{stands-for, read-next, AllNames}
use Rattle.ac_automaton.proofs.lemmas.WalkLemmas.{begins-bound}
use Rattle.ac_input.proofs.lemmas.SomeLemmas.{begins_cases}

-- ---- straight on

-- the length of a number's text
long-some : (names : Naming) {sid : ℕ} {text : List ℕ} → names.text sid ≡ Some text
    → text_len (names.text sid) ≡ length text
long-some names is = ap text_len is

-- the number that stands for the dead state has no bytes
long-none : (names : Naming) (sid : ℕ) → names.text sid ≡ None → text_len (names.text sid) ≡ 0
long-none names sid is = ap text_len is

-- no number stands both for the dead state and for a text
not-both : (names : Naming) (sid : ℕ) (text : List ℕ) → names.text sid ≡ None → ¬ (names.text sid ≡ Some text)
not-both names sid text none some = cc

-- a number met by anchored and unanchored searches is met by a search of any anchoring
met-by : (names : Naming) (anchored : Bool) {sid : ℕ} → IsTrue (names.met true sid) → IsTrue (names.met false sid)
    → IsTrue (names.met anchored sid)
met-by names true one other = one
met-by names false one other = other

-- A byte leads straight from a number to another, without a look at its failure: a step that adds at most one byte.
pub record IsStraight (m : Dictionary) (names : Naming) (anchored : Bool) (sid byte next : ℕ) : Type 0 where
  pub step : IsStep m names anchored sid byte next
  pub longer : text_len (names.text next) ≤ text_len (names.text sid) + 1

-- a byte leads straight from the dead state
straight-dead : {m : Dictionary} {names : Naming} {start : ℕ} {anchored : Bool} {sid byte next : ℕ}
    → IsEdgeBy m names start sid byte next → names.text sid ≡ None → IsStraight m names anchored sid byte next
straight-dead {names} {anchored} {sid} {next} edge none =
    let to = edge.dead none in
    record {
      step = record {
        met = met-by names anchored to.0 to.1;
        dead = λ _. to.3;
        leads = λ text some. absurd (not-both names sid text none some);
      };
      longer = let e = long-none names next to.3 in omega (arith, e);
    }

-- a byte leads straight to a text that is one byte longer
straight-child : {m : Dictionary} {names : Naming} {start : ℕ} {anchored : Bool} {sid byte next : ℕ} {text : List ℕ}
    → AreNumbers m names start → IsEdgeBy m names start sid byte next → IsTrue (names.met anchored sid)
    → names.text sid ≡ Some text → BeginsEntered m (text ++ byte ∷ []) → IsStraight m names anchored sid byte next
straight-child {m} {names} {anchored} {sid} {byte} {next} {text} numbers edge met is begins =
    let child = edge.child text is begins in
    let own = (numbers.begin anchored sid text met is).1 in
    record {
      step = record {
        met = met-by names anchored child.0 child.1;
        dead = λ none. absurd (not-both names sid text none is);
        leads = λ other is_other.
            let same : text ≡ other = same_Some text other (sym is ∙ is_other) in
            subst (λ v. LeadsTo m anchored (v ++ byte ∷ []) (names.text next)) same
            (subst (LeadsTo m anchored (text ++ byte ∷ [])) (sym child.3) (leads-child byte own begins));
      };
      longer =
          let e = long-some names child.3 in
          let f = long-some names {sid = sid} is in
          let g = length-append text (canonical m.pairing byte ∷ []) in
          omega (arith, e, f, g);
    }

-- a byte that begins no pattern leads straight back to the unanchored start
straight-back : {m : Dictionary} {names : Naming} {start : ℕ} {sid byte next : ℕ} {text : List ℕ}
    → IsEdgeBy m names start sid byte next → names.text sid ≡ Some text → sid ≡ start
    → (¬ BeginsEntered m (text ++ byte ∷ [])) → IsStraight m names false sid byte next
straight-back {m} {names} {sid} {byte} {next} {text} edge is at none =
    let back = edge.back text is at none in
    record {
      step = record {
        met = back.0;
        dead = λ dead. absurd (not-both names sid text dead is);
        leads = λ other is_other. subst (λ v. LeadsTo m false (v ++ byte ∷ []) (names.text next))
            (same_Some text other (sym is ∙ is_other)) back.3;
      };
      longer = let e = back.2 in omega (arith, e);
    }

-- a byte leads straight from the unanchored start
straight-start : {m : Dictionary} {names : Naming} {start : ℕ} (anchored : Bool) {sid byte next : ℕ} {text : List ℕ}
    → AreNumbers m names start → IsEdgeBy m names start sid byte next → IsTrue (names.met anchored sid)
    → names.text sid ≡ Some text → sid ≡ start → (¬ BeginsEntered m (text ++ byte ∷ []))
    → IsStraight m names anchored sid byte next
straight-start {names} true numbers edge met is at none =
    absurd (false≢true (sym numbers.unanchored ∙ subst (λ i. IsTrue (names.met true i)) at met))
straight-start false numbers edge met is at none = straight-back edge is at none

-- a byte that doesn't lead nowhere leads straight on
pub straight : (m : Dictionary) (names : Naming) (start : ℕ) (anchored : Bool) (sid byte next : ℕ)
    → AreNumbers m names start → IsEdgeBy m names start sid byte next → IsTrue (names.met anchored sid) → next ≢ nowhere
    → IsStraight m names anchored sid byte next
straight m names start anchored sid byte next numbers edge met some =
    ⊎_elim
    (λ (none : names.text sid ≡ None). straight-dead edge none)
    (λ (is : (text : List ℕ) × (names.text sid ≡ Some text)).
    ⊎_elim
    (λ (begins : BeginsEntered m (is.0 ++ byte ∷ [])). straight-child numbers edge met is.1 begins)
    (λ (none : ¬ BeginsEntered m (is.0 ++ byte ∷ [])).
    ⊎_elim
    (λ (at : sid ≡ start). straight-start anchored numbers edge met is.1 at none)
    (λ (apart : sid ≢ start). absurd (some (edge.none is.0 is.1 apart none)))
    (cases_eq sid start))
    (begins_cases m (is.0 ++ byte ∷ [])))
    (stands-for names)

-- with one look
pub paid-straight : (m : Dictionary) (names : Naming) (start : ℕ) (anchored : Bool) (sid byte next : ℕ)
    (before after : Steps) → AreNumbers m names start → IsEdgeBy m names start sid byte next
    → IsTrue (names.met anchored sid) → next ≢ nowhere → Done 1 0 0 before after
    → IsPaidStep m names anchored 0 sid byte next before after
paid-straight m names start anchored sid byte next before after numbers edge met some one =
    let s = straight m names start anchored sid byte next numbers edge met some in
    let longer = s.longer in
    (s.step, (1, one, omega arith, omega (arith, longer)))

-- ---- nowhere

-- A byte leads nowhere from a number: its text with the byte begins no pattern, and it isn't the unanchored start.
pub record IsStuck (m : Dictionary) (names : Naming) (start sid byte : ℕ) : Type 0 where
  pub text : List ℕ
  pub is : names.text sid ≡ Some text
  pub none : ¬ BeginsEntered m (text ++ byte ∷ [])
  pub apart : sid ≢ start

-- where an edge leads nowhere, the byte is stuck there
pub stuck : (m : Dictionary) (names : Naming) (start sid byte next : ℕ) → IsEdgeBy m names start sid byte next
    → next ≡ nowhere → IsStuck m names start sid byte
stuck m names start sid byte next edge nothing =
    ⊎_elim
    (λ (dead : names.text sid ≡ None). absurd ((edge.dead dead).2 nothing))
    (λ (is : (text : List ℕ) × (names.text sid ≡ Some text)).
    let none : ¬ BeginsEntered m (is.0 ++ byte ∷ []) = λ begins. (edge.child is.0 is.1 begins).2 nothing in
    record {
      text = is.0;
      is = is.1;
      none = none;
      apart = λ at. (edge.back is.0 is.1 at none).1 nothing;
    })
    (stands-for names)

-- in an anchored search, a stuck byte leads to the dead state
pub stuck-dead : {m : Dictionary} {names : Naming} {start sid byte dead : ℕ} → IsStuck m names start sid byte
    → IsTrue (names.met true dead) → names.text dead ≡ None → IsStep m names true sid byte dead
stuck-dead {m} {names} {byte} {dead} s met none = record {
  met = met;
  dead = λ _. none;
  leads = λ text is.
      subst (λ v. LeadsTo m true (v ++ byte ∷ []) (names.text dead)) (same_Some s.text text (sym s.is ∙ is))
      (subst (LeadsTo m true (s.text ++ byte ∷ [])) (sym none) (leads-dead s.none));
}

-- with one look
pub paid-dead : (m : Dictionary) (names : Naming) (start sid byte next dead : ℕ) (before after : Steps)
    → IsEdgeBy m names start sid byte next → next ≡ nowhere → IsTrue (names.met true dead) → names.text dead ≡ None
    → Done 1 0 0 before after → IsPaidStep m names true 0 sid byte dead before after
paid-dead m names start sid byte next dead before after edge nothing met none one =
    let s = stuck m names start sid byte next edge nothing in
    let e = long-none names dead none in
    (stuck-dead s met none, (1, one, omega arith, omega (arith, e)))

-- ---- along failure links

-- A look-up has come from one number to another over failures: both lead on to the same place, and each failure has
-- cost a byte.
pub record IsFollowing (m : Dictionary) (names : Naming) (sid byte from looks : ℕ) : Type 0 where
  pub met : IsTrue (names.met false from)
  pub leads : (text state : List ℕ) (r : Option (List ℕ)) → names.text sid ≡ Some text → names.text from ≡ Some state
      → LeadsTo m false (state ++ byte ∷ []) r → LeadsTo m false (text ++ byte ∷ []) r
  pub dead : (text : List ℕ) → names.text sid ≡ Some text → names.text from ≡ None
      → LeadsTo m false (text ++ byte ∷ []) None
  pub paid : looks + text_len (names.text from) ≤ text_len (names.text sid)

-- at first
pub following-none : {m : Dictionary} {names : Naming} {sid byte : ℕ} → IsTrue (names.met false sid)
    → IsFollowing m names sid byte sid 0
following-none {m} {names} {sid} {byte} met = record {
  met = met;
  leads = λ text state r is here leads.
      subst (λ v. LeadsTo m false (v ++ byte ∷ []) r) (same_Some state text (sym here ∙ is)) leads;
  dead = λ text is none. absurd (not-both names sid text none is);
  paid = omega arith;
}

-- one number more
pub following-more : {m : Dictionary} {names : Naming} {start sid byte from looks fail : ℕ} → AreNumbers m names start
    → IsFollowing m names sid byte from looks → IsStuck m names start from byte → IsFailureBy m names from fail
    → IsFollowing m names sid byte fail (looks + 1)
following-more {m} {names} {byte} {from} {fail} numbers h s failure =
    let some : s.text ≢ [] = λ e. s.apart (numbers.only from h.met (s.is ∙ ap Some e)) in
    let long = long-some names s.is in
    let fails = failure.fails s.text s.is in
    let paid = h.paid in
    record {
      met = failure.met;
      leads = λ text state r is here leads.
          h.leads text s.text r is s.is ((leads-failure byte r (subst (FailsTo m s.text) here fails) s.none).0 leads);
      dead = λ text is none. h.leads text s.text None is s.is
          (leads-failure_none byte some (subst (FailsTo m s.text) none fails) s.none);
      paid =
          ⊎_elim
          (λ (none : names.text fail ≡ None). let e = long-none names fail none in let n = not-empty s.text some in
          omega (arith, e, long, n, paid))
          (λ (is : (text : List ℕ) × (names.text fail ≡ Some text)).
          let e = long-some names is.1 in
          let n = (fails-state (subst (FailsTo m s.text) is.1 fails)).2 in
          omega (arith, e, long, n, paid))
          (stands-for names);
    }
  where
    not-empty : (xs : List ℕ) → xs ≢ [] → length xs ≢ 0
    not-empty [] apart e = apart refl
    not-empty (x ∷ xs) apart e = omega (arith, e)

-- the look-up ends where a byte leads straight on
pub following-end : {m : Dictionary} {names : Naming} {start sid byte from looks next : ℕ} {before after : Steps}
    → AreNumbers m names start → ¬ (names.text sid ≡ None) → IsFollowing m names sid byte from looks
    → IsEdgeBy m names start from byte next → next ≢ nowhere → 1 ≤ looks → Done looks 0 0 before after
    → IsPaidStep m names false 1 sid byte next before after
following-end {m} {names} {start} {byte} {from} {looks} {next} numbers alive h edge some least count =
    let s = straight m names start false from byte next numbers edge h.met some in
    let paid = h.paid in
    let longer = s.longer in (
      record {
        met = s.step.met;
        dead = λ none. absurd (alive none);
        leads = λ text is.
            ⊎_elim
            (λ (none : names.text from ≡ None).
            subst (LeadsTo m false (text ++ byte ∷ [])) (sym (s.step.dead none)) (h.dead text is none))
            (λ (state : (v : List ℕ) × (names.text from ≡ Some v)).
            h.leads text state.0 (names.text next) is state.1 (s.step.leads state.0 state.1))
            (stands-for names);
      },
      (looks, count, least, omega (arith, paid, longer)),
    )

-- a look at the number itself, before the failures, is part of the look-up
pub paid-followed : (m : Dictionary) (names : Naming) (sid byte next : ℕ) (before between after : Steps)
    → Done 1 0 0 before between → IsPaidStep m names false 1 sid byte next between after
    → IsPaidStep m names false 0 sid byte next before after
paid-followed m names sid byte next before between after one h =
    let c = h.1 in
    let le = c.3 in
    (h.0, (c.0 + 1, done-more c.0 before between after one c.1, omega arith, omega (arith, le)))
  where
    done-more : (looks : ℕ) (before between after : Steps) → Done 1 0 0 before between → Done looks 0 0 between after
        → Done (looks + 1) 0 0 before after
    done-more looks before between after one more =
        record {
          looked = omega (arith, one.looked, more.looked);
          scanned = omega (arith, one.scanned, more.scanned);
          moved = omega (arith, one.moved, more.moved);
        }

-- ---- for every naming that fits the automaton

-- A look-up has followed failures to a number from which the byte leads nowhere.
pub record HasFollowed (m : Dictionary) (Fits : Naming → Type 0) (start sid byte from : ℕ)
    (before after : Steps) : Type 0 where
  pub looks : ℕ
  pub counted : Done looks 0 0 before after
  pub follows : OfNames Fits false sid
      (λ names. IsFollowing m names sid byte from looks × IsStuck m names start from byte × (¬ (names.text sid ≡ None)))

-- at first
pub followed-none : (m : Dictionary) (Fits : Naming → Type 0) (start sid byte next : ℕ) (steps : Steps)
    → OfNames Fits false sid (λ names. IsEdgeBy m names start sid byte next) → next ≡ nowhere
    → HasFollowed m Fits start sid byte sid steps steps
followed-none m Fits start sid byte next steps edges nothing = record {
  looks = 0;
  counted = record { looked = omega arith; scanned = omega arith; moved = omega arith };
  follows = λ names fits met.
      let s = stuck m names start sid byte next (edges names fits met) nothing in
      (following-none met, s, λ none. not-both names sid s.text none s.is);
}

-- the failure of the number reached, with one look more
followed-fail : {m : Dictionary} {Fits : Naming → Type 0} {start sid byte from : ℕ} (fail : ℕ) {before after : Steps}
    → (h : HasFollowed m Fits start sid byte from before after)
    → ((names : Naming) → Fits names → AreNumbers m names start)
    → OfNames Fits false from (λ names. IsFailureBy m names from fail)
    → OfNames Fits false sid (λ names. IsFollowing m names sid byte fail (h.looks + 1))
followed-fail fail h numbers failures = λ names fits met.
    let f = h.follows names fits met in
    following-more (numbers names fits) f.0 f.1 (failures names fits f.0.met)

-- one number more
pub followed-more : (m : Dictionary) (Fits : Naming → Type 0) (start sid byte from fail next : ℕ)
    (before between after : Steps) → HasFollowed m Fits start sid byte from before between
    → ((names : Naming) → Fits names → AreNumbers m names start)
    → OfNames Fits false from (λ names. IsFailureBy m names from fail) → Done 1 0 0 between after
    → OfNames Fits false fail (λ names. IsEdgeBy m names start fail byte next) → next ≡ nowhere
    → HasFollowed m Fits start sid byte fail before after
followed-more m Fits start sid byte from fail next before between after h numbers failures one edges nothing = record {
  looks = h.looks + 1;
  counted =
      record {
        looked = omega (arith, one.looked, h.counted.looked);
        scanned = omega (arith, one.scanned, h.counted.scanned);
        moved = omega (arith, one.moved, h.counted.moved);
      };
  follows = λ names fits met.
      let there = followed-fail fail h numbers failures names fits met in
      (there, stuck m names start fail byte next (edges names fits there.met) nothing, (h.follows names fits met).2);
}

-- the look-up ends where the byte leads from a failure
pub followed-end : (m : Dictionary) (Fits : Naming → Type 0) (start sid byte from fail next : ℕ)
    (before between after : Steps) → HasFollowed m Fits start sid byte from before between
    → ((names : Naming) → Fits names → AreNumbers m names start)
    → OfNames Fits false from (λ names. IsFailureBy m names from fail) → Done 1 0 0 between after
    → OfNames Fits false fail (λ names. IsEdgeBy m names start fail byte next) → next ≢ nowhere
    → OfNames Fits false sid (λ names. IsPaidStep m names false 1 sid byte next before after)
followed-end m Fits start sid byte from fail next before between after h numbers failures one edges some =
    λ names fits met.
    let there = followed-fail fail h numbers failures names fits met in
    let count : Done (h.looks + 1) 0 0 before
    after = record {
      looked = omega (arith, one.looked, h.counted.looked);
      scanned = omega (arith, one.scanned, h.counted.scanned);
      moved = omega (arith, one.moved, h.counted.moved);
    } in
    following-end (numbers names fits) (h.follows names fits met).2 there (edges names fits there.met) some
    (omega arith) count

-- a look-up looks at no more numbers than the longest pattern has bytes
pub followed-few : {m : Dictionary} {Fits : Naming → Type 0} {start sid byte from : ℕ} {before after : Steps}
    → (h : HasFollowed m Fits start sid byte from before after)
    → ((names : Naming) → Fits names → AreNumbers m names start)
    → ∥ ((names : Naming) × Fits names × IsTrue (names.met false sid)) ∥₁ → h.looks + 1 ≤ longest m.patterns
followed-few {m} {sid} {from} h numbers some =
    ∥∥₁_elim some le_prop (λ w.
    let f = h.follows w.0 w.1 w.2 in
    let paid = f.0.paid in
    ⊎_elim
    (λ (dead : w.0.text sid ≡ None). absurd (f.2 dead))
    (λ (is : (text : List ℕ) × (w.0.text sid ≡ Some text)).
    let bound = begins-bound m is.0 ((numbers w.0 w.1).begin false sid is.0 w.2 is.1).0 in
    let long = long-some w.0 is.1 in
    let here = long-some w.0 {sid = from} f.1.is in
    let apart : length f.1.text ≢ 0 =
    λ e. f.1.apart ((numbers w.0 w.1).only from f.0.met (f.1.is ∙ ap Some (nil_from_length f.1.text e))) in
    omega (arith, bound, long, here, apart, paid))
    (stands-for w.0))

-- ---- every text leads somewhere

-- where a byte leads from a number, over at most this many failures
pub follow_by : (ℕ → ℕ → ℕ) → (ℕ → ℕ) → ℕ → ℕ → ℕ → ℕ
follow_by edge fail zero sid byte = edge sid byte
follow_by edge fail (suc most) sid byte =
    if edge sid byte == nowhere then follow_by edge fail most (fail sid) byte else edge sid byte

-- where a byte leads nowhere from a number, it leads where the number's failure leads
step-failed : {m : Dictionary} {names : Naming} {start sid byte fail next : ℕ} → IsStuck m names start sid byte
    → (names.text sid ≡ Some [] → sid ≡ start) → IsFailureBy m names sid fail → IsStep m names false fail byte next
    → IsStep m names false sid byte next
step-failed {m} {names} {sid} {byte} {fail} {next} s only failure step =
    let fails = failure.fails s.text s.is in
    let some : s.text ≢ [] = λ e. s.apart (only (s.is ∙ ap Some e)) in
    record {
      met = step.met;
      dead = λ none. absurd (not-both names sid s.text none s.is);
      leads = λ text is.
          subst (λ v. LeadsTo m false (v ++ byte ∷ []) (names.text next)) (same_Some s.text text (sym s.is ∙ is))
          (⊎_elim
          (λ (none : names.text fail ≡ None).
          subst (LeadsTo m false (s.text ++ byte ∷ [])) (sym (step.dead none))
          (leads-failure_none byte some (subst (FailsTo m s.text) none fails) s.none))
          (λ (state : (v : List ℕ) × (names.text fail ≡ Some v)).
          (leads-failure byte (names.text next) (subst (FailsTo m s.text) state.1 fails) s.none).0
          (step.leads state.0 state.1))
          (stands-for names));
    }

-- the failure of a number other than the start stands for fewer bytes
failure-less : {m : Dictionary} {names : Naming} {start sid byte fail : ℕ} → AreNumbers m names start
    → IsTrue (names.met false sid) → IsStuck m names start sid byte → IsFailureBy m names sid fail
    → text_len (names.text fail) + 1 ≤ text_len (names.text sid)
failure-less {m} {names} {start} {sid} {byte} {fail} numbers met s failure =
    let on = following-more numbers (following-none met) s failure in
    let paid = on.paid in
    omega (arith, paid)

-- as many steps as the number has bytes suffice
follow-step : {m : Dictionary} {names : Naming} {start : ℕ} {edge : ℕ → ℕ → ℕ} {fail : ℕ → ℕ}
    → AreLinked m names start edge fail → (most : ℕ) {sid byte : ℕ} → byte < 256 → IsTrue (names.met false sid)
    → text_len (names.text sid) ≤ most → IsStep m names false sid byte (follow_by edge fail most sid byte)
unfolding follow_by
follow-step {m} {names} {start} {edge} linked zero {sid} {byte} small met few =
    let e = linked.edges false sid byte met small in
    ⊎_elim
    (λ (nothing : edge sid byte ≡ nowhere).
    let s = stuck m names start sid byte (edge sid byte) e nothing in
    let less = failure-less linked.numbers met s (linked.failures sid met) in
    absurd (omega (arith, less, few)))
    (λ (some : edge sid byte ≢ nowhere).
    (straight m names start false sid byte (edge sid byte) linked.numbers e met some).step)
    (cases_eq (edge sid byte) nowhere)
follow-step {m} {names} {start} {edge} {fail} linked (suc most) {sid} {byte} small met few =
    by (λ there less. follow-step linked most small there less) (edge sid byte == nowhere) refl
  where
    by : (IsTrue (names.met false (fail sid)) → text_len (names.text (fail sid)) ≤ most
        → IsStep m names false (fail sid) byte (follow_by edge fail most (fail sid) byte)) → (nothing : Bool)
        → (edge sid byte == nowhere) ≡ nothing
        → IsStep m names false sid byte (if nothing then follow_by edge fail most (fail sid) byte else edge sid byte)
    by on true is =
        let s = stuck m names start sid byte (edge sid byte) (linked.edges false sid byte met small)
        (eqb-true (edge sid byte) nowhere is) in
        let failure = linked.failures sid met in
        let less = failure-less linked.numbers met s failure in
        step-failed s (linked.numbers.only sid met) failure
        (on failure.met (omega (arith, less, few)))
    by on false is =
        (straight m names start false sid byte (edge sid byte) linked.numbers (linked.edges false sid byte met small)
        met (λ e. false≢true (sym is ∙ eq-eqb (edge sid byte) nowhere e))).step

-- the number to which bytes lead
pub run_by : (ℕ → ℕ → ℕ) → (ℕ → ℕ) → ℕ → ℕ → List ℕ → ℕ
run_by edge fail most sid [] = sid
run_by edge fail most sid (b ∷ bs) = run_by edge fail most (follow_by edge fail most sid b) bs

-- no number stands for more bytes than the longest pattern has
named-few : {m : Dictionary} {names : Naming} {start sid : ℕ} → AreNumbers m names start → IsTrue (names.met false sid)
    → text_len (names.text sid) ≤ longest m.patterns
named-few {m} {names} {sid} numbers met =
    ⊎_elim
    (λ (none : names.text sid ≡ None). let e = long-none names sid none in omega (arith, e))
    (λ (is : (text : List ℕ) × (names.text sid ≡ Some text)).
    let bound = begins-bound m is.0 (numbers.begin false sid is.0 met is.1).0 in
    let long = long-some names is.1 in
    omega (arith, bound, long))
    (stands-for names)

-- every text leads from every number to some number
pub run-leads : (states : NamedStates) (start : ℕ) (edge : ℕ → ℕ → ℕ) (fail : ℕ → ℕ) → AllNames states
    → ((names : Naming) → states.Fits names → AreLinked states.built.dictionary names start edge fail)
    → (sid : ℕ) (bytes : List ℕ) → ((k : ℕ) → slice_index bytes k < 256)
    → Leads (IsReadBy states No) sid bytes (run_by edge fail (longest states.built.dictionary.patterns) sid bytes)
unfolding run_by
run-leads states start edge fail all linked sid [] small = leads-none (IsReadBy states No) sid
run-leads states start edge fail all linked sid (byte ∷ bytes) small = λ text reads.
    let m = states.built.dictionary in
    let most = longest m.patterns in
    let next = follow_by edge fail most sid byte in
    let steps : OfNames states.Fits false sid (λ names. IsStep m names false sid byte next) = λ names fits met. let l =
    linked names fits in follow-step l most (small 0) met (named-few l.numbers met) in
    let there = read-next states No sid byte next all steps text reads in
    subst (λ l. IsReadBy states No l (run_by edge fail most next bytes)) (append_assoc text (byte ∷ []) bytes)
    (run-leads states start edge fail all linked next bytes (λ k. small (suc k)) (text ++ byte ∷ []) there)
