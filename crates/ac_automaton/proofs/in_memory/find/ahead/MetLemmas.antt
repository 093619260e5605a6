-- How a search that has met a match reads on until none can be better, and what it has paid for by then.
use Rattle.std.proofs.Common.{◌≡◌, ◌≢◌, ◌↔◌, ◌∙◌, IsTrue, false, ℕ, ◌-◌, ◌≤◌, Bool, List, [], length, Some, None, slice_range, sym, subst, refl, arith}
use Rattle.std.proofs.lemmas.Bool.{false≢true}
use Rattle.ac_input.specs.Number.{StateID}
use Rattle.ac_input.specs.declared.search.Anchored.{Anchored}
use Rattle.ac_input.specs.declared.search.Anchored.TheVariants.{No, Yes}
use Rattle.ac_input.specs.declared.search.MatchKind.{MatchKind}
use Rattle.ac_input.specs.declared.search.MatchKind.TheVariants.{Standard}
use Rattle.ac_input.specs.declared.steps.Steps.{Steps}
use Rattle.ac_input.specs.Dictionary.{Dictionary, IsLive}
use Rattle.ac_input.specs.Input.{Asked, is_anchored}
use Rattle.ac_input.specs.Occurrence.{Occurrence}
use Rattle.ac_input.specs.Steps.{Done}
use Rattle.ac_input.specs.Tells.{Tells}
use Rattle.ac_input.specs.Work.{IsLookups}
use Rattle.ac_input.proofs.lemmas.OrderLemmas.{slice_range-length}
use Rattle.ac_input.proofs.lemmas.SomeLemmas.{live-some}
use Rattle.ac_automaton.specs.Ahead.{IsPaid, Settles}
use Rattle.ac_automaton.specs.Automaton.{IsFindCost, IsFound, kind_asked}
use Rattle.ac_automaton.specs.InMemory.Find.Cursor.{IsFirstAt, IsReachedWithin, IsTaken, ReadsFurther, StandsIn, taken}
use Rattle.ac_automaton.specs.declared.ahead.Ahead.{Ahead}
use Rattle.ac_automaton.specs.declared.automaton.Automaton.{Ghosts}
use Rattle.ac_automaton.specs.declared.in_memory.find.cursor.Cursor.{Cursor}
use Rattle.ac_automaton.proofs.in_memory.find.FindWalkLemmas.{HasAsked, Walks, asked-on, asks, text_read}
use Rattle.ac_automaton.proofs.in_memory.find.TakenLemmas.{taken-free}
use Rattle.ac_automaton.proofs.in_memory.find.ahead.FindAheadLemmas.{is-found}
use Rattle.ac_automaton.proofs.lemmas.WalkEndLemmas.{Died, Ended}
use Rattle.ac_automaton.proofs.stream.DecideLemmas.{dead-silent}
use Rattle.ac_automaton.proofs.stream.SearchAheadLemmas.{paid_on, settles-on}

-- A search has met a match, the best of the bytes read, which may still grow; and has paid for these bytes.
pub record HasMet {S : Type 0} (A : Ghosts S) (a : S) (asked : Asked) (cursor : Cursor) (best : Occurrence)
    (old new : Ahead) (x now : Steps) : Type 0 where
  pub paid : Steps
  pub settles : Settles old new now paid
  pub has : HasAsked A a asked asked.span.start cursor (Some best) x paid
  pub alive : (from : ℕ) × IsLive (A.built a).dictionary (is_anchored asked.anchored) (text_read asked cursor) (Some from)

-- where the first match isn't the result, the kind is a leftmost one
pub unless-first : {first : Bool} {kind : MatchKind} → IsTrue first ↔ (kind ≡ Standard) → first ≡ false
    → kind ≢ Standard
unless-first is isnt = λ standard. false≢true (sym isnt ∙ is.1 standard)

-- under a leftmost kind the list of a state is empty where the text is dead
pub dead-quiet : (m : Dictionary) (anchored : Anchored) (text ns : List ℕ) → anchored ≡ No → m.kind ≢ Standard
    → Tells m anchored text ns → IsLive m (is_anchored anchored) text None → ns ≡ []
dead-quiet m No text ns free leftmost tells dead = dead-silent m text ns leftmost tells dead
dead-quiet m Yes text ns free leftmost tells dead = absurd (let e : Yes ≡ No = free in cc)

-- the state where a search stands is reached within its place
pub reached-within : (Reaches : Anchored → List ℕ → StateID → Type 0) (anchored : Anchored) (haystack : List ℕ)
    (from at end : ℕ) (sid : StateID) → anchored ≡ No → from ≤ at → at ≤ end → end ≤ length haystack
    → Reaches anchored (slice_range haystack from at) sid → IsReachedWithin (Reaches No) sid at
reached-within Reaches anchored haystack from at end sid free ordered within inside reads =
    let long = slice_range-length haystack from ordered (omega (arith, within, inside)) in
    let text = slice_range haystack from at in
    (text, subst (λ k. Reaches k text sid) free reads, omega (arith, long))

-- the looks of a call, counted after others
lookups-on : (deterministic : Bool) (n before_live after_live : ℕ) (paid y z : Steps)
    → IsLookups deterministic n before_live after_live y z
    → IsLookups deterministic n before_live after_live paid (paid_on paid y z)
lookups-on deterministic n before_live after_live paid y z is =
    let some = is.some in
    let bound = is.bound in
    record {
      some = omega (arith, some);
      bound = omega (arith, some, bound);
      one = λ d. let one = is.one d in omega (arith, one);
      scanned = refl;
      moved = refl;
    }

module _ {S : Type 0} (A : Ghosts S) (a : S) (asked : Asked) {cursor : Cursor} (next : Cursor) {best : Occurrence}
    {old new : Ahead} {x y : Steps} (z : Steps)
    (tells : (text : List ℕ) (state : StateID) → A.Reaches a asked.anchored text state
    → Tells (A.built a).dictionary asked.anchored text (A.matches a state))
    (free : asked.anchored ≡ No)
    (leftmost : kind_asked (A.built a) asked ≢ Standard)
    (met : HasMet A a asked cursor best old new x y)
    (stands : StandsIn (A.built a) (A.Reaches a) asked next) (same : next.from ≡ cursor.from)
    (on : ReadsFurther (A.built a) asked cursor next y z) where
  -- what is paid then
  abbrev then : Steps
  then = paid_on met.paid y z

  -- the looks are all that was done
  done : Done (z.looked.value - y.looked.value) 0 0 y z
  done =
      let one = live-some in
      let other = live-some in
      let run = on.lookups one.0 other.0 one.1 other.1 in
      record {
        looked = omega (arith, run.some);
        scanned = omega (arith, run.scanned);
        moved = omega (arith, run.moved);
      }

  settled : Settles old new z then
  settled = settles-on old new (z.looked.value - y.looked.value) y z met.paid met.settles done

  -- the search stands at the next state, before it takes the state's match
  walks : Walks A a asked asked.span.start next (Some best) x then
  walks = asked-on next then met.has (λ standard. absurd (leftmost standard)) met.alive stands same
      (record {
        further = on.further;
        quiet = on.quiet;
        lookups = λ p q g h.
            lookups-on (A.built a).deterministic _ _ _ met.paid y z (on.lookups p q g h);
      })

  -- where the state has a match, it is better than the one before
  pub met-better : (o : Occurrence) → IsFirstAt (A.built a).dictionary next.at (A.matches a next.sid) o
      → ((from : ℕ) × IsLive (A.built a).dictionary (is_anchored asked.anchored) (text_read asked next) (Some from))
      → HasMet A a asked next o old new x z
  met-better o is alive =
      let m = (A.built a).dictionary in
      let there : IsTaken (A.built a) (A.matches a) asked next (Some o) =
      subst (λ k. Some o ≡ taken m k next.at (next.at - next.from) (A.matches a next.sid)) (sym free)
      (taken-free m next.at (next.at - next.from) (A.matches a next.sid) is) in
      record {
        paid = then;
        settles = settled;
        has = asks A a asked asked.span.start next (Some best) (Some o) (Some o) x then tells walks there refl;
        alive = alive;
      }

  -- where it has none, the one before is still the best
  kept : A.matches a next.sid ≡ [] → HasAsked A a asked asked.span.start next (Some best) x then
  kept none =
      let m = (A.built a).dictionary in
      let there : IsTaken (A.built a) (A.matches a) asked next None =
      subst (λ k. None ≡ taken m k next.at (next.at - next.from) (A.matches a next.sid)) (sym free)
      (subst (λ l. None ≡ taken m No next.at (next.at - next.from) l) (sym none) refl) in
      asks A a asked asked.span.start next (Some best) None (Some best) x then tells walks there refl

  pub met-same : A.matches a next.sid ≡ []
      → ((from : ℕ) × IsLive (A.built a).dictionary (is_anchored asked.anchored) (text_read asked next) (Some from))
      → HasMet A a asked next best old new x z
  met-same none alive = record { paid = then; settles = settled; has = kept none; alive = alive }

  -- where the state is dead, it is the match of the search
  pub met-dead : A.matches a next.sid ≡ []
      → IsLive (A.built a).dictionary (is_anchored asked.anchored) (text_read asked next) None
      → IsFound (A.built a) asked (Some best)
      × IsPaid old new z (λ paid. IsFindCost (A.built a) asked x paid (Some best))
  met-dead none dead =
      let found = is-found A a asked next (Some best) x then (kept none) (Died dead) in
      (found.0, (then, settled, found.1))

-- where the span ends, the best match so far is the match of the search
pub met-ended : {S : Type 0} (A : Ghosts S) (a : S) (asked : Asked) {cursor : Cursor} {best : Occurrence}
    {old new : Ahead} {x y : Steps} → HasMet A a asked cursor best old new x y → cursor.at ≡ asked.span.end
    → IsFound (A.built a) asked (Some best)
    × IsPaid old new y (λ paid. IsFindCost (A.built a) asked x paid (Some best))
met-ended A a asked {cursor} {best} {old} {new} {x} {y} met ended =
    let found = is-found A a asked cursor (Some best) x met.paid met.has (Ended ended) in
    (found.0, (met.paid, met.settles, found.1))
