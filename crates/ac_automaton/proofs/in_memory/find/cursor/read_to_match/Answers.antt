-- How one call that reads on to the first state that matches moves the cursor.
use Rattle.std.proofs.Common.{◌+◌, ◌<◌, ◌≤◌, List, ℕ, length, slice_range, subst, sym, arith}
use Rattle.std.proofs.lemmas.Grind.{common_steps}
use Rattle.ac_input.specs.declared.search.Anchored.TheVariants.{No}
use Rattle.ac_input.specs.Number.{StateID}
use Rattle.ac_input.proofs.lemmas.OrderLemmas.{slice_range-length}
use Rattle.ac_automaton.specs.Automaton.{searched}
use Rattle.ac_automaton.specs.InMemory.Find.Cursor.{HasReadOn, IsCursor}
use Rattle.ac_automaton.specs.declared.in_memory.find.cursor.Cursor.{Cursor}
use Rattle.ac_automaton.proofs.automaton.PassLemmas.{some-matching}
use Rattle.ac_automaton.proofs.in_memory.find.cursor.ReadToMatchLemmas.{cursor-read_to, cursor-read_to_first}
use Rattle.ac_automaton.proofs.in_memory.find.cursor.read_to_match.Goals as goal

pub returns-clause-stands : goal.returns-clause-stands
returns-clause-stands g c =
    let a = c.args.automaton.now in
    let asked = c.args.input.now in
    let s = searched (g.A.Automaton.built a) asked in
    let at = c.args.cursor.at in
    let to = c.min-to.result in
    let open_ = c.requires.open in
    let first = c.requires.before in
    let end = c.end.ensures.value in
    let least = c.min-to.ensures in
    let before : at ≤ to = omega arith in
    let within : to ≤ asked.span.end = omega arith in
    let taken = rw c.haystack.ensures at c.advance_to_first-advance.ensures.goes.taken in
    let reads = rw c.haystack.ensures at c.advance_to_first-advance.ensures.goes.reads in
    let inside = c.requires.stands.inside in
    let fits : to ≤ length asked.haystack = omega (arith, inside, within) in
    let long = slice_range-length asked.haystack at before fits in
    subst (λ x. IsCursor (g.A.Automaton.Reaches a x) s
    (record {
      sid = c.advance_to_first-advance.result.sid;
      from = c.args.cursor.from;
      at = at + c.advance_to_first-advance.result.taken;
    })) (sym c.requires.free)
    (cursor-read_to c.advance_to_first-advance.result.sid to
    c.advance_to_first-advance.result.taken
    (subst (λ x. IsCursor (g.A.Automaton.Reaches a x) s c.args.cursor) c.requires.free c.requires.stands) before within
    (omega (arith, taken.0, long)) reads)

pub returns-clause-on : goal.returns-clause-on
returns-clause-on g c =
    let a = c.args.automaton.now in
    let b = g.A.Automaton.built a in
    let asked = c.args.input.now in
    let s = searched b asked in
    let at = c.args.cursor.at in
    let to = c.min-to.result in
    let open_ = c.requires.open in
    let first = c.requires.before in
    let end = c.end.ensures.value in
    let least = c.min-to.ensures in
    let past : at < to = omega arith in
    let before : at ≤ to = omega (arith, past) in
    let within : to ≤ asked.span.end = omega arith in
    let taken = rw c.haystack.ensures at c.advance_to_first-advance.ensures.goes.taken in
    let plain = rw c.haystack.ensures at c.advance_to_first-advance.ensures.goes.plain in
    let cost = rw c.haystack.ensures at c.advance_to_first-advance.ensures.cost in
    let inside = c.requires.stands.inside in
    let fits : to ≤ length asked.haystack = omega (arith, inside, within) in
    let long = slice_range-length asked.haystack at before fits in
    let some : 0 < length (slice_range asked.haystack at to) = omega (arith, long, past) in
    let next : Cursor =
    record {
      sid = c.advance_to_first-advance.result.sid;
      from = c.args.cursor.from;
      at = at + c.advance_to_first-advance.result.taken;
    } in
    subst (λ x. HasReadOn b x s c.args.cursor next c.args.steps.now c.advance_to_first-advance.new.steps)
    (sym c.requires.free)
    (cursor-read_to_first b (g.A.Automaton.Reaches a) (g.A.Automaton.matches a)
    c.advance_to_first-advance.result.sid to c.advance_to_first-advance.result.taken c.args.steps.now
    c.advance_to_first-advance.new.steps
    c.requires.none
    (subst (λ x. IsCursor (g.A.Automaton.Reaches a x) s c.args.cursor) c.requires.free c.requires.stands) before within
    (taken.1 some) (omega (arith, taken.0, long))
    (λ (text : List ℕ) (state : StateID) (reads : g.A.Automaton.Reaches a No text state).
    g.met.A.Automaton.tells a No text state reads)
    plain cost)

pub returns-clause-stops : goal.returns-clause-stops
returns-clause-stops g c = λ before_end before_until.
    let a = c.args.automaton.now in
    let asked = c.args.input.now in
    let at = c.args.cursor.at in
    let to = c.min-to.result in
    let open_ = c.requires.open in
    let first = c.requires.before in
    let end = c.end.ensures.value in
    let least = c.min-to.ensures in
    let inside = c.requires.stands.inside in
    let before : at ≤ to = omega arith in
    let fits : to ≤ length asked.haystack = omega arith in
    let long = slice_range-length asked.haystack at before fits in
    let stops = rw c.haystack.ensures at c.advance_to_first-advance.ensures.goes.stops in
    some-matching (g.A.Automaton.matches a c.advance_to_first-advance.result.sid) (stops (omega arith))

pub overflow_add-result : goal.overflow_add-result
overflow_add-result g c = grind (arith, common_steps)

pub advance_to_first-advance-requires : goal.advance_to_first-advance-requires
advance_to_first-advance-requires g c = grind (arith, common_steps)
