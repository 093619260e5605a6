-- A note that is taken leads where its bytes lead. Otherwise the automaton's own loop reads a part of the bytes.
use Rattle.std.proofs.Common.{ap, ◌≡◌, ◌≢◌, ◌+◌, ◌-◌, ◌<◌, ◌≤◌, drop, Some, refl, subst, sym, ◌∙◌, arith, length-drop}
use Rattle.std.specs.Prelude.{IfSome, slice_get}
use Rattle.std.proofs.lemmas.Bool.{eq-eqb, eqb-true, false≢true}
use Rattle.std.proofs.lemmas.List.{length-take-le}
use Rattle.ac_input.specs.declared.search.Anchored.TheVariants.{No}
use Rattle.ac_input.specs.declared.steps.Steps.{Steps}
use Rattle.ac_automaton.specs.Ahead.{IsAhead, Settles, StaysReadOnce, left_notes, onward}
use Rattle.ac_automaton.specs.Automaton.{is_matching}
use Rattle.ac_automaton.specs.Skip.{ReadsPart}
use Rattle.ac_automaton.specs.declared.ahead.Note.{Note}
use Rattle.ac_automaton.proofs.ahead.PartLemmas.{alone-ahead, cost-rises, joined, left-more, note-part, part-then, settles-then, taken-ahead, taken-once, taken-settles}
use Rattle.ac_automaton.proofs.skip.ReadOnLemmas.{part-of-front}
use Rattle.ac_automaton.proofs.ahead.read_part.Given.{Over}
use Rattle.ac_automaton.proofs.ahead.read_part.Goals.{in-Some+else-note-at, else-note-at-via-then-note-at+else-eq, else-note-at-via-else-note-at, in_default}
use Rattle.ac_automaton.proofs.ahead.read_part.Goals as goal

-- the note is the first of those that are left
first : (g : Over) (c : goal.After-result-1 g)
    → Some c.in-Some.note ≡ slice_get (left_notes c.next_note-upcoming.new.self) 0
first g c = sym c.in-Some.is ∙ c.next_note-upcoming.ensures.noted

pub take_note-requires : goal.take_note-requires
take_note-requires g c =
    left-more c.next_note-upcoming.new.self c.in-Some.note c.next_note-upcoming.ensures.ahead.room
    (sym c.in-Some.is ∙ c.next_note-upcoming.ensures.noted)

-- the note that is taken reads a part of the bytes
pub returns-then-eq-clause-reads : goal.returns-then-eq-clause-reads
returns-then-eq-clause-reads g c =
    let a = c.args.automaton.now in
    let mid = c.next_note-upcoming.new.self in
    let s = c.next_note-upcoming.new.steps in
    let known = c.next_note-upcoming.ensures in
    let note = c.in-Some.note in
    let it = known.ahead in
    let here = first g c in
    let q : Steps = record s { looked = record s.looked { value = s.looked.value + note.len } } in
    let rose : s.looked.value ≤ q.looked.value = omega arith in (
      joined c.args.steps.now s q,
      subst (λ after. Settles c.args.ahead.now after s (joined c.args.steps.now s q)) (sym c.take_note.ensures)
          (settles-then known.paid
          (taken-settles (g.A.Automaton.built a) (g.A.Automaton.Reaches a) (g.A.Automaton.matches a) c.args.anew.now
          c.args.bytes.now c.args.at c.args.sid mid note it here s) rose),
      part-then known.paid.scanned known.paid.moved
          (note-part (g.A.Automaton.built a) (g.A.Automaton.Reaches a) (g.A.Automaton.matches a) c.args.anew.now
          c.args.bytes.now c.args.at c.args.sid mid note it here s q (omega (arith, c.if-note-at.true))
          (eqb-true note.sid c.args.sid (sym c.eq.ensures ∙ c.if-eq.true))
          (record { looked = refl; scanned = omega arith; moved = omega arith })),
    )

pub returns-then-eq-clause-ahead : goal.returns-then-eq-clause-ahead
returns-then-eq-clause-ahead g c =
    let a = c.args.automaton.now in
    subst (IsAhead (g.A.Automaton.built a) (g.A.Automaton.Reaches a No) (g.A.Automaton.matches a) c.args.anew.now
    c.args.bytes.now (c.args.at + c.in-Some.note.len)
    (onward (g.A.Automaton.matches a) c.args.anew.now c.in-Some.note.next)) (sym c.take_note.ensures)
    (taken-ahead (g.A.Automaton.built a) (g.A.Automaton.Reaches a) (g.A.Automaton.matches a) c.args.anew.now
    c.args.bytes.now c.args.at c.args.sid c.next_note-upcoming.new.self c.in-Some.note
    c.next_note-upcoming.ensures.ahead (first g c) (omega (arith, c.if-note-at.true)))

pub returns-then-eq-clause-once : goal.returns-then-eq-clause-once
returns-then-eq-clause-once g c =
    let a = c.args.automaton.now in
    subst (StaysReadOnce c.args.bytes.now c.args.ahead.now) (sym c.take_note.ensures)
    (let taken = taken-once (g.A.Automaton.built a) (g.A.Automaton.Reaches a) (g.A.Automaton.matches a) c.args.anew.now
    c.args.bytes.now c.args.at c.args.sid c.next_note-upcoming.new.self c.in-Some.note
    c.next_note-upcoming.ensures.ahead (first g c) in
    omega (arith, taken, c.next_note-upcoming.ensures.once))

-- the automaton's own loop has read a part of the bytes
alone : (g : Over) (c : goal.After-advance_by g)
    → ReadsPart (g.A.Automaton.built c.args.automaton.now) (g.A.Automaton.Reaches c.args.automaton.now) No
    (is_matching (g.A.Automaton.matches c.args.automaton.now)) c.args.sid (drop c.args.at c.args.bytes.now)
    c.advance_by.result c.next_note-upcoming.new.steps c.advance_by.new.steps
alone g c =
    let a = c.args.automaton.now in
    let end = c.end_before-end.result in
    let after = c.end_before-end.ensures.after in
    let within = c.end_before-end.ensures.within in
    let part_within = c.part_end.ensures.within in
    let left = length-drop c.args.at c.args.bytes.now in
    part-of-front (g.A.Automaton.built a) (g.A.Automaton.Reaches a) No (is_matching (g.A.Automaton.matches a))
    c.args.sid (drop c.args.at c.args.bytes.now) _ (end - c.args.at) c.advance_by.result _ _
    (omega (arith, after)) (omega (arith, within, part_within, left)) refl c.advance_by.ensures.goes
    c.advance_by.ensures.cost

pub returns-clause-reads : goal.returns-clause-reads
returns-clause-reads g c =
    let a = c.args.automaton.now in
    let s = c.next_note-upcoming.new.steps in
    let q = c.advance_by.new.steps in
    let known = c.next_note-upcoming.ensures in
    let part = alone g c in
    let rose = cost-rises (g.A.Automaton.built a) (g.A.Automaton.Reaches a) c.requires.reached part.reads part.cost in (
      joined c.args.steps.now s q,
      settles-then known.paid (record { looked = refl; scanned = refl; moved = refl }) rose,
      part-then known.paid.scanned known.paid.moved part,
    )

-- the next note is not at this place in this state
apart : (g : Over) (c : goal.After-advance_by g) (note : Note) → c.next_note-upcoming.result ≡ Some note
    → note.from ≡ c.args.at → note.sid ≢ c.args.sid
apart g c note is from same = elim c.match-upcoming.branch [
  | in-Some+else-note-at w ↦ let both : Some w.in-Some.note ≡ Some note = sym w.in-Some.is ∙ is in
      let one : w.in-Some.note ≡ note = cc in elim w.else-note-at.branch [
        | else-note-at-via-then-note-at+else-eq v ↦
            absurd (false≢true
            (sym v.if-eq.false ∙ v.eq.ensures ∙ eq-eqb w.in-Some.note.sid c.args.sid (ap (λ n. n.sid) one ∙ same)))
        | else-note-at-via-else-note-at v ↦ let there = ap (λ n. n.from) one in
            absurd (omega (arith, v.if-note-at.false, there, from))
      ]
  | in_default w ↦ w.in_default.not-Some note is
]

pub returns-clause-ahead : goal.returns-clause-ahead
returns-clause-ahead g c =
    let part = alone g c in
    let end = c.end_before-end.result in
    let after = c.end_before-end.ensures.after in
    let within = c.end_before-end.ensures.within in
    let part_within = c.part_end.ensures.within in
    let left = length-drop c.args.at c.args.bytes.now in
    let some = part.within in
    let long = length-take-le (end - c.args.at) (drop c.args.at c.args.bytes.now) (omega (arith, within, part_within, left)) in
    let short : c.advance_by.result.taken ≤ end - c.args.at =
    omega (arith, c.advance_by.ensures.goes.taken.0, long) in
    alone-ahead c.advance_by.result.sid
    c.requires.reached part.some (omega (arith, some, left, c.requires.left)) part.reads
    (λ note is.
    let there : c.next_note-upcoming.result ≡ Some note = c.next_note-upcoming.ensures.noted ∙ sym is in
    let before = subst (λ r. IfSome r (λ n. c.args.at < n.from → end ≤ n.from)) there c.end_before-end.ensures.before in
    (apart g c note there, λ lt. let le = before lt in omega (arith, le, short, after)))
    c.next_note-upcoming.ensures.ahead
