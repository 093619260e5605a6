-- The entry that counts is the first of what the state has to show.
use Rattle.std.proofs.Common.{◌≡◌, ◌≤◌, ◌-◌, [], ◌∷◌, length, get_or, Some, refl, ap, arith}
use Rattle.ac_input.specs.Dictionary.{Dictionary}
use Rattle.ac_input.specs.Occurrence.{Search}
use Rattle.ac_input.specs.Input.{search_of}
use Rattle.ac_input.specs.Tells.{ending_at}
use Rattle.ac_automaton.specs.InMemory.Overlapping.{occurrences_from}
use Rattle.ac_automaton.specs.InMemory.Find.Cursor.{read_to, walked}
use Rattle.ac_automaton.proofs.in_memory.overlapping.OverlappingLemmas.{place_of-cursor, occurrences_from-entry, occurrences_from-none}
use Rattle.ac_automaton.proofs.in_memory.overlapping.search.show.Given.{Over}
use Rattle.ac_automaton.proofs.in_memory.overlapping.search.show.Goals as goal
use Rattle.ac_automaton.proofs.in_memory.overlapping.search.show.Goals.{In_ok-entry}

-- the dictionary, and the text that was walked
abbrev dictionary : (g : Over) → In_ok-entry g → Dictionary
dictionary g c = (g.A.Automaton.built c.args.automaton.now).dictionary

abbrev text : (g : Over) → In_ok-entry g → Search
text g c =
    let asked = c.args.input.now in
    walked (search_of (dictionary g c) asked.anchored asked.haystack asked.span) c.args.cursor

-- the entry is the first occurrence that the state has from the index on
told : (g : Over) (c : In_ok-entry g)
    → let ns = g.A.Automaton.matches c.args.automaton.now c.args.cursor.sid in
    (length (get_or (dictionary g c).patterns c.in_ok-entry.entry.pattern []) ≤ c.args.cursor.at - (text g c).start)
    × (occurrences_from (dictionary g c) (text g c) c.args.cursor.at ns c.args.index
    ≡ ending_at (dictionary g c) c.args.cursor.at c.in_ok-entry.entry.pattern
    ∷ occurrences_from (dictionary g c) (text g c) c.args.cursor.at ns c.in_ok-entry.entry.next)
told g c =
    let a = c.args.automaton.now in
    let asked = c.args.input.now in
    let cursor = c.args.cursor in
    let e = rw c.get_anchored.ensures at c.in_ok-entry.ensures.0 in
    occurrences_from-entry (g.A.Automaton.matches a cursor.sid)
    c.args.index c.in_ok-entry.entry.pattern c.in_ok-entry.entry.next
    (place_of-cursor (dictionary g c) asked c.requires.standard
    c.requires.cursor)
    (g.met.A.Automaton.tells a asked.anchored (read_to (text g c) cursor.at) cursor.sid c.requires.cursor.reads) e

pub match_of-requires-clause-fits : goal.match_of-requires-clause-fits
match_of-requires-clause-fits g c =
    let short = (told g (goal.at.match_of-requires-clause-fits g c).In_ok-entry).0 in omega arith

pub returns : goal.returns
returns g c =
    let d = (goal.at.returns g c).In_ok-entry in (
      ending_at (dictionary g d) c.args.cursor.at c.in_ok-entry.entry.pattern,
      c.in_ok-entry.entry.next,
      ap Some c.match_of.ensures,
      refl,
      (told g d).1,
    )

pub returns-in_err-entry : goal.returns-in_err-entry
returns-in_err-entry g c =
    let m = (g.A.Automaton.built c.args.automaton.now).dictionary in
    let t = walked (search_of m c.args.input.now.anchored c.args.input.now.haystack c.args.input.now.span)
    c.args.cursor in
    let ns = g.A.Automaton.matches c.args.automaton.now c.args.cursor.sid in
    rw c.from_residual.ensures
    (occurrences_from-none m t c.args.cursor.at ns c.args.index (rw c.get_anchored.ensures at c.in_err-entry.ensures))
