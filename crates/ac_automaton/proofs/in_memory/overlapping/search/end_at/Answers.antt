-- Where the walk is back at the start, the occurrences left begin here or later.
use Rattle.std.proofs.Common.{◌≡◌, [], length, Some, refl, ap, subst}
use Rattle.ac_input.specs.declared.search.Anchored.TheVariants.{No}
use Rattle.ac_input.specs.Dictionary.{IsLive}
use Rattle.ac_input.specs.Input.{is_anchored}
use Rattle.ac_input.specs.Tells.{Tells}
use Rattle.ac_automaton.specs.Automaton.{searched}
use Rattle.ac_automaton.specs.InMemory.Find.Cursor.{read_to, walked}
use Rattle.ac_automaton.proofs.in_memory.overlapping.OverlappingLemmas.{IsPlace, place_of-cursor}
use Rattle.ac_automaton.proofs.lemmas.CandidateLemmas.{ending_from-back, start-empty, occurrences_from-nil}
use Rattle.ac_automaton.proofs.in_memory.overlapping.search.end_at.Goals as goal

pub returns-then-is_back : goal.returns-then-is_back
returns-then-is_back g c =
    let a = c.args.automaton.now in
    let b = g.A.Automaton.built a in
    let asked = c.args.input.now in
    let cursor = c.args.cursor.now in
    let t = walked (searched b asked) cursor in
    let text = read_to t cursor.at in
    let reads = c.requires.cursor.reads in
    let ns = g.A.Automaton.matches a cursor.sid in
    let free : asked.anchored ≡ No = c.is_back.ensures.free c.if-is_back.true in
    let empty : ns ≡ [] = occurrences_from-nil b.dictionary t cursor.at ns (ap is_anchored free) c.in_default.ensures in
    let live : IsLive b.dictionary (is_anchored asked.anchored) text (Some (length text)) =
    c.is_back.ensures.empty asked.anchored text reads c.if-is_back.true empty in
    let place = subst (λ x. IsPlace b.dictionary x t cursor.at) free
    (place_of-cursor b.dictionary asked c.requires.standard
    c.requires.cursor) in
    let said = subst (λ x. Tells b.dictionary x text ns) free
    (g.met.A.Automaton.tells a asked.anchored text cursor.sid reads) in (
      refl,
      ending_from-back place
          (subst (λ x. IsLive b.dictionary (is_anchored x) text (Some (length text))) free live),
      (
        ap is_anchored free,
        λ start begins. start-empty b.dictionary t cursor.at ns (g.A.Automaton.matches a start) place said
            c.in_default.ensures
            (subst (λ x. Tells b.dictionary x [] (g.A.Automaton.matches a start)) free
            (g.met.A.Automaton.tells a asked.anchored [] start begins)),
      ),
    )
