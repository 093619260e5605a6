-- Where a search isn't anchored every entry counts, so the first one is taken.
use Rattle.std.proofs.Common.{◌≡◌, ◌-◌, ◌∙◌, sym, ap, arith}
use Rattle.std.proofs.lemmas.Grind.{common_steps}
use Rattle.ac_input.specs.declared.search.Anchored.TheVariants.{No}
use Rattle.ac_automaton.specs.InMemory.Find.Cursor.{taken}
use Rattle.ac_automaton.proofs.in_memory.find.TakenLemmas.{taken-free}
use Rattle.ac_automaton.proofs.in_memory.find.match_at.Goals as goal

pub returns-in-No : goal.returns-in-No
returns-in-No g c =
    let m = (g.A.Automaton.built c.args.automaton.now).dictionary in
    let cursor = c.args.cursor.now in
    let ns = g.A.Automaton.matches c.args.automaton.now cursor.sid in
    let free : c.args.input.now.anchored ≡ No = sym c.get_anchored.ensures ∙ c.in-No.is in
    taken-free m cursor.at (cursor.at - cursor.from) ns c.first_match.ensures
    ∙ ap (λ a. taken m a cursor.at (cursor.at - cursor.from) ns) (sym free)

pub is_match-requires : goal.is_match-requires
is_match-requires g c = grind (arith, common_steps)

pub first_match-requires-clause-reads : goal.first_match-requires-clause-reads
first_match-requires-clause-reads g c = grind (arith, common_steps)
