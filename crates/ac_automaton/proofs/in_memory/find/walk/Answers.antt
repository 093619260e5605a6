-- How the walk ends, and how it goes on.
use Rattle.std.proofs.Common.{◌≡◌, ◌∙◌, ◌&&◌, ◌-◌, sym, ap, arith}
use Rattle.std.proofs.lemmas.Grind.{common_steps}
use Rattle.std.proofs.lemmas.Bool.{false≢true}
use Rattle.std.specs.Option.{is_some}
use Rattle.ac_automaton.specs.declared.in_memory.find.cursor.End.TheVariants.{Idle}
use Rattle.ac_automaton.specs.Automaton.{kind_asked}
use Rattle.ac_automaton.specs.InMemory.Find.{WalkSays, IsWalkCost}
use Rattle.ac_automaton.proofs.lemmas.CursorLemmas.{alive-from}
use Rattle.ac_automaton.proofs.lemmas.WalkLemmas.{none-listed}
use Rattle.ac_automaton.proofs.lemmas.WalkEndLemmas.{IsDone, Ended, Died, Won, won-found, not_won-none, is_none-found}
use Rattle.ac_automaton.proofs.in_memory.find.FindWalkLemmas.{HasAsked, rest, text_read, walks-first, asks, asked-looks, asked-says, asked-work, asked-back, asked-none, asked-on, back-looks}
use Rattle.ac_automaton.proofs.in_memory.find.walk.Given.{Over}
use Rattle.ac_automaton.proofs.in_memory.find.walk.Goals as goal
use Rattle.ac_automaton.proofs.in_memory.find.walk.Goals.{then-first_wins, else-first_wins, then-won-via-then-won, then-won-via-else-won+then-cursor-end, then-won-via-else-won+else-cursor-end+then-is_dead}

pub loop-best-init : goal.loop-best-init
loop-best-init g c =
    walks-first g.A.Automaton c.args.automaton.now c.args.input.now c.args.at c.args.start _ c.requires.starts
    c.requires.from c.requires.to (rw c.end-end.ensures.value at c.end-end.ensures.within)

-- the walk is over
over : (g : Over) (c : goal.Joined-then-won g)
    → HasAsked g.A.Automaton c.args.automaton.now c.args.input.now c.args.at c.loop-best.cursor c.or-best.result
    c.args.steps.now c.loop-best.steps
over g c =
    let a = c.args.automaton.now in
    let asked = c.args.input.now in
    let met = g.met.A.Automaton in
    asks g.A.Automaton a asked c.args.at c.loop-best.cursor c.loop-best.best c.match_at.result c.or-best.result _ _
    (met.tells a asked.anchored) c.loop-best.invariant c.match_at.ensures c.or-best.ensures

-- why the walk is over
over-done : (g : Over) (c : goal.Joined-then-won g)
    → IsDone (g.A.Automaton.built c.args.automaton.now).dictionary c.args.input.now.anchored
    (kind_asked (g.A.Automaton.built c.args.automaton.now) c.args.input.now) c.args.input.now.haystack
    (rest c.args.input.now c.loop-best.cursor) c.loop-best.cursor.at c.or-best.result
over-done g c =
    let asked = c.args.input.now in
    let cursor = c.loop-best.cursor in
    let won : c.if-first_wins.won ≡ (c.takes_first-first_wins.result && is_some c.or-best.result) =
    elim c.if-first_wins.branch [
      | then-first_wins v ↦
          v.won-is ∙ v.is_some-won.ensures ∙ ap (λ b. b && is_some c.or-best.result) (sym v.if-first_wins.true)
      | else-first_wins v ↦
          v.won-is ∙ v.if-first_wins.false ∙ ap (λ b. b && is_some c.or-best.result) (sym v.if-first_wins.false)
    ] in
    elim c.then-won.branch [
      | then-won-via-then-won w ↦
          let found = won-found _ _ c.or-best.result won w.if-won.true in
          Won found.1.0 (c.takes_first-first_wins.ensures.0 found.0) found.1.1
      | then-won-via-else-won+then-cursor-end w ↦ Ended (w.if-cursor-end.true ∙ c.end-end.ensures.value)
      | then-won-via-else-won+else-cursor-end+then-is_dead w ↦
          Died ((w.is_dead.ensures asked.anchored (text_read asked cursor) c.loop-best.invariant.stands.reads).0
          w.if-is_dead.true)
    ]

pub returns-then-won-clause-says : goal.returns-then-won-clause-says
returns-then-won-clause-says g c =
    asked-says
    (over g c) (over-done g c)

pub returns-then-won-clause-work : goal.returns-then-won-clause-work
returns-then-won-clause-work g c =
    asked-work
    (over g c)

pub returns-then-won-clause-looks : goal.returns-then-won-clause-looks
returns-then-won-clause-looks g c =
    asked-looks
    (over g c) (over-done g c)

-- what the walk knows where it is back at the start
asked-there : (g : Over) (c : goal.Then-is_back g)
    → HasAsked g.A.Automaton c.args.automaton.now c.args.input.now c.args.at c.loop-best.cursor c.or-best.result
    c.args.steps.now c.loop-best.steps
asked-there g c =
    let a = c.args.automaton.now in
    let asked = c.args.input.now in
    let met = g.met.A.Automaton in
    asks g.A.Automaton a asked c.args.at c.loop-best.cursor c.loop-best.best c.match_at.result c.or-best.result _ _
    (met.tells a asked.anchored) c.loop-best.invariant c.match_at.ensures c.or-best.ensures

-- the walk is back at the start
back : (g : Over) (c : goal.Then-is_back g)
    → WalkSays (g.A.Automaton.built c.args.automaton.now) c.args.input.now c.args.at (Idle c.loop-best.cursor.at)
    × IsWalkCost (g.A.Automaton.built c.args.automaton.now) c.args.input.now c.args.at (Idle c.loop-best.cursor.at)
    c.args.steps.now c.loop-best.steps
back g c =
    let a = c.args.automaton.now in
    let m = (g.A.Automaton.built a).dictionary in
    let asked = c.args.input.now in
    let cursor = c.loop-best.cursor in
    let best = c.or-best.result in
    let has = asked-there g c in
    let none = is_none-found c.is_none.result best c.is_none.ensures c.if-is_none.true in
    let free = c.is_back.ensures.free c.if-is_back.true in
    let listed = none-listed m asked.anchored cursor.at (cursor.at - cursor.from) c.loop-best.best c.match_at.result
    best (g.A.Automaton.matches a cursor.sid) free c.match_at.ensures c.or-best.ensures none in
    let live = c.is_back.ensures.empty asked.anchored _ has.stands.reads c.if-is_back.true listed in
    asked-back has free none c.if-cursor-at.true live

pub returns-then-is_back-clause-says : goal.returns-then-is_back-clause-says
returns-then-is_back-clause-says g c = (back g c).0

pub returns-then-is_back-clause-work : goal.returns-then-is_back-clause-work
returns-then-is_back-clause-work g c = (back g c).1

pub returns-then-is_back-clause-looks : goal.returns-then-is_back-clause-looks
returns-then-is_back-clause-looks g c =
    back-looks
    (asked-there g c)

pub loop-best-preserved : goal.loop-best-preserved
loop-best-preserved g c =
    let a = c.args.automaton.now in
    let m = (g.A.Automaton.built a).dictionary in
    let asked = c.args.input.now in
    let met = g.met.A.Automaton in
    let cursor = c.loop-best.cursor in
    let best = c.or-best.result in
    let has = asks g.A.Automaton a asked c.args.at cursor c.loop-best.best c.match_at.result best _ _
    (met.tells a asked.anchored) c.loop-best.invariant c.match_at.ensures c.or-best.ensures in
    let won : c.if-first_wins.won ≡ (c.takes_first-first_wins.result && is_some best) =
    elim c.if-first_wins.branch [
      | then-first_wins v ↦ v.won-is ∙ v.is_some-won.ensures ∙ ap (λ b. b && is_some best) (sym v.if-first_wins.true)
      | else-first_wins v ↦ v.won-is ∙ v.if-first_wins.false ∙ ap (λ b. b && is_some best) (sym v.if-first_wins.false)
    ] in
    let alive =
    alive-from m _ _
    (λ dead. false≢true (sym c.if-is_dead.false ∙ (c.is_dead.ensures asked.anchored _ has.stands.reads).1 dead)) in
    let on = c.read_past_starts-cursor.ensures in
    asked-on c.read_past_starts-cursor.result _ has
    (λ standard. not_won-none _ _ best won c.if-won.false (c.takes_first-first_wins.ensures.1 standard)) alive on.stands
    on.from on.on

pub read_past_starts-cursor-requires-clause-none : goal.read_past_starts-cursor-requires-clause-none
read_past_starts-cursor-requires-clause-none g c = λ is free.
    let a = c.args.automaton.now in
    let asked = c.args.input.now in
    let best = c.or-best.result in
    let has = asks g.A.Automaton a asked c.args.at c.loop-best.cursor c.loop-best.best c.match_at.result best _ _
    (g.met.A.Automaton.tells a asked.anchored) c.loop-best.invariant c.match_at.ensures c.or-best.ensures in
    asked-none has free (is_none-found c.is_none-none_yet.result best c.is_none-none_yet.ensures is)

pub is_back-requires : goal.is_back-requires
is_back-requires g c = grind (arith, common_steps)

pub is_dead-requires : goal.is_dead-requires
is_dead-requires g c = grind (arith, common_steps)

pub returns-then-is_back-clause-free : goal.returns-then-is_back-clause-free
returns-then-is_back-clause-free g c = grind (arith, common_steps)

pub match_at-requires : goal.match_at-requires
match_at-requires g c = grind (arith, common_steps)

pub returns-then-won-clause-free : goal.returns-then-won-clause-free
returns-then-won-clause-free g c = grind (arith, common_steps)

pub loop-best-smaller : goal.loop-best-smaller
loop-best-smaller g c = grind (arith, common_steps)
