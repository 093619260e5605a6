-- What four lanes note, a search takes.
use Rattle.std.proofs.lemmas.Grind.{common_steps}
use Rattle.std.proofs.Common.{◌<◌, ◌*◌, ◌-◌, ◌+◌, [], length, arith, refl, subst, sym}
use Rattle.ac_input.specs.declared.search.Anchored.TheVariants.{No}
use Rattle.ac_automaton.specs.Ahead.{CutBytes, IsLaneCut, ReadsAheadBy, is_up_to}
use Rattle.ac_automaton.specs.Automaton.{IsReached}
use Rattle.ac_automaton.proofs.lanes.LaneLemmas.{walked-begun}
use Rattle.ac_automaton.proofs.lanes.NoteLemmas.{lanes-read, reads-nothing}
use Rattle.ac_automaton.proofs.lanes.note_ahead.Goals as goal

pub returns-then-as_u32-clause-reads : goal.returns-then-as_u32-clause-reads
returns-then-as_u32-clause-reads g c =
    let a = c.args.automaton.now in
    reads-nothing (IsLaneCut c.args.after.now c.args.start (g.A.LookUp.matches a)) (g.A.LookUp.built a)
    (g.A.LookUp.Reaches a No) (g.A.LookUp.matches a) c.args.anew c.args.sid c.args.bytes.now c.args.at c.args.len
    c.none.result.read c.none.result.notes c.args.notes.now c.args.steps.now c.none.ensures

pub returns-in_default-clause-reads : goal.returns-in_default-clause-reads
returns-in_default-clause-reads g c =
    let a = c.args.automaton.now in
    reads-nothing (IsLaneCut c.args.after.now c.args.start (g.A.LookUp.matches a)) (g.A.LookUp.built a)
    (g.A.LookUp.Reaches a No) (g.A.LookUp.matches a) c.args.anew c.args.sid c.args.bytes.now c.args.at c.args.len
    c.none-in_default.result.read c.none-in_default.result.notes c.args.notes.now c.args.steps.now
    c.none-in_default.ensures

pub read_lanes-lanes-requires-clause-walked : goal.read_lanes-lanes-requires-clause-walked
read_lanes-lanes-requires-clause-walked g c =
    let R = g.A.LookUp.Reaches c.args.automaton.now No in
    let stops = is_up_to c.args.last in
    let bytes = c.args.bytes.now in
    let slots = length c.args.notes.now in
    let begun = c.in-Some.begun in
    let begin : CutBytes c.args.after.now bytes c.args.at c.args.sid c.args.start (c.args.at + c.args.len) slots begun =
    c.in-Some.ensures in
    let start : IsReached R c.args.start = ∣ ([], c.requires.may.starts) ∣₁ in
    let within = c.requires.within in
    record {
      a = walked-begun R stops bytes begin.a
          (omega (arith, begin.cut_b.within, within)) c.requires.reached;
      b = walked-begun R stops bytes begin.b
          (omega (arith, begin.cut_c.within, within)) start;
      c = walked-begun R stops bytes begin.c
          (omega (arith, begin.cut_d.within, within)) start;
      d = walked-begun R stops bytes begin.d (omega (arith, begin.last, within))
          start;
    }

pub returns-clause-reads : goal.returns-clause-reads
returns-clause-reads g c =
    let a = c.args.automaton.now in
    let R = g.A.LookUp.Reaches a No in
    let M = g.A.LookUp.matches a in
    let may = c.requires.may in
    let past : c.args.last < c.args.start = omega arith in
    let lanes = c.read_lanes-lanes.ensures in
    subst (λ l. ReadsAheadBy (IsLaneCut c.args.after.now c.args.start M) (g.A.LookUp.built a) R M c.args.anew c.args.sid
    c.args.bytes.now c.args.at c.args.len (4 * (c.read_lanes-lanes.result.a.at - c.args.at)) l c.args.steps.now
    c.read_lanes-lanes.new.steps) (sym c.gather.ensures.gathered)
    (lanes-read (IsLaneCut c.args.after.now c.args.start M) (g.A.LookUp.built a) R M c.args.anew c.args.sid c.args.start
    c.args.bytes.now c.args.at c.args.len (length c.args.notes.now) c.args.after.now c.in-Some.begun
    c.read_lanes-lanes.result c.read_lanes-lanes.new.notes c.args.steps.now c.read_lanes-lanes.new.steps may.lanes
    (λ kind byte small is. record { only = may.frees kind byte small is; quiet = may.quiet c.args.start past })
    (λ byte small is. record { small = small; is = is; state = refl; quiet = may.quiet c.args.start past })
    c.in-Some.ensures lanes.noted lanes.all lanes.read)

pub returns-then-as_u32-clause-few : goal.returns-then-as_u32-clause-few
returns-then-as_u32-clause-few g c = grind (arith, common_steps)

pub begin-requires : goal.begin-requires
begin-requires g c = grind (arith, common_steps)

pub returns-in_default-clause-few : goal.returns-in_default-clause-few
returns-in_default-clause-few g c = grind (arith, common_steps)

pub read_lanes-lanes-requires-clause-may : goal.read_lanes-lanes-requires-clause-may
read_lanes-lanes-requires-clause-may g c = grind (arith, common_steps)

pub read_lanes-lanes-requires-clause-anew : goal.read_lanes-lanes-requires-clause-anew
read_lanes-lanes-requires-clause-anew g c = grind (arith, common_steps)

pub read_lanes-lanes-requires-clause-begun : goal.read_lanes-lanes-requires-clause-begun
read_lanes-lanes-requires-clause-begun g c = grind (arith, common_steps)

pub read_lanes-lanes-requires-clause-apart : goal.read_lanes-lanes-requires-clause-apart
read_lanes-lanes-requires-clause-apart g c = grind (arith, common_steps)

pub gather-requires-clause-first : goal.gather-requires-clause-first
gather-requires-clause-first g c = grind (arith, common_steps)

pub gather-requires-clause-made : goal.gather-requires-clause-made
gather-requires-clause-made g c = grind (arith, common_steps)

pub gather-requires-clause-apart : goal.gather-requires-clause-apart
gather-requires-clause-apart g c = grind (arith, common_steps)

pub overflow_sub-result : goal.overflow_sub-result
overflow_sub-result g c = grind (arith, common_steps)

pub overflow_mul-result : goal.overflow_mul-result
overflow_mul-result g c = grind (arith, common_steps)

pub returns-clause-few : goal.returns-clause-few
returns-clause-few g c = grind (arith, common_steps)
