-- Lanes read on, and store their notes.
use Rattle.std.proofs.Common.{◌≡◌, ◌≤◌, length}
use Rattle.std.specs.Prelude.{unwrap_or}
use Rattle.ac_automaton.specs.Ahead.{HasMore}
use Rattle.ac_automaton.proofs.lanes.StoreLemmas.{StoreInTurn}
use Rattle.ac_input.specs.declared.search.Anchored.TheVariants.{No}
use Rattle.ac_input.specs.declared.search.MatchKind.TheVariants.{Standard}
use Rattle.ac_automaton.specs.declared.lanes.Lanes.{Lanes}
use Rattle.ac_automaton.proofs.lanes.CountLemmas.{read-none}
use Rattle.ac_automaton.proofs.lanes.TurnLemmas.{last-all, last-noted, noted-none, own-places, stay-all, stays-last, stays-read, turn-noted, turn-walked}
use Rattle.ac_automaton.proofs.lanes.read_lanes.Goals as goal

pub loop-left-init : goal.loop-left-init
loop-left-init g c =
    let a = c.args.automaton.now in
    let none = noted-none (g.A.LookUp.Reaches a No) (g.A.LookUp.matches a) c.args.anew
    ((g.A.LookUp.built a).dictionary.kind ≡ Standard) c.args.bytes.now c.args.notes.now (length c.args.notes.now) in
    let begun = c.requires.begun in
    record {
      left = c.left-left.ensures;
      walked = c.requires.walked;
      noted = record {
        a = none c.args.begun.a begun.a;
        b = none c.args.begun.b begun.b;
        c = none c.args.begun.c begun.c;
        d = none c.args.begun.d begun.d;
      };
      read = read-none c.args.begun c.args.steps.now;
    }

pub loop-left-preserved : goal.loop-left-preserved
loop-left-preserved g c =
    let may = c.requires.may.2 in
    let lanes = c.loop-left.lanes in
    let gone = c.walk-gone.result in
    let after : Lanes =
    record {
      a = c.settle.result;
      b = c.settle-in-loop-left.result;
      c = c.settle-in-loop-left-2.result;
      d = c.settle-in-loop-left-3.result;
    } in
    let inv = c.loop-left.invariant in
    let went = c.walk-gone.ensures in
    let stored : StoreInTurn (λ lane. lane.sid ≤ c.args.last) (λ lane. unwrap_or c.args.anew lane.sid) _ _ _ _ _ gone
    after =
    record {
      a = c.settle.ensures;
      b = c.settle-in-loop-left.ensures;
      c = c.settle-in-loop-left-2.ensures;
      d = c.settle-in-loop-left-3.ensures;
    } in
    let own = own-places _ _ _ _ _ _ may.quiet may.some c.args.begun lanes c.args.notes.now c.loop-left.notes
    c.requires.begun inv.noted c.loop-left.auto.notes in
    record {
      left = c.left-left-in-loop-left.ensures;
      walked = turn-walked _ _ _ _ _ _ may.quiet may.some c.args.begun lanes after _ _ _ _ _ c.requires.apart own
          inv.walked inv.noted gone c.requires.anew went.gone stored;
      noted = turn-noted _ _ _ _ _ _ may.quiet may.some c.args.begun lanes after _ _ _ _ _ c.requires.apart own
          inv.walked inv.noted gone c.loop-left.left c.loop-left-test.true inv.left went.gone stored;
      read = stays-read inv.read went.read (stay-all stored);
    }

pub returns : goal.returns
returns g c =
    let may = c.requires.may.2 in
    let lanes = c.loop-left.lanes in
    let after : Lanes =
    record { a = c.finish.result; b = c.finish-2.result; c = c.finish-3.result; d = c.finish-4.result } in
    let inv = c.loop-left.invariant in
    let stored : StoreInTurn HasMore (λ lane. lane.sid) _ _ _ _ _ lanes after =
    record {
      a = c.finish.ensures;
      b = c.finish-2.ensures;
      c = c.finish-3.ensures;
      d = c.finish-4.ensures;
    } in
    let own = own-places _ _ _ _ _ _ may.quiet may.some c.args.begun lanes c.args.notes.now c.loop-left.notes
    c.requires.begun inv.noted c.loop-left.auto.notes in
    record {
      noted = last-noted _ _ _ _ _ _ may.quiet may.some c.args.begun lanes after _ _ _ _ _ c.requires.apart own
          inv.walked inv.noted stored;
      all = record {
        a = last-all _ _ c.args.anew _ _ _ may.quiet may.some _ _ lanes.a after.a inv.walked.a inv.noted.a.full
            stored.a;
        b = last-all _ _ c.args.anew _ _ _ may.quiet may.some _ _ lanes.b after.b inv.walked.b inv.noted.b.full
            stored.b;
        c = last-all _ _ c.args.anew _ _ _ may.quiet may.some _ _ lanes.c after.c inv.walked.c inv.noted.c.full
            stored.c;
        d = last-all _ _ c.args.anew _ _ _ may.quiet may.some _ _ lanes.d after.d inv.walked.d inv.noted.d.full
            stored.d;
      };
      read = stays-last inv.read (stay-all stored);
    }
