-- Moving notes down keeps those before and after them.
use Rattle.std.proofs.Common.{◌-◌, ◌+◌, take, drop, ap, refl, ◌∙◌}
use Rattle.ac_automaton.proofs.lanes.GatherLemmas.{moved-front, moved-later}
use Rattle.ac_automaton.proofs.lanes.move_down.Goals as goal

pub returns : goal.returns
returns c =
    let order = c.requires.order in
    let from = c.args.from in
    let end = c.args.end in
    let to = c.args.to in
    let moved = c.copy_within.ensures.after in
    record {
      end = refl;
      moved = ap (λ l. take (to + (end - from)) l) moved
          ∙ moved-front c.args.notes.now from end to order.0 order.1 order.2;
      later = λ k past. ap (λ l. drop k l) moved
          ∙ moved-later c.args.notes.now from end to order.0 order.1 order.2 k past;
    }
