-- A walk from the start masks the whole text.
use Rattle.std.proofs.Common.{refl, [], arith}
use Rattle.std.proofs.lemmas.Grind.{common_steps}
use Rattle.ac_automaton.proofs.masking.MaskingLemmas.{mask-cost}
use Rattle.ac_automaton.proofs.in_memory.mask.mask_all.Goals as goal

pub returns-clause-masked : goal.returns-clause-masked
returns-clause-masked g c = (
  c.in_ok-start.ensures.can.0,
  c.in_ok-start.ensures.can.1,
  c.mask_from.ensures.masks.masked [] 0 c.in_ok-start.ensures.start refl refl,
)

pub returns-clause-cost : goal.returns-clause-cost
returns-clause-cost g c =
    let a = c.args.automaton.now in
    mask-cost (g.A.Automaton.built a) (g.A.Automaton.Reaches a) c.in_ok-start.start c.in_ok-start.ensures.start
    c.mask_from.ensures.cost

pub mask_from-requires-clause-reached : goal.mask_from-requires-clause-reached
mask_from-requires-clause-reached g c = grind (arith, common_steps)
