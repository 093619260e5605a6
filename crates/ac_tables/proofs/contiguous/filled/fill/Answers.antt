-- The rows are those of the automaton, one for each place.
use Rattle.std.proofs.Common.{refl, ap, arith}
use Rattle.ac_noncontiguous.specs.Nfa.ReadCalls.{state_len}
use Rattle.ac_tables.proofs.dfa.BuildLemmas.{stride-is}
use Rattle.ac_tables.proofs.contiguous.LaidRowLemmas.{plan-fit, rows-from, rows-len}
use Rattle.ac_tables.proofs.contiguous.filled.fill.Goals as goal

pub invariant_of-filler : goal.invariant_of-filler
invariant_of-filler c = record {
  starts = ap (λ s. s.start_unanchored_id) c.special-start.ensures.value;
  fit = plan-fit c.args.nfa.now c.args.classes.now c.args.stride c.special-start.ensures.whole c.requires.chosen
      c.requires.stride c.requires.small;
}

pub invariant_of-rows : goal.invariant_of-rows
invariant_of-rows c =
    let is = stride-is _ c.args.stride c.stride2.result c.requires.stride.least c.stride2.ensures.value in
    let len = c.in_ok-trans.ensures.len in
    record {
      wide = c.stride2.ensures.fits;
      len = rows-len c.in_ok-trans.trans.items c.args.places.items (state_len c.args.nfa.now) c.args.stride
          c.stride2.result c.requires.places len is;
      few = omega (arith, len, c.requires.small);
      rise = c.requires.rise;
    }

pub returns-clause-made : goal.returns-clause-made
returns-clause-made c =
    let is = stride-is _ c.args.stride c.stride2.result c.requires.stride.least c.stride2.ensures.value in
    rows-from c.args.nfa.now c.args.classes.now c.args.places.items _ c.args.stride refl is
    (plan-fit c.args.nfa.now c.args.classes.now c.args.stride c.special-start.ensures.whole c.requires.chosen
    c.requires.stride c.requires.small) c.in_ok-trans.ensures
