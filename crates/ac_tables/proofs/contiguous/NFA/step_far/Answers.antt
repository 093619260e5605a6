-- The words lead where the byte does.
use Rattle.std.proofs.Common.{◌≡◌, [], ◌∷◌, sym, subst, arith}
use Rattle.ac_input.specs.declared.search.Anchored.TheVariants.{No}
use Rattle.ac_automaton.specs.Automaton.{IsReached, IsReadCost, Leads}
use Rattle.ac_automaton.proofs.lemmas.CursorLemmas.{reached-on}
use Rattle.ac_tables.specs.Contiguous.Near.{numbered_place}
use Rattle.ac_tables.specs.Contiguous.Reads.{contiguous_built_as, IsContiguousRead}
use Rattle.ac_tables.specs.Contiguous.Rows.{row_len}
use Rattle.ac_tables.proofs.contiguous.NearLemmas.{far-placed, near-fits}
use Rattle.ac_tables.proofs.contiguous.NFA.step_far.Goals as goal

pub look_up-next-requires : goal.look_up-next-requires
look_up-next-requires c =
    let near = c.args.near.now in
    let len = near.len in
    let past = c.requires.past in
    let at = far-placed near.places.items (row_len near) c.args.number (omega (arith, len, past)) in
    let all = c.len.ensures in
    subst (IsReached (IsContiguousRead c.args.self.now No))
    (omega (arith, at, len, all, c.must-place.ensures, c.as_usize.ensures.value)) c.requires.reached

pub number_of-requires : goal.number_of-requires
number_of-requires c =
    let a = c.args.self.now in
    let near = c.args.near.now in
    let len = near.len in
    let past = c.requires.past in
    let at = far-placed near.places.items (row_len near) c.args.number (omega (arith, len, past)) in
    let all = c.len.ensures in
    let here : numbered_place near c.args.number ≡ c.must-place.result =
    omega (arith, at, len, all, c.must-place.ensures, c.as_usize.ensures.value) in
    near-fits a near c.look_up-next.result c.requires.held
    (reached-on (IsContiguousRead a No) c.must-place.result _ c.look_up-next.result
    (subst (IsReached (IsContiguousRead a No)) here c.requires.reached) c.look_up-next.ensures.next)

pub returns : goal.returns
returns c =
    let a = c.args.self.now in
    let near = c.args.near.now in
    let len = near.len in
    let past = c.requires.past in
    let at = far-placed near.places.items (row_len near) c.args.number (omega (arith, len, past)) in
    let all = c.len.ensures in
    let here : c.must-place.result ≡ numbered_place near c.args.number =
    omega (arith, at, len, all, c.must-place.ensures, c.as_usize.ensures.value) in
    record {
      one = c.number_of.ensures.0;
      leads =
          subst (λ p. Leads (IsContiguousRead a No) p (c.args.byte ∷ []) (numbered_place near c.number_of.result)) here
          (subst (λ p. Leads (IsContiguousRead a No) c.must-place.result (c.args.byte ∷ []) p)
          (sym c.number_of.ensures.1) c.look_up-next.ensures.next);
      cost = subst (λ p. IsReadCost (contiguous_built_as a) (IsContiguousRead a) No p (c.args.byte ∷ []) c.args.steps.now
          c.look_up-next.new.steps) here c.look_up-next.ensures.cost;
    }
