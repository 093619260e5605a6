-- One more place is found, or a place is too great.
use Rattle.std.proofs.Common.{◌+◌, refl, sym, subst, arith, rules}
use Rattle.std.proofs.lemmas.Result.{err_from_is_err_and}
use Rattle.ac_input.specs.Number.{greatest_number}
use Rattle.ac_noncontiguous.specs.declared.error.BuildErrorKind.TheVariants.{StateIDOverflow}
use Rattle.ac_tables.specs.Contiguous.Build.{ArePlacesOf, IsRefusedFor}
use Rattle.ac_tables.proofs.contiguous.LenLemmas.{places-more, before-more}
use Rattle.ac_tables.proofs.contiguous.places.lay_out.Goals as goal

pub returns-in_err-place_of-clause-refused : goal.returns-in_err-place_of-clause-refused
returns-in_err-place_of-clause-refused c =
    let p = err_from_is_err_and c.from_residual-in_err-place_of.result c.from_residual-in_err-place_of.ensures.1 in
    let r = c.in_err-place_of.ensures.refused in
    let refused : IsRefusedFor c.args.nfa.now c.args.dense_depth c.args.classes.now
    (StateIDOverflow greatest_number c.loop-state.before) =
    (refl, r.1, (c.loop-state.state, omega arith, r.0, omega (arith, r.1, c.loop-state.invariant.before))) in
    rw (p.1, p.2) (subst (IsRefusedFor c.args.nfa.now c.args.dense_depth c.args.classes.now) (sym r.2) refused)

pub loop-state-preserved : goal.loop-state-preserved
loop-state-preserved c =
    let nfa = c.args.nfa.now in
    let classes = c.args.classes.now in
    let state = c.loop-state.state in
    let placed = c.in_ok-place_of.ensures.placed in
    let more = places-more nfa c.args.dense_depth classes c.loop-state.places.items state c.in_ok-place_of.field-0
    c.loop-state.before placed.0 placed.1 c.loop-state.invariant.before c.loop-state.invariant.made in
    record {
      made = subst (ArePlacesOf nfa c.args.dense_depth classes (state + 1)) (sym c.in_ok-push.ensures) more;
      before = before-more nfa c.args.dense_depth classes state c.loop-state.before c.len_of.result
          c.loop-state.invariant.before (search rules);
    }

pub returns-in_err-place_of-clause-made : goal.returns-in_err-place_of-clause-made
returns-in_err-place_of-clause-made c =
    let p = err_from_is_err_and c.from_residual-in_err-place_of.result c.from_residual-in_err-place_of.ensures.1 in
    rw p.1 (search rules)

pub returns-in_err-push-clause-made : goal.returns-in_err-push-clause-made
returns-in_err-push-clause-made c =
    let p = err_from_is_err_and c.from_residual-in_err-push.result c.from_residual-in_err-push.ensures.1 in
    rw p.1 (search rules)

pub returns-in_err-push-clause-refused : goal.returns-in_err-push-clause-refused
returns-in_err-push-clause-refused c =
    let p = err_from_is_err_and c.from_residual-in_err-push.result c.from_residual-in_err-push.ensures.1 in
    rw (p.1, p.2) (search rules)
