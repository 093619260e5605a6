-- The table is made from an automaton.
use Rattle.std.proofs.Common.{◌≡◌, ◌+◌, ◌-◌, ◌*◌, true, false, ap, ap₂, subst, ◌∙◌, arith, refl}
use Rattle.std.proofs.lemmas.Result.{err_from_is_err_and}
use Rattle.ac_input.specs.declared.search.Anchored.TheVariants.{No, Yes}
use Rattle.ac_input.specs.Dfa.{dfa_states}
use Rattle.ac_noncontiguous.specs.Nfa.ReadCalls.{state_len, special_in}
use Rattle.ac_tables.specs.Dfa.Table.{dfa_number_of}
use Rattle.ac_tables.specs.Dfa.Filling.{IsOverflow}
use Rattle.ac_tables.proofs.dfa.BuildLemmas.{IsStrideOf, rows-some, size-refused, counted-fit, special-within, number-kept, stride-is, table-for}
use Rattle.ac_tables.proofs.dfa.CellLemmas.{last-match_past}
use Rattle.ac_tables.proofs.dfa.table.Table.of.Goals as goal

pub check_size-requires : goal.check_size-requires
check_size-requires c =
    let rows : c.rows-rows.result ≡ dfa_states c.args.kind (state_len c.args.nfa.now) = c.rows-rows.ensures
    ∙ ap (dfa_states c.args.kind) c.state_len.ensures.value in
    let some = rows-some c.args.nfa.now c.args.kind c.special-special.ensures.whole in
    omega (arith, rows, some)

pub returns-in_err-check_size-clause-refused : goal.returns-in_err-check_size-clause-refused
returns-in_err-check_size-clause-refused c =
    let rows : c.rows-rows.result ≡ dfa_states c.args.kind (state_len c.args.nfa.now) = c.rows-rows.ensures
    ∙ ap (dfa_states c.args.kind) c.state_len.ensures.value in
    let over = subst (λ n. IsOverflow ((n - 1) * c.stride-stride.result) c.in_err-check_size.field-0.0) rows
    c.in_err-check_size.ensures.refused in
    let p = err_from_is_err_and c.from_residual-in_err-check_size.result c.from_residual-in_err-check_size.ensures.1 in
    rw (p.1, p.2)
    (size-refused c.args.nfa.now c.args.kind c.args.classed c.in_ok-classes.classes c.stride-stride.result
    c.in_err-check_size.field-0.0 c.special-special.ensures.whole c.in_ok-classes.ensures.classes
    c.stride-stride.ensures.value over)

pub invariant_of-filler : goal.invariant_of-filler
invariant_of-filler c =
    let whole = c.special-special.ensures.whole in
    let fit = counted-fit c.args.classed c.args.kind c.in_ok-classes.classes whole c.in_ok-classes.ensures.classes
    c.stride-stride.ensures.value c.stride-stride.ensures.fits c.rows-rows.ensures c.state_len.ensures.value
    c.in_ok-check_size.ensures.fits in
    record { starts = ap (λ s. s.start_unanchored_id) c.special-special.ensures.value; fit = fit }

pub number-requires : goal.number-requires
number-requires c =
    let whole = c.special-special.ensures.whole in
    let is = c.special-special.ensures.value in
    let fit = counted-fit c.args.classed c.args.kind c.in_ok-classes.classes whole c.in_ok-classes.ensures.classes
    c.stride-stride.ensures.value c.stride-stride.ensures.fits c.rows-rows.ensures c.state_len.ensures.value
    c.in_ok-check_size.ensures.fits in
    number-kept No fit is (special-within whole is).0

pub number-requires-2 : goal.number-requires-2
number-requires-2 c =
    let whole = c.special-special.ensures.whole in
    let is = c.special-special.ensures.value in
    let fit = counted-fit c.args.classed c.args.kind c.in_ok-classes.classes whole c.in_ok-classes.ensures.classes
    c.stride-stride.ensures.value c.stride-stride.ensures.fits c.rows-rows.ensures c.state_len.ensures.value
    c.in_ok-check_size.ensures.fits in
    number-kept Yes fit is (special-within whole is).1

pub number-requires-3 : goal.number-requires-3
number-requires-3 c =
    let whole = c.special-special.ensures.whole in
    let is = c.special-special.ensures.value in
    let fit = counted-fit c.args.classed c.args.kind c.in_ok-classes.classes whole c.in_ok-classes.ensures.classes
    c.stride-stride.ensures.value c.stride-stride.ensures.fits c.rows-rows.ensures c.state_len.ensures.value
    c.in_ok-check_size.ensures.fits in
    number-kept Yes fit is (special-within whole is).2

pub returns-clause-made : goal.returns-clause-made
returns-clause-made c =
    let nfa = c.args.nfa.now in
    let kind = c.args.kind in
    let stride = c.stride-stride.result in
    let whole = c.special-special.ensures.whole in
    let fit = counted-fit c.args.classed c.args.kind c.in_ok-classes.classes whole c.in_ok-classes.ensures.classes
    c.stride-stride.ensures.value c.stride-stride.ensures.fits c.rows-rows.ensures c.state_len.ensures.value
    c.in_ok-check_size.ensures.fits in
    let start : c.special-special.result.start_unanchored_id ≡ (special_in nfa).start_unanchored_id =
    ap (λ x. x.start_unanchored_id) c.special-special.ensures.value in
    let next : c.special-special.result.start_anchored_id ≡ (special_in nfa).start_unanchored_id + 1 =
    ap (λ x. x.start_anchored_id) c.special-special.ensures.value in
    let last : c.special-special.result.max_match_id ≡ (special_in nfa).max_match_id =
    ap (λ x. x.max_match_id) c.special-special.ensures.value in
    let long : IsStrideOf _ stride =
    record {
      is = stride-is _ stride c.stride2.result c.stride-stride.ensures.value c.stride2.ensures.value;
      wide = c.stride2.ensures.fits;
      least = c.stride2.ensures.value;
    } in
    table-for nfa _ c.args.classed stride c.special-special.ensures.whole c.in_ok-classes.ensures.classes long fit
    c.in_ok-trans.ensures c.in_ok-lists.ensures
    (c.number.ensures ∙ ap (λ n. dfa_number_of kind n stride false n) start)
    (c.number-2.ensures ∙ ap₂ (λ n i. dfa_number_of kind n stride true i) start next)
    (c.number-3.ensures ∙ ap₂ (λ n i. dfa_number_of kind n stride true i) start last)

pub rows-rows-requires-clause-some : goal.rows-rows-requires-clause-some
rows-rows-requires-clause-some c =
    let whole = c.special-special.ensures.whole in
    let w = special-within whole refl in
    omega (arith, last-match_past c.args.nfa.now whole, w.2, c.state_len.ensures.value)
