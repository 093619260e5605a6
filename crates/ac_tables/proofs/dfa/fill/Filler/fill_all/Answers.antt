-- The starts are filled first, and then the two runs of states in order of depth.
use Rattle.std.proofs.Common.{◌≡◌, ◌<◌, ◌≤◌, ◌+◌, inl, inr, ⊎_elim, sym, ap, subst, ◌∙◌, arith}
use Rattle.ac_input.specs.declared.search.Anchored.TheVariants.{No, Yes}
use Rattle.ac_noncontiguous.specs.Nfa.ReadCalls.{special_in, fail_in}
use Rattle.ac_tables.specs.Dfa.Filling.{number_in, IsRowRight, IsUnwritten, AreRowsFilled, AreRowsUpTo, IsDone}
use Rattle.ac_tables.specs.Dfa.Fill.{row_plan_of}
use Rattle.ac_tables.proofs.dfa.FilledLemmas.{rows-none, rows-starts, rows-low, rows-high, rows-all, fresh-low, fresh-high, failure-right_start, failure-right_low, failure-right_high, met-both, met-start_own}
use Rattle.ac_tables.proofs.dfa.fill.Filler.fill_all.Goals as goal

pub fill-requires-clause-failure : goal.fill-requires-clause-failure
fill-requires-clause-failure c serves =
    let p = row_plan_of c.args.self.now in
    let start = ap (λ s. s.start_unanchored_id) c.special-special.ensures.value in
    subst (λ i. IsRowRight p No (fail_in p.nfa i) c.args.trans.now) (sym start)
    (failure-right_start p c.args.trans.now c.special-special.ensures.whole
    (rows-none p c.args.trans.now c.args.self.now.fit c.requires.len c.requires.blank) serves)

pub fill-requires-clause-blank : goal.fill-requires-clause-blank
fill-requires-clause-blank c serves =
    let p = row_plan_of c.args.self.now in
    let s = c.args.self.now.fit.source.starts in
    let start = ap (λ s. s.start_anchored_id) c.special-special.ensures.value in
    let none = rows-none p c.args.trans.now c.args.self.now.fit c.requires.len c.requires.blank in
    let fresh : ¬ IsDone (special_in p.nfa).start_unanchored_id 2 (special_in p.nfa).start_unanchored_id
    ((special_in p.nfa).start_unanchored_id + 1) = λ done.
    ⊎_elim (λ (l : (special_in p.nfa).start_unanchored_id + 1 < 2). omega (arith, l, s.0))
    (λ (r : ((special_in p.nfa).start_unanchored_id ≤ (special_in p.nfa).start_unanchored_id + 1)
    × ((special_in p.nfa).start_unanchored_id + 1 < (special_in p.nfa).start_unanchored_id)). omega (arith, r.1))
    done in
    subst (λ i. IsUnwritten p.stride (number_in p Yes i) c.args.trans.now) (sym start)
    (none.blank Yes ((special_in p.nfa).start_unanchored_id + 1) serves
    (met-start_own p.nfa c.special-special.ensures.whole) fresh)

pub loop-low-init : goal.loop-low-init
loop-low-init c =
    let p = row_plan_of c.args.self.now in
    let s = c.args.self.now.fit.source.starts in
    let start : c.special-special.result.start_unanchored_id ≡ (special_in p.nfa).start_unanchored_id =
    ap (λ s. s.start_unanchored_id) c.special-special.ensures.value in
    let anchored : c.special-special.result.start_anchored_id ≡ (special_in p.nfa).start_unanchored_id + 1 =
    ap (λ s. s.start_anchored_id) c.special-special.ensures.value in
    let at : c.as_usize-start.result ≡ (special_in p.nfa).start_unanchored_id = c.as_usize-start.ensures.value
    ∙ start in
    let none = rows-none p c.args.trans.now c.args.self.now.fit c.requires.len c.requires.blank in
    let filled =
    subst (λ u. AreRowsFilled p u ((special_in p.nfa).start_unanchored_id + 1) c.args.trans.now c.fill.new.trans) start
    (subst (λ v. AreRowsFilled p c.special-special.result.start_unanchored_id v c.args.trans.now c.fill.new.trans)
    anchored c.fill.ensures) in
    record {
      low_past = omega arith;
      low_in = omega (arith, at, s.0);
      high_past = omega arith;
      high_in = omega (arith, at, s.1, c.state_len-states.ensures.value);
      rows = subst (λ n. AreRowsUpTo p 2 (n + 2) c.fill.new.trans) (sym at)
          (rows-starts p c.args.trans.now c.fill.new.trans c.args.self.now.fit none filled);
    }

-- ---- a state of the first run

pub fill-requires-then-is_first_next-clause-failure : goal.fill-requires-then-is_first_next-clause-failure
fill-requires-then-is_first_next-clause-failure c serves =
    let p = row_plan_of c.args.self.now in
    let at = c.as_usize-start.ensures.value ∙ ap (λ s. s.start_unanchored_id) c.special-special.ensures.value in
    let first = c.is_first_next.ensures.yes c.if-is_first_next.true in
    let before : c.loop-low.low < (special_in p.nfa).start_unanchored_id =
    omega (arith, first.0, c.args.self.now.starts) in
    let i = c.loop-low.invariant in
    subst (λ sid. IsRowRight p No (fail_in p.nfa sid) c.loop-low.trans) (sym c.must-next.ensures)
    (failure-right_low p c.loop-low.low c.loop-low.high c.loop-low.trans c.special-special.ensures.whole i.low_past
    (omega (arith, at, i.high_past)) before first.1 i.rows serves)

pub fill-requires-then-is_first_next-clause-blank : goal.fill-requires-then-is_first_next-clause-blank
fill-requires-then-is_first_next-clause-blank c serves =
    let p = row_plan_of c.args.self.now in
    let s = c.args.self.now.fit.source.starts in
    let first = c.is_first_next.ensures.yes c.if-is_first_next.true in
    let before : c.loop-low.low < (special_in p.nfa).start_unanchored_id =
    omega (arith, first.0, c.args.self.now.starts) in
    let i = c.loop-low.invariant in
    let met = met-both p.nfa Yes c.loop-low.low (omega (arith, before, s.1)) (omega (arith, i.low_past)) (inl before) in
    subst (λ sid. IsUnwritten p.stride (number_in p Yes sid) c.loop-low.trans) (sym c.must-next.ensures)
    (i.rows.blank Yes c.loop-low.low serves met
    (fresh-low (special_in p.nfa).start_unanchored_id c.loop-low.low c.loop-low.high before))

pub loop-low-preserved-then-is_first_next : goal.loop-low-preserved-then-is_first_next
loop-low-preserved-then-is_first_next c =
    let p = row_plan_of c.args.self.now in
    let at = c.as_usize-start.ensures.value ∙ ap (λ s. s.start_unanchored_id) c.special-special.ensures.value in
    let first = c.is_first_next.ensures.yes c.if-is_first_next.true in
    let before : c.loop-low.low < (special_in p.nfa).start_unanchored_id =
    omega (arith, first.0, c.args.self.now.starts) in
    let i = c.loop-low.invariant in
    record {
      low_past = omega (arith, i.low_past);
      low_in = omega (arith, before, at);
      high_past = i.high_past;
      high_in = i.high_in;
      rows = rows-low p c.loop-low.low c.loop-low.high c.loop-low.trans c.fill-then-is_first_next.new.trans
          c.args.self.now.fit before i.rows
          (subst (λ sid. AreRowsFilled p sid sid c.loop-low.trans c.fill-then-is_first_next.new.trans)
          c.must-next.ensures
          c.fill-then-is_first_next.ensures);
    }

-- ---- a state of the second run

pub fill-requires-else-is_first_next-clause-failure : goal.fill-requires-else-is_first_next-clause-failure
fill-requires-else-is_first_next-clause-failure c serves =
    let p = row_plan_of c.args.self.now in
    let at = c.as_usize-start.ensures.value ∙ ap (λ s. s.start_unanchored_id) c.special-special.ensures.value in
    let later = c.is_first_next.ensures.no c.if-is_first_next.false in
    let i = c.loop-low.invariant in
    let starts = c.args.self.now.starts in
    subst (λ sid. IsRowRight p No (fail_in p.nfa sid) c.loop-low.trans) (sym c.must-next-else-is_first_next.ensures)
    (failure-right_high p c.loop-low.low c.loop-low.high c.loop-low.trans c.special-special.ensures.whole i.low_past
    (omega (arith, at, i.high_past)) later.0 (λ before. later.1 (omega (arith, before, starts))) i.rows serves)

pub fill-requires-else-is_first_next-clause-blank : goal.fill-requires-else-is_first_next-clause-blank
fill-requires-else-is_first_next-clause-blank c serves =
    let p = row_plan_of c.args.self.now in
    let at = c.as_usize-start.ensures.value ∙ ap (λ s. s.start_unanchored_id) c.special-special.ensures.value in
    let later = c.is_first_next.ensures.no c.if-is_first_next.false in
    let i = c.loop-low.invariant in
    let past : (special_in p.nfa).start_unanchored_id + 2 ≤ c.loop-low.high = omega (arith, at, i.high_past) in
    let met = met-both p.nfa Yes c.loop-low.high later.0 (omega (arith, past)) (inr (omega (arith, past))) in
    subst (λ sid. IsUnwritten p.stride (number_in p Yes sid) c.loop-low.trans)
    (sym c.must-next-else-is_first_next.ensures)
    (i.rows.blank Yes c.loop-low.high serves met
    (fresh-high (special_in p.nfa).start_unanchored_id c.loop-low.low c.loop-low.high (omega (arith, at, i.low_in))
    past))

pub loop-low-preserved : goal.loop-low-preserved
loop-low-preserved c =
    let p = row_plan_of c.args.self.now in
    let at = c.as_usize-start.ensures.value ∙ ap (λ s. s.start_unanchored_id) c.special-special.ensures.value in
    let later = c.is_first_next.ensures.no c.if-is_first_next.false in
    let i = c.loop-low.invariant in
    record {
      low_past = i.low_past;
      low_in = i.low_in;
      high_past = omega (arith, i.high_past);
      high_in = omega (arith, later.0, c.state_len-states.ensures.value);
      rows = rows-high p c.loop-low.low c.loop-low.high c.loop-low.trans c.fill-else-is_first_next.new.trans
          c.args.self.now.fit (omega (arith, at, i.low_in)) (omega (arith, at, i.high_past)) i.rows
          (subst (λ sid. AreRowsFilled p sid sid c.loop-low.trans c.fill-else-is_first_next.new.trans)
          c.must-next-else-is_first_next.ensures c.fill-else-is_first_next.ensures);
    }

-- ---- all rows

pub returns : goal.returns
returns c =
    let p = row_plan_of c.args.self.now in
    let at = c.as_usize-start.ensures.value ∙ ap (λ s. s.start_unanchored_id) c.special-special.ensures.value in
    rows-all p c.loop-low.low c.loop-low.high c.loop-low.trans (omega (arith, at))
    (omega (arith, c.state_len-states.ensures.value)) c.loop-low.invariant.rows
