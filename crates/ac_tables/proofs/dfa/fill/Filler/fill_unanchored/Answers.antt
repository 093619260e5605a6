-- The failure's row is copied, and the state's own transitions are written over it.
use Rattle.std.proofs.Common.{◌≡◌, ℕ, ◌+◌, ◌-◌, ◌<◌, length, sym, ap, subst, ◌∙◌, arith}
use Rattle.std.specs.Prelude.{slice_index}
use Rattle.ac_input.specs.declared.search.Anchored.TheVariants.{No}
use Rattle.ac_noncontiguous.specs.Nfa.ReadCalls.{fail_in, edges_in, FailsIn}
use Rattle.ac_tables.specs.Dfa.Filling.{number_in, IsEntry, IsChangedIn}
use Rattle.ac_tables.specs.Dfa.Fill.{row_plan_of}
use Rattle.ac_tables.proofs.dfa.CellLemmas.{row-plain}
use Rattle.ac_tables.proofs.dfa.WriteLemmas.{changed-on}
use Rattle.ac_tables.proofs.dfa.FilledLemmas.{row-space, number-small, copied-changed, copied-entry}
use Rattle.ac_tables.proofs.dfa.fill.Filler.fill_unanchored.Goals as goal

pub copy_within-requires-clause-in_bounds : goal.copy_within-requires-clause-in_bounds
copy_within-requires-clause-in_bounds c =
    let fit = c.args.self.now.fit in
    let f = subst (FailsIn c.args.self.now.nfa.now c.args.sid) c.fail.ensures.value c.fail.ensures.fails in
    let room = row-space (row_plan_of c.args.self.now) No (fail_in c.args.self.now.nfa.now c.args.sid)
    (length c.args.trans.now) fit f.within c.requires.len in
    let is = ap (number_in (row_plan_of c.args.self.now) No) c.fail.ensures.value in
    omega (arith, room, c.place-failure.ensures, is)

pub overflow_add-failure : goal.overflow_add-failure
overflow_add-failure c =
    let f = c.args.self.now in
    let is = ap (number_in (row_plan_of f) No) c.fail.ensures.value in
    let low = number-small (row_plan_of f) No (fail_in f.nfa.now c.args.sid) f.fit
    (subst (FailsIn f.nfa.now c.args.sid) c.fail.ensures.value c.fail.ensures.fails).within in
    let wide = f.fit.wide in
    omega (arith, low, wide, c.place-failure.ensures, is)

pub copy_within-requires-clause-dest_in_bounds : goal.copy_within-requires-clause-dest_in_bounds
copy_within-requires-clause-dest_in_bounds c =
    let room = row-space (row_plan_of c.args.self.now) No c.args.sid (length c.args.trans.now) c.args.self.now.fit
    c.requires.met.0.within c.requires.len in
    omega (arith, room, c.place-row.ensures)

pub write-requires-clause-room : goal.write-requires-clause-room
write-requires-clause-room c =
    let room = row-space (row_plan_of c.args.self.now) No c.args.sid (length c.args.trans.now) c.args.self.now.fit
    c.requires.met.0.within c.requires.len in
    omega (arith, room, c.copy_within.ensures.len)

pub returns-clause-alone : goal.returns-clause-alone
returns-clause-alone c =
    let f = c.args.self.now in
    let row = number_in (row_plan_of f) No c.args.sid in
    let stride = f.numbers.stride in
    let n : (c.place-failure.result + stride) - c.place-failure.result ≡ stride = omega arith in
    let b = c.copy_within.ensures.by_index in
    let copied = copied-changed stride c.place-row.result c.args.trans.now c.copy_within.new.self _ n
    c.copy_within.ensures.len b.1 b.2 in
    changed-on stride row c.args.trans.now c.copy_within.new.self c.write.new.trans
    (subst (λ at. IsChangedIn stride at c.args.trans.now c.copy_within.new.self) c.place-row.ensures copied)
    c.write.ensures.written.alone

pub returns-clause-right : goal.returns-clause-right
returns-clause-right c =
    let f = c.args.self.now in
    let p = row_plan_of f in
    let fail = fail_in f.nfa.now c.args.sid in
    let edges = edges_in f.nfa.now c.args.sid in
    let stride = f.numbers.stride in
    let n : (c.place-failure.result + stride) - c.place-failure.result ≡ stride = omega arith in
    let from : c.place-failure.result ≡ number_in p No fail = c.place-failure.ensures
    ∙ ap (number_in p No) c.fail.ensures.value in
    let entries : (x : ℕ) → x < stride
    → IsEntry p No edges x (slice_index c.args.trans.now (number_in p No fail + x))
    (slice_index c.write.new.trans (number_in p No c.args.sid + x)) = λ x within.
    let copied = copied-entry c.place-row.result c.place-failure.result x _ c.args.trans.now c.copy_within.new.self
    (omega (arith, n, within)) c.copy_within.ensures.by_index.0 in
    let same : slice_index c.copy_within.new.self (number_in p No c.args.sid + x)
    ≡ slice_index c.args.trans.now (number_in p No fail + x) = ap (λ at. slice_index c.copy_within.new.self (at + x))
    (sym c.place-row.ensures) ∙ (copied ∙ ap (λ at. slice_index c.args.trans.now (at + x)) from) in
    subst (λ old. IsEntry p No edges x old (slice_index c.write.new.trans (number_in p No c.args.sid + x))) same
    (c.write.ensures.written.entries x within) in
    row-plain p c.args.sid c.args.trans.now c.write.new.trans f.fit c.write.ensures.lead
    (subst (FailsIn f.nfa.now c.args.sid) c.fail.ensures.value c.fail.ensures.fails) c.requires.met.0 c.requires.met.1
    entries c.requires.failure
