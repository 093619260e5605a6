-- One byte more is read.
use Rattle.std.proofs.Common.{◌≤◌, length, false, subst, arith}
use Rattle.std.proofs.lemmas.Bool.{false≢true}
use Rattle.std.proofs.lemmas.List.{take_all}
use Rattle.std.proofs.lemmas.Option.{slice_get-get_or}
use Rattle.ac_input.specs.Number.{StateID}
use Rattle.ac_input.specs.declared.search.Anchored.TheVariants.{No}
use Rattle.ac_automaton.specs.Skip.{ReadsAll}
use Rattle.ac_automaton.proofs.lemmas.CursorLemmas.{advanced-none, advanced-more, reached-on}
use Rattle.ac_automaton.proofs.skip.read_all.Goals as goal

pub loop-byte-init : goal.loop-byte-init
loop-byte-init g c =
    advanced-none (g.A.LookUp.built c.args.automaton.now) (g.A.LookUp.Reaches c.args.automaton.now) No
    (λ (i : StateID). false) c.args.sid c.args.bytes.now c.args.steps.now

pub look_up-current-requires : goal.look_up-current-requires
look_up-current-requires g c =
    reached-on (g.A.LookUp.Reaches c.args.automaton.now No) c.args.sid _ c.loop-byte.current c.requires
    c.loop-byte.invariant.reads

pub loop-byte-preserved : goal.loop-byte-preserved
loop-byte-preserved g c =
    let a = c.args.automaton.now in
    let is = slice_get-get_or c.args.bytes.now c.loop-byte.byte-index 0 c.loop-byte-test.true in
    advanced-more (g.A.LookUp.built a) (g.A.LookUp.Reaches a) No (λ (i : StateID). false) c.args.sid c.args.bytes.now
    c.loop-byte.byte-index _ c.loop-byte.current _ _ _ _ is c.loop-byte.invariant c.look_up-current.ensures.next
    c.look_up-current.ensures.cost (λ e. false≢true e)

pub returns : goal.returns
returns g c =
    let done : length c.args.bytes.now ≤ c.loop-byte.byte-index = let e = c.loop-byte-test.false in omega (arith, e) in
    let all = take_all c.loop-byte.byte-index c.args.bytes.now done in
    let so_far = c.loop-byte.invariant in
    subst (λ l.
    ReadsAll g.A.LookUp c.args.automaton.now c.args.sid l c.loop-byte.current c.args.steps.now c.loop-byte.steps) all
    (record { leads = so_far.reads; cost = so_far.cost })
