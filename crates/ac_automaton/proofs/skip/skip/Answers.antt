-- Reading on goes by the automaton's own loop, and over places at which no pattern opens.
use Rattle.std.proofs.Common.{◌≡◌, [], sym, refl, ◌∙◌, arith}
use Rattle.std.proofs.lemmas.Bool.{eqb-true}
use Rattle.std.proofs.lemmas.List.{take_rest}
use Rattle.ac_input.specs.declared.search.Anchored.TheVariants.{No}
use Rattle.ac_automaton.specs.Look.{is_between}
use Rattle.ac_automaton.proofs.lemmas.CursorLemmas.{advanced-none, reached-on}
use Rattle.ac_automaton.proofs.skip.ReadOnLemmas.{after-some, reads-all}
use Rattle.ac_automaton.proofs.skip.PassingLemmas.{advanced-on}
use Rattle.ac_automaton.proofs.skip.skip.Goals as goal

pub loop-read-init : goal.loop-read-init
loop-read-init g c = (
  omega arith,
  advanced-none (g.A.LookUp.built c.args.automaton.now) (g.A.LookUp.Reaches c.args.automaton.now) No
      (is_between c.args.to) c.args.sid c.args.bytes.now c.args.steps.now,
)

pub read_some-stop-requires-clause-reached : goal.read_some-stop-requires-clause-reached
read_some-stop-requires-clause-reached g c =
    reached-on (g.A.LookUp.Reaches c.args.automaton.now No) c.args.sid _ c.loop-read.current c.requires.reached
    c.loop-read.invariant.1.reads

pub returns-then-has : goal.returns-then-has
returns-then-has g c =
    let a = c.args.automaton.now in
    (after-some g.A.LookUp a No c.args.to c.args.sid c.args.bytes.now c.loop-read.current _ c.loop-read.read
    c.read_some-stop.result c.has.result _ _ _ (take_rest c.args.bytes.now c.loop-read.read) c.loop-read.invariant.0
    c.read_some-stop.ensures c.loop-read.invariant.1 c.has.ensures).0 c.if-has.true

pub pass-stop-requires-clause-begins : goal.pass-stop-requires-clause-begins
pass-stop-requires-clause-begins g c = ∣ ([], c.requires.may.may.begins) ∣₁

pub pass-stop-requires-clause-room : goal.pass-stop-requires-clause-room
pass-stop-requires-clause-room g c =
    let left = c.alone_for-alone.ensures c.if-alone-eq0.true in
    let few = c.args.openings.now.few in
    omega (arith, left, few)

pub loop-read-preserved-then-eq : goal.loop-read-preserved-then-eq
loop-read-preserved-then-eq g c =
    let a = c.args.automaton.now in
    let at : c.loop-read.current ≡ c.args.start = eqb-true c.loop-read.current c.args.start (sym c.eq.ensures ∙ c.if-eq.true) in
    advanced-on c.requires.may (let wide = c.args.openings.now.wide in omega (arith, wide))
    (λ text i reads. g.met.A.LookUp.tells a No text i reads) (λ k. (c.type_inv.bytes k).fits) c.loop-read.invariant.0
    (take_rest c.args.bytes.now c.loop-read.read) at c.pass-stop.ensures c.loop-read.invariant.1

pub loop-read-smaller-then-eq : goal.loop-read-smaller-then-eq
loop-read-smaller-then-eq g c =
    let passed = c.pass-stop.ensures in
    let wide = c.args.openings.now.wide in
    let less = c.loop-read-test.true in
    let all = passed.taken in
    let short = passed.short in
    omega (arith, all, short, wide, less)

pub loop-read-preserved : goal.loop-read-preserved
loop-read-preserved g c =
    let a = c.args.automaton.now in
    (after-some g.A.LookUp a No c.args.to c.args.sid c.args.bytes.now c.loop-read.current _ c.loop-read.read
    c.read_some-stop.result c.has.result _ _ _ (take_rest c.args.bytes.now c.loop-read.read) c.loop-read.invariant.0
    c.read_some-stop.ensures c.loop-read.invariant.1 c.has.ensures).1 c.if-has.false

pub returns : goal.returns
returns g c =
    let done = c.loop-read-test.false in
    reads-all refl (omega (arith, c.loop-read.invariant.0)) c.loop-read.invariant.1
