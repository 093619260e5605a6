-- The bytes that are left begin with the next byte that is in the class.
use Rattle.std.proofs.Common.{arith, sym, ◌∙◌, ap, length}
use Rattle.ac_input.proofs.alphabet.AlphabetLemmas.{elements-in, elements-out}
use Rattle.ac_input.proofs.alphabet.byte_classes.ByteClassElementsIterator.next.Goals as goal

pub returns-then-get-self-clause-steps : goal.returns-then-get-self-clause-steps
returns-then-get-self-clause-steps c =
    let now = c.loop-self.self-inside in
    sym c.self.view_is ∙ c.loop-self.invariant.same
    ∙ elements-in now.classes.now (omega arith) (sym c.get.ensures.value ∙ c.if-get-self.true)

pub returns-then-get-self-clause-goes : goal.returns-then-get-self-clause-goes
returns-then-get-self-clause-goes c =
    let now = c.loop-self.self-inside in
    let split = sym c.self.view_is ∙ c.loop-self.invariant.same
    ∙ elements-in now.classes.now (omega arith) (sym c.get.ensures.value ∙ c.if-get-self.true) in
    let longer = ap length split in
    record { on = λ _. (tt, tt, omega arith); keeps = tt; rests = λ _. tt }

pub loop-self-preserved : goal.loop-self-preserved
loop-self-preserved c =
    let now = c.loop-self.self-inside in
    record {
      fits = omega arith;
      same = c.loop-self.invariant.same
          ∙ elements-out now.classes.now (omega arith) (λ e. c.if-get-self.false (c.get.ensures.value ∙ e));
    }
