-- Both bytes that are added are of one class.
use Rattle.std.proofs.Common.{◌≡◌, ◌≢◌, ◌-◌, sym, subst, ◌∙◌, arith}
use Rattle.std.proofs.lemmas.Bool.{false≢true}
use Rattle.ac_input.specs.Alphabet.{class}
use Rattle.ac_tables.specs.Source.{ShareClasses}
use Rattle.ac_tables.proofs.source.unused.Goals as goal
use Rattle.ac_tables.proofs.source.unused.Goals.{then-get, else-get}
use Rattle.ac_tables.proofs.source.UnusedByteLemmas.{share-both}

pub loop-byte-init : goal.loop-byte-init
loop-byte-init c = λ byte small within. absurd (false≢true (sym (c.empty-unused.ensures byte) ∙ within))

pub loop-byte-preserved : goal.loop-byte-preserved
loop-byte-preserved c = elim c.if-get.branch [
  | then-get w ↦
      let classes = c.args.classes.now in
      let byte = c.loop-byte.byte in
      let first = c.loop-byte.auto.byte in
      let last = c.loop-byte-test.true in
      let apart : byte - 1 ≢ byte = λ e. omega (arith, e, first) in
      let same : class classes (byte - 1) ≡ class classes byte = sym c.get.ensures.value
      ∙ (w.if-get.true ∙ c.get-in-loop-byte.ensures.value) in
      subst (λ set. ShareClasses classes set) (sym w.unused-is)
      (share-both classes c.loop-byte.unused w.add.new.self w.add-then-get.new.self (byte - 1) byte
      c.loop-byte.invariant w.add.ensures w.add-then-get.ensures (omega (arith, last)) last apart same)
  | else-get w ↦ subst (λ set. ShareClasses c.args.classes.now set) (sym w.unused-is) c.loop-byte.invariant
]
