-- The words of one more state are appended.
use Rattle.std.proofs.Common.{subst}
use Rattle.ac_tables.specs.Contiguous.Build.{IsWritten}
use Rattle.ac_tables.proofs.contiguous.BuildLemmas.{words-more, known-more}
use Rattle.ac_tables.proofs.contiguous.states.words.Goals as goal

pub loop-state-preserved : goal.loop-state-preserved
loop-state-preserved c =
    let nfa = c.args.nfa.now in
    let classes = c.args.classes.now in
    let before = c.loop-state.words.items in
    let after = c.push_words.new.out.items in
    let written = subst (λ k. IsWritten nfa c.args.dense_depth classes k before after) c.must-sid.ensures
    c.in_ok-push_words.ensures in
    record {
      words = words-more nfa c.args.dense_depth c.loop-state.state classes before after c.loop-state.invariant.words
          written;
      known = known-more nfa c.args.dense_depth c.loop-state.state classes before after c.loop-state.invariant.known
          written;
    }
