-- The bytes before the match are written, and then the closure is called.
use Rattle.std.proofs.Common.{refl}
use Rattle.ac_automaton.proofs.in_memory.replace.ReplacerLemmas.{RepliesAt-from_call}
use Rattle.ac_automaton.proofs.stream.CallingLemmas.{HasTaken-from_all, AnswersPass-from_call}
use Rattle.ac_automaton.proofs.stream.replace_with.CallingSink.pass.Goals as goal

pub returns-clause-passes : goal.returns-clause-passes
returns-clause-passes g c =
    let took = c.in_ok-write_whole.ensures.took in
    AnswersPass-from_call c.f.result (
      c.write_whole.new.writer,
      HasTaken-from_all took.0 c.write_whole.ensures.reads took.1,
      RepliesAt-from_call c.f.ensures refl refl refl,
    )
