use Rattle.std.proofs.Common.{refl}
use Rattle.ac_input.proofs.lemmas.ContainsLemmas.{Contains-nil}
use Rattle.ac_literal.proofs.prefilter.builder.Builders.new.Goals as goal

pub returns : goal.returns
returns c =
    record {
      full = λ p given. absurd (Contains-nil given);
      memmem = refl;
      packed = c.packed_builder.ensures;
      starts = λ byte. refl;
      rare = c.new.ensures c.args.pairing.now;
    }
