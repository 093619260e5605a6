-- A second `-` is an input of nothing.
use Rattle.std.proofs.Common.{rules, refl}
use Rattle.acsub.proofs.files.run_input.Goals as goal

pub returns-then-ended : goal.returns-then-ended
returns-then-ended g c = record {
  file = search rules;
  input = search rules;
  again = λ _ _. record {
    opened = c.new-nothing.result;
    closed = c.run_one.new.reader;
    fresh = c.new-nothing.ensures.fresh;
    runs = c.run_one.ensures;
    reader = refl;
  };
}
