-- The loop ends after the last byte.
use Rattle.std.proofs.Common.{◌≡◌, arith, ap, ◌∙◌}
use Rattle.ac_input.specs.Alphabet.{count_below, set_len}
use Rattle.ac_input.proofs.alphabet.byte_set.ByteSet.len.Goals as goal

pub returns-clause-value : goal.returns-clause-value
unfolding set_len
returns-clause-value c =
    let all : c.loop-i.i ≡ 256 = omega arith in
    c.loop-i.invariant.count ∙ ap (count_below c.self.inside.members) all ∙ ap set_len c.self.view_is
