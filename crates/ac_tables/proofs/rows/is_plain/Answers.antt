use Rattle.std.proofs.Common.{◌∙◌, sym}
use Rattle.std.proofs.lemmas.Bool.{eqb-true}
use Rattle.ac_tables.proofs.dfa.ReadLemmas.{classes-plain}
use Rattle.ac_tables.proofs.rows.is_plain.Goals as goal

pub returns : goal.returns
returns c =
    λ yes. classes-plain c.args.classes.now c.alphabet_len.ensures.classes
    (sym c.alphabet_len.ensures.value ∙ eqb-true c.alphabet_len.result 256 yes)
