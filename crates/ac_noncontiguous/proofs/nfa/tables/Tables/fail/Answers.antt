use Rattle.std.proofs.Common.{ap, sym, arith}
use Rattle.ac_noncontiguous.proofs.nfa.LookupLemmas.{kept-within, kept-read}
use Rattle.ac_noncontiguous.proofs.nfa.tables.Tables.fail.Goals as goal

pub index-requires : goal.index-requires
index-requires c = let k = kept-within c.requires in let e = c.as_usize.ensures.value in omega arith

pub returns : goal.returns
returns c = sym (ap (λ s. s.fail) (kept-read c.requires c.as_usize.ensures.value c.index.ensures))
