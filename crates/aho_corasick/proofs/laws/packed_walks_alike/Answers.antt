use Rattle.aho_corasick.proofs.laws.LawLemmas.{packed-alike}
use Rattle.aho_corasick.proofs.laws.packed_walks_alike.Goals as goal

pub returns : goal.returns
returns c = packed-alike
