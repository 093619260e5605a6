-- The classes serve the dictionary, whether bytes are put into classes or not.
use Rattle.std.proofs.Common.{◌≡◌, rules}
use Rattle.ac_noncontiguous.specs.Nfa.Reads.{dictionary}
use Rattle.ac_noncontiguous.specs.Nfa.ReadCalls.{classes_in}
use Rattle.ac_tables.proofs.contiguous.WordTableLemmas.{own-serve, singles-serve}
use Rattle.ac_tables.proofs.source.classes_of.Goals as goal

pub returns-in_ok-clone-clause-serve : goal.returns-in_ok-clone-clause-serve
returns-in_ok-clone-clause-serve c =
    let same : c.in_ok-clone.field-0 ≡ classes_in c.args.nfa.now = search rules in
    own-serve c.args.nfa.now c.in_ok-clone.field-0 c.byte_classes.ensures.classes c.byte_classes.ensures.alike same

pub returns-else-byte_classes-clause-serve : goal.returns-else-byte_classes-clause-serve
returns-else-byte_classes-clause-serve c =
    singles-serve (dictionary c.args.nfa.now) c.singletons.result c.singletons.ensures
