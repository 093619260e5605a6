-- The links are those of the trie, which stays the same without its hints.
use Rattle.std.proofs.Common.{sym, subst, ap}
use Rattle.ac_input.specs.Pairing.{IsPairing}
use Rattle.ac_noncontiguous.specs.Links.{AreLinks}
use Rattle.ac_noncontiguous.proofs.builder.BuilderLemmas.{if_ok-both}
use Rattle.ac_noncontiguous.proofs.trie.TrieLemmas.{trie-same}
use Rattle.ac_noncontiguous.proofs.builder.tables_of.Goals as goal

pub returns-clause-made : goal.returns-clause-made
returns-clause-made c =
    if_ok-both c.from_trie.result c.from_trie.ensures.stands c.from_trie.ensures.classed
    (λ tables stands classed. λ m is.
    let same = c.without_hints-trie.ensures in
    let now = trie-same same.states same.rest is in (
      stands m now
          (subst (λ xs. AreLinks m xs c.in_ok-links.links) (sym (ap (λ v. v.items) same.states))
          (c.in_ok-links.ensures.links m is)),
      classed m now,
      subst IsPairing (sym is.pairing) c.args.trie.paired,
    ))

pub from_trie-requires-clause-links : goal.from_trie-requires-clause-links
from_trie-requires-clause-links c =
    let l = c.in_ok-links.ensures.links c.requires.0 c.requires.1 in
    rw c.without_hints-trie.ensures.states
    (record { fails = l.fails.counted; within = l.fails.within; ranges = l.lists.counted })
