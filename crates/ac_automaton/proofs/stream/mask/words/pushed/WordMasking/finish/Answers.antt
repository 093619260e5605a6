-- Once nothing more comes, each word is masked.
use Rattle.std.proofs.Common.{sym, subst}
use Rattle.ac_automaton.specs.Stream.{CanBeCounted}
use Rattle.ac_automaton.specs.Stream.Mask.{IsAllMasked, passed_to}
use Rattle.ac_automaton.proofs.stream.mask.words.WordPushLemmas.{dropped-is, finished-is, word_mask_by}
use Rattle.ac_automaton.proofs.stream.mask.words.pushed.WordMasking.finish.Goals as goal

pub invariant_of-self-2 : goal.invariant_of-self-2
invariant_of-self-2 g c =
    let i = c.self.inside in
    let is = c.self.invariant in
    let few = subst (λ s. CanBeCounted (passed_to s)) c.self.view_is (is.countable c.if-self.false) in
    let all = subst IsAllMasked (sym c.self.view_is) (c.requires.masked few) in
    let dropped = dropped-is g.A.Automaton i is c.if-self-2.false all in
    (finished-is g.A.Automaton i is all c.mask_new.ensures.same
    (c.mask_new.ensures.masks (passed_to (word_mask_by g.A.Automaton i)) dropped)).1
