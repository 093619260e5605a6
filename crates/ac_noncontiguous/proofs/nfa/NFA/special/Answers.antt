use Rattle.std.proofs.Common.{◌≡◌, ◌+◌, sym, subst, ◌∙◌}
use Rattle.ac_noncontiguous.specs.Nfa.ReadCalls.{special_in, OfTexts, AreBounds}
use Rattle.ac_noncontiguous.proofs.nfa.ReadCallLemmas.{special-in, readable-in}
use Rattle.ac_noncontiguous.proofs.nfa.NFA.special.Goals as goal

pub returns-clause-order : goal.returns-clause-order
returns-clause-order c =
    let a = c.args.self.now in
    let next : c.must.result ≡ a.tables.start + 1 = c.must.ensures ∙ c.one_more.ensures.value in
    subst (λ n. OfTexts a (λ text. AreBounds a text (record (special_in a) { start_anchored_id = n }))) (sym next)
    (special-in a)

pub returns-clause-whole : goal.returns-clause-whole
returns-clause-whole c = readable-in
