-- The automaton that was named serves.
use Rattle.std.proofs.Common.{◌≡◌, Some, rules, subst}
use Rattle.std.proofs.lemmas.Result.{err_from_is_err_and}
use Rattle.ac_tables.specs.Contiguous.Builder.{IsRefusedFrom}
use Rattle.ac_tables.specs.Dfa.Builder.{IsTooLargeOr}
use Rattle.ac_noncontiguous.specs.Nfa.Reads.{dictionary}
use Rattle.aho_corasick.specs.declared.ahocorasick.AhoCorasickKind.TheVariants as kinds
use Rattle.aho_corasick.proofs.lemmas.ServedLemmas.{named-contiguous, named-dfa, served-contiguous, served-dfa}
use Rattle.aho_corasick.proofs.ahocorasick.builder.AhoCorasickBuilder.serve.Goals as goal

pub returns-in_ok-made-in-Some-ContiguousNFA-clause-served : goal.returns-in_ok-made-in-Some-ContiguousNFA-clause-served
returns-in_ok-made-in-Some-ContiguousNFA-clause-served c =
    let b = c.args.self.now in
    let named : b.kind ≡ Some kinds.ContiguousNFA = search rules in
    served-contiguous b.kind b.settings c.args.nfa c.contiguous.result c.in_ok-made-in-Some-ContiguousNFA.made named
    c.contiguous.ensures c.in_ok-made-in-Some-ContiguousNFA.ensures.made

pub returns-in_ok-made-in-Some-DFA-clause-served : goal.returns-in_ok-made-in-Some-DFA-clause-served
returns-in_ok-made-in-Some-DFA-clause-served c =
    let b = c.args.self.now in
    let named : b.kind ≡ Some kinds.DFA = search rules in
    served-dfa b.kind b.settings c.args.nfa c.dfa.result c.in_ok-made-in-Some-DFA.made named c.dfa.ensures
    c.in_ok-made-in-Some-DFA.ensures.built

-- the automaton that was named can't be made
pub returns-in_err-made-in-Some-ContiguousNFA-clause-refused : goal.returns-in_err-made-in-Some-ContiguousNFA-clause-refused
returns-in_err-made-in-Some-ContiguousNFA-clause-refused c =
    let b = c.args.self.now in
    let error = c.in_err-made-in-Some-ContiguousNFA.field-0.0 in
    let named : b.kind ≡ Some kinds.ContiguousNFA = search rules in
    let p = err_from_is_err_and c.from_residual.result c.from_residual.ensures.1 in
    rw (p.1, p.2) (named-contiguous b c.args.nfa error named
    (subst (λ s. IsRefusedFrom s c.args.nfa error) c.contiguous.ensures
    c.in_err-made-in-Some-ContiguousNFA.ensures.refused))

pub returns-in_err-made-in-Some-DFA-clause-refused : goal.returns-in_err-made-in-Some-DFA-clause-refused
returns-in_err-made-in-Some-DFA-clause-refused c =
    let b = c.args.self.now in
    let error = c.in_err-made-in-Some-DFA.field-0.0 in
    let named : b.kind ≡ Some kinds.DFA = search rules in
    let p = err_from_is_err_and c.from_residual-in_err-made-in-Some-DFA.result
    c.from_residual-in_err-made-in-Some-DFA.ensures.1 in
    rw (p.1, p.2) (named-dfa b c.args.nfa error named
    (subst (λ s. IsTooLargeOr s (dictionary c.args.nfa) (λ _. ⊥) error) c.dfa.ensures
    c.in_err-made-in-Some-DFA.ensures.refused))
