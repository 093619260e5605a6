-- The automaton is built from the noncontiguous automaton of the patterns, or fails as that build does.
use Rattle.std.proofs.Common.{ap, sym, subst, ◌∙◌, inr}
use Rattle.std.proofs.lemmas.Result.{IfOk-weaker, IfErr-weaker}
use Rattle.ac_noncontiguous.specs.Builder.{IsBuiltOf, dictionary_by}
use Rattle.ac_noncontiguous.specs.Nfa.Reads.{built_as}
use Rattle.ac_tables.proofs.contiguous.builder.Builder.build.Goals as goal

pub returns-clause-built : goal.returns-clause-built
returns-clause-built c =
    let from = c.in_ok-nfa.nfa in
    let patterns = c.args.patterns.now in
    let own = subst (λ s. IsBuiltOf s patterns (built_as from)) c.self.view_is c.in_ok-nfa.ensures.built in
    IfOk-weaker c.build_from_noncontiguous.result _ _
    (λ made h. record {
      built = subst (IsBuiltOf c.args.self.now patterns) (sym h.built)
          (record { dictionary = own.dictionary; looks = own.looks; prefilter = own.prefilter; within = own.within });
      from = (from, h);
    })
    c.build_from_noncontiguous.ensures.made

pub returns-clause-refused : goal.returns-clause-refused
returns-clause-refused c =
    let from = c.in_ok-nfa.nfa in
    let patterns = c.args.patterns.now in
    let own = c.in_ok-nfa.ensures.built.dictionary ∙ ap (λ s. dictionary_by s patterns) c.self.view_is in
    IfErr-weaker c.build_from_noncontiguous.result _ _ (λ error h. inr (from, own, h))
    c.build_from_noncontiguous.ensures.refused
