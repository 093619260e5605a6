-- The noncontiguous automaton is built first, and then the table from it.
use Rattle.std.proofs.Common.{subst}
use Rattle.std.proofs.lemmas.Result.{IfOk-weaker, IfErr-weaker}
use Rattle.ac_noncontiguous.specs.Builder.{IsBuiltOf, dictionary_by}
use Rattle.ac_noncontiguous.specs.Nfa.Reads.{built_as, dictionary}
use Rattle.ac_noncontiguous.specs.Standing.{IsBuildRefused}
use Rattle.ac_tables.specs.Dfa.Builder.{IsDfaOf, IsDfaBuilt, IsDfaBuildRefused, IsTooLargeOr}
use Rattle.ac_tables.proofs.dfa.BuildLemmas.{refused-from}
use Rattle.ac_tables.proofs.dfa.builder.Builder.build.Goals as goal

pub returns-clause-built : goal.returns-clause-built
returns-clause-built c =
    let s = c.args.self.now in
    let nfa = c.in_ok-nfa.nfa in
    let built = subst (λ t. IsBuiltOf t c.args.patterns.now (built_as nfa)) c.self.view_is c.in_ok-nfa.ensures.built in
    IfOk-weaker c.build_from_noncontiguous.result (IsDfaOf s nfa) (IsDfaBuilt s c.args.patterns.now)
    (λ dfa h. (nfa, built, h)) c.build_from_noncontiguous.ensures.built

pub returns-clause-refused : goal.returns-clause-refused
returns-clause-refused c =
    let s = c.args.self.now in
    let nfa = c.in_ok-nfa.nfa in
    let m = dictionary_by s c.args.patterns.now in
    let built = subst (λ t. IsBuiltOf t c.args.patterns.now (built_as nfa)) c.self.view_is c.in_ok-nfa.ensures.built in
    IfErr-weaker c.build_from_noncontiguous.result (IsTooLargeOr s (dictionary nfa) (λ _. ⊥))
    (IsDfaBuildRefused s c.args.patterns.now)
    (λ error h. refused-from s m nfa error (IsBuildRefused m) built.dictionary h)
    c.build_from_noncontiguous.ensures.refused
