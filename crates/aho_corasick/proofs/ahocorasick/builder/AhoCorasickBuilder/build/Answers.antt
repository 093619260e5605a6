-- The noncontiguous NFA of the patterns first, then the automaton that serves, with what it was built as and by which
-- settings.
use Rattle.std.proofs.Common.{ap, refl, subst, sym, ◌∙◌}
use Rattle.ac_literal.specs.Packed.{bytes_of}
use Rattle.ac_noncontiguous.specs.Builder.{HasRowsBy, IsBuiltOf}
use Rattle.ac_noncontiguous.specs.Nfa.Reads.{built_as}
use Rattle.aho_corasick.specs.Builder.{front_dictionary}
use Rattle.aho_corasick.specs.Served.{IsEngineOf}
use Rattle.aho_corasick.proofs.lemmas.ServedLemmas.{front-built, made-as, starts-shared}
use Rattle.aho_corasick.proofs.ahocorasick.builder.AhoCorasickBuilder.build.Goals as goal

pub invariant_of-shared : goal.invariant_of-shared
invariant_of-shared c =
    let s = c.args.self.now.settings in
    let patterns = bytes_of c.args.patterns.now in
    let nfa = c.in_ok-nfa.nfa in
    let own = subst (λ t. IsBuiltOf t c.args.patterns.now (built_as nfa)) c.from.ensures
    c.in_ok-nfa.ensures.built in
    let rows = subst (λ t. HasRowsBy t nfa) c.from.ensures c.in_ok-nfa.ensures.rows in
    let by = ap (λ b. b.settings) c.of-2.ensures in
    record {
      same = c.of.ensures;
      made =
          ∣ made-as s (front_dictionary s patterns) nfa c.in_ok-engine.engine c.of.result.value
          c.of-2.result.value.settings own rows c.in_ok-engine.ensures.served.0 c.of.ensures by ∣₁;
    }

pub invariant_of-result : goal.invariant_of-result
invariant_of-result c =
    let s = c.args.self.now.settings in
    let same = ap (λ t. t.engine) c.in-Ok.ensures.ok in
    record {
      starts = starts-shared s c.in_ok-nfa.nfa s.start_kind c.in_ok-engine.engine c.in-Ok.shared.value.engine
          refl c.in_ok-engine.ensures.served.0 same;
    }

pub returns-in-Ok : goal.returns-in-Ok
returns-in-Ok c =
    let b = c.args.self.now in
    let s = b.settings in
    let patterns = bytes_of c.args.patterns.now in
    let nfa = c.in_ok-nfa.nfa in
    let own = subst (λ t. IsBuiltOf t c.args.patterns.now (built_as nfa)) c.from.ensures
    c.in_ok-nfa.ensures.built in
    let made = subst (IsEngineOf b.kind s nfa) (sym (ap (λ t. t.engine) c.in-Ok.ensures.ok))
    c.in_ok-engine.ensures.served in
    let settings = ap (λ t. t.settings.value) c.in-Ok.ensures.ok ∙ c.of-2.ensures in
    record { served = front-built b patterns nfa _ own made refl settings; refused = tt }
