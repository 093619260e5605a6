use Rattle.std.proofs.Common.{◌≡◌, Bool, false, Option, Some, refl, sym, ap, subst, ◌∙◌}
use Rattle.std.specs.Prelude.{MatchOption}
use Rattle.ac_input.specs.Dictionary.{Dictionary}
use Rattle.ac_literal.specs.declared.prefilter.builder.Builders.{Builders}
use Rattle.ac_literal.specs.declared.prefilter.strategy.Strategy.{Strategy}
use Rattle.ac_literal.specs.Prefilter.{IsStrategyOf, needles_of, IsDemanded, IsAdmissible, IsWayOf}
use Rattle.ac_literal.specs.Prefilter.Builder.{IsBuilder, BuildsWhere}
use Rattle.ac_literal.proofs.prefilter.BuilderLemmas.{strategy-admissible, strategy-way}
use Rattle.ac_literal.proofs.prefilter.builder.PrefilterBuilder.build.Goals as goal

-- what is built of the patterns that were collected serves
built-serves : (m : Dictionary) {empty : Bool} {builders : Builders} {made : Option Strategy} {strategy : Strategy}
    → empty ≡ false → IsBuilder m empty builders → made ≡ Some strategy
    → BuildsWhere IsDemanded m.pairing builders made → IsStrategyOf m strategy
built-serves m {builders} full built is builds =
    subst (λ r. MatchOption r (¬ IsDemanded m) (IsStrategyOf m)) is
    (builds m refl (subst (λ b. IsBuilder m b builders) full built))

pub invariant_of-result : goal.invariant_of-result
invariant_of-result c =
    let self = c.self.inside in
    let m : Dictionary = record { patterns = self.patterns.items; pairing = self.pairing; kind = self.kind } in
    subst (λ items. IsStrategyOf (record { patterns = items; pairing = self.pairing; kind = self.kind })
    c.in-Some.strategy) (sym c.same.ensures)
    (built-serves m c.if-self.false c.self.invariant c.in-Some.is c.in_ok-strategy.ensures)

pub returns-clause-made : goal.returns-clause-made
returns-clause-made c =
    let self = c.self.inside in
    let m : Dictionary = record { patterns = self.patterns.items; pairing = self.pairing; kind = self.kind } in
    let serves = built-serves m c.if-self.false c.self.invariant c.in-Some.is c.in_ok-strategy.ensures in
    record {
      dictionary = ap (λ items. record { patterns = items; pairing = self.pairing; kind = self.kind }) c.same.ensures
          ∙ c.self.view_is;
      admissible = subst IsAdmissible c.self.view_is (strategy-admissible m c.in-Some.strategy serves);
      way = subst (λ items. IsWayOf (record { patterns = items; pairing = self.pairing; kind = self.kind })
          (needles_of c.in-Some.strategy)) (sym c.same.ensures) (strategy-way m c.in-Some.strategy serves);
    }
