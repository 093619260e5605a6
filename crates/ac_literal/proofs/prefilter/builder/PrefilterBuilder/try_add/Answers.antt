use Rattle.std.proofs.Common.{ℕ, List, [], ◌∷◌, ◌++◌, refl, sym, subst}
use Rattle.ac_input.specs.Dictionary.{Dictionary}
use Rattle.ac_literal.specs.Prefilter.Builder.{IsBuilder}
use Rattle.ac_input.specs.Limits.{with_pattern}
use Rattle.ac_literal.proofs.prefilter.BuilderLemmas.{builder-empty, builder-still_empty}
use Rattle.ac_literal.proofs.prefilter.builder.PrefilterBuilder.try_add.Goals as goal
use Rattle.ac_literal.proofs.prefilter.builder.PrefilterBuilder.try_add.Goals.{then-is_empty, else-is_empty+then-not-self+in_ok-add, else-is_empty+else-not-self}

pub invariant_of-self-2 : goal.invariant_of-self-2
invariant_of-self-2 c =
    let m : Dictionary =
    record { patterns = c.self.inside.patterns.items; pairing = c.self.inside.pairing; kind = c.self.inside.kind } in
    let p : List ℕ = c.args.pattern.now in
    let pushed : IsBuilder
    (record {
      patterns = c.if-is_empty.self-inside.patterns.items ++ p ∷ [];
      pairing = c.if-is_empty.self-inside.pairing;
      kind = c.if-is_empty.self-inside.kind;
    })
    c.if-is_empty.self-inside.has_empty c.if-is_empty.self-inside.builders =
    elim c.if-is_empty.branch [
      | then-is_empty w ↦
          subst (λ i. IsBuilder (record { patterns = i.patterns.items ++ p ∷ []; pairing = i.pairing; kind = i.kind })
          i.has_empty i.builders) (sym w.self-inside-is)
          (builder-empty m p c.self.inside.builders (sym w.if-is_empty.ensures))
      | else-is_empty+then-not-self+in_ok-add w ↦
          subst (λ i. IsBuilder (record { patterns = i.patterns.items ++ p ∷ []; pairing = i.pairing; kind = i.kind })
          i.has_empty i.builders) (sym w.self-inside-is)
          (subst (λ b. IsBuilder (with_pattern m p) b w.add.new.self) (sym w.if-not-self.true)
          (w.in_ok-add.ensures.ok m refl
          (subst (λ b. IsBuilder m b c.self.inside.builders) w.if-not-self.true c.self.invariant)))
      | else-is_empty+else-not-self w ↦
          subst (λ i. IsBuilder (record { patterns = i.patterns.items ++ p ∷ []; pairing = i.pairing; kind = i.kind })
          i.has_empty i.builders) (sym w.self-inside-is)
          (subst (λ b. IsBuilder (with_pattern m p) b c.self.inside.builders) (sym w.if-not-self.false)
          (builder-still_empty m p c.self.inside.builders
          (subst (λ b. IsBuilder m b c.self.inside.builders) w.if-not-self.false c.self.invariant)))
    ] in
    subst (λ items.
    IsBuilder
    (record { patterns = items; pairing = c.if-is_empty.self-inside.pairing; kind = c.if-is_empty.self-inside.kind })
    c.if-is_empty.self-inside.has_empty c.if-is_empty.self-inside.builders) (sym c.and-self-inside.ensures) pushed
