-- The next slice is the text read up to the place, or the replacement of the match that begins there.
use Rattle.std.proofs.Common.{◌≡◌, ◌≤◌, None, Some, sym, ap, subst, ◌∙◌, arith}
use Rattle.std.proofs.lemmas.Grind.{common_steps}
use Rattle.ac_automaton.specs.Stream.{AreAllGiven, CanBeCounted, read_by}
use Rattle.ac_automaton.specs.Stream.Replacer.{TakesPart, ends_there, decided_to}
use Rattle.ac_automaton.specs.declared.stream.replacer.Part.TheVariants.{Text, Replacement}
use Rattle.ac_automaton.proofs.stream.StreamReplacerLemmas.{replacer_progress_of, pass-none, pass-replacement, pass-text, text-right}
use Rattle.ac_automaton.proofs.stream.replacer.StreamReplacer.pass.Goals as goal

pub invariant_of-self : goal.invariant_of-self
invariant_of-self g c =
    let was = sym c.self.view_is in
    text-right (replacer_progress_of c.self.inside) c.place-to.result c.self.invariant
    (ap (λ r. r.over) c.self.view_is ∙ c.requires.open)
    (subst (λ r. CanBeCounted (read_by r.search)) was c.requires.few) c.if-self-to.true
    (c.place-to.ensures ∙ ap (λ r. decided_to r.search r.met r.finished) was)
    (subst (λ r. r.met ≡ None → AreAllGiven r.search) was c.requires.all) c.ends-ends.result
    (c.ends-ends.ensures ∙ ap (λ r. ends_there r.met r.finished) was)

pub returns-then-self-to : goal.returns-then-self-to
returns-then-self-to g c =
    let was = sym c.self.view_is in
    subst (λ r.
    TakesPart r (record (replacer_progress_of c.self.inside) { at = c.place-to.result; over = c.ends-ends.result })
    (Some (Text c.self.inside.at c.place-to.result))) c.self.view_is
    (pass-text (replacer_progress_of c.self.inside) c.place-to.result c.self.invariant
    (ap (λ r. r.over) c.self.view_is ∙ c.requires.open)
    (subst (λ r. CanBeCounted (read_by r.search)) was c.requires.few) c.if-self-to.true
    (c.place-to.ensures ∙ ap (λ r. decided_to r.search r.met r.finished) was) c.ends-ends.result)

pub returns : goal.returns
returns g c =
    let was = sym c.self.view_is in
    subst (λ r. TakesPart r (record (replacer_progress_of c.self.inside) { at = c.end-self-inside.result; met = None })
    (Some (Replacement c.pattern.result))) c.self.view_is
    (pass-replacement c.in-Some.found c.end-self-inside.result c.pattern.result
    c.self.invariant (ap (λ r. r.over) c.self.view_is ∙ c.requires.open)
    (subst (λ r. CanBeCounted (read_by r.search)) was c.requires.few) c.in-Some.is
    (subst (λ k. k ≤ c.self.inside.at) (c.place-to.ensures ∙ ap (λ r. decided_to r.search r.met r.finished) was)
    c.if-self-to.false) c.end-self-inside.ensures.value c.pattern.ensures)

pub returns-in_default : goal.returns-in_default
returns-in_default g c =
    let is = c.self.view_is in
    let was = sym is in (
      ap (λ r. r.search) is,
      ap (λ r. r.finished) is,
      ap (λ r. r.at) is,
      ap (λ r. r.met) is,
      pass-none c.ends-ends.result c.self.invariant
          (ap (λ r. r.over) is ∙ c.requires.open) (subst (λ r. CanBeCounted (read_by r.search)) was c.requires.few)
          (subst (λ r. r.met ≡ None → AreAllGiven r.search) was c.requires.all) c.in_default.is
          (subst (λ k. k ≤ c.self.inside.at) (c.place-to.ensures ∙ ap (λ r. decided_to r.search r.met r.finished) was)
          c.if-self-to.false),
    )

pub pattern-requires : goal.pattern-requires
pattern-requires g c = grind (arith, common_steps)

pub invariant_of-self-2 : goal.invariant_of-self-2
invariant_of-self-2 g c = grind (arith, common_steps)
