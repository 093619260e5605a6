-- The result is the least length of the patterns so far.
use Rattle.std.proofs.Common.{◌≡◌, ◌++◌, ◌∷◌, [], List, ℕ, Vec, Global, ap, ap₂, sym, ◌∙◌, take, map, min, length, arith}
use Rattle.std.proofs.lemmas.List.{map_more}
use Rattle.ac_input.specs.Work.{shortest}
use Rattle.ac_literal.proofs.packed.PatternLemmas.{shortest-push}
use Rattle.ac_literal.proofs.packed.pattern.Patterns.minimum_len.Goals as goal

abbrev bytes_of : Vec ℕ Global → List ℕ
bytes_of v = v.items

pub loop-pattern-preserved : goal.loop-pattern-preserved
loop-pattern-preserved c =
    let front = map bytes_of (take c.loop-pattern.pattern-index c.deref-pattern-items.result.now) in
    let more = map_more bytes_of c.deref-pattern-items.result.now c.loop-pattern.pattern-index c.pattern-item.result
    c.loop-pattern-test.true in
    let pattern = ap bytes_of c.pattern-item.is in
    let long : c.len.result ≡ length c.pattern-item.result.items = omega (arith, c.pattern-item.result.ok.0) in
    c.min-least.ensures ∙ ap₂ min c.loop-pattern.invariant long ∙ sym (shortest-push front c.pattern-item.result.items)
    ∙ ap (λ p. shortest (front ++ p ∷ [])) pattern ∙ ap shortest (sym more)
