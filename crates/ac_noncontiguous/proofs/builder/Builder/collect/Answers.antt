-- After each turn the patterns so far are collected.
use Rattle.std.proofs.Common.{ℕ, ◌≤◌, List, [], length, get_or, sym, ap, arith, ◌∙◌}
use Rattle.std.proofs.lemmas.List.{length-map}
use Rattle.std.specs.Borrow.{Bor}
use Rattle.ac_input.specs.Limits.{with_pattern}
use Rattle.ac_noncontiguous.specs.Builder.{dictionary_by}
use Rattle.ac_noncontiguous.proofs.builder.BuildLemmas.{first-more, pattern-at}
use Rattle.ac_input.proofs.lemmas.TrieLemmas.{first-all}
use Rattle.ac_noncontiguous.proofs.builder.Builder.collect.Goals as goal

pub loop-pattern-preserved : goal.loop-pattern-preserved
loop-pattern-preserved c =
    let m = dictionary_by c.args.self.now c.args.patterns.now in
    let d : Bor (List ℕ) = record { ref_ptr = (0, 0); now = [] } in
    let p = (get_or c.args.patterns.now c.loop-pattern.pattern-index d).now in
    let is = pattern-at c.args.patterns.now m.pairing m.kind d c.loop-pattern-test.true in
    c.in_ok-try_add.ensures.ok
    ∙ ap (λ k. with_pattern k p) c.loop-pattern.invariant
    ∙ sym (first-more m c.loop-pattern.pattern-index p is)

pub returns : goal.returns
returns c =
    let m = dictionary_by c.args.self.now c.args.patterns.now in
    let f = λ (p : Bor (List ℕ)). p.now in
    let all : length m.patterns ≤ c.loop-pattern.pattern-index = omega (arith, length-map c.args.patterns.now f) in
    c.loop-pattern.invariant ∙ first-all all
