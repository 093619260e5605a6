-- The patterns so far are added.
use Rattle.std.proofs.Common.{[], ◌+◌, ℕ, List, Bor, get_or, take, map, sym, ap, ◌∙◌}
use Rattle.std.proofs.lemmas.List.{map_more, take-map}
use Rattle.ac_literal.specs.Packed.{added, added_all}
use Rattle.ac_literal.proofs.packed.PatternLemmas.{added_all-push}
use Rattle.ac_literal.proofs.packed.api.Builder.try_extend.Goals as goal

abbrev text_of : Bor (List ℕ) → List ℕ
text_of pattern = pattern.now

pub loop-pattern-preserved : goal.loop-pattern-preserved
loop-pattern-preserved c =
    let patterns = c.args.patterns.now in
    let i = c.loop-pattern.pattern-index in
    let pattern = text_of (get_or patterns i (record { ref_ptr = (0, 0); now = [] })) in
    let front = take-map text_of i patterns in
    let more = map_more text_of patterns i (record { ref_ptr = (0, 0); now = [] }) c.loop-pattern-test.true in
    c.in_ok-try_add.ensures.ok
    ∙ ap (λ b. added b pattern) (c.loop-pattern.invariant ∙ ap (added_all c.args.self.now) front)
    ∙ sym (added_all-push c.args.self.now (map text_of (take i patterns)) pattern)
    ∙ ap (added_all c.args.self.now) (sym (take-map text_of (i + 1) patterns ∙ more))
