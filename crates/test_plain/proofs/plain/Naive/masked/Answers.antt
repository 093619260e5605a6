use Rattle.std.proofs.Common.{◌<◌, ◌≤◌, ◌++◌, ◌∷◌, [], length, slice_index, refl, ap, ◌∙◌, subst, true≢false, sym}
use Rattle.test_plain.specs.Naive.{Plain}
use Rattle.test_plain.proofs.plain.Occurrences.{fits_too}
use Rattle.test_plain.proofs.plain.Masking.{next_covered, next_kept, all_masked}
use Rattle.test_plain.proofs.plain.Naive.masked.Goals as goal
use Rattle.test_plain.proofs.plain.Naive.masked.Goals.{then-is_covered, else-is_covered}

pub loop-at-preserved : goal.loop-at-preserved
loop-at-preserved c =
    let s : Plain = c.args.self.now in
    let at = c.loop-at.at in
    let byte = c.if-is_covered.byte in
    let fits = fits_too c.self.view_is c.self.invariant.1 in
    let within = subst (λ t. at < length t.search.haystack) c.self.view_is c.loop-at-test.true in
    rw c.in_ok-push.ensures.items
    (ap (λ xs. xs ++ byte ∷ []) c.loop-at.invariant
    ∙ elim c.if-is_covered.branch [
      | then-is_covered w ↦
          next_covered c.args.mask s at byte fits within (w.if-is_covered.ensures.0 refl) w.byte-is
      | else-is_covered w ↦
          next_kept c.args.mask s at byte fits within (λ h. true≢false (sym (w.if-is_covered.ensures.1 h)))
          (w.byte-is ∙ ap (λ t. slice_index t.search.haystack at) c.self.view_is)
    ])

pub returns : goal.returns
returns c =
    let s : Plain = c.args.self.now in
    let fits = fits_too c.self.view_is c.self.invariant.1 in
    c.loop-at.invariant
    ∙ all_masked c.args.mask s c.loop-at.at fits
    (subst (λ t. length t.search.haystack ≤ c.loop-at.at) c.self.view_is c.loop-at-test.false)
