-- The fingerprint is made of the first two bytes and the last two.
use Rattle.std.proofs.Common.{◌≡◌, ℕ, ◌-◌, length, get_or, ap, ap₂, ◌∙◌, arith}
use Rattle.ac_input.specs.Laws.LiveLaws.{canonical}
use Rattle.std.specs.Prelude.{◌+◌, ◌*◌, ◌%◌}
use Rattle.ac_literal.proofs.openings.FingerprintLemmas.{print-canonical}
use Rattle.ac_literal.proofs.openings.fingerprints.Fingerprints.print_of.Goals as goal

pub returns-clause-value : goal.returns-clause-value
returns-clause-value c =
    let bytes = c.args.bytes.now in
    let at = λ (k : ℕ). canonical c.args.self.now.pairing (get_or bytes k 0) in
    let two = c.requires in
    let place : length bytes - 1 - 1 ≡ length bytes - 2 = omega arith in
    ap₂ (λ a b. (((a * 31 + b) * 961 + (c.lesser-3.result * 31 + c.lesser-4.result)) % 8192)) c.lesser.ensures.value
    c.lesser-2.ensures.value
    ∙ ap₂ (λ c d. (((at 0) * 31 + (at 1)) * 961 + (c * 31 + d)) % 8192) (c.lesser-3.ensures.value ∙ ap at place)
    c.lesser-4.ensures.value
    ∙ print-canonical c.args.self.now.pairing bytes two
