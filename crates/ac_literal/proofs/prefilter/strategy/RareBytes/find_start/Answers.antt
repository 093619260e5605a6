use Rattle.std.proofs.Common.{◌≡◌, ◌-◌, ◌≤◌, max, ap, ◌∙◌, arith}
use Rattle.std.specs.Prelude.{slice_index}
use Rattle.ac_literal.proofs.prefilter.CandidateLemmas.{scanned_none, scanned_some}
use Rattle.ac_literal.proofs.prefilter.RareBytesLemmas.{rare_hold, rare_no_earlier}
use Rattle.ac_literal.proofs.prefilter.strategy.RareBytes.find_start.Goals as goal

pub returns-in_default : goal.returns-in_default
returns-in_default c =
    λ m rare.
    scanned_none m c.args.self.now.needles c.args.haystack.now c.args.span c.requires.ordered c.requires.within
    c.args.steps.now c.scan.new.steps
    (rare_hold c.requires.within rare)
    c.in_default.ensures.found c.in_default.ensures.counted

pub returns : goal.returns
returns c =
    λ m rare.
    let near = rare.near (slice_index c.args.haystack.now c.in-Some.at) in
    let low : c.args.span.start ≤ c.in-Some.at = c.in-Some.ensures.found.0.low in
    let is : c.max.result ≡ max c.args.span.start
    (c.in-Some.at - slice_index c.args.self.now.distances (slice_index c.args.haystack.now c.in-Some.at)) =
    c.max.ensures ∙ ap (λ n. max c.args.span.start n) c.saturating_sub.ensures in
    scanned_some m c.args.self.now.needles c.args.haystack.now c.args.span c.requires.ordered c.requires.within
    c.args.steps.now c.scan.new.steps
    (rare_hold c.requires.within rare)
    rare.known c.in-Some.ensures.found c.in-Some.ensures.counted
    (omega arith) (omega arith) (omega arith)
    (rare_no_earlier c.requires.within rare is c.in-Some.ensures.found)
