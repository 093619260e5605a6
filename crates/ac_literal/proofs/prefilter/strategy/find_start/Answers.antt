use Rattle.std.proofs.Common.{◌≤◌, arith}
use Rattle.ac_literal.proofs.prefilter.CandidateLemmas.{scanned_none, scanned_some}
use Rattle.ac_literal.proofs.prefilter.StartBytesLemmas.{start_hold, start_known, start_no_earlier}
use Rattle.ac_literal.proofs.prefilter.strategy.find_start.Goals as goal

pub returns-in-None : goal.returns-in-None
returns-in-None c =
    λ m starts.
    scanned_none m c.args.needles.now c.args.haystack.now c.args.span c.requires.ordered c.requires.within
    c.args.steps.now c.scan.new.steps
    (start_hold c.args.haystack.now c.args.span c.requires.within starts)
    c.in-None.ensures.found c.in-None.ensures.counted

pub returns-in-Some : goal.returns-in-Some
returns-in-Some c =
    λ m starts.
    let low : c.args.span.start ≤ c.in-Some.at = c.in-Some.ensures.found.0.low in
    scanned_some m c.args.needles.now c.args.haystack.now c.args.span c.requires.ordered c.requires.within
    c.args.steps.now c.scan.new.steps
    (start_hold c.args.haystack.now c.args.span c.requires.within starts)
    (start_known c.args.haystack.now c.args.span c.requires.within starts) c.in-Some.ensures.found
    c.in-Some.ensures.counted
    low (omega arith) (omega arith)
    (start_no_earlier c.args.haystack.now c.args.span c.requires.within starts c.in-Some.ensures.found)
