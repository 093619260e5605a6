-- Where a pattern opens, its bucket is left, and its fingerprint is in the set.
use Rattle.std.proofs.Common.{ℕ, List, arith}
use Rattle.std.proofs.lemmas.List.{length-map}
use Rattle.std.specs.Borrow.{Bor}
use Rattle.ac_literal.specs.Packed.{bytes_of}
use Rattle.ac_literal.proofs.openings.OpeningLemmas.{opening-marked, opening-printed}
use Rattle.ac_literal.proofs.openings.fronts.Fronts.new.Goals as goal

pub returns : goal.returns
returns c kind text at h =
    let patterns = c.args.patterns.now in
    let all = bytes_of patterns in
    let len = c.args.len in
    let count = length-map patterns (λ (p : Bor (List ℕ)). p.now) in
    let buckets = c.buckets_of in
    let prints = c.prints_of in
    record {
      left = opening-marked all kind text at buckets.ensures.near c.requires.short
          (λ number within. buckets.ensures.all number (omega (arith, within, count))) h;
      printed = opening-printed all kind len prints.result text at
          (prints.ensures.0, λ number within. prints.ensures.1 number (omega (arith, within, count))) h;
    }
