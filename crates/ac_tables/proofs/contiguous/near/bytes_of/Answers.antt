-- One byte more has its class.
use Rattle.std.proofs.Common.{ℕ, ◌+◌, ◌<◌, ◌∙◌, slice_set, sym, subst, arith, length-set}
use Rattle.ac_input.specs.Alphabet.{class}
use Rattle.ac_tables.specs.Contiguous.NearReads.{IsByteOfClass}
use Rattle.ac_tables.proofs.contiguous.NearFillLemmas.{bytes-more, bytes-own}
use Rattle.ac_tables.proofs.contiguous.near.bytes_of.Goals as goal

pub loop-byte-preserved : goal.loop-byte-preserved
loop-byte-preserved c =
    let classes = c.args.classes.now in
    let bytes = c.loop-byte.bytes.items in
    let byte = c.loop-byte.byte in
    let at = c.get.ensures.value in
    let fits = c.get.ensures.fits in
    let counted = c.loop-byte.invariant.counted in
    let small = c.loop-byte-test.true in
    record {
      counted = length-set bytes c.get.result byte ∙ counted;
      same = subst (λ n. (b : ℕ) → b < byte + 1 → IsByteOfClass classes (slice_set bytes n byte) (class classes b))
          (sym at) (bytes-more classes bytes byte (omega (arith, small)) (omega (arith, at, fits, counted))
          c.loop-byte.invariant.same);
    }

pub returns : goal.returns
returns c =
    let classes = c.args.classes.now in
    let bytes = c.loop-byte.bytes.items in
    let counted = c.loop-byte.invariant.counted in
    let end = c.loop-byte-test.false in
    let same : (b : ℕ) → b < 256 → IsByteOfClass classes bytes (class classes b) =
    λ b small. c.loop-byte.invariant.same b (omega (arith, small, end)) in
    record {
      counted = counted;
      same = same;
      own = bytes-own classes bytes c.alphabet_len-len.ensures.classes counted same;
    }
