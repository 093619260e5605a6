-- The hash of the bytes so far is computed, one byte at a time.
use Rattle.std.proofs.Common.{ap, sym, ◌∙◌, take, get_or}
use Rattle.std.proofs.lemmas.List.{take_more}
use Rattle.ac_literal.specs.Packed.RabinKarp.{hash_of}
use Rattle.ac_literal.proofs.packed.HashLemmas.{hash_of-nil, hash_of-push}
use Rattle.ac_literal.proofs.packed.rabinkarp.hash_of.Goals as goal

pub loop-byte-init : goal.loop-byte-init
loop-byte-init c = hash_of-nil

pub loop-byte-preserved : goal.loop-byte-preserved
loop-byte-preserved c =
    let bytes = c.args.bytes.now in
    let i = c.loop-byte.byte-index in
    c.add-hash.ensures ∙ hash_of-push (take i bytes) (get_or bytes i 0) c.loop-byte.invariant
    ∙ ap hash_of (sym (take_more bytes i 0 c.loop-byte-test.true))
