-- Past the table each number is its own partner.
use Rattle.std.proofs.Common.{◌<◌, ◌≤◌, ◌∙◌, ⊎_elim, arith}
use Rattle.std.proofs.lemmas.Bool.{cases_lt}
use Rattle.std.proofs.lemmas.List.{get_or_past}
use Rattle.ac_input.proofs.lemmas.SameLemmas.{other-named}
use Rattle.ac_noncontiguous.proofs.compiler.transitions.is_unpaired.Goals as goal

pub returns : goal.returns
returns c = λ yes b.
    let trie = c.args.trie.now in
    let p = trie.paired in
    ⊎_elim
    (λ (within : b < 256). c.loop-byte.invariant b (let end = c.loop-byte-test.false in omega (arith, within, end)))
    (λ (past : 256 ≤ b). other-named trie.pairing p b ∙ get_or_past trie.pairing b b (let len = p.len in omega (arith, past, len)))
    (cases_lt b 256)
