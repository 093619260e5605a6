-- A state's depth, transitions and patterns give the number of its words.
use Rattle.std.proofs.Common.{ℕ, length, sym, ap, ◌∙◌}
use Rattle.std.specs.Prelude.{◌==◌, nat_lt}
use Rattle.std.proofs.lemmas.Bool.{cond-false}
use Rattle.ac_input.specs.Alphabet.{alphabet_len}
use Rattle.ac_noncontiguous.specs.Nfa.ReadCalls.{depth_in, edges_in}
use Rattle.ac_noncontiguous.specs.Nfa.Reads.{matches_at}
use Rattle.ac_tables.specs.Contiguous.Words.{word_count}
use Rattle.ac_tables.proofs.contiguous.LenLemmas.{not-equal}
use Rattle.ac_tables.proofs.contiguous.places.len_of.Goals as goal

pub returns-clause-len : goal.returns-clause-len
returns-clause-len c =
    let nfa = c.args.nfa.now in
    let sid = c.args.sid in
    let classes = alphabet_len c.args.classes.now in
    let edges = length (edges_in nfa sid) in
    let matches = length (matches_at nfa sid) in
    let count = λ (depth : ℕ). word_count classes (nat_lt depth c.args.dense_depth) edges matches in
    c.words_len.ensures.len
    ∙ (ap (λ n. word_count n (nat_lt c.depth.result c.args.dense_depth) c.trans_len.result
    (length c.match_list.result.now)) c.alphabet_len.ensures.value
    ∙ (ap (λ n. word_count classes (nat_lt c.depth.result c.args.dense_depth) n (length c.match_list.result.now))
    c.trans_len.ensures
    ∙ (ap (λ ns. word_count classes (nat_lt c.depth.result c.args.dense_depth) edges (length ns))
    c.match_list.ensures.value
    ∙ (ap count c.depth.ensures.value
    ∙ sym (cond-false (sid == 1) 0 (count (depth_in nfa sid))
    (not-equal sid 1 (λ is. c.if-as_usize-eq-FAIL.false (c.as_usize.ensures.value ∙ is))))))))
