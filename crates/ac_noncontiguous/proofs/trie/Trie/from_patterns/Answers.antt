-- After each turn the trie is that of the patterns so far.
use Rattle.std.proofs.Common.{ℕ, ◌≤◌, List, length, sym, subst, arith}
use Rattle.std.proofs.lemmas.List.{length-map}
use Rattle.std.proofs.lemmas.Result.{err_from_is_err_and}
use Rattle.std.specs.Borrow.{Bor}
use Rattle.ac_input.specs.Dictionary.{dictionary_of}
use Rattle.ac_literal.specs.Packed.{bytes_of}
use Rattle.ac_noncontiguous.specs.Trie.Kept.{IsTrieOf}
use Rattle.ac_noncontiguous.proofs.trie.TrieLemmas.{trie-within}
use Rattle.ac_noncontiguous.proofs.builder.BuildLemmas.{first-more, refused-at, pattern-at}
use Rattle.ac_input.proofs.lemmas.TrieLemmas.{first-all}
use Rattle.ac_noncontiguous.proofs.trie.Trie.from_patterns.Goals as goal

pub loop-pattern-init : goal.loop-pattern-init
loop-pattern-init c = c.in_ok-trie.ensures.made

pub loop-pattern-preserved : goal.loop-pattern-preserved
loop-pattern-preserved c =
    let m = dictionary_of (bytes_of c.args.patterns.now) c.args.pairing c.args.kind in
    let is = pattern-at c.args.patterns.now c.args.pairing c.args.kind _ c.loop-pattern-test.true in
    subst (λ k. IsTrieOf k c.add.new.self) (sym (first-more m c.loop-pattern.pattern-index _ is))
    (c.in_ok-add.ensures.added _ c.loop-pattern.invariant)

pub returns-in_err-add-clause-refused : goal.returns-in_err-add-clause-refused
returns-in_err-add-clause-refused c =
    let m = dictionary_of (bytes_of c.args.patterns.now) c.args.pairing c.args.kind in
    let p = err_from_is_err_and c.from_residual-in_err-add.result c.from_residual-in_err-add.ensures.1 in
    rw (p.1, p.2)
    (refused-at m c.loop-pattern.pattern-index _ c.in_err-add.field-0.0
    (pattern-at c.args.patterns.now c.args.pairing c.args.kind _ c.loop-pattern-test.true)
    (trie-within c.loop-pattern.invariant) (c.in_err-add.ensures.refused _ c.loop-pattern.invariant))

pub returns-clause-made : goal.returns-clause-made
returns-clause-made c =
    let m = dictionary_of (bytes_of c.args.patterns.now) c.args.pairing c.args.kind in
    let f = λ (p : Bor (List ℕ)). p.now in
    let all : length m.patterns ≤ c.loop-pattern.pattern-index = omega (arith, length-map c.args.patterns.now f) in
    subst (λ k. IsTrieOf k c.loop-pattern.trie) (first-all all) c.loop-pattern.invariant
