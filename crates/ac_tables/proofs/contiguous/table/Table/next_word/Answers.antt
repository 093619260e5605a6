-- A byte leads where the words of the state have its class.
use Rattle.std.proofs.Common.{◌+◌, ◌/◌, get_or, ap, sym, ◌∙◌, arith}
use Rattle.std.proofs.lemmas.List.{get_or_read}
use Rattle.ac_tables.specs.Contiguous.Words.{next_by}
use Rattle.ac_tables.proofs.contiguous.StateLemmas.{word-of, place-within, place-alphabet, dense-place, one-place, dense-at, one-at}
use Rattle.ac_tables.proofs.contiguous.table.Table.next_word.Goals as goal

pub index-word-requires : goal.index-word-requires
index-word-requires c = let within = place-within c.args.self.now c.args.sid c.requires in
    omega (arith, within, c.as_usize-at.ensures.value)

pub index-requires : goal.index-requires
index-requires c =
    let t = c.args.self.now in
    let word = word-of t c.args.sid c.requires c.as_usize-at.ensures.value c.index-word.ensures in
    let alphabet = place-alphabet t c.args.sid c.requires in
    let fits = c.get-class.ensures.fits in
    let there = dense-place t c.args.sid c.get-class.result c.requires (word.1 ∙ c.if-kind-eq-DENSE.true)
    (omega (arith, fits, alphabet)) in
    omega (arith, there, c.as_usize-at.ensures.value)

pub returns-then-kind-eq-DENSE : goal.returns-then-kind-eq-DENSE
returns-then-kind-eq-DENSE c = λ s h.
    let t = c.args.self.now in
    let word = word-of t c.args.sid c.requires c.as_usize-at.ensures.value c.index-word.ensures in
    let fits = c.get-class.ensures.fits in
    let alphabet = h.alphabet in
    let there = dense-at t c.args.sid c.get-class.result (c.as_usize-at.result + 2 + c.get-class.result) s h
    (word.1 ∙ c.if-kind-eq-DENSE.true) (omega (arith, fits, alphabet)) (omega (arith, c.as_usize-at.ensures.value)) in
    get_or_read t.words.items (c.as_usize-at.result + 2 + c.get-class.result) c.index.result.now there.0 c.index.ensures
    0 ∙ (there.1 ∙ ap (next_by s.edges) c.get-class.ensures.value)

pub step_sparse-requires-clause-sparse : goal.step_sparse-requires-clause-sparse
step_sparse-requires-clause-sparse c =
    record {
      kind = (word-of c.args.self.now c.args.sid c.requires c.as_usize-at.ensures.value c.index-word.ensures).1;
      dense = c.if-kind-eq-DENSE.false;
      one = c.if-kind-ne-ONE.true;
    }

pub returns-then-kind-ne-ONE : goal.returns-then-kind-ne-ONE
returns-then-kind-ne-ONE c = λ s h. c.step_sparse.ensures s h ∙ ap (next_by s.edges) c.get-class.ensures.value

pub returns-then-word-class : goal.returns-then-word-class
returns-then-word-class c = λ s h.
    let t = c.args.self.now in
    let word = word-of t c.args.sid c.requires c.as_usize-at.ensures.value c.index-word.ensures in
    let one = one-at t c.args.sid s h (word.1 ∙ c.if-kind-ne-ONE.false) in
    sym (one.2 _ (λ e. c.if-word-class.true (ap (λ n. n / 256) (sym word.0) ∙ (e ∙ sym c.get-class.ensures.value))))

pub index-requires-2 : goal.index-requires-2
index-requires-2 c =
    let t = c.args.self.now in
    let word = word-of t c.args.sid c.requires c.as_usize-at.ensures.value c.index-word.ensures in
    let there = one-place t c.args.sid c.requires (word.1 ∙ c.if-kind-ne-ONE.false) in
    omega (arith, there, c.as_usize-at.ensures.value)

pub returns : goal.returns
returns c = λ s h.
    let t = c.args.self.now in
    let word = word-of t c.args.sid c.requires c.as_usize-at.ensures.value c.index-word.ensures in
    let one = one-at t c.args.sid s h (word.1 ∙ c.if-kind-ne-ONE.false) in
    let at = c.as_usize-at.ensures.value in
    get_or_read t.words.items (c.as_usize-at.result + 2) c.index-2.result.now
    (let there = one.0 in omega (arith, there, at)) c.index-2.ensures 0
    ∙ (ap (λ n. get_or t.words.items (n + 2) 0) at
    ∙ one.1 _ (ap (λ n. n / 256) word.0 ∙ (c.if-word-class.false ∙ c.get-class.ensures.value)))
