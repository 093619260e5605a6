-- The first class that is the wanted one is that of the transition.
use Rattle.std.proofs.Common.{◌≡◌, ℕ, ◌+◌, List, length, take, drop, ap, sym, ◌∙◌, arith}
use Rattle.ac_tables.proofs.contiguous.StateLemmas.{sparse-within, sparse-some_place, sparse-leads, sparse-nowhere}
use Rattle.ac_tables.proofs.contiguous.table.Table.step_sparse.Goals as goal

-- which words were searched
searched : (words all part : List ℕ) (first sid n : ℕ) → part ≡ take n (drop (first + 2) all) → all ≡ words
    → first ≡ sid → part ≡ take n (drop (sid + 2) words)
searched words all part first sid n is same at =
    is ∙ (ap (λ xs. take n (drop (first + 2) xs)) same ∙ ap (λ k. take n (drop (k + 2) words)) at)

pub words_from-requires : goal.words_from-requires
words_from-requires c =
    let within = sparse-within c.args.self.now c.args.sid c.args.len c.requires.place c.requires.sparse in
    let all = ap length c.deref.ensures.value in
    omega (arith, within, all, c.as_usize-first.ensures.value)

pub overflow_add-first-in-Some-2 : goal.overflow_add-first-in-Some-2
overflow_add-first-in-Some-2 c =
    let is = searched c.args.self.now.words.items c.deref.result.now c.words_from.result.now c.as_usize-first.result
    c.args.sid _ c.words_from.ensures c.deref.ensures.value c.as_usize-first.ensures.value in
    let at = sparse-some_place c.args.self.now c.args.sid c.args.len c.args.class c.in-Some.at c.words_from.result.now
    c.requires.place c.requires.sparse is c.in-Some.ensures in
    let within = sparse-within c.args.self.now c.args.sid c.args.len c.requires.place c.requires.sparse in
    let long = ap length c.deref.ensures.value in
    let fits = c.deref.type_inv.0 in
    omega (arith, within, at, long, fits, c.as_usize-first.ensures.value)

pub index-requires : goal.index-requires
index-requires c =
    let is = searched c.args.self.now.words.items c.deref.result.now c.words_from.result.now c.as_usize-first.result
    c.args.sid _ c.words_from.ensures c.deref.ensures.value c.as_usize-first.ensures.value in
    let at = sparse-some_place c.args.self.now c.args.sid c.args.len c.args.class c.in-Some.at c.words_from.result.now
    c.requires.place c.requires.sparse is c.in-Some.ensures in
    let within = sparse-within c.args.self.now c.args.sid c.args.len c.requires.place c.requires.sparse in
    let all = c.deref.ensures.len in
    let long = ap length c.deref.ensures.value in
    omega (arith, within, at, all, long, c.as_usize-first.ensures.value)

pub returns-in-Some : goal.returns-in-Some
returns-in-Some c = λ s h.
    let is = searched c.args.self.now.words.items c.deref.result.now c.words_from.result.now c.as_usize-first.result
    c.args.sid _ c.words_from.ensures c.deref.ensures.value c.as_usize-first.ensures.value in
    sparse-leads c.args.self.now c.args.sid c.args.len c.args.class c.words_from.result.now s h c.requires.sparse is
    c.in-Some.at _ c.index.result.now c.in-Some.ensures (omega (arith, c.as_usize-first.ensures.value)) c.index.ensures

pub returns-in-None : goal.returns-in-None
returns-in-None c = λ s h.
    let is = searched c.args.self.now.words.items c.deref.result.now c.words_from.result.now c.as_usize-first.result
    c.args.sid _ c.words_from.ensures c.deref.ensures.value c.as_usize-first.ensures.value in
    sym (sparse-nowhere c.args.self.now c.args.sid c.args.len c.args.class c.words_from.result.now s h c.requires.sparse
    is c.in-None.ensures)
