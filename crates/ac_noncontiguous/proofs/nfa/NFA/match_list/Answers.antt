use Rattle.std.proofs.Common.{◌≡◌, take, drop, ap, ap₂, sym, subst, ◌∙◌, length, arith}
use Rattle.ac_noncontiguous.specs.Nfa.Reads.{matches_at}
use Rattle.ac_noncontiguous.specs.Nfa.ReadCalls.{ListsIn}
use Rattle.ac_noncontiguous.proofs.nfa.LookupLemmas.{kept-read}
use Rattle.ac_noncontiguous.proofs.nfa.ReadCallLemmas.{below-kept, kept-matches, lists-in}
use Rattle.ac_noncontiguous.proofs.nfa.NFA.match_list.Goals as goal

pub slice_from-requires : goal.slice_from-requires
slice_from-requires c =
    let a = c.args.self.now in
    let h = below-kept a c.requires in
    let here = kept-read h c.as_usize.ensures.value c.index-state.ensures in
    let from = ap (λ s. s.matches) here in
    let len = ap (λ s. s.matches_len) here in
    let within = kept-matches h in
    let all = ap length c.deref.ensures.value in
    omega (arith, from, len, within, all)

pub returns-clause-lists : goal.returns-clause-lists
returns-clause-lists c =
    let a = c.args.self.now in
    let h = below-kept a c.requires in
    let here = kept-read h c.as_usize.ensures.value c.index-state.ensures in
    let same : matches_at a c.args.sid ≡ c.slice_from.result.now =
    ap₂ (λ len from. take len (drop from a.tables.matches.items)) (ap (λ s. s.matches_len) here)
    (ap (λ s. s.matches) here)
    ∙ (ap (λ xs. take c.index-state.result.now.matches_len (drop c.index-state.result.now.matches xs))
    (sym c.deref.ensures.value) ∙ sym c.slice_from.ensures) in
    subst (ListsIn a c.args.sid) same (lists-in a c.args.sid c.requires)
