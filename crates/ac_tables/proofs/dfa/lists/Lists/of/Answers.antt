-- One list after another is appended.
use Rattle.std.proofs.Common.{◌≡◌, ◌+◌, ◌-◌, ◌≤◌, ap, subst, ◌∙◌, arith, rules}
use Rattle.std.proofs.lemmas.Result.{err_from_is_err_and}
use Rattle.ac_noncontiguous.specs.Nfa.Reads.{matches_at}
use Rattle.ac_noncontiguous.specs.Nfa.ReadCalls.{special_in}
use Rattle.ac_tables.specs.Dfa.Lists.{AreFirstLists}
use Rattle.ac_tables.proofs.dfa.CellLemmas.{last-match_past}
use Rattle.ac_tables.proofs.dfa.ListLemmas.{lists-more}
use Rattle.ac_tables.proofs.dfa.BuildLemmas.{special-within}
use Rattle.ac_tables.proofs.dfa.lists.Lists.of.Goals as goal

pub loop-sid-preserved : goal.loop-sid-preserved
loop-sid-preserved c =
    let nfa = c.args.nfa.now in
    let past : 2 ≤ c.loop-sid.sid = c.loop-sid.auto.sid in
    let next : c.loop-sid.sid - 2 + 1 ≡ c.loop-sid.sid + 1 - 2 = omega (arith, past) in
    let here : c.must.result ≡ c.loop-sid.sid - 2 + 2 = omega (arith, past, c.must.ensures) in
    let is = c.match_list.ensures.value ∙ ap (matches_at nfa) here in
    subst (λ n. AreFirstLists nfa n c.push.new.self) next
    (lists-more nfa (c.loop-sid.sid - 2) c.match_list.result.now c.loop-sid.lists c.push.new.self c.in_ok-push.ensures
    is c.match_list.ensures.lists.once.known c.loop-sid.invariant)

pub returns : goal.returns
returns c =
    let nfa = c.args.nfa.now in
    let last = last-match_past nfa c.special.ensures.whole in
    let at : c.one_more-sid-end.result ≡ (special_in nfa).max_match_id + 1 = c.one_more-sid-end.ensures.value
    ∙ ap (λ s. s.max_match_id + 1) c.special.ensures.value in
    let past : 2 ≤ c.loop-sid.sid = c.loop-sid.auto.sid in
    let end = c.loop-sid.auto.sid-end in
    let over = c.loop-sid-test.false in
    let all : c.loop-sid.sid - 2 + 1 ≡ (special_in nfa).max_match_id = omega (arith, at, past, end, over, last) in
    (c.loop-sid.sid - 2, all, c.loop-sid.invariant)

pub returns-in_err-push : goal.returns-in_err-push
returns-in_err-push c =
    let p = err_from_is_err_and c.from_residual.result c.from_residual.ensures.1 in
    rw p.1 (search rules)

pub match_list-requires : goal.match_list-requires
match_list-requires c =
    let w = special-within c.special.ensures.whole c.special.ensures.value in
    omega (arith, w.2, c.one_more-sid-end.ensures.value, c.must.ensures, c.loop-sid-test.true)
