-- The failure of a state, by cases: final states, the start and its children, and the others by their parent's failure.
use Rattle.std.proofs.Common.{◌≡◌, ◌≢◌, ◌∙◌, sym, ap, Some, None, subst, arith}
use Rattle.std.proofs.lemmas.Bool.Decides.{nat_tests}
use Rattle.ac_noncontiguous.specs.Trie.Tree.{parent}
use Rattle.ac_noncontiguous.specs.Links.Failures.{IsFinalIn}
use Rattle.ac_noncontiguous.proofs.trie.BridgeLemmas.{byte-settled}
use Rattle.ac_noncontiguous.proofs.trie.FailLemmas.{stands-of, start-fails, final-fails, first-fails, none-fails, more-fails, above-read, above-fewer, failure-less, goes-on}
use Rattle.ac_noncontiguous.proofs.trie.Trie.failure.Goals as goal
use Rattle.ac_noncontiguous.proofs.trie.Trie.failure.Goals.{then-eq-via-then-eq, then-eq-via-else-eq+then-is_final}

pub returns-then-eq-clause-fails : goal.returns-then-eq-clause-fails
returns-then-eq-clause-fails c m t known =
    let states = c.args.self.now.states.items in
    let s = stands-of t in
    elim c.then-eq.branch [
      | then-eq-via-then-eq w ↦ let is : c.args.id ≡ 0 = grind (arith, nat_tests) in start-fails states s.tree is
      | then-eq-via-else-eq+then-is_final w ↦
          let final = subst (IsFinalIn c.args.self.now.kind states c.args.id) w.if-is_final.true w.is_final.ensures in
          final-fails s c.requires.within (rw (← t.kind) at final)
    ]

pub returns-then-eq-2-clause-fails : goal.returns-then-eq-2-clause-fails
returns-then-eq-2-clause-fails c m t known =
    let states = c.args.self.now.states.items in
    let s = stands-of t in
    let ne : c.args.id ≢ 0 = grind (arith, nat_tests) in
    let none : c.state-state.result.parent ≡ 0 = grind (arith, nat_tests) in
    let open_ = subst (IsFinalIn c.args.self.now.kind states c.args.id) c.if-is_final.false c.is_final.ensures in
    first-fails s ne c.requires.within (sym (ap (λ z. z.parent) c.state-state.ensures) ∙ none) (rw (← t.kind) at open_)

pub next-requires-clause-within : goal.next-requires-clause-within
next-requires-clause-within c =
    let states = c.args.self.now.states.items in
    let ne : c.args.id ≢ 0 = grind (arith, nat_tests) in
    let given = above-read c.args.self.now.tree c.requires.shallower ne c.requires.within c.state-state.ensures
    c.as_usize.ensures.value c.index-fails-as_usize.is in
    (c.requires.shallower.shallower (parent states c.args.id) c.in-Some.from (given ∙ ap Some c.in-Some.is)).0

pub returns-in-None-clause-fails : goal.returns-in-None-clause-fails
returns-in-None-clause-fails c m t known =
    let states = c.args.self.now.states.items in
    let s = stands-of t in
    let ne : c.args.id ≢ 0 = grind (arith, nat_tests) in
    let some : c.state-state.result.parent ≢ 0 = grind (arith, nat_tests) in
    let up : parent states c.args.id ≢ 0 = rw c.state-state.ensures at some in
    let given = above-read s.tree c.requires.shallower ne c.requires.within c.state-state.ensures
    c.as_usize.ensures.value c.index-fails-as_usize.is in
    let p = s.tree.parents c.args.id (omega arith) c.requires.within in
    none-fails s ne c.requires.within up
    (known (parent states c.args.id) None (omega (arith, p.0, c.requires.within)) (omega (arith, p.1))
    (given ∙ ap Some c.in-None.is))

pub returns-in-Some-clause-shallower : goal.returns-in-Some-clause-shallower
returns-in-Some-clause-shallower c =
    let ne : c.args.id ≢ 0 = grind (arith, nat_tests) in
    let given = above-read c.args.self.now.tree c.requires.shallower ne c.requires.within c.state-state.ensures
    c.as_usize.ensures.value c.index-fails-as_usize.is in
    failure-less c.args.self.now.tree c.requires.shallower ne c.requires.within (given ∙ ap Some c.in-Some.is)
    c.next.ensures.shallow

pub returns-in-Some-clause-fails : goal.returns-in-Some-clause-fails
returns-in-Some-clause-fails c m t known =
    let states = c.args.self.now.states.items in
    let fails = c.args.fails.now in
    let s = stands-of t in
    let ne : c.args.id ≢ 0 = grind (arith, nat_tests) in
    let given = above-read s.tree c.requires.shallower ne c.requires.within c.state-state.ensures
    c.as_usize.ensures.value c.index-fails-as_usize.is ∙ ap Some c.in-Some.is in
    let open_ = subst (IsFinalIn c.args.self.now.kind states c.args.id) c.if-is_final.false c.is_final.ensures in
    let free = rw (← t.kind) at open_ in
    let p = s.tree.parents c.args.id (omega arith) c.requires.within in
    let up = known (parent states c.args.id) (Some c.in-Some.from) (omega (arith, p.0, c.requires.within))
    (omega (arith, p.1)) given in
    let from = (c.requires.shallower.shallower (parent states c.args.id) c.in-Some.from given).1 in
    let few = above-fewer states fails (omega (arith, from, p.1)) known in
    let settled = byte-settled s (omega arith) c.requires.within in
    let leads = rw c.state-state.ensures at c.next.ensures.leads in
    more-fails s c.in-Some.from c.next.result ne c.requires.within free up
    (leads m t (goes-on s c.args.id free) settled few)
