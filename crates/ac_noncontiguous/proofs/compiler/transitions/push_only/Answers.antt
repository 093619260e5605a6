-- The transitions to the only child: for its byte, and for the byte's partner.
use Rattle.std.proofs.Common.{rules, ◌≡◌, ◌≢◌, ◌∙◌, ◌==◌, ◌<◌, ℕ, if◌then◌else◌, List, [], ◌∷◌, ◌++◌, slice_index, length, get_or, sym, ap, subst, arith, append_assoc}
use Rattle.std.proofs.lemmas.List.{get_or_default}
use Rattle.std.proofs.lemmas.Bool.Decides.{nat_tests}
use Rattle.ac_input.specs.Same.{other}
use Rattle.ac_noncontiguous.specs.Compiler.Only.{for_both, to_only}
use Rattle.ac_noncontiguous.specs.Trie.Tree.{byte, child}
use Rattle.ac_noncontiguous.specs.declared.nfa.tables.Transition.{Transition}
use Rattle.ac_noncontiguous.specs.declared.trie.Trie.{Trie}
use Rattle.ac_noncontiguous.specs.declared.compiler.numbering.Numbering.{Numbering}
use Rattle.ac_noncontiguous.proofs.compiler.transitions.push_only.Goals as goal

-- a byte that has a partner takes two transitions
two-for_both : (low partner next : ℕ) → partner ≢ low
    → for_both low partner next ≡ record { byte = low; next = next } ∷ (record { byte = partner; next = next } ∷ [])
two-for_both low partner next apart = grind (arith, nat_tests)

some-only : (kid : ℕ) (all : List Transition) → kid ≢ 0 → (if kid == 0 then [] else all) ≡ all
some-only kid all some = grind (arith, nat_tests)

-- a child whose byte has a partner takes two transitions
only-two : (trie : Trie) (numbering : Numbering) (of kid low partner next : ℕ) → kid ≡ child trie.states.items of
    → kid ≢ 0 → low ≡ byte trie.states.items kid → next ≡ slice_index numbering.of.items kid
    → partner ≡ other trie.pairing low → partner ≢ low
    → to_only trie numbering of ≡ record { byte = low; next = next } ∷ (record { byte = partner; next = next } ∷ [])
only-two trie numbering of kid low partner next is some low_is next_is partner_is apart =
    let all = λ (k : ℕ). for_both (byte trie.states.items k) (other trie.pairing (byte trie.states.items k))
    (slice_index numbering.of.items k) in
    ap (λ k. if k == 0 then [] else all k) (sym is)
    ∙ some-only kid (all kid) some
    ∙ ap (λ b. for_both b (other trie.pairing b) (slice_index numbering.of.items kid)) (sym low_is)
    ∙ ap (λ p. for_both low p (slice_index numbering.of.items kid)) (sym partner_is)
    ∙ ap (for_both low partner) (sym next_is)
    ∙ two-for_both low partner next apart

-- two elements, appended one after the other
appended-two : (old mid new : List Transition) (a b : Transition) → mid ≡ old ++ a ∷ [] → new ≡ mid ++ b ∷ []
    → new ≡ old ++ a ∷ (b ∷ [])
appended-two old mid new a b first second = second ∙ ap (λ l. l ++ b ∷ []) first ∙ append_assoc old (a ∷ []) (b ∷ [])

pub returns-in_ok-push-2 : goal.returns-in_ok-push-2
returns-in_ok-push-2 c =
    let trie = c.args.trie.now in
    let kid = c.state-child.result.child in
    let is : kid ≡ child trie.states.items c.args.of = ap (λ s. s.child) c.state-child.ensures in
    let low_is : c.state-byte.result.byte ≡ byte trie.states.items kid = ap (λ s. s.byte) c.state-byte.ensures in
    let some : kid ≢ 0 = grind (arith, nat_tests, c.eq.ensures, c.if-eq.false) in
    let of = c.args.numbering.now.of.items in
    let kid_in : kid < length of = search rules in
    let read = c.index-next.ensures ∙ ap (λ n. get_or of n c.index-next.result.now) c.as_usize.ensures.value
    ∙ get_or_default of kid c.index-next.result.now 0 kid_in in
    let only = only-two trie c.args.numbering.now c.args.of kid _ _ c.index-next.result.now is some low_is read
    c.other-other.ensures c.if-other-byte.true in (
      appended-two c.args.transitions.now.items c.push.new.self.items c.push-then-other-byte.new.self.items _ _
          c.in_ok-push.ensures.items c.in_ok-push-2.ensures.items
          ∙ ap (λ l. c.args.transitions.now.items ++ l) (sym only),
      λ _. subst (λ b. b < 256) (low_is ∙ ap (byte trie.states.items) is) (search rules),
    )
