-- The numbers of the states of the automaton.
use Rattle.std.proofs.Common.{◌≡◌, ◌≢◌, ℕ, ◌+◌, ◌<◌, ◌≤◌, List, length, get_or, sym, ap, subst, ◌∙◌, ⊎_elim, arith, slice_index, slice_set, get_or-set_same, get_or-set_other}
use Rattle.std.proofs.lemmas.Bool.{cases_eq}
use Rattle.ac_noncontiguous.specs.declared.compiler.numbering.Numbering.{Numbering}
use Rattle.ac_noncontiguous.specs.Compiler.Numbering.{AreFirstNumbers, IsNumbering}
use Rattle.ac_noncontiguous.proofs.lemmas.IndexLemmas.{read-there}

-- the number of a trie state, as it is read
pub number-read : (numbering : Numbering) {states id at x : ℕ} → IsNumbering states numbering → id < states → at ≡ id
    → x ≡ get_or numbering.of.items at x → x ≡ slice_index numbering.of.items id
number-read numbering n within at read =
    read-there numbering.of.items (omega (arith, within, n.numbers.counted)) at read

-- past the last state no numbers are needed
pub first-none : {at of : List ℕ} {from : ℕ} → length at ≤ from → AreFirstNumbers at from of
first-none past =
    record {
      back = λ j after within. absurd (omega arith);
      least = λ j after within. absurd (omega arith);
    }

-- the number of one more state's trie state is set
pub first-more : (at of : List ℕ) (from : ℕ) → from < length at → slice_index at from < length of
    → AreFirstNumbers at (from + 1) of → AreFirstNumbers at from (slice_set of (slice_index at from) from)
first-more at of from within room f =
    let i = slice_index at from in
    let new = slice_set of i from in
    let here : slice_index new i ≡ from = get_or-set_same of i from 0 room in
    let same : (j : ℕ) → slice_index at j ≡ i
    → slice_index new (slice_index at j) ≡ from = λ j e. ap (slice_index new) e ∙ here in
    let there : (j : ℕ) → slice_index at j ≢ i
    → slice_index new (slice_index at j) ≡ slice_index of (slice_index at j) =
    λ j ne. get_or-set_other of i (slice_index at j) from 0 ne in
    record {
      back = λ j after inside.
          ⊎_elim
          (λ (e : slice_index at j ≡ i). ap (slice_index at) (same j e) ∙ sym e)
          (λ (ne : slice_index at j ≢ i).
          ⊎_elim
          (λ (is_from : j ≡ from). absurd (ne (ap (slice_index at) is_from)))
          (λ (later : j ≢ from). ap (slice_index at) (there j ne) ∙ f.back j (omega arith) inside)
          (cases_eq j from))
          (cases_eq (slice_index at j) i);
      least = λ j after inside.
          ⊎_elim
          (λ (e : slice_index at j ≡ i). let h = same j e in (omega arith, omega arith))
          (λ (ne : slice_index at j ≢ i).
          ⊎_elim
          (λ (is_from : j ≡ from). absurd (ne (ap (slice_index at) is_from)))
          (λ (later : j ≢ from). let h = there j ne in let l = f.least j (omega arith) inside in
          (omega (arith, l.0), omega (arith, l.1)))
          (cases_eq j from))
          (cases_eq (slice_index at j) i);
    }

-- a write of a state's number to its trie state sets it
pub first-set : {at of : List ℕ} {from i number : ℕ} → from < length at → i < length of → i ≡ slice_index at from
    → number ≡ from → AreFirstNumbers at (from + 1) of → AreFirstNumbers at from (slice_set of i number)
first-set {at} {of} {from} {number} within room read is f =
    let h = first-more at of from within (omega arith) f in
    subst (λ k. AreFirstNumbers at from (slice_set of k number)) (sym read)
    (subst (λ n. AreFirstNumbers at from (slice_set of (slice_index at from) n)) (sym is) h)
