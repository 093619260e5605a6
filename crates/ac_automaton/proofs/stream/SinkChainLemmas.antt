-- How the chain of a sink goes on: by the bytes that it takes, and by the items that it is passed.
use Rattle.std.proofs.Common.{◌≡◌, ℕ, ◌+◌, ◌-◌, ◌≤◌, List, [], ◌∷◌, ◌++◌, length, take, drop, refl, sym, ap, ◌∙◌, subst, arith, slice_range}
use Rattle.std.proofs.lemmas.List.{drop-drop}
use Rattle.std.proofs.Math.Seq.{take-add}
use Rattle.ac_input.specs.Occurrence.{Occurrence}
use Rattle.ac_input.proofs.lemmas.BeginningLemmas.{slice_range-append}
use Rattle.ac_automaton.specs.InMemory.Replace.{LieInOrder}
use Rattle.ac_automaton.specs.Stream.{AllWords, LieApart, Occurrences, Picks, Sequence, Words}
use Rattle.ac_automaton.specs.Stream.Pump.{Handling, IsSinkChain, bytes_between}
use Rattle.ac_automaton.proofs.lemmas.CursorLemmas.{part-empty}

-- ---- the bytes between two places

-- two consecutive parts of a text make one part
slice_range-join : (x : List ℕ) (a b c : ℕ) → a ≤ b → b ≤ c → slice_range x a b ++ slice_range x b c ≡ slice_range x a c
slice_range-join x a b c le more =
    let n : (b - a) + (c - b) ≡ c - a = omega arith in
    let m : a + (b - a) ≡ b = omega arith in
    ap (λ t. slice_range x a b ++ take (c - b) t) (sym (drop-drop (b - a) a x ∙ ap (λ k. drop k x) m))
    ∙ sym (take-add (b - a) (c - b) (drop a x))
    ∙ ap (λ k. take k (drop a x)) n

pub between-join : (q : Sequence) (x : List ℕ) (a b c : ℕ) → (LieApart q → (a ≤ b) × (b ≤ c))
    → bytes_between q x a b ++ bytes_between q x b c ≡ bytes_between q x a c
between-join Picks x a b c order = slice_range-join x a b c (order tt).0 (order tt).1
between-join Occurrences x a b c order = refl
between-join Words x a b c order = slice_range-join x a b c (order tt).0 (order tt).1
between-join AllWords x a b c order = refl

-- no bytes lie between a place and itself
pub between-none : (q : Sequence) (x : List ℕ) (a : ℕ) → bytes_between q x a a ≡ []
between-none Picks x a = part-empty x a
between-none Occurrences x a = refl
between-none Words x a = part-empty x a
between-none AllWords x a = refl

-- the bytes between two places of a text are there in a longer text too
pub between-append : (q : Sequence) (x more : List ℕ) (a b : ℕ) → (LieApart q → (a ≤ b) × (b ≤ length x))
    → bytes_between q (x ++ more) a b ≡ bytes_between q x a b
between-append Picks x more a b order = slice_range-append x more (order tt).0 (order tt).1
between-append Occurrences x more a b order = refl
between-append Words x more a b order = slice_range-append x more (order tt).0 (order tt).1
between-append AllWords x more a b order = refl

-- the bytes between two places, of items that lie one after another
pub between-is : (q : Sequence) (x : List ℕ) (a b : ℕ) → LieApart q → bytes_between q x a b ≡ slice_range x a b
between-is Picks x a b apart = refl
between-is Occurrences x a b apart = absurd apart
between-is Words x a b apart = refl
between-is AllWords x a b apart = absurd apart

-- ---- the chain

-- What a sink takes one after another, it takes.
pub record IsLawful {Z : Type 0} (h : Handling Z) : Type 0 where
  pub begins : (z : Z) → h.takes z [] z
  pub joins : (z mid last : Z) (bytes more : List ℕ) → h.takes z bytes mid → h.takes mid more last
      → h.takes z (bytes ++ more) last
  pub precedes : (z mid last : Z) (bytes before matched : List ℕ) (o : Occurrence) → h.takes z bytes mid
      → h.passes mid before o matched last → h.passes z (bytes ++ before) o matched last

-- where the first of some items begins, or else where the text ends
abbrev pub begin_of : List Occurrence → ℕ → ℕ
begin_of [] to = to
begin_of (o ∷ os) to = o.start

module _ {Z : Type 0} {h : Handling Z} (lawful : IsLawful h) (q : Sequence) where
  -- a chain of no items at a place
  pub chain-none : (x : List ℕ) (at : ℕ) (z : Z) → IsSinkChain h q x at [] at z z
  chain-none x at z = subst (λ bytes. h.takes z bytes z) (sym (between-none q x at)) (lawful.begins z)

  -- one chain after another
  pub chain-then : (patterns : ℕ) (x : List ℕ) (at mid to : ℕ) (os more : List Occurrence) (z y last : Z)
      → (LieApart q → LieInOrder patterns mid at os × (at ≤ mid) × (mid ≤ begin_of more to))
      → IsSinkChain h q x at os mid z y → IsSinkChain h q x mid more to y last
      → IsSinkChain h q x at (os ++ more) to z last
  chain-then patterns x at mid to [] [] z y last order one two =
      subst (λ bytes. h.takes z bytes last) (between-join q x at mid to (λ e. ((order e).1, (order e).2)))
      (lawful.joins z y last _ _ one two)
  chain-then patterns x at mid to [] (o ∷ more) z y last order one two = (
    two.0,
    subst (λ bytes. h.passes z bytes o (bytes_between q x o.start o.end) two.0)
        (between-join q x at mid o.start (λ e. ((order e).1, (order e).2)))
        (lawful.precedes z y two.0 _ _ _ o one two.1),
    two.2,
  )
  chain-then patterns x at mid to (o ∷ os) more z y last order one two = (
    one.0,
    one.1,
    chain-then patterns x o.end mid to os more one.0 y last (λ e. ((order e).0.4, (order e).0.3, (order e).2)) one.2 two,
  )

-- the chain over a text is one over any longer text
pub chain-longer : {Z : Type 0} (h : Handling Z) (q : Sequence) (patterns : ℕ) (x y : List ℕ) (at to : ℕ)
    (os : List Occurrence) (z last : Z)
    → (LieApart q → LieInOrder patterns to at os × (at ≤ to) × (to ≤ length x))
    → IsSinkChain h q x at os to z last → IsSinkChain h q (x ++ y) at os to z last
chain-longer h q patterns x y at to [] z last order one =
    subst (λ bytes. h.takes z bytes last) (sym (between-append q x y at to (λ e. ((order e).1, (order e).2)))) one
chain-longer h q patterns x y at to (o ∷ os) z last order one = (
  one.0,
  subst (λ bytes. h.passes z bytes o (bytes_between q (x ++ y) o.start o.end) one.0)
      (sym (between-append q x y at o.start
      (λ e. let lies = (order e).0 in let start = lies.2 in let end = lies.3 in let within = (order e).2 in
      (lies.1, omega arith))))
      (subst (λ bytes. h.passes z (bytes_between q x at o.start) o bytes one.0)
      (sym (between-append q x y o.start o.end
      (λ e. let lies = (order e).0 in let end = lies.3 in let within = (order e).2 in (lies.2, omega arith)))) one.1),
  chain-longer h q patterns x y o.end to os one.0 last (λ e. ((order e).0.4, (order e).0.3, (order e).2)) one.2,
)
