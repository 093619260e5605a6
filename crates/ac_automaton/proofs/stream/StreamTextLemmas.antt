-- The text of a stream up to a place, with each match replaced: how it grows, and that it stays.
use Rattle.std.proofs.Common.{◌≡◌, ℕ, ◌+◌, ◌-◌, ◌≤◌, List, [], ◌∷◌, ◌++◌, length, take, drop, get_or, slice_range, sym, ap, ◌∙◌, arith, append_assoc, take-append-drop}
use Rattle.std.proofs.lemmas.List.{append-nil, drop-append-le, take_all, drop_all, length-take-le, length-drop}
use Rattle.std.proofs.Math.Seq.{take-add}
use Rattle.ac_input.specs.Occurrence.{Occurrence}
use Rattle.ac_input.specs.Text.{replaced_from}
use Rattle.ac_input.proofs.lemmas.BeginningLemmas.{slice_range-append}
use Rattle.ac_automaton.specs.InMemory.Replace.{LieInOrder}

-- the front of a text up to a place, and the part from there to a second place, is the front up to the second
take-split : (x : List ℕ) (p q : ℕ) → p ≤ q → q ≤ length x → take p x ++ slice_range x p q ≡ take q x
take-split x p q le within = let n : p + (q - p) ≡ q = omega arith in sym (take-add p (q - p) x) ∙ ap (λ k. take k x) n

-- a part within the front of a text is the same part of the text
pub slice_range-take : (x : List ℕ) (p a b : ℕ) → a ≤ b → b ≤ p → p ≤ length x
    → slice_range (take p x) a b ≡ slice_range x a b
slice_range-take x p a b le before within =
    let enough : b ≤ length (take p x) = omega (arith, length-take-le p x within) in
    sym (slice_range-append (take p x) (drop p x) le enough) ∙ ap (λ t. slice_range t a b) (take-append-drop p x)

-- what is left of a front from a place on, and the part after it, is what is left of the longer front
drop-split : (x : List ℕ) (a p q : ℕ) → a ≤ p → p ≤ q → q ≤ length x
    → drop a (take p x) ++ slice_range x p q ≡ drop a (take q x)
drop-split x a p q before le within =
    let enough : a ≤ length (take p x) = omega (arith, length-take-le p x (omega arith)) in
    sym (drop-append-le a (take p x) (slice_range x p q) enough) ∙ ap (drop a) (take-split x p q le within)

-- what is left of a front from a place on is the part of the text between the two
pub drop-take_is : (x : List ℕ) (a q : ℕ) → a ≤ q → q ≤ length x → drop a (take q x) ≡ slice_range x a q
drop-take_is x a q le within =
    let len : length (drop a (take q x)) ≡ q - a = omega (arith, length-drop a (take q x), length-take-le q x within) in
    sym (take_all (q - a) (drop a (take q x)) (omega arith)) ∙ slice_range-take x q a q le (omega arith) within

-- where all matches end by a place, the replaced text up to there grows by the plain text up to a later place
pub replaced-grows : (x : List ℕ) (replacements : List (List ℕ)) (patterns a p q : ℕ) (os : List Occurrence)
    → LieInOrder patterns p a os → a ≤ p → p ≤ q → q ≤ length x
    → replaced_from a (take p x) replacements os ++ slice_range x p q ≡ replaced_from a (take q x) replacements os
replaced-grows x replacements patterns a p q [] lies from le within = drop-split x a p q from le within
replaced-grows x replacements patterns a p q (o ∷ os) lies from le within =
    let before : o.start ≤ p = omega arith in
    let inside : p ≤ length x = omega arith in
    let part = slice_range-take x p a o.start lies.1 before inside
    ∙ sym (slice_range-take x q a o.start lies.1 (omega arith) within) in
    let more = replaced-grows x replacements patterns o.end p q os lies.4 lies.3 le within in
    let front = slice_range (take p x) a o.start ++ get_or replacements o.pattern [] in
    append_assoc front (replaced_from o.end (take p x) replacements os) (slice_range x p q)
    ∙ ap (λ t. front ++ t) more
    ∙ ap (λ t. (t ++ get_or replacements o.pattern []) ++ replaced_from o.end (take q x) replacements os) part

-- the text replaced up to a match's start grows by its replacement
pub replaced-push : (x : List ℕ) (replacements : List (List ℕ)) (patterns a : ℕ) (os : List Occurrence) (o : Occurrence)
    → LieInOrder patterns o.start a os → a ≤ o.start → o.start ≤ o.end → o.end ≤ length x
    → replaced_from a (take o.start x) replacements os ++ get_or replacements o.pattern []
    ≡ replaced_from a (take o.end x) replacements (os ++ o ∷ [])
replaced-push x replacements patterns a [] o lies from le within =
    let inside : o.start ≤ length x = omega arith in
    let part = drop-take_is x a o.start from inside ∙ sym (slice_range-take x o.end a o.start from le within) in
    let none : drop o.end (take o.end x) ≡ [] =
    drop_all o.end (take o.end x) (omega (arith, length-take-le o.end x within)) in
    let text = slice_range (take o.end x) a o.start ++ get_or replacements o.pattern [] in
    ap (λ t. t ++ get_or replacements o.pattern []) part
    ∙ sym (append-nil text)
    ∙ ap (λ t. text ++ t) (sym none)
replaced-push x replacements patterns a (q ∷ os) o lies from le within =
    let inside : o.start ≤ length x = omega arith in
    let part = slice_range-take x o.start a q.start lies.1 (omega arith) inside
    ∙ sym (slice_range-take x o.end a q.start lies.1 (omega arith) within) in
    let more = replaced-push x replacements patterns q.end os o lies.4 lies.3 le within in
    let front = slice_range (take o.start x) a q.start ++ get_or replacements q.pattern [] in
    append_assoc front (replaced_from q.end (take o.start x) replacements os) (get_or replacements o.pattern [])
    ∙ ap (λ t. front ++ t) more
    ∙ ap (λ t. (t ++ get_or replacements q.pattern [])
    ++ replaced_from q.end (take o.end x) replacements (os ++ o ∷ [])) part

-- what is left of the front up to a place, and the rest of the text replaced, is the text replaced
drop-replaced : (x : List ℕ) (replacements : List (List ℕ)) (patterns a p : ℕ) (rest : List Occurrence) → a ≤ p
    → p ≤ length x → LieInOrder patterns (length x) p rest
    → drop a (take p x) ++ replaced_from p x replacements rest ≡ replaced_from a x replacements rest
drop-replaced x replacements patterns a p [] from within lies =
    let enough : a ≤ length (take p x) = omega (arith, length-take-le p x within) in
    sym (drop-append-le a (take p x) (drop p x) enough) ∙ ap (drop a) (take-append-drop p x)
drop-replaced x replacements patterns a p (o ∷ rest) from within lies =
    let inside : o.start ≤ length x = omega arith in
    let part = drop-split x a p o.start from lies.1 inside ∙ drop-take_is x a o.start (omega arith) inside in
    let replacement = get_or replacements o.pattern [] in
    let behind = replaced_from o.end x replacements rest in
    sym (append_assoc (drop a (take p x)) (slice_range x p o.start ++ replacement) behind)
    ∙ ap (λ t. t ++ behind)
    (sym (append_assoc (drop a (take p x)) (slice_range x p o.start) replacement) ∙ ap (λ t. t ++ replacement) part)

-- The text replaced up to a place that no match crosses, with the rest replaced, is the whole text replaced.
pub replaced-split : (x : List ℕ) (replacements : List (List ℕ)) (patterns a p : ℕ) (os rest : List Occurrence)
    → LieInOrder patterns p a os → LieInOrder patterns (length x) p rest → a ≤ p → p ≤ length x
    → replaced_from a (take p x) replacements os ++ replaced_from p x replacements rest
    ≡ replaced_from a x replacements (os ++ rest)
replaced-split x replacements patterns a p [] rest lies after from within =
    drop-replaced x replacements patterns a p rest from within after
replaced-split x replacements patterns a p (o ∷ os) rest lies after from within =
    let part = slice_range-take x p a o.start lies.1 (omega arith) within in
    let more = replaced-split x replacements patterns o.end p os rest lies.4 after lies.3 within in
    let front = slice_range (take p x) a o.start ++ get_or replacements o.pattern [] in
    append_assoc front (replaced_from o.end (take p x) replacements os) (replaced_from p x replacements rest)
    ∙ ap (λ t. front ++ t) more
    ∙ ap (λ t. (t ++ get_or replacements o.pattern []) ++ replaced_from o.end x replacements (os ++ rest)) part
