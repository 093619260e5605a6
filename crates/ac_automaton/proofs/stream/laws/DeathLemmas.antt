-- A text that is dead after the matches that it decides decides one more match.
use Rattle.std.proofs.Common.{◌≡◌, ℕ, ◌≤◌, false, List, [], ◌∷◌, ◌++◌, length, drop, Option, None, Some, slice_range, sym, ap, subst, ◌∙◌, arith, append_assoc, length-append}
use Rattle.std.proofs.lemmas.Option.{same_Some}
use Rattle.std.proofs.lemmas.List.{take_rest}
use Rattle.ac_input.specs.declared.search.MatchKind.{MatchKind}
use Rattle.ac_input.specs.Best.{IsBest}
use Rattle.ac_input.specs.Dictionary.{IsLive, whole}
use Rattle.ac_input.specs.Laws.LiveLaws.{shifted}
use Rattle.ac_input.specs.Occurrence.{Occurrence, Search}
use Rattle.ac_input.specs.Walk.{IsPick, IsWalk}
use Rattle.ac_input.specs.Work.{shortest}
use Rattle.ac_input.proofs.lemmas.LiveLemmas.{dead-final}
use Rattle.ac_input.proofs.lemmas.WalkLemmas.{pick-unique, walk_of-walk}
use Rattle.ac_automaton.specs.Stream.{end_of}
use Rattle.ac_automaton.specs.Stream.Laws.{DeathDecides}
use Rattle.ac_automaton.proofs.stream.StreamLemmas.{pick-any, pick-since, stands_after-given, stands-within, walk-rest}

-- The first of the remaining matches is the pick that a walk makes next.
rest-first : {kind : MatchKind} {w : Search} {at : ℕ} (last : Option ℕ) (rest : List Occurrence) (o : Occurrence)
    → w.end ≤ length w.haystack → 1 ≤ shortest w.patterns → IsWalk kind w at last rest
    → IsPick kind w at (Some at) (Some o) → (more : List Occurrence) × (rest ≡ o ∷ more)
rest-first {kind} {w} {at} last [] o inside some walk pick =
    let e = pick-unique inside (pick-any (Some at) inside some walk) pick in cc
rest-first {kind} {w} {at} last (q ∷ qs) o inside some walk pick =
    let e = same_Some q o (pick-unique inside (pick-any (Some at) inside some walk.0) pick) in
    (qs, ap (λ p. p ∷ qs) e)

-- the law that a dead text decides its next match
pub death-decides : DeathDecides
death-decides m x os o some begins dead best = λ more.
    let from = end_of os in
    let w = whole m (x ++ more) false in
    let v = whole m (x ++ []) false in
    let kind = m.kind in
    let began = begins more in
    let now = begins [] in
    let walk = subst (IsWalk kind w 0 None) began.1 (walk_of-walk kind w (omega arith)) in
    let first = subst (IsWalk kind v 0 None) now.1 (walk_of-walk kind v (omega arith)) in
    let short = subst (λ n. n ≤ length (x ++ [])) (stands_after-given os)
    (stands-within kind v 0 None os now.0 (omega arith) first) in
    let long = length-append x [] in
    let within : from ≤ length x = omega arith in
    let rest = walk-rest kind w 0 None os began.0 walk in
    let there = subst (λ n. IsWalk kind w n rest.0 began.0) (stands_after-given os) rest.1 in
    let part : drop from x ≡ slice_range x from (length x) = sym (take_rest x from) in
    let ends : IsLive m false (slice_range x from (length x)) None = subst (λ l. IsLive m false l None) part dead in
    let is : IsBest kind (whole m (slice_range x from (length x)) false) (Some o) =
    subst (λ l. IsBest kind (whole m l false) (Some o)) part best in
    let pick = pick-since m x more from (length x) o within (omega arith) some
    (λ tail. (dead-final m false false (slice_range x from (length x)) tail (Some o) ends).0 is) in
    let next = rest-first rest.0 began.0 (shifted from o) (omega arith) some there pick in
    (next.0, began.1 ∙ ap (λ l. os ++ l) next.1 ∙ sym (append_assoc os (shifted from o ∷ []) next.0))
