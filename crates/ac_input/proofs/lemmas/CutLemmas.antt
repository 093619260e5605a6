-- What comes before a cut of a text is final.
use Rattle.std.proofs.Common.{◌≡◌, ℕ, ◌+◌, ◌-◌, ◌<◌, ◌≤◌, false, List, [], ◌∷◌, ◌++◌, length, take, drop, get_or, Option, Some, None, Contains, slice_range, sym, ap, ap₂, subst, refl, ◌∙◌, ⊎_elim, arith, append_assoc}
use Rattle.std.proofs.lemmas.List.{drop-append-le, length-drop, length-append, take-append-drop, length-take-le}
use Rattle.std.proofs.lemmas.List.Elements.{Contains-append_right}
use Rattle.std.proofs.lemmas.Bool.{cases_lt, false≢true}
use Rattle.std.proofs.Math.Seq.{take-append-add}
use Rattle.ac_input.specs.declared.search.MatchKind.{MatchKind}
use Rattle.ac_input.specs.declared.search.MatchKind.TheVariants.{Standard}
use Rattle.ac_input.specs.Occurrence.{Search, Occurrence, Occurs, starting_at}
use Rattle.ac_input.specs.Best.{IsBest}
use Rattle.ac_input.specs.Walk.{Repeats, IsPick, Here, Further, IsWalk}
use Rattle.ac_input.specs.Dictionary.{Dictionary, whole}
use Rattle.ac_input.specs.Cut.{IsCut}
use Rattle.ac_input.specs.Text.{replaced_from, listed}
use Rattle.ac_input.specs.Computed.{walk_of}
use Rattle.ac_input.specs.Laws.BeginningLaws.{IsBeginning, longer}
use Rattle.ac_input.proofs.lemmas.ContainsLemmas.{Contains-head}
use Rattle.ac_input.proofs.lemmas.BestLemmas.{least-unique_standard}
use Rattle.ac_input.proofs.lemmas.WalkLemmas.{occurs-earlier, pick-within, walk_of-walk}
use Rattle.ac_input.proofs.lemmas.TextLemmas.{pick-occurs, replaced-pick}
use Rattle.ac_input.proofs.lemmas.BeginningLemmas.{slice_range-append, longer-occurs, repeated-longer, walk-longer, listed-beginning}

-- what occurs from a later place on occurs from an earlier one on, if the search isn't anchored
occurs-from_further : (s : Search) {at from : ℕ} {o : Occurrence} → at ≤ from → s.anchored ≡ false
    → Occurs (starting_at s from) o → Occurs (starting_at s at) o
occurs-from_further s le free h = occurs-earlier s le (λ t. absurd (false≢true (sym free ∙ t))) h

-- the case of the next lemma in which the best of the beginning repeats the pick before it
further-ends_behind : (s : Search) (more : List ℕ) (end at : ℕ) (last : Option ℕ) (b : Option Occurrence)
    (r : Occurrence) → s.end ≤ length s.haystack → s.end ≤ end → IsBest Standard (starting_at s at) b → Repeats last b
    → IsBest Standard (starting_at s (at + 1)) None → IsPick Standard (longer s more end) at last (Some r)
    → r.end ≤ s.end → ⊥
further-ends_behind s more end at last b r inside le h rep k (Here g n) early =
    n (subst (Repeats last)
    (least-unique_standard (Occurs (starting_at (longer s more end) at)) b (Some r)
    (repeated-longer s more at last b inside le h rep) g) rep)
further-ends_behind s more end at last b r inside le h rep k (Further c g rep' l) early =
    k r (longer-occurs more inside early l.0)

-- where an unanchored walk of the beginning is over, the next pick of the longer walk ends after the beginning
none-ends_behind : (s : Search) (more : List ℕ) (end at : ℕ) (last : Option ℕ) (r : Occurrence)
    → s.end ≤ length s.haystack → s.end ≤ end → s.anchored ≡ false → IsPick Standard s at last None
    → IsPick Standard (longer s more end) at last (Some r) → r.end ≤ s.end → ⊥
none-ends_behind s more end at last r inside le free (Here h n) pick early =
    let found = pick-occurs pick in
    h r (occurs-from_further s found.1 free (longer-occurs more inside early found.2))
none-ends_behind s more end at last r inside le free (Further b h rep k) pick early =
    further-ends_behind s more end at last b r inside le h rep k pick early

-- a part that begins in the first of two texts and ends in the second, as two parts
pub slice_range-across : (x more : List ℕ) {at b : ℕ} → at ≤ length x → length x ≤ b
    → slice_range (x ++ more) at b ≡ drop at x ++ take (b - length x) more
slice_range-across x more {at} {b} g h =
    let d = length-drop at x in
    let n : b - at ≡ length (drop at x) + (b - length x) = omega arith in
    ap (take (b - at)) (drop-append-le at x more g)
    ∙ ap (λ count. take count (drop at x ++ more)) n
    ∙ take-append-add (drop at x) more (b - length x)

-- none of the picks crosses the place
abbrev pub LiesAcrossNone : ℕ → List Occurrence → Type 0
LiesAcrossNone place os = (o : Occurrence) → Contains os o → o.start < place → o.end ≤ place

-- what is written after the last pick of the beginning begins what is written there for the whole text
rest-longer : {s : Search} (more : List ℕ) {end at : ℕ} {last : Option ℕ} (replacements : List (List ℕ))
    (rest : List Occurrence) → s.end ≡ length s.haystack → s.end ≤ end → s.anchored ≡ false → at ≤ s.end
    → LiesAcrossNone s.end rest → IsPick Standard s at last None → IsWalk Standard (longer s more end) at last rest
    → IsBeginning (drop at s.haystack) (replaced_from at (s.haystack ++ more) replacements rest)
rest-longer {s} more {at} replacements [] ends le free here across over walk =
    (more, drop-append-le at s.haystack more (omega arith))
rest-longer {s} more {end} {at} {last} replacements (r ∷ rs) ends le free here across over walk =
    let x = s.haystack in
    let inside : s.end ≤ length s.haystack = omega arith in
    let behind = none-ends_behind s more end at last r inside le free over walk.0 in
    let kept = across r (Contains-head rs) in
    let start : s.end ≤ r.start = ⊎_elim (λ (before : r.start < s.end). absurd (behind (kept before)))
    (λ (later : s.end ≤ r.start). later) (cases_lt r.start s.end) in
    let begun = take (r.start - length x) more in
    let written = get_or replacements r.pattern [] ++ replaced_from r.end (x ++ more) replacements rs in (
      begun ++ written,
      replaced-pick at (x ++ more) replacements r rs
          ∙ ap (λ part. part ++ written) (slice_range-across x more (omega arith) (omega arith))
          ∙ append_assoc (drop at x) begun written,
    )

-- if no pick crosses the end of the beginning, its replaced text is a beginning of the whole replaced text
pub replaced-longer : (s : Search) (more : List ℕ) {end at : ℕ} (last : Option ℕ) (replacements : List (List ℕ))
    (fewer rest : List Occurrence) → s.end ≡ length s.haystack → s.end ≤ end → s.anchored ≡ false → at ≤ s.end
    → LiesAcrossNone s.end rest → IsWalk Standard s at last fewer
    → IsWalk Standard (longer s more end) at last (fewer ++ rest)
    → IsBeginning (replaced_from at s.haystack replacements fewer)
    (replaced_from at (s.haystack ++ more) replacements (fewer ++ rest))
replaced-longer s more last replacements [] rest ends le free here across g h =
    rest-longer more replacements rest ends le free here across g h
replaced-longer s more {end} {at} last replacements (o ∷ os) rest ends le free here across g h =
    let x = s.haystack in
    let w = pick-within g.0 in
    let t = replaced-longer s more (Some o.end) replacements os rest ends le free w.2 across g.1 h.1 in
    let part = slice_range-append x more w.0 (omega arith) in
    let front = slice_range x at o.start ++ get_or replacements o.pattern [] in (
      t.0,
      ap₂ (λ before behind. (before ++ get_or replacements o.pattern []) ++ behind) part t.1
          ∙ sym (append_assoc front (replaced_from o.end x replacements os) t.0),
    )

-- the replaced text and the list of a front are beginnings of those of the whole text
abbrev pub IsFinal : Dictionary → MatchKind → List (List ℕ) → List ℕ → List ℕ → Type 0
IsFinal m kind replacements front text =
    IsBeginning (replaced_from 0 front replacements (walk_of kind (whole m front false)))
    (replaced_from 0 text replacements (walk_of kind (whole m text false)))
    × IsBeginning (listed (walk_of kind (whole m front false))) (listed (walk_of kind (whole m text false)))

-- a front is final if its end is a cut of the text that goes on after it
front-final : (m : Dictionary) (front more : List ℕ) (replacements : List (List ℕ)) → m.kind ≡ Standard
    → IsCut m (front ++ more) (length front) → IsFinal m Standard replacements front (front ++ more)
front-final m front more replacements standard cut =
    let s = whole m front false in
    let end = length (front ++ more) in
    let inside : length front ≤ length front = omega arith in
    let le : length front ≤ end = omega (arith, length-append front more) in
    let inside_whole : end ≤ end = omega arith in
    let fewer = walk_of Standard s in
    let picks = walk_of Standard (whole m (front ++ more) false) in
    let g = walk_of-walk Standard s inside in
    let h = walk_of-walk Standard (whole m (front ++ more) false) inside_whole in
    let t = walk-longer s more end 0 None fewer picks inside le g h in
    let k = subst (IsWalk Standard (whole m (front ++ more) false) 0 None) t.1 h in
    let here : walk_of m.kind (whole m (front ++ more) false) ≡ fewer ++ t.0 =
    ap (λ kind. walk_of kind (whole m (front ++ more) false)) standard ∙ t.1 in
    let across = λ (o : Occurrence) (c : Contains t.0 o).
    cut.1 o (subst (λ ps. Contains ps o) (sym here) (Contains-append_right fewer t.0 o c)) in
    let written = replaced-longer s more None replacements fewer t.0 refl le refl (omega arith) across g k in (
      subst (λ ps. IsBeginning (replaced_from 0 front replacements fewer)
          (replaced_from 0 (front ++ more) replacements ps)) (sym t.1) written,
      listed-beginning fewer t,
    )

-- the part of a text before a cut is final
pub cut-final : (m : Dictionary) (text : List ℕ) (cut : ℕ) (replacements : List (List ℕ)) → m.kind ≡ Standard
    → IsCut m text cut → IsFinal m m.kind replacements (take cut text) text
cut-final m text cut replacements standard is_cut =
    let split = take-append-drop cut text in
    let len = length-take-le cut text is_cut.0 in
    let at_length = subst (IsCut m text) (sym len) is_cut in
    let of_both = subst (λ whole_text. IsCut m whole_text (length (take cut text))) (sym split) at_length in
    let final = front-final m (take cut text) (drop cut text) replacements standard of_both in
    subst (λ kind. IsFinal m kind replacements (take cut text) text) (sym standard)
    (subst (λ whole_text. IsFinal m Standard replacements (take cut text) whole_text) split final)
