-- A pattern lies at a place exactly if the bytes there equal its own.
use Rattle.std.proofs.Common.{◌≡◌, ℕ, ◌+◌, ◌<◌, ◌≤◌, List, [], ◌∷◌, length, IsTrue, refl, sym, ap, ap₂, subst, ◌∙◌, arith}
use Rattle.std.specs.Prelude.{slice_range, get_or}
use Rattle.std.proofs.lemmas.Bool.{and_parts, false≢true}
use Rattle.std.proofs.lemmas.Option.{slice_get_within, slice_get-get_or, get_or_from_slice_get}
use Rattle.ac_input.specs.Same.{same, same_text}
use Rattle.ac_input.proofs.lemmas.SameLemmas.{same-unpaired, same_text-itself, unpaired-none}
use Rattle.ac_input.specs.Occurrence.{Occurrence, Occurs, StartsAt}
use Rattle.ac_input.proofs.lemmas.OrderLemmas.{occurs-end, occurrence_from_parts}
use Rattle.ac_literal.specs.Packed.{part_search}
use Rattle.ac_literal.specs.Packed.RabinKarp.{lying}

-- where no byte is paired, texts that are the same are equal
pub same_text-equal : (a b : List ℕ) → IsTrue (same_text [] a b) → a ≡ b
same_text-equal [] [] h = refl
same_text-equal [] (y ∷ ys) h = absurd (false≢true h)
same_text-equal (x ∷ xs) [] h = absurd (false≢true h)
same_text-equal (x ∷ xs) (y ∷ ys) h =
    let parts = and_parts (same [] x y) (same_text [] xs ys) h in
    ap₂ (λ c cs. c ∷ cs) (same-unpaired [] unpaired-none x y parts.0) (same_text-equal xs ys parts.1)

module _ {patterns : List (List ℕ)} {haystack : List ℕ} {start end at number : ℕ} where
  -- a pattern whose bytes stand at a place lies there
  pub lies : start ≤ at → number < length patterns → at + length (get_or patterns number []) ≤ end
      → slice_range haystack at (at + length (get_or patterns number [])) ≡ get_or patterns number []
      → Occurs (part_search patterns haystack start end) (lying patterns at number)
  lies from inside fits same = record {
    within = (from, omega arith, fits);
    same = (
      get_or patterns number [],
      slice_get-get_or patterns number [] inside,
      subst (λ t. IsTrue (same_text [] (get_or patterns number []) t)) (sym same)
          (same_text-itself [] (get_or patterns number [])),
    );
    anchor = λ a. absurd (false≢true a);
  }

  -- where a pattern lies at a place, its bytes stand there
  pub lies-bytes : Occurs (part_search patterns haystack start end) (lying patterns at number)
      → (at + length (get_or patterns number []) ≤ end)
      × (slice_range haystack at (at + length (get_or patterns number [])) ≡ get_or patterns number [])
  lies-bytes h =
      let is : get_or patterns number [] ≡ h.same.0 = get_or_from_slice_get patterns number h.same.0 [] h.same.1 in (
        h.within.2,
        sym (same_text-equal h.same.0 (slice_range haystack at (at + length (get_or patterns number []))) h.same.2)
            ∙ sym is,
      )

-- an occurrence that starts at a place is that of a pattern that lies there
pub starts-lying : {patterns : List (List ℕ)} {haystack : List ℕ} {start end at : ℕ} {o : Occurrence}
    → end ≤ length haystack → StartsAt (part_search patterns haystack start end) at o
    → (o.pattern < length patterns) × (o ≡ lying patterns at o.pattern)
starts-lying {patterns} {o} inside h =
    let e = occurs-end inside h.0 in
    let is : get_or patterns o.pattern [] ≡ e.0 = get_or_from_slice_get patterns o.pattern e.0 [] e.1 in
    let long = ap length is in
    (slice_get_within patterns o.pattern e.0 e.1, occurrence_from_parts refl h.1 (omega arith))
