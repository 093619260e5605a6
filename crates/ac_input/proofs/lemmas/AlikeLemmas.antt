-- Texts that are the same: what holds of one holds of the other. So one state may stand for all texts with its
-- canonical bytes.
use Rattle.std.proofs.Common.{◌≡◌, inl, inr, ⊎_elim, ℕ, zero, suc, ◌-◌, Bool, false, List, [], ◌∷◌, ◌++◌, length, take, drop, map, Option, Some, None, IsTrue, slice_range, sym, ap, ap₂, subst, refl, ◌∙◌, arith}
use Rattle.std.proofs.lemmas.Bool.{and_parts, and_from, false≢true}
use Rattle.std.proofs.lemmas.Bool.Decides.{nat_tests}
use Rattle.std.proofs.lemmas.List.{map-append}
use Rattle.ac_input.specs.declared.search.MatchKind.{MatchKind}
use Rattle.ac_input.specs.Same.{same, same_text}
use Rattle.ac_input.specs.Occurrence.{Occurrence, Occurs}
use Rattle.ac_input.specs.Best.{IsBest}
use Rattle.ac_input.specs.Dictionary.{Dictionary, Begins, BeginsEntered, whole, IsAlive, IsLive}
use Rattle.ac_input.specs.Failure.{IsFailure, IsOwn, AreOwn, IsList, OwnAlone, OwnThen}
use Rattle.ac_input.specs.Laws.LiveLaws.{canonical}
use Rattle.ac_input.proofs.lemmas.OrderLemmas.{same_text-length}
use Rattle.ac_input.proofs.lemmas.BestLemmas.{IsLeast-like}
use Rattle.ac_input.proofs.lemmas.SameLemmas.{own-inverse, same_text-itself, same_text-take, same_text-back, same_text-transitive, same_text-canonical}

-- texts that are the same have the same rests
pub same_text-drop : (pairing : List ℕ) (n : ℕ) (xs ys : List ℕ) → IsTrue (same_text pairing xs ys)
    → IsTrue (same_text pairing (drop n xs) (drop n ys))
same_text-drop pairing zero xs ys h = h
same_text-drop pairing (suc n) [] [] h = refl
same_text-drop pairing (suc n) [] (y ∷ ys) h = absurd (false≢true h)
same_text-drop pairing (suc n) (x ∷ xs) [] h = absurd (false≢true h)
same_text-drop pairing (suc n) (x ∷ xs) (y ∷ ys) h =
    same_text-drop pairing n xs ys (and_parts (same pairing x y) (same_text pairing xs ys) h).1

-- texts that are the same stay so when equal bytes are appended
pub same_text-append : (pairing xs ys more : List ℕ) → IsTrue (same_text pairing xs ys)
    → IsTrue (same_text pairing (xs ++ more) (ys ++ more))
same_text-append pairing [] [] more h = same_text-itself pairing more
same_text-append pairing [] (y ∷ ys) more h = absurd (false≢true h)
same_text-append pairing (x ∷ xs) [] more h = absurd (false≢true h)
same_text-append pairing (x ∷ xs) (y ∷ ys) more h =
    let parts = and_parts (same pairing x y) (same_text pairing xs ys) h in
    and_from (same pairing x y) (same_text pairing (xs ++ more) (ys ++ more)) parts.0
    (same_text-append pairing xs ys more parts.1)

-- what occurs in a text occurs in one that is the same
pub occurs-same : (m : Dictionary) {x y : List ℕ} {anchored : Bool} {o : Occurrence} → IsTrue (same_text m.pairing x y)
    → Occurs (whole m x anchored) o → Occurs (whole m y anchored) o
occurs-same m {x} {y} {o} like h =
    let w = h.within in
    let long = same_text-length m.pairing x y like in
    let part : IsTrue (same_text m.pairing (slice_range x o.start o.end) (slice_range y o.start o.end)) = same_text-take
    m.pairing (o.end - o.start) (drop o.start x) (drop o.start y) (same_text-drop m.pairing o.start x y like) in
    record {
      within = (w.0, w.1, omega arith);
      same = (
        h.same.0,
        h.same.1,
        same_text-transitive m.pairing h.same.0 (slice_range x o.start o.end) (slice_range y o.start o.end) h.same.2
            part,
      );
      anchor = h.anchor;
    }

-- texts that are the same have one best
pub best-same : (kind : MatchKind) (m : Dictionary) (x y : List ℕ) (anchored : Bool) (r : Option Occurrence)
    → IsTrue (same_text m.pairing x y) → IsBest kind (whole m x anchored) r → IsBest kind (whole m y anchored) r
best-same kind m x y anchored r like h =
    IsLeast-like kind
    (λ o. (occurs-same m like, occurs-same m (same_text-back m.pairing x y like)))
    r h

-- a text that is the same as a beginning of a pattern begins it, too
begins-like : (pairing x y p : List ℕ) → IsTrue (same_text pairing x y) → Begins pairing x p → Begins pairing y p
begins-like pairing x y p like h =
    let long = same_text-length pairing x y like in
    let le = h.0 in (
      omega arith,
      subst (λ n. IsTrue (same_text pairing y (take n p))) long
          (same_text-transitive pairing y x (take (length x) p) (same_text-back pairing x y like) h.1),
    )

-- a text that is the same as a beginning of an entered pattern begins one, too
pub begins-same : (m : Dictionary) (x y : List ℕ) → IsTrue (same_text m.pairing x y) → BeginsEntered m x
    → BeginsEntered m y
begins-same m [] [] like h = tt
begins-same m [] (y ∷ ys) like h = absurd (false≢true like)
begins-same m (x ∷ xs) [] like h = absurd (false≢true like)
begins-same m (x ∷ xs) (y ∷ ys) like h = (h.0, h.1, h.2, begins-like m.pairing (x ∷ xs) (y ∷ ys) h.1 like h.3)

-- a place that is alive in a text is alive in one that is the same
pub alive-same : {m : Dictionary} {x y : List ℕ} {anchored : Bool} {from : ℕ} → IsTrue (same_text m.pairing x y)
    → IsAlive m anchored x from → IsAlive m anchored y from
alive-same {m} {x} {y} {from} like h =
    let long = same_text-length m.pairing x y like in
    let back = same_text-back m.pairing x y like in
    record {
      within = let w = h.within in omega arith;
      begins = begins-same m (drop from x) (drop from y) (same_text-drop m.pairing from x y like) h.begins;
      anchor = h.anchor;
      no_later =
          ⊎_elim inl
          (λ unanchored. ⊎_elim (λ standard. inr (inl standard))
          (λ before. inr (inr (λ best is. before best (best-same m.kind m y x false (Some best) back is)))) unanchored)
          h.no_later;
    }

-- texts that are the same have their live prefixes at one place
pub live-same : (m : Dictionary) (x y : List ℕ) (anchored : Bool) (r : Option ℕ) → IsTrue (same_text m.pairing x y)
    → IsLive m anchored x r → IsLive m anchored y r
live-same m x y anchored None like h = λ from alive. h from (alive-same (same_text-back m.pairing x y like) alive)
live-same m x y anchored (Some from) like h = (
  alive-same like h.0,
  λ another alive. h.1 another (alive-same (same_text-back m.pairing x y like) alive),
)

-- texts that are the same have their failures at one place
pub failure-same : (m : Dictionary) (x y : List ℕ) (r : Option ℕ) → IsTrue (same_text m.pairing x y) → IsFailure m x r
    → IsFailure m y r
failure-same m x y None like h = λ at past. h at (past.0, alive-same (same_text-back m.pairing x y like) past.1)
failure-same m x y (Some from) like h = (
  (h.0.0, alive-same like h.0.1),
  λ another past. h.1 another (past.0, alive-same (same_text-back m.pairing x y like) past.1),
)

-- an own pattern of one is an own pattern of the other
pub own-same : (m : Dictionary) {x y : List ℕ} {n : ℕ} → IsTrue (same_text m.pairing x y) → IsOwn m x n → IsOwn m y n
own-same m {x} {y} like h = (h.0, h.1, same_text-transitive m.pairing h.0 x y h.2 like)

-- texts that are the same have the same own patterns
pub owns-same : (m : Dictionary) (x y ns : List ℕ) → IsTrue (same_text m.pairing x y) → AreOwn m x ns → AreOwn m y ns
owns-same m x y ns like h = (
  h.0,
  λ n.
      (λ c. own-same m like ((h.1 n).0 c), λ own. (h.1 n).1 (own-same m (same_text-back m.pairing x y like) own)),
)

-- texts that are the same have one list
pub list-same : {m : Dictionary} {x ns : List ℕ} → IsList m x ns → {y : List ℕ} → IsTrue (same_text m.pairing x y)
    → IsList m y ns
list-same {m} {x} {ns} (OwnAlone _ _ are failure) {y} like =
    OwnAlone y ns (owns-same m x y ns like are) (failure-same m x y None like failure)
list-same {m} {x} (OwnThen _ own rest from are failure list) {y} like =
    OwnThen y own rest from (owns-same m x y own like are) (failure-same m x y (Some from) like failure)
    (list-same list (same_text-drop m.pairing from x y like))

-- ---- canonical texts

-- the canonical byte of a canonical byte is itself
pub canonical-twice : (pairing : List ℕ) (byte : ℕ)
    → canonical pairing (canonical pairing byte) ≡ canonical pairing byte
canonical-twice pairing byte =
    let back = own-inverse pairing byte in
    grind (arith, nat_tests)

-- the canonical bytes of canonical bytes are those bytes
pub canonical-text : (pairing text : List ℕ)
    → map (canonical pairing) (map (canonical pairing) text) ≡ map (canonical pairing) text
canonical-text pairing [] = refl
canonical-text pairing (b ∷ bs) = ap₂ ◌∷◌ (canonical-twice pairing b) (canonical-text pairing bs)

-- a text is the same as its canonical bytes
pub canonical-like : (pairing text : List ℕ) → IsTrue (same_text pairing text (map (canonical pairing) text))
canonical-like pairing text =
    same_text-canonical pairing text (map (canonical pairing) text) (sym (canonical-text pairing text))

-- a text stays the same when its last byte is replaced by the canonical one
pub canonical-last : (pairing text : List ℕ) (byte : ℕ)
    → IsTrue (same_text pairing (text ++ byte ∷ []) (text ++ canonical pairing byte ∷ []))
canonical-last pairing text byte =
    same_text-canonical pairing (text ++ byte ∷ []) (text ++ canonical pairing byte ∷ [])
    (map-append (canonical pairing) text (byte ∷ [])
    ∙ ap (λ b. map (canonical pairing) text ++ b ∷ []) (sym (canonical-twice pairing byte))
    ∙ sym (map-append (canonical pairing) text (canonical pairing byte ∷ [])))
