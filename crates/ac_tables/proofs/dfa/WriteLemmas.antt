-- Writing transitions over a row, one after another, and which places of the table that changes.
use Rattle.std.proofs.Common.{◌≡◌, ◌≢◌, ◌⊎◌, ℕ, zero, suc, ◌+◌, ◌<◌, ◌≤◌, List, [], ◌∷◌, ◌++◌, length, slice_get, slice_set, Some, None, inl, inr, ⊎_elim, refl, sym, ap, subst, ◌∙◌, arith, append_assoc, length-set, get_or-set_same, get_or-set_other}
use Rattle.std.specs.Prelude.{slice_index}
use Rattle.std.proofs.lemmas.Bool.{cases_eq}
use Rattle.ac_input.specs.declared.search.Anchored.{Anchored}
use Rattle.ac_input.specs.Alphabet.{class}
use Rattle.ac_tables.specs.Dfa.Filling.{RowPlan, entry_in, IsEntry, Written, Kept, IsChangedIn, AreWritten}

-- ---- lists of transitions

-- appending a transition keeps the places of the others
get-kept : (xs : List (ℕ × ℕ)) (x : ℕ × ℕ) (k : ℕ) (e : ℕ × ℕ) → slice_get xs k ≡ Some e
    → slice_get (xs ++ x ∷ []) k ≡ Some e
get-kept [] x k e is = absurd (let f : None ≡ Some e = is in cc)
get-kept (y ∷ ys) x zero e is = is
get-kept (y ∷ ys) x (suc k) e is = get-kept ys x k e is

-- the appended transition is the last
get-last : (xs : List (ℕ × ℕ)) (x : ℕ × ℕ) → slice_get (xs ++ x ∷ []) (length xs) ≡ Some x
get-last [] x = refl
get-last (y ∷ ys) x = get-last ys x

-- every transition is an earlier one or the appended one
get-either : (xs : List (ℕ × ℕ)) (x : ℕ × ℕ) (k : ℕ) (e : ℕ × ℕ) → slice_get (xs ++ x ∷ []) k ≡ Some e
    → (slice_get xs k ≡ Some e) ⊎ (e ≡ x)
get-either [] x zero e is = let f : Some x ≡ Some e = is in inr cc
get-either [] x (suc k) e is = absurd (let f : None ≡ Some e = is in cc)
get-either (y ∷ ys) x zero e is = inl is
get-either (y ∷ ys) x (suc k) e is = get-either ys x k e is

-- the first transition that is left comes right after those that came before
pub item-at : (edges done left more : List (ℕ × ℕ)) (x : ℕ × ℕ) → done ++ left ≡ edges → left ≡ x ∷ more
    → slice_get edges (length done) ≡ Some x
item-at edges done left more x all is =
    subst (λ es. slice_get es (length done) ≡ Some x) (ap (λ rest. done ++ rest) (sym is) ∙ all) (first done)
  where
    first : (xs : List (ℕ × ℕ)) → slice_get (xs ++ x ∷ more) (length xs) ≡ Some x
    first [] = refl
    first (y ∷ ys) = first ys

-- after that step it is one of the transitions that came before
pub items-on : (edges done left more : List (ℕ × ℕ)) (x : ℕ × ℕ) → done ++ left ≡ edges → left ≡ x ∷ more
    → (done ++ x ∷ []) ++ more ≡ edges
items-on edges done left more x all is = append_assoc done (x ∷ []) more ∙ (ap (λ rest. done ++ rest) (sym is) ∙ all)

-- ---- one row

-- nothing has changed
pub changed-none : (stride at : ℕ) (xs : List ℕ) → IsChangedIn stride at xs xs
changed-none stride at xs = record { len = refl; before = λ k h. refl; after = λ k h. refl }

-- one more place of the row has changed
changed-more : (stride at x v : ℕ) (old new : List ℕ) → x < stride → IsChangedIn stride at old new
    → IsChangedIn stride at old (slice_set new (at + x) v)
changed-more stride at x v old new within h =
    record {
      len = length-set new (at + x) v ∙ h.len;
      before = λ k lt. get_or-set_other new (at + x) k v 0 (omega (arith, lt)) ∙ h.before k lt;
      after = λ k le. get_or-set_other new (at + x) k v 0 (omega (arith, le, within)) ∙ h.after k le;
    }

-- two changes in a row one after the other are a change in that row
pub changed-on : (stride at : ℕ) (old mid new : List ℕ) → IsChangedIn stride at old mid → IsChangedIn stride at mid new
    → IsChangedIn stride at old new
changed-on stride at old mid new g h =
    record {
      len = h.len ∙ g.len;
      before = λ k lt. h.before k lt ∙ g.before k lt;
      after = λ k le. h.after k le ∙ g.after k le;
    }

-- ---- the transitions of a state

-- at first no transition is written
pub written-none : (p : RowPlan) (anchored : Anchored) (at : ℕ) (old : List ℕ) → AreWritten p anchored at [] old old
written-none p anchored at old = record {
  alone = changed-none p.stride at old;
  entries = λ x within. Kept (λ k byte next has. absurd (let e : None ≡ Some (byte, next) = has.0 in cc)) refl;
}

-- one more transition is written
pub written-more : (p : RowPlan) (anchored : Anchored) (at c next v : ℕ) (done : List (ℕ × ℕ)) (old new : List ℕ)
    → class p.classes c < p.stride → at + p.stride ≤ length old → v ≡ entry_in p anchored next
    → AreWritten p anchored at done old new
    → AreWritten p anchored at (done ++ (c, next) ∷ []) old (slice_set new (at + class p.classes c) v)
written-more p anchored at c next v done old new within room is h =
    let place = at + class p.classes c in
    let len = h.alone.len in
    record {
      alone = changed-more p.stride at (class p.classes c) v old new within h.alone;
      entries = λ x in_row.
          ⊎_elim
          (λ (here : class p.classes c ≡ x).
          let same : at + x ≡ place = ap (λ n. at + n) (sym here) in
          let read : slice_index (slice_set new place v) (at + x) ≡ v = ap (slice_index (slice_set new place v)) same
          ∙ get_or-set_same new place v 0 (omega (arith, within, room, len)) in
          Written (length done) c next (get-last done (c, next), here) (read ∙ is))
          (λ (there : class p.classes c ≢ x).
          let read : slice_index (slice_set new place v) (at + x) ≡ slice_index new (at + x) =
          get_or-set_other new place (at + x) v 0 (omega (arith, there)) in
          by x there read (h.entries x in_row))
          (cases_eq (class p.classes c) x);
    }
  where
    by : (x : ℕ) → class p.classes c ≢ x
        → slice_index (slice_set new (at + class p.classes c) v) (at + x) ≡ slice_index new (at + x)
        → IsEntry p anchored done x (slice_index old (at + x)) (slice_index new (at + x))
        → IsEntry p anchored (done ++ (c, next) ∷ []) x (slice_index old (at + x))
        (slice_index (slice_set new (at + class p.classes c) v) (at + x))
    by x there read (Written k byte to has entry) =
        Written k byte to (get-kept done (c, next) k (byte, to) has.0, has.1) (read ∙ entry)
    by x there read (Kept none kept) =
        Kept
        (λ k byte to has.
        ⊎_elim
        (λ (before : slice_get done k ≡ Some (byte, to)). none k byte to (before, has.1))
        (λ (last : (byte, to) ≡ (c, next)). there (ap (λ e. class p.classes e.0) (sym last) ∙ has.1))
        (get-either done (c, next) k (byte, to) has.0))
        (read ∙ kept)
