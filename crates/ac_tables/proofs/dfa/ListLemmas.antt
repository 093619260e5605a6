-- The lists of a DFA, one after another.
use Rattle.std.proofs.Common.{◌≡◌, ℕ, zero, suc, ◌+◌, ◌-◌, ◌<◌, ◌≤◌, List, [], ◌∷◌, ◌++◌, length, take, drop, ⊎_elim, refl, sym, ap, ap₂, subst, ◌∙◌, arith, length-append, length-drop}
use Rattle.std.specs.Prelude.{slice_index, Contains}
use Rattle.std.proofs.Math.Seq.{drop-append_seam}
use Rattle.std.proofs.lemmas.Bool.{cases_lt}
use Rattle.std.proofs.lemmas.List.{get_or_append_left, get_or-append_right, take-append-le, take_all, drop-append-le}
use Rattle.std.proofs.lemmas.List.Elements.{Contains-get_or}
use Rattle.ac_noncontiguous.specs.declared.nfa.NFA.{NFA}
use Rattle.ac_noncontiguous.specs.Nfa.Reads.{dictionary, matches_at}
use Rattle.ac_noncontiguous.proofs.lemmas.OrderLemmas.{index-kept, index-last}
use Rattle.ac_tables.specs.declared.dfa.lists.Lists.{Lists}
use Rattle.ac_tables.specs.Dfa.Table.{list_start, dfa_list_of}
use Rattle.ac_tables.specs.Dfa.Lists.{IsListAdded, AreFirstLists}

-- the ends of the earlier lists stay as they are
end-kept : (list : List ℕ) (old new : Lists) (k : ℕ) → IsListAdded list old new → k < length old.ends.items
    → slice_index new.ends.items k ≡ slice_index old.ends.items k
end-kept list old new k added lt =
    ap (λ xs. slice_index xs k) added.ends ∙ index-kept old.ends.items (length new.patterns.items) k lt

-- the beginnings of the earlier lists stay as they are, and the new list begins after them
start-kept : (list : List ℕ) (old new : Lists) (k : ℕ) → IsListAdded list old new → k ≤ length old.ends.items
    → list_start new k ≡ list_start old k
start-kept list old new zero added le = refl
start-kept list old new (suc k) added le = end-kept list old new k added (omega (arith, le))

-- a part of a list stays in the longer list
part-kept : (s n : ℕ) (xs ys : List ℕ) → s + n ≤ length xs → take n (drop s (xs ++ ys)) ≡ take n (drop s xs)
part-kept s n xs ys within =
    let long = length-drop s xs in
    ap (take n) (drop-append-le s xs ys (omega (arith, within)))
    ∙ take-append-le n (drop s xs) ys (omega (arith, long, within))

-- what was appended comes after the list
part-last : (n : ℕ) (xs ys : List ℕ) → length ys ≤ n → take n (drop (length xs) (xs ++ ys)) ≡ ys
part-last n xs ys long = ap (take n) (drop-append_seam xs ys) ∙ take_all n ys long

-- at first there are no lists
pub lists-none : (nfa : NFA) (lists : Lists) → lists.patterns.items ≡ [] → lists.ends.items ≡ []
    → AreFirstLists nfa 0 lists
lists-none nfa lists none no_end =
    let patterns = ap length none in
    let ends = ap length no_end in
    record {
      counted = ends;
      total = sym patterns;
      each = λ k lt. absurd (omega (arith, lt));
      ranges =
          record {
            rising = λ k lt. absurd (omega (arith, lt, ends));
            within = λ k lt. absurd (omega (arith, lt, ends));
          };
      known = λ k lt. absurd (omega (arith, lt, patterns));
    }

-- one more list is added
pub lists-more : (nfa : NFA) (n : ℕ) (list : List ℕ) (old new : Lists) → IsListAdded list old new
    → list ≡ matches_at nfa (n + 2) → ((x : ℕ) → Contains list x → x < length (dictionary nfa).patterns)
    → AreFirstLists nfa n old → AreFirstLists nfa (n + 1) new
lists-more nfa n list old new added is known h =
    let counted = h.counted in
    let total = h.total in
    let long : length new.patterns.items ≡ length old.patterns.items + length list = ap length added.patterns
    ∙ length-append old.patterns.items list in
    let more : length new.ends.items ≡ n + 1 = ap length added.ends
    ∙ (length-append old.ends.items (length new.patterns.items ∷ []) ∙ omega (arith, counted)) in
    let last : slice_index new.ends.items n ≡ length new.patterns.items = ap (λ xs. slice_index xs n) added.ends
    ∙ index-last old.ends.items (sym counted) in
    let first : list_start new n ≡ length old.patterns.items = start-kept list old new n added (omega (arith, counted))
    ∙ total in
    let total_new : list_start new (n + 1) ≡ length new.patterns.items = let e : n + 1 ≡ suc n = omega arith in
    ap (list_start new) e ∙ last in
    record {
      counted = more;
      total = total_new;
      each = λ k lt.
          ⊎_elim
          (λ (before : k < n).
          let in_ends : k < length old.ends.items = omega (arith, before, counted) in
          let s = start-kept list old new k added (omega (arith, in_ends)) in
          let e = end-kept list old new k added in_ends in
          let up = h.ranges.rising k in_ends in
          let within = h.ranges.within k in_ends in
          ap₂ (λ b a. take (b - a) (drop a new.patterns.items)) e s
          ∙ (ap (λ xs. take (slice_index old.ends.items k - list_start old k) (drop (list_start old k) xs))
          added.patterns
          ∙ (part-kept (list_start old k) (slice_index old.ends.items k - list_start old k) old.patterns.items list
          (omega (arith, up, within)) ∙ h.each k before)))
          (λ (after : n ≤ k).
          let here : k ≡ n = omega (arith, lt, after) in
          ap (dfa_list_of new) here
          ∙ (ap₂ (λ b a. take (b - a) (drop a new.patterns.items)) last first
          ∙ (ap (λ xs. take (length new.patterns.items - length old.patterns.items)
          (drop (length old.patterns.items) xs)) added.patterns
          ∙ (part-last (length new.patterns.items - length old.patterns.items) old.patterns.items list
          (omega (arith, long)) ∙ (is ∙ ap (λ i. matches_at nfa (i + 2)) (sym here))))))
          (cases_lt k n);
      ranges = record {
        rising = λ k lt.
            ⊎_elim
            (λ (before : k < n).
            let in_ends : k < length old.ends.items = omega (arith, before, counted) in
            let s = start-kept list old new k added (omega (arith, in_ends)) in
            let e = end-kept list old new k added in_ends in
            let up = h.ranges.rising k in_ends in
            omega (arith, s, e, up))
            (λ (after : n ≤ k).
            let here : k ≡ n = omega (arith, lt, more, after) in
            subst (λ i. list_start new i ≤ slice_index new.ends.items i) (sym here) (omega (arith, first, last, long)))
            (cases_lt k n);
        within = λ k lt.
            ⊎_elim
            (λ (before : k < n).
            let in_ends : k < length old.ends.items = omega (arith, before, counted) in
            let e = end-kept list old new k added in_ends in
            let within = h.ranges.within k in_ends in
            omega (arith, e, within, long))
            (λ (after : n ≤ k).
            let here : k ≡ n = omega (arith, lt, more, after) in
            subst (λ i. slice_index new.ends.items i ≤ length new.patterns.items) (sym here) (omega (arith, last)))
            (cases_lt k n);
      };
      known = λ k lt.
          subst (λ xs. slice_index xs k < length (dictionary nfa).patterns) (sym added.patterns)
          (⊎_elim
          (λ (before : k < length old.patterns.items).
          let same = get_or_append_left old.patterns.items list 0 k before in
          let low = h.known k before in
          omega (arith, same, low))
          (λ (after : length old.patterns.items ≤ k).
          let same = get_or-append_right old.patterns.items list (length old.patterns.items) k 0 refl after in
          let inside : k - length old.patterns.items < length list = omega (arith, lt, long, after) in
          let low = known (slice_index list (k - length old.patterns.items))
          (Contains-get_or list (k - length old.patterns.items) 0 inside) in
          omega (arith, same, low))
          (cases_lt k (length old.patterns.items)));
    }
