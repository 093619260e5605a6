-- The patterns that end in a state, as lists.
use Rattle.std.proofs.Common.{◌≡◌, ◌≢◌, ◌⊎◌, ℕ, ◌+◌, ◌-◌, ◌<◌, ◌≤◌, List, [], ◌∷◌, ◌++◌, length, Option, Some, None, refl, sym, ap, subst, ◌∙◌, inl, inr, ⊎_elim, arith, Bool, true, false, if◌then◌else◌, slice_get, slice_index, slice_index_or, slice_set, replicate, length-append, length-set}
use Rattle.std.specs.List.{Contains}
use Rattle.std.proofs.lemmas.Bool.{cases_lt, cases_eq}
use Rattle.std.proofs.lemmas.List.{length-replicate, get_or-replicate}
use Rattle.std.proofs.lemmas.Option.{slice_get_within, slice_get_read}
use Rattle.ac_noncontiguous.proofs.lemmas.IndexLemmas.{set-read}
use Rattle.ac_noncontiguous.specs.declared.trie.State.{State}
use Rattle.ac_noncontiguous.specs.Links.Own.{IsNextEnd, AreOwnChains, IsOwnList}
use Rattle.ac_noncontiguous.proofs.trie.DictionaryLemmas.{get-cases}
use Rattle.ac_noncontiguous.proofs.lemmas.OrderLemmas.{contains-kept, contains-last, index-kept, index-last}

-- the patterns before `from` that end in state i, each once and in order
pub record AreOwnBefore (ends : List (Option ℕ)) (i from : ℕ) (own : List ℕ) : Type 0 where
  pub all : (n : ℕ) → n < from → (slice_get ends n ≡ Some (Some i)) → Contains own n
  pub within : (k : ℕ) → k < length own
      → (slice_index own k < from) × (slice_get ends (slice_index own k) ≡ Some (Some i))
  pub rising : (j k : ℕ) → j < k → k < length own → slice_index own j < slice_index own k

-- past the last pattern all lists are empty
pub own-filled : {states len : ℕ} {ends : List (Option ℕ)} {first next : List ℕ} → len ≡ length ends
    → first ≡ replicate states len → length next ≡ len → AreOwnChains states ends len first next
own-filled {states} {len} {ends} {first} all filled next_len =
    let at : (i : ℕ) → i < states
    → slice_index first i ≡ len = λ i within. ap (λ xs. slice_index xs i) filled
    ∙ get_or-replicate states i len 0 within in
    record {
      lens = (ap length filled ∙ length-replicate states len, next_len ∙ all);
      firsts =
          λ i within.
          record { found = λ lt. absurd (omega (arith, at i within)); least = λ n from e. omega (arith, at i within) };
      nexts = λ n i from e. absurd (omega (arith, slice_get_within ends n (Some i) e));
    }

-- a pattern that ends nowhere leaves the lists as they are
pub own-skipped : {states from : ℕ} {ends : List (Option ℕ)} {first next : List ℕ} → slice_get ends from ≡ Some None
    → AreOwnChains states ends (from + 1) first next → AreOwnChains states ends from first next
own-skipped {from} {ends} none o =
    let later : (n i : ℕ) → from ≤ n → (slice_get ends n ≡ Some (Some i)) → from + 1 ≤ n =
    λ n i past e.
    ⊎_elim
    (λ (same : n ≡ from). let two : Some None ≡ Some (Some i) = sym none ∙ (ap (slice_get ends) (sym same) ∙ e) in cc)
    (λ (ne : n ≢ from). omega arith)
    (cases_eq n from) in
    record {
      lens = o.lens;
      firsts = λ i within. let h = o.firsts i within in
          record {
            found = λ lt. (omega (arith, (h.found lt).0), (h.found lt).1);
            least = λ n past e. h.least n (later n i past e) e;
          };
      nexts = λ n i past e. o.nexts n i (later n i past e) e;
    }

-- a pattern that ends in a state becomes the first of its list
pub own-more : {states from id at : ℕ} {ends : List (Option ℕ)} {first next : List ℕ}
    → (slice_get ends from ≡ Some (Some id)) → id < states → at ≡ slice_index first id
    → AreOwnChains states ends (from + 1) first next
    → AreOwnChains states ends from (slice_set first id from) (slice_set next from at)
own-more {from} {id} {at} {ends} {first} {next} here id_in read o =
    let from_in : from < length ends = slice_get_within ends from (Some id) here in
    let only : (i : ℕ) → (slice_get ends from ≡ Some (Some i))
    → i ≡ id = λ i e. let two : Some (Some i) ≡ Some (Some id) = sym e ∙ here in cc in
    record {
      lens = (length-set first id from ∙ o.lens.0, length-set next from at ∙ o.lens.1);
      firsts = λ i i_in.
          set-read (IsNextEnd ends i from) first from (omega (arith, o.lens.0))
          (λ same. record {
            found = λ _. (omega arith, subst (λ j. (slice_get ends from ≡ Some (Some j))) (sym same) here);
            least = λ n past e. past;
          })
          (λ ne.
          let h = o.firsts i i_in in
          record {
            found = λ lt. (omega (arith, (h.found lt).0), (h.found lt).1);
            least = λ n past e.
                ⊎_elim
                (λ (is_from : n ≡ from). absurd
                (ne (only i (subst (λ k. (slice_get ends k ≡ Some (Some i))) is_from e))))
                (λ (later : n ≢ from). h.least n (omega arith) e)
                (cases_eq n from);
          });
      nexts = λ n i past e.
          set-read (IsNextEnd ends i (n + 1)) next at (omega (arith, o.lens.1))
          (λ same.
          let i_is : i ≡ id = only i (subst (λ k. (slice_get ends k ≡ Some (Some i))) same e) in
          subst (IsNextEnd ends i (n + 1)) (sym read)
          (subst (λ j. IsNextEnd ends j (n + 1) (slice_index first id)) (sym i_is)
          (subst (λ k. IsNextEnd ends id (k + 1) (slice_index first id)) (sym same) (o.firsts id id_in))))
          (λ ne. o.nexts n i (omega arith) e);
    }

-- ---- the list of a state

-- before the first pattern the list is empty
pub list-none : {ends : List (Option ℕ)} {i : ℕ} → AreOwnBefore ends i 0 []
list-none =
    record {
      all = λ n lt e. absurd (omega arith);
      within = λ k lt. absurd (omega arith);
      rising = λ j k lt within. absurd (omega arith);
    }

-- the next pattern of the list
pub list-more : {ends : List (Option ℕ)} {i from at : ℕ} {own : List ℕ} → IsNextEnd ends i from at → at < length ends
    → AreOwnBefore ends i from own → AreOwnBefore ends i (at + 1) (own ++ at ∷ [])
list-more {ends} {i} {from} {at} {own} n inside o =
    let f = n.found inside in
    let more : (k : ℕ) → k < length (own ++ at ∷ []) → (k < length own) ⊎ (k ≡ length own) =
    λ k lt. ⊎_elim (λ (old : k < length own). inl old)
    (λ (ge : length own ≤ k). inr (omega (arith, length-append own (at ∷ [])))) (cases_lt k (length own)) in
    record {
      all = λ m lt e.
          ⊎_elim
          (λ (before : m < from). contains-kept own at {y = m} (o.all m before e))
          (λ (past : from ≤ m).
          let here : at ≡ m = omega (arith, n.least m past e) in
          subst (λ j. Contains (own ++ at ∷ []) j) here (contains-last own {x = at}))
          (cases_lt m from);
      within = λ k lt.
          ⊎_elim
          (λ (old : k < length own). let w = o.within k old in
          subst (λ m. (m < at + 1) × (slice_get ends m ≡ Some (Some i))) (sym (index-kept own at k old))
          (omega (arith, w.0, f.0), w.1))
          (λ (last : k ≡ length own). subst (λ m. (m < at + 1) × (slice_get ends m ≡ Some (Some i)))
          (sym (index-last own {x = at} {k = k} last)) (omega arith, f.1))
          (more k lt);
      rising = λ j k lt within.
          ⊎_elim
          (λ (old : k < length own). omega
          (arith, index-kept own at j (omega arith), index-kept own at k old, o.rising j k lt old))
          (λ (last : k ≡ length own). omega (
            arith,
            index-kept own at j (omega arith),
            index-last own {x = at} {k = k} last,
            (o.within j (omega arith)).0,
            f.0,
          ))
          (more k within);
    }

-- past the last pattern of a state its list is complete
pub list-all : {ends : List (Option ℕ)} {i from at : ℕ} {own : List ℕ} → IsNextEnd ends i from at → length ends ≤ at
    → AreOwnBefore ends i from own → IsOwnList ends i own
list-all {ends} {i} {from} n past o =
    record {
      all = λ m e.
          let inside : m < length ends = slice_get_within ends m (Some i) e in
          ⊎_elim (λ (before : m < from). o.all m before e)
          (λ (after : from ≤ m). absurd (omega (arith, n.least m after e))) (cases_lt m from);
      within = λ k lt. (o.within k lt).1;
      rising = o.rising;
    }

-- a pattern that is read with an end ends in that state
pub own-read : (ends : List (Option ℕ)) {from id : ℕ} {end : Option ℕ} → from < length ends
    → end ≡ slice_index_or ends from end → end ≡ Some id → (slice_get ends from ≡ Some (Some id))
own-read ends {from} {end} within read some = slice_get_read ends (length ends) from end refl within read ∙ ap Some some

-- the state in which a pattern ends, as it is read, is one of the states
pub end-within : (ends : List (Option ℕ)) {states : ℕ} (from : ℕ) {id : ℕ} {end : Option ℕ}
    → ((n i : ℕ) → (slice_get ends n ≡ Some (Some i)) → i < states) → from < length ends
    → end ≡ slice_index_or ends from end → end ≡ Some id → id < states
end-within ends from {id} placed within read some = placed from id (own-read ends within read some)

-- a pattern that is read without an end ends nowhere
pub none-read : (ends : List (Option ℕ)) {from : ℕ} {end : Option ℕ} → from < length ends
    → end ≡ slice_index_or ends from end → end ≡ None → slice_get ends from ≡ Some None
none-read ends {from} {end} within read none =
    slice_get_read ends (length ends) from end refl within read ∙ ap Some none

-- along a state's list fewer patterns are left
pub next-nearer : {ends : List (Option ℕ)} {i at next : ℕ} → at < length ends → IsNextEnd ends i (at + 1) next
    → length ends - next < length ends - at
next-nearer {ends} {next} inside n =
    ⊎_elim (λ (lt : next < length ends). omega (arith, (n.found lt).0)) (λ (ge : length ends ≤ next). omega arith)
    (cases_lt next (length ends))

-- if all patterns end in the first few states, they end in more
pub ends-kept : (ends : List (Option ℕ)) {few more : ℕ} → few ≤ more
    → ((n i : ℕ) → (slice_get ends n ≡ Some (Some i)) → i < few)
    → ((n i : ℕ) → (slice_get ends n ≡ Some (Some i)) → i < more)
ends-kept ends le placed n i e = omega (arith, placed n i e)

-- if one more pattern ends in a state or nowhere, all patterns end in the states
pub ends-pushed : (ends : List (Option ℕ)) {new : List (Option ℕ)} {end : Option ℕ} {states : ℕ}
    → new ≡ ends ++ end ∷ [] → ((id : ℕ) → end ≡ Some id → id < states)
    → ((n i : ℕ) → (slice_get ends n ≡ Some (Some i)) → i < states)
    → ((n i : ℕ) → (slice_get new n ≡ Some (Some i)) → i < states)
ends-pushed ends {end} pushed within placed n i e =
    ⊎_elim
    (λ (there : (slice_get ends n ≡ Some (Some i))). placed n i there)
    (λ (last : (n ≡ length ends) × (Some i ≡ end)). within i (sym last.1))
    (get-cases ends n (subst (λ xs. slice_get xs n ≡ Some (Some i)) pushed e))

-- setting a state leaves all ends within the list
pub ends-set : (ends : List (Option ℕ)) {few : ℕ} (xs : List State) (j : ℕ) (r : State) → few ≤ length xs
    → ((n i : ℕ) → (slice_get ends n ≡ Some (Some i)) → i < few)
    → ((n i : ℕ) → (slice_get ends n ≡ Some (Some i)) → i < (length (slice_set xs j r)))
ends-set ends xs j r le placed = ends-kept ends (omega (arith, length-set xs j r)) placed

-- this holds too if there was no memory to store the new end
pub ends-tried : (stored : Bool) (ends : List (Option ℕ)) {new : List (Option ℕ)} {end : Option ℕ} {states : ℕ}
    → new ≡ (if stored then ends ++ end ∷ [] else ends) → ((id : ℕ) → end ≡ Some id → id < states)
    → ((n i : ℕ) → (slice_get ends n ≡ Some (Some i)) → i < states)
    → ((n i : ℕ) → (slice_get new n ≡ Some (Some i)) → i < states)
ends-tried true ends pushed within placed = ends-pushed ends pushed within placed
ends-tried false ends {states} same within placed =
    subst (λ xs. ((n i : ℕ) → (slice_get xs n ≡ Some (Some i)) → i < states)) (sym same) placed
