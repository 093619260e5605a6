-- How the table of a rolling hash is made, and how a bucket is searched.
use Rattle.std.proofs.Common.{◌≡◌, ◌≢◌, ℕ, replicate, ◌+◌, ◌-◌, ◌<◌, ◌≤◌, inl, inr, List, [], ◌∷◌, ◌++◌, length, take, drop, get_or, Option, Some, None, MatchOption, true, false, set, refl, sym, ap, subst, ◌∙◌, arith, length-append}
use Rattle.std.specs.Prelude.{slice_range, is_some}
use Rattle.std.proofs.lemmas.Bool.{cases_lt, cases_eq, false≢true}
use Rattle.std.proofs.lemmas.List.{take-take, get_or_append_left, get_or-set_same, get_or-set_other, get_or-replicate}
use Rattle.std.proofs.Math.Seq.{get_or-append_seam}
use Rattle.ac_input.specs.Occurrence.{Occurrence, Occurs, StartsAt}
use Rattle.ac_input.specs.Best.{IsLeast}
use Rattle.ac_input.proofs.lemmas.OrderLemmas.{preference-itself}
use Rattle.ac_literal.specs.declared.packed.rabinkarp.Entry.{Entry}
use Rattle.ac_literal.specs.declared.packed.rabinkarp.RabinKarp.{RabinKarp}
use Rattle.ac_literal.specs.Packed.{search_kind, part_search}
use Rattle.ac_literal.specs.Packed.RabinKarp.{hash_of, bucket_of, lying, entry_at, IsLink, AreEntries, IsTable}
use Rattle.ac_literal.proofs.packed.TextLemmas.{lies-bytes, starts-lying}

-- The search of a bucket at a place. The link is still to be followed, and no entry after it has a pattern that lies at
-- the place.
pub record IsOpen (patterns : List (List ℕ)) (haystack : List ℕ) (start end at : ℕ) (entries : List Entry)
    (bucket link : ℕ) : Type 0 where
  pub within : link ≤ length entries
  pub here : 0 < link → bucket_of (entry_at entries (link - 1)).hash ≡ bucket
  pub none : (i : ℕ) → link ≤ i → i < length entries
      → Occurs (part_search patterns haystack start end) (lying patterns at (entry_at entries i).pattern) → ⊥

module _ (patterns : List (List ℕ)) (haystack : List ℕ) (start end at hash : ℕ) (table : RabinKarp)
    (is : IsTable patterns table)
    (is_hash : hash ≡ hash_of (slice_range haystack at (at + table.hash_len))) where
  abbrev entries : List Entry
  entries = table.entries.items

  abbrev Lies : ℕ → Type 0
  Lies number = Occurs (part_search patterns haystack start end) (lying patterns at number)

  -- a pattern that lies at the place has the hash of the place
  hash-lying : {number : ℕ} → number < length patterns → Lies number
      → hash_of (take table.hash_len (get_or patterns number [])) ≡ hash
  hash-lying {number} inside h =
      let there = lies-bytes h in
      let short = is.short number inside in
      let m = table.hash_len in
      let n = length (get_or patterns number []) in
      let counts : at + m - at ≡ m = omega arith in
      let rest : at + n - at ≡ n = omega arith in
      let front : take m (get_or patterns number []) ≡ slice_range haystack at (at + m) =
      ap (take m) (sym there.1) ∙ ap (λ k. take m (take k (drop at haystack))) rest
      ∙ take-take m n (drop at haystack) short ∙ ap (λ k. take k (drop at haystack)) (sym counts) in
      ap hash_of front ∙ sym is_hash

  -- the entry of a pattern that lies at the place has the hash of the place
  pub entry-hash : {i : ℕ} → i < length entries → Lies (entry_at entries i).pattern → (entry_at entries i).hash ≡ hash
  entry-hash {i} inside h =
      let pattern = is.entries.pattern i inside in
      let number = is.ordered.below i (omega (arith, is.count)) in
      is.entries.hash i inside ∙ hash-lying number (subst Lies pattern h)

  -- the search of the bucket of the hash begins at its head
  pub search-head : IsOpen patterns haystack start end at entries (bucket_of hash)
      (get_or table.heads (bucket_of hash) 0)
  search-head =
      let head = is.entries.head (bucket_of hash) (omega arith) in
      record {
        within = head.within;
        here = head.here;
        none = λ i from inside h. head.after i from inside (ap bucket_of (entry-hash inside h));
      }

  -- where an entry's pattern does not lie there, the search goes on with the entry before it in its bucket
  pub search-next : {link : ℕ} → IsOpen patterns haystack start end at entries (bucket_of hash) link → 0 < link
      → ((entry_at entries (link - 1)).hash ≡ hash → Lies (entry_at entries (link - 1)).pattern → ⊥)
      → IsOpen patterns haystack start end at entries (bucket_of hash) (entry_at entries (link - 1)).next
  search-next {link} so_far pos absent =
      let inside : link - 1 < length entries = omega (arith, so_far.within) in
      let next = is.entries.next (link - 1) inside in
      let bucket = so_far.here pos in
      record {
        within = omega (arith, next.within);
        here = λ p. next.here p ∙ bucket;
        none = λ i from below h. elim (cases_lt i (link - 1)) [
          | inl before ↦ next.after i from before (ap bucket_of (entry-hash below h) ∙ sym bucket)
          | inr behind ↦ elim (cases_eq i (link - 1)) [
            | inl same ↦
                let there : Lies (entry_at entries (link - 1)).pattern =
                subst (λ k. Lies (entry_at entries k).pattern) same h in
                absent (entry-hash inside there) there
            | inr other ↦ so_far.none i (omega arith) below h
          ]
        ];
      }

  -- the first pattern of the bucket that lies there is the one that the kind prefers
  pub search-found : {link : ℕ} → end ≤ length haystack
      → IsOpen patterns haystack start end at entries (bucket_of hash) link → 0 < link
      → Lies (entry_at entries (link - 1)).pattern
      → IsLeast (search_kind table.kind) (StartsAt (part_search patterns haystack start end) at)
      (Some (lying patterns at (entry_at entries (link - 1)).pattern))
  search-found {link} fits so_far pos h = (
    (h, refl),
    λ o starts.
        let own = starts-lying fits starts in
        let there = is.ordered.all o.pattern own.0 in
        let i = there.0 in
        let inside : i < length entries = omega (arith, there.1, is.count) in
        let pattern = is.entries.pattern i inside ∙ there.2 in
        let mine = is.entries.pattern (link - 1) (omega (arith, so_far.within)) in
        rw own.1 (elim (cases_lt i (link - 1)) [
          | inl before ↦
              rw (mine, ← there.2) (is.ordered.sorted i (link - 1) before (omega (arith, so_far.within, is.count)) at)
          | inr behind ↦ elim (cases_eq i (link - 1)) [
            | inl same ↦
                rw (ap (λ k. (entry_at entries k).pattern) (sym same) ∙ pattern)
                (preference-itself (search_kind table.kind) (lying patterns at o.pattern))
            | inr other ↦
                absurd (so_far.none i (omega arith) inside
                (subst Lies (sym pattern) (subst (Occurs (part_search patterns haystack start end)) own.1 starts.0)))
          ]
        ]),
  )

  -- at the end of the bucket no pattern lies there
  pub search-none : end ≤ length haystack → IsOpen patterns haystack start end at entries (bucket_of hash) 0
      → IsLeast (search_kind table.kind) (StartsAt (part_search patterns haystack start end) at) None
  search-none fits so_far = λ o starts.
      let own = starts-lying fits starts in
      let there = is.ordered.all o.pattern own.0 in
      let inside : there.0 < length entries = omega (arith, there.1, is.count) in
      let pattern = is.entries.pattern there.0 inside ∙ there.2 in
      so_far.none there.0 (omega arith) inside
      (subst Lies (sym pattern) (subst (Occurs (part_search patterns haystack start end)) own.1 starts.0))

-- what is found is the occurrence that the entry gives
pub when_found : (P : Option Occurrence → Type 0) (absent : Type 0) {it : Occurrence} {occurs : Type 0}
    (r : Option Occurrence) → is_some r ≡ true → MatchOption r absent (λ found. (found ≡ it) × occurs)
    → (occurs → P (Some it)) → P r
when_found P absent None some m h = absurd (false≢true some)
when_found P absent (Some o) some m h = subst (λ q. P (Some q)) (sym m.0) (h m.1)

-- where nothing is found, the pattern doesn't lie there
pub when_absent : {absent : Type 0} (found : Occurrence → Type 0) (r : Option Occurrence) → is_some r ≡ false
    → MatchOption r absent found → absent
when_absent found None none m = m
when_absent found (Some o) none m = absurd (false≢true (sym none))

module _ (patterns : List (List ℕ)) (hash_len : ℕ) (order heads : List ℕ) (entries : List Entry)
    (is : AreEntries patterns hash_len order heads entries) (long : length heads ≡ 1024)
    (hash number : ℕ) (is_number : number ≡ get_or order (length entries) 0)
    (is_hash : hash ≡ hash_of (take hash_len (get_or patterns number []))) where
  -- one more entry, the new head of its bucket
  abbrev last : Entry
  last = record { hash = hash; pattern = number; next = get_or heads (bucket_of hash) 0 }

  abbrev more : List Entry
  more = entries ++ last ∷ []

  abbrev more_heads : List ℕ
  more_heads = set heads (bucket_of hash) (length entries + 1)

  old-at : (i : ℕ) → i < length entries → entry_at more i ≡ entry_at entries i
  old-at i h = get_or_append_left entries (last ∷ []) (record { hash = 0; pattern = 0; next = 0 }) i h

  last-at : (i : ℕ) → i ≡ length entries → entry_at more i ≡ last
  last-at i e = ap (entry_at more) e ∙ get_or-append_seam entries last [] (record { hash = 0; pattern = 0; next = 0 })

  -- a link among the old entries stays
  link-keeps : {bucket limit link : ℕ} → limit ≤ length entries → IsLink entries bucket limit link
      → IsLink more bucket limit link
  link-keeps {link} fits l = record {
    within = l.within;
    here = λ pos. rw (old-at (link - 1) (omega (arith, l.within))) (l.here pos);
    after = λ i from below. rw (old-at i (omega arith)) (l.after i from below);
  }

  -- the head of any other bucket is still its last entry
  link-passes : {bucket link : ℕ} → bucket ≢ bucket_of hash → IsLink entries bucket (length entries) link
      → IsLink more bucket (length entries + 1) link
  link-passes {link} other l = record {
    within = omega (arith, l.within);
    here = λ pos. rw (old-at (link - 1) (omega (arith, l.within))) (l.here pos);
    after = λ i from below. elim (cases_lt i (length entries)) [
      | inl old ↦ rw (old-at i old) (l.after i from old)
      | inr new ↦ rw (last-at i (omega arith)) (λ e. other (sym e))
    ];
  }

  head-more : (bucket : ℕ) → bucket < 1024 → IsLink more bucket (length entries + 1) (get_or more_heads bucket 0)
  head-more bucket h = elim (cases_eq bucket (bucket_of hash)) [
    | inl same ↦
        let e : get_or more_heads bucket 0 ≡ length entries + 1 = ap (λ b. get_or more_heads b 0) same
        ∙ get_or-set_same heads (bucket_of hash) (length entries + 1) 0 (omega arith) in
        rw e (record {
          within = omega arith;
          here = λ pos. rw (last-at (length entries + 1 - 1) (omega arith)) (sym same);
          after = λ i from below. absurd (omega arith);
        })
    | inr other ↦
        rw (get_or-set_other heads (bucket_of hash) bucket (length entries + 1) 0 other)
        (link-passes other (is.head bucket h))
  ]

  pub AreEntries-push : AreEntries patterns hash_len order more_heads more
  AreEntries-push =
      let count : length more ≡ length entries + 1 = omega (arith, length-append entries (last ∷ [])) in
      record {
        pattern = λ i h. elim (cases_lt i (length entries)) [
          | inl old ↦ rw (old-at i old) (is.pattern i old)
          | inr new ↦ let e : i ≡ length entries = omega arith in
              rw (last-at i e) (is_number ∙ ap (λ k. get_or order k 0) (sym e))
        ];
        hash = λ i h. elim (cases_lt i (length entries)) [
          | inl old ↦ rw (old-at i old) (is.hash i old)
          | inr new ↦ let e : i ≡ length entries = omega arith in
              rw (last-at i e)
              (is_hash ∙ ap (λ n. hash_of (take hash_len (get_or patterns n [])))
              (is_number ∙ ap (λ k. get_or order k 0) (sym e)))
        ];
        next = λ i h. elim (cases_lt i (length entries)) [
          | inl old ↦ rw (old-at i old) (link-keeps (omega arith) (is.next i old))
          | inr new ↦ let e : i ≡ length entries = omega arith in
              rw (last-at i e) (rw e (link-keeps (omega arith) (is.head (bucket_of hash) (omega arith))))
        ];
        head = λ bucket h. rw count (head-more bucket h);
      }

-- the table with no entry yet
pub AreEntries-none : {patterns : List (List ℕ)} {hash_len : ℕ} {order : List ℕ}
    → AreEntries patterns hash_len order (replicate 1024 0) []
AreEntries-none = record {
  pattern = λ i h. absurd (omega arith);
  hash = λ i h. absurd (omega arith);
  next = λ i h. absurd (omega arith);
  head = λ bucket h. rw (get_or-replicate {A = ℕ} 1024 bucket 0 0 h)
      (record {
        within = omega arith;
        here = λ pos. absurd (omega arith);
        after = λ i from below. absurd (omega arith);
      });
}
