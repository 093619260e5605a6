-- A masked text: it is the only one, nothing with bytes occurs in it, and its front is final.
use Rattle.std.proofs.Common.{◌≡◌, ◌⊎◌, ◌↔◌, ⊎_elim, ℕ, ◌+◌, ◌<◌, ◌≤◌, Bool, false, List, [], ◌∷◌, ◌++◌, length, take, drop, Option, Some, None, Contains, slice_get, eqb, refl, sym, ap, subst, ◌∙◌, arith, length-append}
use Rattle.std.specs.List.{filter}
use Rattle.std.proofs.lemmas.Bool.{false≢true, cases_lt, eqb-true, eq-eqb}
use Rattle.std.proofs.lemmas.List.{get_or_append_left, take-append-drop}
use Rattle.ac_input.specs.declared.search.MatchKind.TheVariants.{Standard}
use Rattle.ac_input.specs.Occurrence.{Search, Occurrence, Occurs}
use Rattle.ac_input.specs.Computed.{occurrences, listing_of, least}
use Rattle.ac_input.specs.Dictionary.{Dictionary, IsLive, whole}
use Rattle.ac_input.specs.Work.{longest}
use Rattle.ac_input.specs.Unused.{IsUnused}
use Rattle.ac_input.specs.Mask.{Covers, IsCovered, IsMasked, masked_from, masked, in_masked, IsFinalBefore, IsLongestEnding}
use Rattle.ac_input.specs.Laws.BeginningLaws.{IsBeginning}
use Rattle.ac_input.proofs.lemmas.ContainsLemmas.{Contains-filter, Contains-from_filter}
use Rattle.ac_input.proofs.lemmas.OrderLemmas.{occurs-end, preference-less}
use Rattle.ac_input.proofs.lemmas.RisingLemmas.{less_by_start}
use Rattle.ac_input.proofs.lemmas.BestLemmas.{occurrences-occurs, occurs-occurrences, IsLeast-like, least-least}
use Rattle.ac_input.proofs.lemmas.ListingLemmas.{listing_of-lists}
use Rattle.ac_input.proofs.lemmas.LiveLemmas.{occurs-append, occurs-front}
use Rattle.ac_input.proofs.lemmas.StateLemmas.{new-behind}
use Rattle.ac_input.proofs.lemmas.DeadLemmas.{no_longer-pattern}
use Rattle.ac_input.proofs.lemmas.AmongLemmas.{all-counted}
use Rattle.ac_input.proofs.lemmas.MaskAmongLemmas.{IsCoveredBy, among-covered_cases, among-covered_within, among-masked, among-masked_from, among-masked_one, among-uncovered, among-masked_occurs, among-front}

-- ---- covered places

-- each place is covered or isn't
pub covered-cases : (s : Search) (at : ℕ) → s.end ≤ length s.haystack → IsCovered s at ⊎ (¬ IsCovered s at)
covered-cases s at inside = among-covered_cases all-counted s at inside

-- a covered place is one of the haystack
pub covered-within : (s : Search) (at : ℕ) → s.end ≤ length s.haystack → IsCovered s at → at < length s.haystack
covered-within s at inside h = among-covered_within all-counted s at inside h

-- the computed masked haystack is masked
pub masked-masked : (mask : ℕ) (s : Search) → s.end ≤ length s.haystack → IsMasked mask s (masked mask s)
masked-masked mask s inside = among-masked all-counted mask s inside

-- a text is a masked haystack exactly where it is the computed one
pub masked-one : (mask : ℕ) (s : Search) (text : List ℕ) → s.end ≤ length s.haystack
    → IsMasked mask s text ↔ (text ≡ masked mask s)
masked-one mask s text inside = among-masked_one all-counted mask s text inside

-- the haystack masked by occurrences that cover exactly the covered places is the masked haystack
pub masked-by : (mask : ℕ) (s : Search) (os : List Occurrence) → s.end ≤ length s.haystack
    → ((at : ℕ) → IsCoveredBy os at ↔ IsCovered s at) → masked_from 0 s.haystack mask os ≡ masked mask s
masked-by mask s os inside alike =
    (masked-one mask s (masked_from 0 s.haystack mask os) inside).0
    (among-masked_from all-counted mask s os inside alike)

-- the haystack masked by its overlapping listing is the masked haystack
pub masked-by_listing : (mask : ℕ) (s : Search) → s.end ≤ length s.haystack
    → masked_from 0 s.haystack mask (listing_of s) ≡ masked mask s
masked-by_listing mask s inside =
    let lists = listing_of-lists {s = s} inside in
    masked-by mask s (listing_of s) inside
    (λ at. (λ h. (h.0, (lists.1 h.0).0 h.1, h.2), λ h. (h.0, (lists.1 h.0).1 h.1, h.2)))

-- ---- what occurs in the masked text

-- with a mask that no pattern has, no occurrence in the masked text covers a place
masked-covers_none : (mask : ℕ) (s : Search) (o : Occurrence) → s.end ≤ length s.haystack → IsUnused s mask
    → Occurs (in_masked mask s) o → (at : ℕ) → ¬ Covers o at
masked-covers_none mask s o inside unused occurs at c =
    among-uncovered all-counted mask s o inside unused occurs at c
    (o, among-masked_occurs all-counted mask s o inside unused occurs, c)

-- a text without bytes is empty
pub no_bytes : (p : List ℕ) → length p ≡ 0 → p ≡ []
no_bytes [] e = refl
no_bytes (b ∷ bs) e = absurd (omega arith)

-- with a mask that no pattern has, only empty patterns occur in the masked text
pub masked-only_empty : (mask : ℕ) (s : Search) (o : Occurrence) → s.end ≤ length s.haystack → IsUnused s mask
    → Occurs (in_masked mask s) o → slice_get s.patterns o.pattern ≡ Some []
masked-only_empty mask s o inside unused occurs =
    let is = masked-masked mask s inside in
    let w = occurs.within in
    let end = occurs-end {s = in_masked mask s} (omega (arith, is.len)) occurs in
    let long = end.2 in
    let ends : o.end ≤ o.start = ⊎_elim
    (λ (bytes : o.start < o.end).
    absurd (masked-covers_none mask s o inside unused occurs o.start (omega arith, bytes)))
    (λ (none : o.end ≤ o.start). none)
    (cases_lt o.start o.end) in
    end.1 ∙ ap Some (no_bytes end.0 (omega arith))

-- with a mask that no pattern has, no place of the masked text is covered
pub masked-none_covered : (mask : ℕ) (s : Search) (at : ℕ) → s.end ≤ length s.haystack → IsUnused s mask
    → ¬ IsCovered (in_masked mask s) at
masked-none_covered mask s at inside unused h = masked-covers_none mask s h.0 inside unused h.1 at h.2

-- with a mask that no pattern has, masking the masked text changes nothing
pub masked-twice : (mask : ℕ) (s : Search) → s.end ≤ length s.haystack → IsUnused s mask
    → masked mask (in_masked mask s) ≡ masked mask s
masked-twice mask s inside unused =
    let len = (masked-masked mask s inside).len in
    let within : s.end ≤ length (masked mask s) = omega (arith, len) in
    sym ((masked-one mask (in_masked mask s) (masked mask s) within).0
    (record {
      len = refl;
      covered = λ at h. absurd (masked-none_covered mask s at inside unused h);
      kept = λ at none. refl;
    }))

-- ---- what is final

-- what occurs in an anchored search occurs in one that isn't
pub unanchored-occurs : (m : Dictionary) (text : List ℕ) (anchored : Bool) (o : Occurrence)
    → Occurs (whole m text anchored) o → Occurs (whole m text false) o
unanchored-occurs m text anchored o h =
    record { within = h.within; same = h.same; anchor = λ a. absurd (false≢true a) }

-- what is covered stays covered, however the text goes on
pub covered-append : (m : Dictionary) (text more : List ℕ) (anchored : Bool) (at : ℕ)
    → IsCovered (whole m text anchored) at → IsCovered (whole m (text ++ more) anchored) at
covered-append m text more anchored at h = (h.0, occurs-append m more h.1, h.2)

-- where a text is final, nothing more is covered, however it goes on
pub final-covered : (m : Dictionary) (text more : List ℕ) (anchored : Bool) (place at : ℕ)
    → IsFinalBefore m text place → at < place → IsCovered (whole m (text ++ more) anchored) at
    → IsCovered (whole m text anchored) at
final-covered m text more anchored place at final before h =
    let o = h.0 in
    let c = h.2 in
    let ends = final.1 more o (unanchored-occurs m (text ++ more) anchored o h.1) (omega arith) in
    (o, occurs-front m more ends h.1, c)

-- where a text is final before a place, the masked text before it stays
pub masked-front_final : (mask : ℕ) (m : Dictionary) (text more : List ℕ) (anchored : Bool) (place : ℕ)
    → IsFinalBefore m text place
    → take place (masked mask (whole m (text ++ more) anchored)) ≡ take place (masked mask (whole m text anchored))
masked-front_final mask m text more anchored place final =
    let le = final.0 in
    among-front all-counted mask (whole m (text ++ more) anchored) (whole m text anchored) place (omega arith)
    (omega arith) (omega (arith, length-append text more)) le
    (λ at before. get_or_append_left text more 0 at (omega arith))
    (λ at before.
    (final-covered m text more anchored place at final before, covered-append m text more anchored at))

-- where a text is final before a place, the masked text before it begins the masked text, however the text goes on
pub masked-front_begins : (mask : ℕ) (m : Dictionary) (text more : List ℕ) (anchored : Bool) (place : ℕ)
    → IsFinalBefore m text place
    → IsBeginning (take place (masked mask (whole m text anchored))) (masked mask (whole m (text ++ more) anchored))
masked-front_begins mask m text more anchored place final =
    let x = masked mask (whole m (text ++ more) anchored) in (
      drop place x,
      sym (take-append-drop place x)
          ∙ ap (λ front. front ++ drop place x) (masked-front_final mask m text more anchored place final),
    )

-- a text that is final before a place is final before each earlier one
pub final-earlier : (m : Dictionary) (text : List ℕ) {at place : ℕ} → at ≤ place → IsFinalBefore m text place
    → IsFinalBefore m text at
final-earlier m text le final =
    let within = final.0 in
    (omega arith, λ more o h before. final.1 more o h (omega arith))

-- a text is final before each place after which as many bytes follow as the longest pattern has, less one
pub final-before_last : (m : Dictionary) (text : List ℕ) (place : ℕ) → place ≤ length text
    → place + longest m.patterns ≤ length text + 1 → IsFinalBefore m text place
final-before_last m text place within far = (
  within,
  λ more o h before.
      let end = occurs-end {s = whole m (text ++ more) false} (omega arith) h in
      let few = no_longer-pattern m.patterns o.pattern end.1 in
      let long = end.2 in
      omega arith,
)

-- a text is final before its live prefix: what crosses the end of the text begins there or later
pub final-before_live : (m : Dictionary) (text : List ℕ) (from : ℕ) → IsLive m false text (Some from)
    → IsFinalBefore m text from
final-before_live m text from live = (
  live.0.within,
  λ more o h before.
      ⊎_elim
      (λ (crosses : length text < o.end).
      let behind = new-behind false more live h (omega arith) in absurd (omega arith))
      (λ (ends : o.end ≤ length text). ends)
      (cases_lt (length text) o.end),
)

-- ---- the longest at each end

-- the longest occurrence that ends at a place starts no later than any other that ends there
pub longest-no_later : (s : Search) (o q : Occurrence) (end : ℕ) → IsLongestEnding s end (Some o) → Occurs s q
    → q.end ≡ end → o.start ≤ q.start
longest-no_later s o q end least h ends =
    ⊎_elim
    (λ (sooner : q.start < o.start).
    absurd (least.1 q (h, ends) (preference-less Standard q o (less_by_start q o (ends ∙ sym least.0.1) sooner))))
    (λ (no_later : o.start ≤ q.start). no_later)
    (cases_lt q.start o.start)

-- a search has a longest occurrence that ends where one does, and it starts no later than that one
pub longest-ending : (s : Search) (o : Occurrence) → s.end ≤ length s.haystack → Occurs s o
    → (b : Occurrence) × IsLongestEnding s o.end (Some b) × (b.start ≤ o.start)
longest-ending s o inside h =
    by (least Standard ending) (IsLeast-like Standard alike (least Standard ending) (least-least Standard ending))
  where
    ending : List Occurrence
    ending = filter (λ q. eqb q.end o.end) (occurrences s)

    alike : (q : Occurrence) → Contains ending q ↔ (Occurs s q × (q.end ≡ o.end))
    alike q = (
      λ c. let kept = Contains-from_filter (λ z. eqb z.end o.end) (occurrences s) c in
          (occurrences-occurs s q kept.0, eqb-true q.end o.end kept.1),
      λ p. Contains-filter (λ z. eqb z.end o.end) (occurrences s) (occurs-occurrences s q inside p.0)
          (eq-eqb q.end o.end p.1),
    )

    by : (r : Option Occurrence) → IsLongestEnding s o.end r
        → (b : Occurrence) × IsLongestEnding s o.end (Some b) × (b.start ≤ o.start)
    by None none = absurd (none o (h, refl))
    by (Some b) best = (b, best, longest-no_later s b o o.end best h refl)

-- a place is covered exactly where a longest occurrence at its end covers it
pub longest-cover : (s : Search) (at : ℕ) → s.end ≤ length s.haystack
    → IsCovered s at ↔ ((o : Occurrence) × IsLongestEnding s o.end (Some o) × Covers o at)
longest-cover s at inside = (
  λ h. let o = h.0 in
      let c = h.2 in
      let b = longest-ending s o inside h.1 in
      let ends : b.0.end ≡ o.end = b.1.0.1 in
      let starts = b.2 in
      (b.0, subst (λ end. IsLongestEnding s end (Some b.0)) (sym ends) b.1, (omega arith, omega arith)),
  λ h. (h.0, h.1.0.0, h.2),
)

-- the haystack masked by some of its occurrences, the longest at each end among them, is the masked haystack
pub masked-by_longest_ending : (mask : ℕ) (s : Search) (os : List Occurrence) → s.end ≤ length s.haystack
    → ((o : Occurrence) → Contains os o → Occurs s o)
    → ((o : Occurrence) → IsLongestEnding s o.end (Some o) → Contains os o)
    → masked_from 0 s.haystack mask os ≡ masked mask s
masked-by_longest_ending mask s os inside occur have =
    masked-by mask s os inside
    (λ at. (
      λ h. (h.0, occur h.0 h.1, h.2),
      λ h. let longest = (longest-cover s at inside).0 h in (longest.0, have longest.0 longest.1, longest.2),
    ))
