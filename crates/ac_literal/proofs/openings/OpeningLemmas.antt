-- Where a pattern opens, its bucket is left. Where no mark is passed, no opening is.
use Rattle.std.proofs.Common.{◌≡◌, ◌≢◌, ⊎_elim, ℕ, zero, suc, ◌+◌, ◌-◌, ◌/◌, ◌%◌, ◌<◌, ◌≤◌, inl, inr, List, [], ◌∷◌, length, take, drop, get_or, map, IsTrue, refl, sym, ap, subst, ◌∙◌, arith, get_or-take, length-take-le}
use Rattle.std.specs.Int.{bit_at}
use Rattle.std.specs.Borrow.{Bor}
use Rattle.std.proofs.lemmas.Bool.{cases_eq, cases_lt, and_parts}
use Rattle.std.proofs.lemmas.List.{get_or-drop, get_or-map, length-map, drop-take, take-take}
use Rattle.std.proofs.lemmas.Option.{get_or_from_slice_get, slice_get_within}
use Rattle.ac_input.specs.declared.search.MatchKind.{MatchKind}
use Rattle.ac_input.specs.Dictionary.{dictionary_of, IsPattern}
use Rattle.ac_input.specs.Opening.{IsOpening}
use Rattle.ac_input.specs.Same.{other, same, same_text, IsUnpaired}
use Rattle.ac_literal.specs.declared.openings.fronts.Fronts.{Fronts}
use Rattle.ac_literal.specs.declared.grams.Grams.{Grams}
use Rattle.ac_literal.specs.Grams.{HaveWindows, MayStart}
use Rattle.ac_literal.specs.declared.packed.teddy.Probe.{Probe}
use Rattle.ac_literal.specs.declared.packed.teddy.Teddy.{Teddy}
use Rattle.ac_literal.specs.declared.openings.fingerprints.Fingerprints.{Fingerprints}
use Rattle.ac_literal.specs.Openings.Fingerprints.{print_of, IsPrinted, KeepsPrints, ArePrinted}
use Rattle.ac_literal.specs.Openings.Marks.{HasPartners, HaveOpened}
use Rattle.ac_literal.specs.Openings.Fronts.{MayOpen}
use Rattle.ac_literal.specs.Packed.{bytes_of, AreAsLong}
use Rattle.ac_literal.specs.Packed.Teddy.{AreSet, HasBucket, KeepsBuckets, KeepsPatterns, LooksBefore, HasPattern, IsNextMarks, low_at, marked_at}
use Rattle.ac_literal.proofs.openings.FingerprintLemmas.{same-print}
use Rattle.ac_literal.proofs.packed.TeddyLemmas.{all-leave, keeps-pattern}
use Rattle.ac_input.proofs.lemmas.SameLemmas.{same-cases, same-unpaired}
use Rattle.ac_literal.proofs.grams.GramLemmas.{bytes-begin}

-- ---- bytes that are the same

-- texts that are the same have the same byte at each place
same_text-byte : (pairing xs ys : List ℕ) (k : ℕ) → k < length xs → IsTrue (same_text pairing xs ys)
    → IsTrue (same pairing (get_or xs k 0) (get_or ys k 0))
same_text-byte pairing [] ys k within h = absurd (omega (arith, within))
same_text-byte pairing (x ∷ xs) [] k within h = cc
same_text-byte pairing (x ∷ xs) (y ∷ ys) zero within h = (and_parts (same pairing x y) (same_text pairing xs ys) h).0
same_text-byte pairing (x ∷ xs) (y ∷ ys) (suc k) within h =
    same_text-byte pairing xs ys k (omega (arith, within)) (and_parts (same pairing x y) (same_text pairing xs ys) h).1

-- ---- what a bucket has

-- a bucket keeps a pattern and its partners
pub keeps-partners : {pairing : List ℕ} {len : ℕ} {old new : Teddy} {pattern : List ℕ} {bucket : ℕ}
    → KeepsPatterns old new → HasPartners pairing len old pattern bucket → HasPartners pairing len new pattern bucket
keeps-partners keeps has = record {
  own = keeps-pattern keeps has.own;
  paired = keeps-pattern keeps has.paired;
}

-- one more pattern is in a bucket, with its partners
pub opened-more : {pairing : List ℕ} {len : ℕ} (patterns : List (List ℕ)) {count bucket : ℕ} {old new : Teddy}
    {pattern : List ℕ} → get_or patterns count [] ≡ pattern → HaveOpened pairing len patterns count old
    → KeepsPatterns old new → HasPartners pairing len new pattern bucket
    → HaveOpened pairing len patterns (count + 1) new
opened-more {pairing} {len} patterns {count} {bucket} {new} is so_far keeps own number within =
    elim (cases_eq number count) [
      | inl here ↦ (
        bucket,
        subst (λ p. HasPartners pairing len new p bucket) (sym (ap (λ number. get_or patterns number []) here ∙ is))
            own,
      )
      | inr apart ↦
          let had = so_far number (omega (arith, within, apart)) in
          (had.0, keeps-partners keeps had.1)
    ]

-- ---- marks

-- the byte that a probe looks at is in the bucket, as the pattern's byte or as its partner
opened-left : (pairing : List ℕ) (len : ℕ) (p text : List ℕ) (at bucket : ℕ) (probe : Probe) → probe.offset < len
    → len ≤ length p
    → HasBucket probe (get_or p probe.offset 0) bucket
    → HasBucket probe (get_or (map (other pairing) (take len p)) probe.offset 0) bucket
    → IsTrue (same_text pairing (take len p) (take len (drop at text)))
    → HasBucket probe (get_or text (at + probe.offset) 0) bucket
opened-left pairing len p text at bucket probe near long own paired h =
    let k = probe.offset in
    let size : length (take len p) ≡ len = length-take-le len p long in
    let byte : IsTrue (same pairing (get_or (take len p) k 0) (get_or (take len (drop at text)) k 0)) =
    same_text-byte pairing (take len p) (take len (drop at text)) k (omega (arith, size, near)) h in
    let mine : get_or (take len p) k 0 ≡ get_or p k 0 = get_or-take len p k 0 near in
    let there : get_or (take len (drop at text)) k 0 ≡ get_or text (at + k) 0 = get_or-take len (drop at text) k 0 near
    ∙ get_or-drop at text k 0 in
    let partner : get_or (map (other pairing) (take len p)) k 0 ≡ other pairing (get_or (take len p) k 0) =
    get_or-map (other pairing) (take len p) k 0 0 (omega (arith, size, near)) in
    ⊎_elim
    (λ (e : get_or (take len p) k 0 ≡ get_or (take len (drop at text)) k 0).
    subst (λ b. HasBucket probe b bucket) (sym mine ∙ e ∙ there) own)
    (λ (e : other pairing (get_or (take len p) k 0) ≡ get_or (take len (drop at text)) k 0).
    subst (λ b. HasBucket probe b bucket) (partner ∙ e ∙ there) paired)
    (same-cases pairing byte)

-- a place where a pattern opens is marked by the bucket that has the pattern
had-marked : {pairing : List ℕ} {len : ℕ} {t : Teddy} {p : List ℕ} (text : List ℕ) (at : ℕ) {bucket : ℕ}
    → LooksBefore len t → len ≤ length p → HasPartners pairing len t p bucket
    → IsTrue (same_text pairing (take len p) (take len (drop at text))) → marked_at t text at ≢ 0
had-marked {pairing} {len} {t} {p} text at {bucket} near enough has here =
    let left = λ (probe : Probe) (near : probe.offset < len) (own : HasBucket probe (get_or p probe.offset 0) bucket)
    (paired : HasBucket probe (get_or (map (other pairing) (take len p)) probe.offset 0) bucket).
    opened-left pairing len p text at bucket probe near enough own paired here in
    let high = λ (probe : Probe). get_or probe.high (get_or text (at + probe.offset) 0 / 16) 0 in
    all-leave t.is_whole t.is_few (low_at t.first text at) (low_at t.second text at) (low_at t.third text at)
    (low_at t.fourth text at) (high t.first) (high t.second) (high t.third) (high t.fourth) bucket
    (left t.first near.first has.own.first has.paired.first)
    (left t.second near.second has.own.second has.paired.second)
    (left t.third near.third has.own.third has.paired.third)
    (left t.fourth near.fourth has.own.fourth has.paired.fourth)

-- each place where a pattern of the dictionary opens is marked
pub opening-marked : (patterns : List (List ℕ)) {pairing : List ℕ} (kind : MatchKind) {len : ℕ} {t : Teddy}
    (text : List ℕ) (at : ℕ) → LooksBefore len t → AreAsLong len patterns
    → HaveOpened pairing len patterns (length patterns) t → IsOpening (dictionary_of patterns pairing kind) len text at
    → marked_at t text at ≢ 0
opening-marked patterns {pairing} kind {len} text at near long all h =
    let within = slice_get_within patterns h.0 h.1 h.2 in
    let pattern : get_or patterns h.0 [] ≡ h.1 = get_or_from_slice_get patterns h.0 h.1 [] h.2 in
    let has = all h.0 within in
    had-marked text at near (long h.0 within) has.1
    (subst (λ xs. IsTrue (same_text pairing (take len xs) (take len (drop at text)))) (sym pattern) h.3)

-- where a pattern opens, the fingerprint of its first bytes is in the set
pub opening-printed : (patterns : List (List ℕ)) {pairing : List ℕ} (kind : MatchKind) (len : ℕ) (f : Fingerprints)
    (text : List ℕ) (at : ℕ) → ArePrinted pairing len patterns (length patterns) f
    → IsOpening (dictionary_of patterns pairing kind) len text at → IsPrinted f (take len (drop at text))
opening-printed patterns {pairing} kind len f text at are h =
    let within = slice_get_within patterns h.0 h.1 h.2 in
    let pattern : get_or patterns h.0 [] ≡ h.1 = get_or_from_slice_get patterns h.0 h.1 [] h.2 in
    let same : IsTrue (same_text pairing (take len (get_or patterns h.0 [])) (take len (drop at text))) =
    subst (λ xs. IsTrue (same_text pairing (take len xs) (take len (drop at text)))) (sym pattern) h.3 in
    let print : print_of f.pairing (take len (get_or patterns h.0 [])) ≡ print_of f.pairing (take len (drop at text)) =
    subst (λ p. print_of p (take len (get_or patterns h.0 [])) ≡ print_of p (take len (drop at text))) (sym are.0)
    (same-print pairing (take len (get_or patterns h.0 [])) (take len (drop at text)) same) in
    subst (λ k. bit_at (get_or f.bits (k / 8) 0) (k % 8) ≡ 1) print (are.1 h.0 within)

-- where a pattern opens whose bytes aren't paired, it may begin by its grams
pub opening-begins : (patterns : List (List ℕ)) (pairing : List ℕ) (kind : MatchKind) (len : ℕ) {g : Grams}
    (text : List ℕ) (at : ℕ) → IsUnpaired pairing → AreAsLong len patterns → HaveWindows g len patterns (length patterns)
    → IsOpening (dictionary_of patterns pairing kind) len text at → MayStart g text at
opening-begins patterns pairing kind len text at unpaired long all h =
    let within = slice_get_within patterns h.0 h.1 h.2 in
    let pattern : get_or patterns h.0 [] ≡ h.1 = get_or_from_slice_get patterns h.0 h.1 [] h.2 in
    let front = take len (get_or patterns h.0 []) in
    let same : IsTrue (same_text pairing front (take len (drop at text))) =
    subst (λ xs. IsTrue (same_text pairing (take len xs) (take len (drop at text)))) (sym pattern) h.3 in
    let size : length front ≡ len = length-take-le len (get_or patterns h.0 []) (long h.0 within) in
    bytes-begin front text at
    (λ k inside.
    sym (get_or-drop at text k 0) ∙ sym (get_or-take len (drop at text) k 0 (omega (arith, inside, size)))
    ∙ sym (same-unpaired pairing unpaired _ _ (same_text-byte pairing front (take len (drop at text)) k inside same)))
    (all h.0 within)

-- ---- buckets, while patterns come

-- what two steps keep, both together keep
kept-twice : {a b c : Probe} → KeepsBuckets a b → KeepsBuckets b c → KeepsBuckets a c
kept-twice first second =
    record {
      offset = second.offset ∙ first.offset;
      has = λ byte bucket h. second.has byte bucket (first.has byte bucket h);
    }

pub keeps-twice : {a b c : Teddy} → KeepsPatterns a b → KeepsPatterns b c → KeepsPatterns a c
keeps-twice one two = record {
  first = kept-twice one.first two.first;
  second = kept-twice one.second two.second;
  third = kept-twice one.third two.third;
  fourth = kept-twice one.fourth two.fourth;
}

-- the set has the fingerprints of the patterns so far, and of one more
pub printed-more : {pairing : List ℕ} (len : ℕ) (patterns : List (List ℕ)) {count : ℕ} {old new : Fingerprints}
    {pattern : List ℕ} → get_or patterns count [] ≡ pattern → ArePrinted pairing len patterns count old
    → KeepsPrints old new → IsPrinted new (take len pattern) → ArePrinted pairing len patterns (count + 1) new
printed-more {pairing} len patterns {count} {new} is so_far keeps own = (
  keeps.pairing ∙ so_far.0,
  λ number within. elim (cases_eq number count) [
    | inl here ↦ subst (λ p. IsPrinted new (take len p)) (sym (ap (λ number. get_or patterns number []) here ∙ is)) own
    | inr apart ↦ keeps.has (take len (get_or patterns number [])) (so_far.1 number (omega (arith, within, apart)))
  ],
)

-- no pattern is shorter than the length that all have
pub none-shorter : (patterns : List (List ℕ)) (pairing : List ℕ) (kind : MatchKind) (len : ℕ) → AreAsLong len patterns
    → ((n : ℕ) (p : List ℕ) → IsPattern (dictionary_of patterns pairing kind) n p → len ≤ length p)
none-shorter patterns pairing kind len long n p is =
    let within = slice_get_within patterns n p is in
    let pattern : get_or patterns n [] ≡ p = get_or_from_slice_get patterns n p [] is in
    subst (λ xs. len ≤ length xs) pattern (long n within)

-- ---- what is passed

-- within a block, no place may open before the first mark whose fingerprint is in the set
pub marked-passed : {f : Fronts} {text : List ℕ} {block : ℕ} (marks : ℕ) {count : ℕ}
    → ((place : ℕ) → place < block → ¬ MayOpen f text place) → AreSet f.teddy text block marks → count ≤ 32
    → ((k : ℕ) → k < count → bit_at marks k ≡ 1 → ¬ IsPrinted f.prints (take f.len (drop (block + k) text)))
    → (place : ℕ) → place < block + count → ¬ MayOpen f text place
marked-passed {f} {text} {block} marks before set few unprinted place within is = elim (cases_lt place block) [
  | inl early ↦ before place early is
  | inr late ↦
      let k : ℕ = place - block in
      let here : place ≡ block + k = omega (arith, late) in
      let there : MayOpen f text (block + k) = subst (MayOpen f text) here is in
      unprinted k (omega (arith, late, within)) (set k (omega (arith, late, within, few)) there.left) there.printed
]

module _ {f : Fronts} {text : List ℕ} {from to block marks : ℕ} (next : IsNextMarks f.teddy text from to block marks)
    (before : (place : ℕ) → place < from → ¬ MayOpen f text place) where
  -- no place before the next block with a mark may open
  pub block-before : (place : ℕ) → place < block → ¬ MayOpen f text place
  block-before place within is = elim (cases_lt place from) [
    | inl early ↦ before place early is
    | inr late ↦ is.left (next.passed place (omega (arith, late)) within)
  ]

  -- the same up to the first mark of that block whose fingerprint is in the set
  pub block-passed : {count : ℕ} → count ≤ 32 → marks ≢ 0
      → ((k : ℕ) → k < count → bit_at marks k ≡ 1 → ¬ IsPrinted f.prints (take f.len (drop (block + k) text)))
      → (place : ℕ) → place < block + count → ¬ MayOpen f text place
  block-passed few some unprinted = marked-passed marks block-before (next.set some) few unprinted

-- ---- a copy of few bytes

module _ (f : Fronts) (bytes block : List ℕ) (near : LooksBefore f.len f.teddy)
    (copied : take (length bytes) block ≡ bytes) where
  -- a copy has the same byte at each place
  copied-byte : (k : ℕ) → k < length bytes → get_or bytes k 0 ≡ get_or block k 0
  copied-byte k within =
      ap (λ xs. get_or xs k 0) (sym copied) ∙ get_or-take (length bytes) block k 0 within

  -- the same buckets are left at each place whose bytes are copied
  copied-marked : (place : ℕ) → place + f.len ≤ length bytes → marked_at f.teddy bytes place ≡ marked_at f.teddy block place
  copied-marked place room =
      let one = near.first in
      let two = near.second in
      let three = near.third in
      let four = near.fourth in
      let first = copied-byte (place + f.teddy.first.offset) (omega (arith, room, one)) in
      let second = copied-byte (place + f.teddy.second.offset) (omega (arith, room, two)) in
      let third = copied-byte (place + f.teddy.third.offset) (omega (arith, room, three)) in
      let fourth = copied-byte (place + f.teddy.fourth.offset) (omega (arith, room, four)) in
      rw (first, second, third, fourth) (refl {a = marked_at f.teddy block place})

  -- the same bytes stand there
  copied-front : (place : ℕ) → place + f.len ≤ length bytes → take f.len (drop place bytes) ≡ take f.len (drop place block)
  copied-front place room =
      sym (drop-take place f.len bytes) ∙ ap (λ xs. drop place (take (place + f.len) xs)) (sym copied)
      ∙ ap (drop place) (take-take (place + f.len) (length bytes) block room) ∙ drop-take place f.len block

  -- so a pattern that may open in the bytes may open in the copy
  pub copied-opens : (place : ℕ) → place + f.len ≤ length bytes → MayOpen f bytes place → MayOpen f block place
  copied-opens place room opens = record {
    left = λ none. opens.left (copied-marked place room ∙ none);
    printed = subst (IsPrinted f.prints) (copied-front place room) opens.printed;
  }

-- ---- patterns that are lent

-- the bytes of pattern `number`, as they are lent
pub pattern-lent : (patterns : List (Bor (List ℕ))) (d : Bor (List ℕ)) (number : ℕ) → number < length patterns
    → get_or (bytes_of patterns) number [] ≡ (get_or patterns number d).now
pattern-lent [] d number within = absurd (omega (arith, within))
pattern-lent (p ∷ ps) d zero within = refl
pattern-lent (p ∷ ps) d (suc number) within = pattern-lent ps d number (omega (arith, within))

-- what stands where no pattern is lent
abbrev pub nothing_lent : Bor (List ℕ)
nothing_lent = record { ref_ptr = (0, 0); now = [] }

-- the front of a pattern, as it is lent, has `len` bytes if no pattern has fewer
pub front-lent : (patterns : List (Bor (List ℕ))) (len number : ℕ) → AreAsLong len (bytes_of patterns)
    → number < length patterns → length (take len (get_or patterns number nothing_lent).now) ≡ len
front-lent patterns len number short within =
    let count = length-map patterns (λ (p : Bor (List ℕ)). p.now) in
    let long = short number (omega (arith, count, within)) in
    let same = ap length (pattern-lent patterns nothing_lent number within) in
    length-take-le len (get_or patterns number nothing_lent).now (omega (arith, long, same))

-- a length that no pattern so far, and not the next one, falls below
pub short-more : (patterns : List (List ℕ)) {count len less : ℕ}
    → ((number : ℕ) → number < count → len ≤ length (get_or patterns number [])) → less ≤ len
    → less ≤ length (get_or patterns count []) → (number : ℕ) → number < count + 1
    → less ≤ length (get_or patterns number [])
short-more patterns {count} {less} so_far le own number within = elim (cases_eq number count) [
  | inl here ↦ subst (λ k. less ≤ length (get_or patterns k [])) (sym here) own
  | inr apart ↦ let had = so_far number (omega (arith, within, apart)) in omega (arith, had, le)
]

-- a probe's bucket for one list is its bucket for another that has an equal byte at the offset
moved-byte : (probe : Probe) (xs ys : List ℕ) (bucket : ℕ) → get_or xs probe.offset 0 ≡ get_or ys probe.offset 0
    → HasBucket probe (get_or xs probe.offset 0) bucket → HasBucket probe (get_or ys probe.offset 0) bucket
moved-byte probe xs ys bucket e has = subst (λ b. HasBucket probe b bucket) e has

-- a bucket that has a pattern's partners, byte by byte, has them as one list
pub partners-had : (pairing : List ℕ) {len : ℕ} {t : Teddy} (pattern : List ℕ) {bytes : List ℕ} {bucket : ℕ}
    → LooksBefore len t → len ≤ length pattern
    → ((k : ℕ) → k < len → get_or bytes k 0 ≡ other pairing (get_or pattern k 0)) → HasPattern t bytes bucket
    → HasPattern t (map (other pairing) (take len pattern)) bucket
partners-had pairing {len} {t} pattern {bytes} {bucket} near long are has = record {
  first = moved-byte t.first bytes partners bucket (same_at t.first.offset near.first) has.first;
  second = moved-byte t.second bytes partners bucket (same_at t.second.offset near.second) has.second;
  third = moved-byte t.third bytes partners bucket (same_at t.third.offset near.third) has.third;
  fourth = moved-byte t.fourth bytes partners bucket (same_at t.fourth.offset near.fourth) has.fourth;
}
  where
    partners : List ℕ
    partners = map (other pairing) (take len pattern)

    same_at : (k : ℕ) → k < len → get_or bytes k 0 ≡ get_or partners k 0
    same_at k within =
        let size : length (take len pattern) ≡ len = length-take-le len pattern long in
        are k within ∙ ap (other pairing) (sym (get_or-take len pattern k 0 within))
        ∙ sym (get_or-map (other pairing) (take len pattern) k 0 0 (omega (arith, size, within)))

-- a bucket has a pattern and its partners, if both were put into it one after the other
pub has-both : {pairing : List ℕ} {len : ℕ} {once new : Teddy} {named pattern bytes : List ℕ} {bucket : ℕ}
    → named ≡ pattern → LooksBefore len new → len ≤ length pattern
    → ((k : ℕ) → k < len → get_or bytes k 0 ≡ other pairing (get_or pattern k 0)) → HasPattern once pattern bucket
    → KeepsPatterns once new → HasPattern new bytes bucket → HasPartners pairing len new named bucket
has-both {pairing} {len} {new} {pattern} {bucket} is near long are own keeps paired =
    subst (λ p. HasPartners pairing len new p bucket) (sym is) (record {
      own = keeps-pattern keeps own;
      paired = partners-had pairing pattern near long are paired;
    })
