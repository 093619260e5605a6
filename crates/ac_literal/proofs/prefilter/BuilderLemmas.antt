-- What is collected of patterns, and which prefilters it allows.
use Rattle.std.proofs.Common.{◌≡◌, ℕ, ◌+◌, ◌<◌, ◌≤◌, ◌⊎◌, ◌==◌, ◌||◌, Bool, true, false, if◌then◌else◌, List, [], ◌∷◌, ◌++◌, length, get_or, IsTrue, Option, None, Some, refl, sym, ap, ◌∙◌, subst, inl, inr, arith, length-append, append_assoc}
use Rattle.std.specs.Prelude.{slice_index, option_map}
use Rattle.std.specs.List.{Contains}
use Rattle.std.proofs.lemmas.Bool.{false≢true}
use Rattle.std.proofs.lemmas.List.{append-nil}
use Rattle.std.proofs.lemmas.Bool.Decides.{nat_tests}
use Rattle.std.proofs.lemmas.Grind.{get_or_default_zero}
use Rattle.std.proofs.lemmas.List.Elements.{Contains-push, Contains-append_left, Contains-push_cases}
use Rattle.ac_input.specs.Same.{other}
use Rattle.ac_input.specs.Dictionary.{Dictionary}
use Rattle.ac_input.proofs.lemmas.ContainsLemmas.{Contains-head, Contains-tail}
use Rattle.ac_literal.specs.declared.packed.api.MatchKind.{MatchKind}
use Rattle.ac_literal.specs.Packed.{Packed, Building, fresh, is_too_much, added, added_all, built, search_kind, AreServed}
use Rattle.ac_literal.specs.Prefilter.Needles.{is_needle, needle_list, all_ascii, with_byte, AreNeedles, HasFour, AreFew, few_has, few_surely_has}
use Rattle.ac_literal.specs.Prefilter.Strategies.{AreFull, begins_same, is_start, StandsInSome, AreStarts, AreRareOf, IsPacked}
use Rattle.ac_literal.specs.Prefilter.Rare.{IsRareSoFar}
use Rattle.ac_literal.specs.Prefilter.{IsStrategyOf, needles_of, MemmemServes, AreStartBytes, AreRareBytes, IsAdmissible, IsWayOf, PackedServes}
use Rattle.ac_literal.specs.Prefilter.Builder.{IsMemmemSoFar, IsPackedSoFar, IsCollected, IsBuilder}
use Rattle.ac_input.specs.Limits.{with_pattern}
use Rattle.ac_literal.specs.declared.prefilter.needles.Needles.{Needles}
use Rattle.ac_literal.specs.declared.prefilter.needles.Needles.TheVariants.{One, Two, Three}
use Rattle.ac_literal.specs.declared.prefilter.needles.FewBytes.{FewBytes}
use Rattle.ac_literal.specs.declared.prefilter.needles.FewBytes.TheVariants as few
use Rattle.ac_literal.specs.declared.prefilter.builder.Builders.{Builders}
use Rattle.ac_literal.specs.declared.prefilter.strategy.RareBytes.{RareBytes}
use Rattle.ac_literal.specs.declared.prefilter.strategy.Strategy.{Strategy}
use Rattle.ac_literal.specs.declared.prefilter.strategy.Strategy.TheVariants as strategies
use Rattle.ac_literal.proofs.prefilter.NeedleLemmas.{ascii-below, ascii-from, four-in_three, needle-listed}
use Rattle.ac_literal.proofs.prefilter.StartBytesLemmas.{is_start-given, start-stands}
use Rattle.ac_literal.proofs.prefilter.ChoiceLemmas.{same-self}
use Rattle.ac_literal.proofs.prefilter.PackedLemmas.{leftmost}
use Rattle.ac_literal.proofs.packed.PatternLemmas.{added_all-push}

-- `or` with false changes nothing
or-nothing : (a : Bool) → (a || false) ≡ a
or-nothing true = refl
or-nothing false = refl

or-regroup : (a b c : Bool) → (a || (b || c)) ≡ ((a || b) || c)
or-regroup true b c = refl
or-regroup false b c = refl

-- the bytes that patterns may begin with, with one more pattern
is_start-push : (pairing : List ℕ) (ps : List (List ℕ)) (p : List ℕ) (byte : ℕ)
    → is_start pairing (ps ++ p ∷ []) byte ≡ (is_start pairing ps byte || begins_same pairing p byte)
is_start-push pairing [] p byte = or-nothing (begins_same pairing p byte)
is_start-push pairing (q ∷ ps) p byte =
    ap (λ b. begins_same pairing q byte || b) (is_start-push pairing ps p byte)
    ∙ or-regroup (begins_same pairing q byte) (is_start pairing ps byte) (begins_same pairing p byte)

-- the bytes that patterns may begin with, after one more: the old ones, its first byte and that byte's partner
starts-more : (pairing : List ℕ) (ps : List (List ℕ)) (p : List ℕ) (byte : ℕ) → 0 < length p
    → with_byte (with_byte (is_start pairing ps) (slice_index p 0)) (other pairing (slice_index p 0)) byte
    ≡ is_start pairing (ps ++ p ∷ []) byte
starts-more pairing ps [] byte some = absurd (omega arith)
starts-more pairing ps (x ∷ xs) byte some =
    sym (or-regroup (is_start pairing ps byte) (x == byte) (other pairing x == byte))
    ∙ sym (is_start-push pairing ps (x ∷ xs) byte)

-- the few bytes that pass a test are those that pass an equal test
few-alike : (these : FewBytes) {f g : ℕ → Bool} → ((byte : ℕ) → f byte ≡ g byte) → AreFew these f → AreFew these g
few-alike few.None same_test none = λ byte. sym (same_test byte) ∙ none byte
few-alike (few.Some needles) same_test are =
    record { apart = are.apart; exact = λ byte. are.exact byte ∙ same_test byte }
few-alike few.TooMany same_test four =
    let p = four.pass in
    record {
      a = four.a;
      b = four.b;
      c = four.c;
      d = four.d;
      apart = four.apart;
      pass = (
        sym (same_test four.a) ∙ p.0,
        sym (same_test four.b) ∙ p.1,
        sym (same_test four.c) ∙ p.2,
        sym (same_test four.d) ∙ p.3,
      );
    }

pub starts-push : (pairing : List ℕ) (ps : List (List ℕ)) (p : List ℕ) (these : FewBytes) {pair : ℕ} → 0 < length p
    → pair ≡ other pairing (slice_index p 0)
    → AreFew these (with_byte (with_byte (is_start pairing ps) (slice_index p 0)) pair)
    → AreFew these (is_start pairing (ps ++ p ∷ []))
starts-push pairing ps p these some is h =
    few-alike these
    (λ byte. ap (λ x. with_byte (with_byte (is_start pairing ps) (slice_index p 0)) x byte) is
    ∙ starts-more pairing ps p byte some) h

-- a builder of packed search keeps its kind
added-kind : (b : Building) (p : List ℕ) → (added b p).kind ≡ b.kind
added-kind b p = by b.inert (is_too_much (length b.patterns) p)
  where
    by : (t u : Bool)
        → (if t then b
        else (if u then record { kind = b.kind; patterns = []; inert = true }
        else record { kind = b.kind; patterns = b.patterns ++ p ∷ []; inert = false })).kind ≡ b.kind
    by true u = refl
    by false true = refl
    by false false = refl

-- an inert builder is unchanged
added_all-inert : {kind : MatchKind} (ps : List (List ℕ))
    → added_all (record { kind = kind; patterns = []; inert = true }) ps
    ≡ record { kind = kind; patterns = []; inert = true }
added_all-inert [] = refl
added_all-inert (p ∷ ps) = added_all-inert ps

-- a builder has taken all patterns, or has none
added_all-cases : (kind : MatchKind) (front ps : List (List ℕ))
    → ((added_all (record { kind = kind; patterns = front; inert = false }) ps).patterns ≡ front ++ ps)
    ⊎ ((added_all (record { kind = kind; patterns = front; inert = false }) ps).patterns ≡ [])
added_all-cases kind front [] = inl (sym (append-nil front))
added_all-cases kind front (p ∷ ps) = by (added_all-cases kind (front ++ p ∷ []) ps) (is_too_much (length front) p)
  where
    by : ((added_all (record { kind = kind; patterns = front ++ p ∷ []; inert = false }) ps).patterns
        ≡ (front ++ p ∷ []) ++ ps)
        ⊎ ((added_all (record { kind = kind; patterns = front ++ p ∷ []; inert = false }) ps).patterns ≡ [])
        → (t : Bool)
        → ((added_all
        (if t then record { kind = kind; patterns = []; inert = true }
        else record { kind = kind; patterns = front ++ p ∷ []; inert = false }) ps).patterns ≡ front ++ p ∷ ps)
        ⊎ ((added_all
        (if t then record { kind = kind; patterns = []; inert = true }
        else record { kind = kind; patterns = front ++ p ∷ []; inert = false }) ps).patterns ≡ [])
    by later true = inr (ap (λ b. b.patterns) (added_all-inert ps))
    by later false = elim later [ inl all ↦ inl (all ∙ append_assoc front (p ∷ []) ps) | inr none ↦ inr none ]

-- a builder has taken all patterns if none is empty and there are at most 128
added_all-served : (kind : MatchKind) (front ps : List (List ℕ)) → length front + length ps ≤ 128
    → ((p : List ℕ) → Contains ps p → 0 < length p)
    → (added_all (record { kind = kind; patterns = front; inert = false }) ps).patterns ≡ front ++ ps
added_all-served kind front [] few_enough full = sym (append-nil front)
added_all-served kind front (p ∷ ps) few_enough full =
    let some : 0 < length p = full p (Contains-head ps) in
    let room : is_too_much (length front) p ≡ false = fits (length p) (length front) some (omega arith) in
    let longer : length (front ++ p ∷ []) ≡ length front + 1 = length-append front (p ∷ []) in
    ap (λ t.
    (added_all
    (if t then record { kind = kind; patterns = []; inert = true }
    else record { kind = kind; patterns = front ++ p ∷ []; inert = false }) ps).patterns) room
    ∙ added_all-served kind (front ++ p ∷ []) ps (omega arith) (λ q given. full q (Contains-tail ps given))
    ∙ append_assoc front (p ∷ []) ps
  where
    fits : (long count : ℕ) → 0 < long → count < 128 → ((long == 0) || (count == 128)) ≡ false
    fits long count some room = grind (arith, nat_tests)

-- with one more pattern, the builder of packed search has all patterns
packed-push : (m : Dictionary) (p : List ℕ) (old : Option Building) → IsPackedSoFar m old
    → IsPackedSoFar (with_pattern m p) (option_map (λ b. added b p) old)
packed-push m p None h = h
packed-push m p (Some b) h =
    let kind = added-kind b p in (
      ap search_kind kind ∙ h.0,
      h.1,
      ap (λ x. added x p) h.2 ∙ sym (added_all-push (fresh b.kind) m.patterns p)
          ∙ ap (λ k. added_all (fresh k) (m.patterns ++ p ∷ [])) (sym kind),
    )

-- one more pattern is collected
pub collected-push : {m : Dictionary} (p : List ℕ) {old new : Builders} → 0 < length p → IsCollected m old
    → IsMemmemSoFar (m.patterns ++ p ∷ []) new.memmem → new.packed ≡ option_map (λ b. added b p) old.packed
    → AreFew new.start_bytes (is_start m.pairing (m.patterns ++ p ∷ []))
    → IsRareSoFar m.pairing (m.patterns ++ p ∷ []) new.rare_bytes → IsCollected (with_pattern m p) new
collected-push {m} p {old} some so_far memmem packed starts rare =
    record {
      full = λ q given.
          elim (Contains-push_cases m.patterns p q given) [
            | inl earlier ↦ so_far.full q earlier
            | inr this ↦
                subst (λ r. 0 < length r) this some
          ];
      memmem = memmem;
      packed = subst (IsPackedSoFar (with_pattern m p)) (sym packed) (packed-push m p old.packed so_far.packed);
      starts = starts;
      rare = rare;
    }

-- some byte is a needle
some_needle : (needles : Needles) → (byte : ℕ) × IsTrue (is_needle needles byte)
some_needle (One a) = (a, has a)
  where
    has : (x : ℕ) → IsTrue (x == x)
    has x = grind (arith, nat_tests)
some_needle (Two a b) = (a, has a b)
  where
    has : (x y : ℕ) → IsTrue ((x == x) || (x == y))
    has x y = grind (arith, nat_tests)
some_needle (Three a b c) = (a, has a b c)
  where
    has : (x y z : ℕ) → IsTrue ((x == x) || (x == y) || (x == z))
    has x y z = grind (arith, nat_tests)

-- a list that has a pattern isn't empty
some_given : (ps : List (List ℕ)) {p : List ℕ} → Contains ps p → 0 < length ps
some_given ps given = omega (arith, given.1)

-- start bytes serve if all of them are ASCII
pub starts-serve : {m : Dictionary} {c : Builders} {needles : Needles} → IsCollected m c
    → c.start_bytes ≡ few.Some needles → IsTrue (all_ascii needles) → AreStarts m needles
starts-serve {m} {needles} col is ascii =
    let are : AreNeedles needles (is_start m.pairing m.patterns) =
    subst (λ x. AreFew x (is_start m.pairing m.patterns)) is col.starts in
    let first = some_needle needles in
    let stands = start-stands m.pairing m.patterns first.0 (sym (are.exact first.0) ∙ first.1) in
    record {
      full = record { some = some_given m.patterns stands.2; full = col.full };
      exact = are.exact;
      low = λ byte h. ascii-below needles ascii h;
    }

-- if the bytes collected aren't few or aren't ASCII, start bytes don't serve
pub starts-missed : {m : Dictionary} {c : Builders} → IsCollected m c
    → ((needles : Needles) → c.start_bytes ≡ few.Some needles → all_ascii needles ≡ false)
    → ¬ (AreFull m.patterns × ((bytes : List ℕ) × AreStartBytes m bytes))
starts-missed {m} {c} col never demand = by c.start_bytes refl
  where
    full : AreFull m.patterns
    full = demand.0

    by : (these : FewBytes) → c.start_bytes ≡ these → ⊥
    by few.None is =
        let none : (byte : ℕ) → is_start m.pairing m.patterns byte ≡ false =
        subst (λ x. AreFew x (is_start m.pairing m.patterns)) is col.starts in
        let first : List ℕ = get_or m.patterns 0 [] in
        let given : Contains m.patterns first = (0, full.some, first_given m.patterns full.some) in
        let begun = begins-itself m.pairing first (full.full first given) in
        false≢true
        (sym (none (slice_index first 0)) ∙ is_start-given m.pairing m.patterns (slice_index first 0) given begun)
      where
        first_given : (ps : List (List ℕ)) → 0 < length ps → get_or ps 0 (get_or ps 0 []) ≡ get_or ps 0 []
        first_given [] some = absurd (omega arith)
        first_given (p ∷ ps) some = refl

        begins-itself : (pairing p : List ℕ) → 0 < length p → IsTrue (begins_same pairing p (slice_index p 0))
        begins-itself pairing [] some = absurd (omega arith)
        begins-itself pairing (x ∷ xs) some = same-self pairing x
    by (few.Some needles) is =
        let are : AreNeedles needles (is_start m.pairing m.patterns) =
        subst (λ x. AreFew x (is_start m.pairing m.patterns)) is col.starts in
        let low : (byte : ℕ) → IsTrue (is_needle needles byte)
        → byte < 128 = λ byte h. (demand.1.1.1 byte (sym (are.exact byte) ∙ h)).1 in
        false≢true (sym (never needles is) ∙ ascii-from needles low)
    by few.TooMany is =
        let four : HasFour (is_start m.pairing m.patterns) =
        subst (λ x. AreFew x (is_start m.pairing m.patterns)) is col.starts in
        four-in_three demand.1.0 demand.1.1.0 four (λ byte h. (demand.1.1.1 byte h).0)

-- rare bytes serve if all patterns are short
pub rare-serve : {m : Dictionary} {c : Builders} {needles : Needles} → IsCollected m c
    → c.rare_bytes.few ≡ few.Some needles → c.rare_bytes.is_short ≡ true
    → AreRareOf m (record { needles = needles; distances = c.rare_bytes.distances })
rare-serve {m} {needles} col is short =
    let rare = col.rare in
    let known : (byte : ℕ) → IsTrue (is_needle needles byte)
    → StandsInSome m.pairing m.patterns byte =
    λ byte h. rare.known byte (subst (λ x. IsTrue (few_surely_has x byte)) (sym is) h) in
    let first = some_needle needles in
    let stands = known first.0 first.1 in
    record {
      full = record { some = some_given m.patterns stands.2; full = col.full };
      short = rare.short short;
      held = λ p given.
          let h = rare.held p given in
          record {
            at = h.at;
            within = h.within;
            needle = λ byte e. subst (λ x. IsTrue (few_has x byte)) is (h.held byte e);
          };
      reach = rare.reach short;
      near = rare.near;
      known = known;
    }

-- the searcher that is built looks for the patterns of the builder
built-some : {kind : MatchKind} (ps : List (List ℕ)) {s : Packed} → built kind ps ≡ Some s
    → record { kind = kind; patterns = ps } ≡ s
built-some [] e = cc
built-some (p ∷ ps) e = cc

-- where no searcher is built, there are no patterns
built-none : (kind : MatchKind) (ps : List (List ℕ)) → built kind ps ≡ None → ps ≡ []
built-none kind [] e = refl
built-none kind (p ∷ ps) e = cc

module _ {m : Dictionary} {c : Builders} {b : Building} (col : IsCollected m c) (is : c.packed ≡ Some b) where
  -- the builder has what was collected
  so_far : IsPackedSoFar m (Some b)
  so_far = subst (IsPackedSoFar m) is col.packed

  -- the searcher that it builds serves
  pub packed-serve : {s : Packed} → ¬ MemmemServes m → built b.kind b.patterns ≡ Some s → AreServed s.patterns
      → IsPacked m s
  packed-serve {s} several made served =
      let it = built-some b.patterns made in
      let kind : b.kind ≡ s.kind = ap (λ x. x.kind) it in
      let patterns : b.patterns ≡ s.patterns = ap (λ x. x.patterns) it in
      let taken : b.patterns ≡ (added_all (fresh b.kind) m.patterns).patterns = ap (λ x. x.patterns) so_far.2 in
      let all : s.patterns ≡ m.patterns = elim (added_all-cases b.kind [] m.patterns) [
        | inl every ↦ sym patterns ∙ taken ∙ every
        | inr none ↦ absurd (nothing_served (sym patterns ∙ taken ∙ none))
      ] in
      record {
        full = record { some = subst (λ ps. 0 < length ps) all served.some; full = col.full };
        unpaired = so_far.1;
        patterns = all;
        kind = ap search_kind (sym kind) ∙ so_far.0;
        several = λ one. several (so_far.1, one);
        few = subst (λ ps. length ps ≤ 128) all served.few;
      }
    where
      nothing_served : s.patterns ≡ [] → ⊥
      nothing_served none = let some = subst (λ ps. 0 < length ps) none served.some in omega arith

  -- where it builds no searcher, packed search doesn't serve
  pub packed-missed : built b.kind b.patterns ≡ None → ¬ (AreFull m.patterns × PackedServes m)
  packed-missed made demand =
      let none : b.patterns ≡ [] = built-none b.kind b.patterns made in
      let taken : b.patterns ≡ (added_all (fresh b.kind) m.patterns).patterns = ap (λ x. x.patterns) so_far.2 in
      let all : (added_all (fresh b.kind) m.patterns).patterns ≡ m.patterns =
      added_all-served b.kind [] m.patterns (let short = demand.1.2 in omega arith) demand.0.full in
      let some = subst (λ ps. 0 < length ps) (sym all ∙ sym taken ∙ none) demand.0.some in
      absurd (omega arith)

-- there are at most three needles
needles-few : (needles : Needles) → length (needle_list needles) ≤ 3
needles-few (One a) = omega arith
needles-few (Two a b) = omega arith
needles-few (Three a b c) = omega arith

-- the needles of a table of start bytes are start bytes that serve
starts-are : {m : Dictionary} {needles : Needles} → AreStarts m needles → AreStartBytes m (needle_list needles)
starts-are {needles} h = (
  needles-few needles,
  λ byte e. let n : IsTrue (is_needle needles byte) = h.exact byte ∙ e in
      (needle-listed needles n, h.low byte n),
)

-- the needles of a table of rare bytes are rare bytes that serve
rare-are : {m : Dictionary} {rare : RareBytes} → AreRareOf m rare → AreRareBytes m (needle_list rare.needles)
rare-are {rare} h = (
  needles-few rare.needles,
  λ p given.
      let held = h.held p given in (
        h.short p given,
        (
          slice_index p held.at,
          (held.at, held.within, get_or_default_zero p held.at (slice_index p held.at) held.within),
          λ byte e. needle-listed rare.needles (held.needle byte e),
        ),
      ),
)

-- a dictionary that has a strategy may have a prefilter
pub strategy-admissible : (m : Dictionary) (f : Strategy) → IsStrategyOf m f → IsAdmissible m
strategy-admissible m (strategies.Memmem needle) h = (h.full, inl (h.unpaired, ap length h.patterns))
strategy-admissible m (strategies.Packed searcher) h =
    (h.full, inr (inl (λ e. leftmost searcher.kind (h.kind ∙ e), h.unpaired, h.few)))
strategy-admissible m (strategies.StartBytes needles) h = (h.full, inr (inr (inl (needle_list needles, starts-are h))))
strategy-admissible m (strategies.RareBytes rare) h = (h.full, inr (inr (inr (needle_list rare.needles, rare-are h))))

-- needles that are start bytes or rare bytes serve the dictionary
way-of_bytes : (m : Dictionary) (needles : Needles)
    → AreStartBytes m (needle_list needles) ⊎ AreRareBytes m (needle_list needles) → IsWayOf m (needle_list needles)
way-of_bytes m (One a) h = h
way-of_bytes m (Two a b) h = h
way-of_bytes m (Three a b c) h = h

-- the needles of a strategy serve its dictionary
pub strategy-way : (m : Dictionary) (f : Strategy) → IsStrategyOf m f → IsWayOf m (needles_of f)
strategy-way m (strategies.Memmem needle) h = inl (h.unpaired, ap length h.patterns)
strategy-way m (strategies.Packed searcher) h = inr (λ e. leftmost searcher.kind (h.kind ∙ e), h.unpaired, h.few)
strategy-way m (strategies.StartBytes needles) h = way-of_bytes m needles (inl (starts-are h))
strategy-way m (strategies.RareBytes rare) h = way-of_bytes m rare.needles (inr (rare-are h))

-- once an empty pattern is added, the builder has met one
pub builder-empty : (m : Dictionary) (p : List ℕ) (c : Builders) → IsTrue (length p == 0)
    → IsBuilder (with_pattern m p) true c
builder-empty m p c empty = (p, Contains-push m.patterns p, none (length p) empty)
  where
    none : (n : ℕ) → IsTrue (n == 0) → n ≡ 0
    none n e = grind (arith, nat_tests)

-- a builder that has met an empty pattern stays so
pub builder-still_empty : (m : Dictionary) (p : List ℕ) (c : Builders) → IsBuilder m true c
    → IsBuilder (with_pattern m p) true c
builder-still_empty m p c h = (h.0, Contains-append_left m.patterns (p ∷ []) h.0 h.1, h.2)
