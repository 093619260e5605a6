-- The prefixes of the entered patterns can be listed, since it is decidable which patterns are entered.
use Rattle.std.proofs.Common.{◌≡◌, ◌≢◌, ◌⊎◌, ◌↔◌, inl, inr, ⊎_elim, ℕ, zero, suc, ◌+◌, ◌<◌, ◌≤◌, Bool, true, false, map, List, [], ◌∷◌, ◌++◌, length, take, IsTrue, sym, ap, ap₂, subst, refl, ◌∙◌, arith}
use Rattle.std.specs.List.{Contains}
use Rattle.std.proofs.lemmas.Bool.{cases_lt, cases_eq, false≢true}
use Rattle.std.proofs.lemmas.List.{take-map, length-map}
use Rattle.std.proofs.lemmas.List.Elements.{Contains-append_left, Contains-append_right, Contains-append_cases}
use Rattle.std.proofs.lemmas.Option.{slice_get_cases, same_Some, none-some}
use Rattle.ac_input.specs.declared.search.MatchKind.{MatchKind}
use Rattle.ac_input.specs.declared.search.MatchKind.TheVariants.{Standard, LeftmostFirst, LeftmostLongest}
use Rattle.ac_input.specs.Same.{same_text}
use Rattle.ac_input.specs.Dictionary.{Dictionary, IsPattern, IsShadowed, IsEntered, Begins, BeginsEntered}
use Rattle.ac_input.specs.Laws.LiveLaws.{canonical}
use Rattle.ac_input.specs.Limits.{first_patterns}
use Rattle.ac_input.proofs.lemmas.ContainsLemmas.{Contains-nil, Contains-head, Contains-tail, Contains-cases}
use Rattle.ac_input.proofs.lemmas.StateListLemmas.{Contains-from_map, Contains-map}
use Rattle.ac_input.proofs.lemmas.AlikeLemmas.{canonical-text}
use Rattle.ac_input.proofs.lemmas.TrieLemmas.{pattern-first, begins-canonical, begins-next, first-all}

-- ---- decidable facts

-- whether two texts are equal
text_cases : (xs ys : List ℕ) → (xs ≡ ys) ⊎ (xs ≢ ys)
text_cases [] [] = inl refl
text_cases [] (y ∷ ys) = inr (λ e. cc)
text_cases (x ∷ xs) [] = inr (λ e. cc)
text_cases (x ∷ xs) (y ∷ ys) =
    let rest = text_cases xs ys in
    ⊎_elim
    (λ (same : x ≡ y). ⊎_elim (λ e. inl (ap₂ ◌∷◌ same e)) (λ apart. inr (λ e. apart (let t : xs ≡ ys = cc in t))) rest)
    (λ apart. inr (λ e. apart (let h : x ≡ y = cc in h)))
    (cases_eq x y)

-- whether a text stands in a list
pub member_cases : (texts : List (List ℕ)) {text : List ℕ} → Contains texts text ⊎ (¬ Contains texts text)
member_cases [] = inr Contains-nil
member_cases (t ∷ ts) {text} =
    let rest = member_cases ts in
    ⊎_elim
    (λ (same : t ≡ text). inl (subst (λ x. Contains (t ∷ ts) x) same (Contains-head ts)))
    (λ apart. ⊎_elim (λ later. inl (Contains-tail ts later))
    (λ none. inr (λ c. ⊎_elim apart none (Contains-cases ts c))) rest)
    (text_cases t text)

-- whether a test passes
pub test_cases : (b : Bool) → IsTrue b ⊎ (¬ IsTrue b)
test_cases true = inl refl
test_cases false = inr false≢true

-- some pattern of a number below a bound is a proper prefix
abbrev ShadowedBelow : Dictionary → ℕ → List ℕ → Type 0
ShadowedBelow m n p =
    (earlier : ℕ) × (q : List ℕ) × (earlier < n) × IsPattern m earlier q × (length q < length p) × Begins m.pairing q p

-- whether a given pattern is a proper prefix
shadows_cases : (m : Dictionary) (earlier : ℕ) (p : List ℕ)
    → ((q : List ℕ) × IsPattern m earlier q × (length q < length p) × Begins m.pairing q p)
    ⊎ ((q : List ℕ) → IsPattern m earlier q → length q < length p → ¬ Begins m.pairing q p)
shadows_cases m earlier p =
    ⊎_elim
    (λ found.
    let q = found.0 in
    ⊎_elim
    (λ (shorter : length q < length p).
    ⊎_elim
    (λ same. inl (q, found.2, shorter, (omega arith, same)))
    (λ apart.
    inr (λ other is less begins. let e : q ≡ other = same_Some q other (sym found.2 ∙ is) in
    apart (subst (λ xs. IsTrue (same_text m.pairing xs (take (length xs) p))) (sym e) begins.1)))
    (test_cases (same_text m.pairing q (take (length q) p))))
    (λ (longer : length p ≤ length q).
    inr (λ other is less begins. let e : q ≡ other = same_Some q other (sym found.2 ∙ is) in
    let long : length q ≡ length other = ap length e in omega arith))
    (cases_lt (length q) (length p)))
    (λ past. inr (λ other is less begins. none-some other (sym past.1 ∙ is)))
    (slice_get_cases m.patterns earlier).1

-- whether some earlier pattern is a proper prefix
shadowed_cases : (m : Dictionary) (n : ℕ) (p : List ℕ) → IsShadowed m n p ⊎ (¬ IsShadowed m n p)
shadowed_cases m zero p = inr (λ h. let lt = h.2 in omega arith)
shadowed_cases m (suc n) p =
    let rest = shadowed_cases m n p in
    ⊎_elim
    (λ here. inl (n, here.0, omega arith, here.1, here.2, here.3))
    (λ not_here. ⊎_elim
    (λ before. let lt = before.2 in inl (before.0, before.1, omega arith, before.3, before.4, before.5))
    (λ none. inr (λ h.
    let lt = h.2 in
    ⊎_elim
    (λ (less : h.0 < n). none (h.0, h.1, less, h.3, h.4, h.5))
    (λ (ge : n ≤ h.0). let e : h.0 ≡ n = omega arith in not_here h.1 (subst (λ i. IsPattern m i h.1) e h.3) h.4 h.5)
    (cases_lt h.0 n)))
    rest)
    (shadows_cases m n p)

-- whether a pattern is entered
pub entered_cases : (m : Dictionary) {n : ℕ} {p : List ℕ} → IsPattern m n p → IsEntered m n p ⊎ (¬ IsEntered m n p)
entered_cases m {n} {p} is = by m.kind refl
  where
    by : (kind : MatchKind) → m.kind ≡ kind → IsEntered m n p ⊎ (¬ IsEntered m n p)
    by Standard e = inl (is, λ first. let wrong : Standard ≡ LeftmostFirst = sym e ∙ first in cc)
    by LeftmostFirst e =
        ⊎_elim (λ shadow. inr (λ entered. entered.1 e shadow)) (λ none. inl (is, λ first. none)) (shadowed_cases m n p)
    by LeftmostLongest e = inl (is, λ first. let wrong : LeftmostLongest ≡ LeftmostFirst = sym e ∙ first in cc)

-- ---- the prefixes of a text

-- the non-empty prefixes of a text, the shortest first
abbrev prefixes_of : List ℕ → List (List ℕ)
prefixes_of [] = []
prefixes_of (b ∷ bs) = (b ∷ []) ∷ map (λ (t : List ℕ). b ∷ t) (prefixes_of bs)

-- each listed text is a non-empty prefix
prefix-from_listed : (q text : List ℕ) → Contains (prefixes_of q) text
    → (text ≢ []) × (length text ≤ length q) × (text ≡ take (length text) q)
prefix-from_listed [] text c = absurd (Contains-nil c)
prefix-from_listed (b ∷ bs) text c =
    let inner = prefix-from_listed bs in
    ⊎_elim
    (λ (same : b ∷ [] ≡ text). subst (λ t. (t ≢ []) × (length t ≤ length (b ∷ bs)) × (t ≡ take (length t) (b ∷ bs)))
    same (λ e. cc, omega arith, refl))
    (λ later.
    let r = Contains-from_map (prefixes_of bs) later in
    let h = inner r.0 r.1 in
    let le = h.1 in
    subst (λ t. (t ≢ []) × (length t ≤ length (b ∷ bs)) × (t ≡ take (length t) (b ∷ bs))) r.2
    (λ e. cc, omega arith, ap (λ t. b ∷ t) h.2))
    (Contains-cases (map (λ (t : List ℕ). b ∷ t) (prefixes_of bs)) c)

-- each non-empty prefix is listed
listed-prefix : (q text : List ℕ) → text ≢ [] → length text ≤ length q → text ≡ take (length text) q
    → Contains (prefixes_of q) text
listed-prefix q [] some le is = absurd (some refl)
listed-prefix [] (t ∷ ts) some le is = absurd (omega arith)
listed-prefix (b ∷ bs) (t ∷ []) some le is =
    let e : t ≡ b = cc in
    subst (λ x. Contains (prefixes_of (b ∷ bs)) (x ∷ [])) (sym e)
    (Contains-head (map (λ (u : List ℕ). b ∷ u) (prefixes_of bs)))
listed-prefix (b ∷ bs) (t ∷ u ∷ us) some le is =
    let e : t ≡ b = cc in
    let rest : u ∷ us ≡ take (length (u ∷ us)) bs = cc in
    let inner = listed-prefix bs (u ∷ us) (λ w. cc) (omega arith) rest in
    subst (λ x. Contains (prefixes_of (b ∷ bs)) (x ∷ u ∷ us)) (sym e)
    (Contains-tail (map (λ (v : List ℕ). b ∷ v) (prefixes_of bs))
    (Contains-map (λ (v : List ℕ). b ∷ v) (prefixes_of bs) inner))

-- ---- the prefixes of a dictionary

-- a prefix of canonical bytes is canonical
canonical-take : (pairing p : List ℕ) {text : List ℕ} (n : ℕ) → text ≡ take n (map (canonical pairing) p)
    → map (canonical pairing) text ≡ text
canonical-take pairing p n is =
    ap (map (canonical pairing)) is ∙ sym (take-map (canonical pairing) n (map (canonical pairing) p))
    ∙ ap (take n) (canonical-text pairing p) ∙ sym is

-- what a state stands for besides the start
abbrev pub IsPrefixIn : Dictionary → List ℕ → Type 0
IsPrefixIn m text = (text ≢ []) × (map (canonical m.pairing) text ≡ text) × BeginsEntered m text

-- a text is listed for a pattern's canonical bytes exactly if it isn't empty, is canonical and begins the pattern
listed-begins : (m : Dictionary) (p text : List ℕ)
    → Contains (prefixes_of (map (canonical m.pairing) p)) text
    ↔ ((text ≢ []) × (map (canonical m.pairing) text ≡ text) × Begins m.pairing text p)
listed-begins m p text =
    let long : length (map (canonical m.pairing) p) ≡ length p = length-map p (canonical m.pairing) in
    let begins = begins-canonical m.pairing text p in (
      λ c.
          let h = prefix-from_listed (map (canonical m.pairing) p) text c in
          let le = h.1 in
          let same : map (canonical m.pairing) text ≡ text = canonical-take m.pairing p (length text) h.2 in
          (h.0, same, begins.1 (omega arith, same ∙ h.2)),
      λ h.
          let b = begins.0 h.2 in
          let le = b.0 in
          listed-prefix (map (canonical m.pairing) p) text h.0 (omega arith) (sym h.1 ∙ b.1),
    )

-- a pattern that doesn't exist, or isn't entered, adds no prefix
prefix-kept : (m : Dictionary) {count : ℕ} {text : List ℕ} → ((p : List ℕ) → ¬ IsEntered m count p)
    → IsPrefixIn (first_patterns m count) text ↔ IsPrefixIn (first_patterns m (count + 1)) text
prefix-kept m {text} none =
    let next = begins-next m text in (
      λ h. (h.0, h.1, next.1 (inl h.2)),
      λ h. (h.0, h.1, ⊎_elim (λ before. before) (λ new. absurd (none new.0 new.1)) (next.0 h.2)),
    )

-- the prefixes of the first n patterns can be listed
prefixes-listed : (m : Dictionary) (count : ℕ)
    → (texts : List (List ℕ)) × ((text : List ℕ) → Contains texts text ↔ IsPrefixIn (first_patterns m count) text)
prefixes-listed m zero = ([], λ text. (λ c. absurd (Contains-nil c), λ h. absurd (none text h.0 h.2)))
  where
    none : (text : List ℕ) → text ≢ [] → ¬ BeginsEntered (first_patterns m zero) text
    none [] some begins = some refl
    none (b ∷ bs) some begins =
        let lt = ((pattern-first m {count = zero} {n = begins.0} {p = begins.1}).0 begins.2.0).0 in omega arith
prefixes-listed m (suc count) = by (prefixes-listed m count)
  where
    Listed : ℕ → Type 0
    Listed n = (texts : List (List ℕ)) × ((text : List ℕ) → Contains texts text ↔ IsPrefixIn (first_patterns m n) text)

    kept : Listed count → ((p : List ℕ) → ¬ IsEntered m count p) → Listed (count + 1)
    kept before none = (
      before.0,
      λ text. let same = prefix-kept m none in
          (λ c. same.0 ((before.1 text).0 c), λ h. (before.1 text).1 (same.1 h)),
    )

    added : Listed count → (p : List ℕ) → IsEntered m count p → Listed (count + 1)
    added before p entered = (
      prefixes_of (map (canonical m.pairing) p) ++ before.0,
      λ text.
          let own = listed-begins m p text in
          let old = before.1 text in
          let next = begins-next m text in (
            λ c. ⊎_elim
                (λ first. let h = own.0 first in (h.0, h.1, next.1 (inr (p, entered, h.2))))
                (λ second. let h = old.0 second in (h.0, h.1, next.1 (inl h.2)))
                (Contains-append_cases (prefixes_of (map (canonical m.pairing) p)) before.0 text c),
            λ h. ⊎_elim
                (λ was. Contains-append_right (prefixes_of (map (canonical m.pairing) p)) before.0 text
                (old.1 (h.0, h.1, was)))
                (λ new. let e : new.0 ≡ p = same_Some new.0 p (sym new.1.0 ∙ entered.0) in
                Contains-append_left (prefixes_of (map (canonical m.pairing) p)) before.0 text
                (own.1 (h.0, h.1, subst (λ q. Begins m.pairing text q) e new.2)))
                (next.0 h.2),
          ),
    )

    next : Listed count → Listed (count + 1)
    next before =
        ⊎_elim
        (λ found. ⊎_elim (λ entered. added before found.0 entered)
        (λ none.
        kept before
        (λ p entered. none (subst (λ q. IsEntered m count q) (same_Some p found.0 (sym entered.0 ∙ found.2)) entered)))
        (entered_cases m found.2))
        (λ past. kept before (λ p entered. none-some p (sym past.1 ∙ entered.0)))
        (slice_get_cases m.patterns count).1

    by : Listed count → Listed (suc count)
    by before = let e : count + 1 ≡ suc count = omega arith in subst Listed e (next before)

-- ---- all prefixes

-- the prefixes of the patterns that are entered can be listed
pub prefixes-some : (m : Dictionary)
    → (texts : List (List ℕ)) × ((text : List ℕ) → Contains texts text ↔ IsPrefixIn m text)
prefixes-some m =
    let listed = prefixes-listed m (length m.patterns) in
    let whole = first-all (omega arith) in
    (listed.0, subst (λ d. (text : List ℕ) → Contains listed.0 text ↔ IsPrefixIn d text) whole (λ text. listed.1 text))
