-- What a state's match list says about the end of a text.
use Rattle.std.proofs.Common.{◌≡◌, ◌≢◌, ℕ, ◌≤◌, ◌<◌, false, List, [], ◌∷◌, length, map, take, drop, Some, None, IsTrue, inl, inr, Result, Ok, refl, sym, ◌∙◌, subst, arith}
use Rattle.std.specs.Prelude.{◌↔◌}
use Rattle.std.proofs.lemmas.Bool.{cases_lt, false≢true}
use Rattle.std.proofs.lemmas.List.{length-take-le, take-append-drop}
use Rattle.ac_input.specs.Number.{StateID}
use Rattle.ac_input.specs.declared.search.Anchored.{Anchored}
use Rattle.ac_input.specs.declared.search.MatchKind.{MatchKind}
use Rattle.ac_input.specs.declared.search.MatchKind.TheVariants.{Standard, LeftmostFirst, LeftmostLongest}
use Rattle.ac_input.specs.Dictionary.{Dictionary, whole}
use Rattle.ac_input.specs.Occurrence.{Occurrence, Occurs}
use Rattle.ac_input.specs.Tells.{TellsUnanchored, ending}
use Rattle.ac_input.proofs.lemmas.ContainsLemmas.{Contains-head, Contains-nil}
use Rattle.ac_input.proofs.lemmas.BeginningLemmas.{longer-occurs, occurs-longer}
use Rattle.ac_automaton.specs.Automaton.{AnswersStart, Leads, PassesPlain, has_some, is_matching}
use Rattle.ac_automaton.specs.declared.error.MatchErrorKind.{MatchErrorKind}
use Rattle.aho_corasick.specs.Callers.{EndsWithPattern, IsFirstEnd}

-- under the standard kind a state lists a pattern exactly if some pattern ends the text
pub tells-ends : (kind : MatchKind) (m : Dictionary) (text ns : List ℕ) → kind ≡ Standard
    → TellsUnanchored kind m text ns → (ns ≢ []) ↔ EndsWithPattern m text
tells-ends Standard m text [] is lists =
    (λ some. absurd (some refl), λ ends. absurd (Contains-nil ((lists.1 ends.0).1 (ends.1, ends.2))))
tells-ends Standard m text (n ∷ ns) is lists =
    let told = (lists.1 (ending m text n)).0 (Contains-head (map (ending m text) ns)) in
    (λ _. (ending m text n, told.0, told.1), λ _ none. cc)
tells-ends LeftmostFirst m text ns is lists = absurd (cc)
tells-ends LeftmostLongest m text ns is lists = absurd (cc)

-- ---- the occurrences that end where a walk stands

-- a list that can't be non-empty is empty
pub list-none : (ns : List ℕ) → ¬ (ns ≢ []) → ns ≡ []
list-none [] none = refl
list-none (n ∷ ns) none = absurd (none (λ e. cc))

pub matching-none : (ns : List ℕ) → ¬ IsTrue (has_some ns) → ns ≡ []
matching-none [] none = refl
matching-none (n ∷ ns) none = absurd (none refl)

unmatching : (ns : List ℕ) → ns ≡ [] → ¬ IsTrue (has_some ns)
unmatching [] none some = absurd (false≢true some)
unmatching (n ∷ ns) none some = absurd (cc)

-- an occurrence that ends at k ends the first k bytes of the text
ends-front : (m : Dictionary) (text : List ℕ) (k : ℕ) (o : Occurrence) → k ≤ length text → Occurs (whole m text false) o
    → o.end ≡ k → EndsWithPattern m (take k text)
ends-front m text k o within occurs is =
    let len : length (take k text) ≡ k = length-take-le k text within in
    let front = whole m (take k text) false in
    let longer = subst (λ x. Occurs (record front { haystack = x; end = length text }) o)
    (sym (take-append-drop k text)) occurs in
    (o, longer-occurs (drop k text) (omega arith) (omega (arith, len, is)) longer, is ∙ sym len)

front-ends : (m : Dictionary) (text : List ℕ) (k : ℕ) → k ≤ length text → EndsWithPattern m (take k text)
    → (o : Occurrence) × Occurs (whole m text false) o × (o.end ≡ k)
front-ends m text k within (o, occurs, is) =
    let len : length (take k text) ≡ k = length-take-le k text within in
    let front = whole m (take k text) false in
    let longer = occurs-longer (drop k text) (omega arith) (omega (arith, len, within)) occurs in (
      o,
      subst (λ x. Occurs (record front { haystack = x; end = length text }) o) (take-append-drop k text) longer,
      is ∙ len,
    )

-- A state's match list after k bytes of the text. If it isn't empty, an occurrence ends at k; if it is empty, no
-- occurrence ends there.
pub record IsReadTo (m : Dictionary) (text : List ℕ) (k : ℕ) (ns : List ℕ) : Type 0 where
  pub within : k ≤ length text
  pub some : ns ≢ [] → (o : Occurrence) × Occurs (whole m text false) o × (o.end ≡ k)
  pub none : ns ≡ [] → (o : Occurrence) → Occurs (whole m text false) o → o.end ≢ k

pub read-to : (m : Dictionary) (text : List ℕ) (k : ℕ) (ns : List ℕ) → k ≤ length text → m.kind ≡ Standard
    → TellsUnanchored m.kind m (take k text) ns → IsReadTo m text k ns
read-to m text k ns within standard tells =
    let ends = tells-ends m.kind m (take k text) ns standard tells in
    record {
      within = within;
      some = λ listed. front-ends m text k within (ends.0 listed);
      none = λ nothing o occurs is. ends.1 (ends-front m text k o within occurs is) nothing;
    }

-- the first place at which a state lists a pattern is where the first occurrence ends
pub first-listed : (m : Dictionary) (text : List ℕ) (k : ℕ) (ns : List ℕ) → IsReadTo m text k ns → ns ≢ []
    → ((at : ℕ) → at < k → IsReadTo m text at []) → IsFirstEnd (whole m text false) (Some k)
first-listed m text k ns read listed before = (
  read.some listed,
  λ o occurs.
      elim (cases_lt o.end k) [
        | inl earlier ↦ absurd ((before o.end earlier).none refl o occurs refl)
        | inr later ↦
            later
      ],
)

-- if no state up to the end of the text lists a pattern, the text has no occurrence
pub none-listed : (m : Dictionary) (text : List ℕ) → ((at : ℕ) → at ≤ length text → IsReadTo m text at [])
    → IsFirstEnd (whole m text false) None
none-listed m text before (o, occurs) = (before o.end occurs.within.2).none refl o occurs refl

-- a successful call for the start state returns the state that the empty text leads to
pub start-reached : (supports : Anchored → Type 0) (Reaches : Anchored → List ℕ → StateID → Type 0)
    (anchored : Anchored) (r : Result StateID MatchErrorKind) (sid : StateID) → AnswersStart supports Reaches anchored r
    → r ≡ Ok sid → Reaches anchored [] sid
start-reached supports Reaches anchored r sid answers is =
    let start = subst (λ q. AnswersStart supports Reaches anchored q) is answers in
    start.1

-- ---- a walk from a start that matches nothing

-- What is known of a walk over a text: what its states list, where it began, that no state before the last matches, and
-- where it stands.
pub record HasWalked (m : Dictionary) (text : List ℕ) (Reaches : List ℕ → StateID → Type 0) (matches : StateID → List ℕ)
    (start end : StateID) (taken : ℕ) : Type 0 where
  pub standard : m.kind ≡ Standard
  pub tells : (front : List ℕ) (sid : StateID) → Reaches front sid → TellsUnanchored m.kind m front (matches sid)
  pub begun : Reaches [] start
  pub unmatched : ¬ (matches start ≢ [])
  pub within : taken ≤ length text
  pub plain : PassesPlain Reaches (is_matching matches) start text taken
  pub stands : Leads Reaches start (take taken text) end

-- no occurrence ends before the place where the walk stands
walked-none : (m : Dictionary) (text : List ℕ) (Reaches : List ℕ → StateID → Type 0) (matches : StateID → List ℕ)
    (start end : StateID) (taken : ℕ) → HasWalked m text Reaches matches start end taken → (at : ℕ) → at < taken
    → IsReadTo m text at []
walked-none m text Reaches matches start end taken walked at earlier = elim (cases_lt 0 at) [
  | inl some ↦
      let passed = walked.plain at some earlier in
      let told = walked.tells (take at text) passed.0 (passed.1 [] walked.begun) in
      subst (IsReadTo m text at) (matching-none (matches passed.0) passed.2)
      (read-to m text at (matches passed.0) (omega (arith, walked.within)) walked.standard told)
  | inr none ↦
      let here : 0 ≡ at = omega arith in
      let told = walked.tells [] start walked.begun in
      subst (λ k. IsReadTo m text k []) here
      (subst (IsReadTo m text 0) (list-none (matches start) walked.unmatched)
      (read-to m text 0 (matches start) (omega arith) walked.standard told))
]

-- if the walk stands at a matching state, the first occurrence ends there
pub walked-first : (m : Dictionary) (text : List ℕ) (Reaches : List ℕ → StateID → Type 0) (matches : StateID → List ℕ)
    (start end : StateID) (taken : ℕ) → HasWalked m text Reaches matches start end taken → matches end ≢ []
    → IsFirstEnd (whole m text false) (Some taken)
walked-first m text Reaches matches start end taken walked listed =
    let told = walked.tells (take taken text) end (walked.stands [] walked.begun) in
    first-listed m text taken (matches end) (read-to m text taken (matches end) walked.within walked.standard told)
    listed (walked-none m text Reaches matches start end taken walked)

-- if the walk stands at the end of the text, in a state that matches nothing, the text has no occurrence
pub walked-over : (m : Dictionary) (text : List ℕ) (Reaches : List ℕ → StateID → Type 0) (matches : StateID → List ℕ)
    (start end : StateID) (taken : ℕ) → HasWalked m text Reaches matches start end taken → ¬ (matches end ≢ [])
    → (taken < length text → IsTrue (is_matching matches end)) → IsFirstEnd (whole m text false) None
walked-over m text Reaches matches start end taken walked unlisted stops =
    let nothing = list-none (matches end) unlisted in
    let told = walked.tells (take taken text) end (walked.stands [] walked.begun) in
    let last =
    subst (IsReadTo m text taken) nothing (read-to m text taken (matches end) walked.within walked.standard told) in
    none-listed m text (λ at within. elim (cases_lt at taken) [
      | inl earlier ↦ walked-none m text Reaches matches start end taken walked at earlier
      | inr later ↦ elim (cases_lt taken (length text)) [
        | inl more ↦ absurd (unmatching (matches end) nothing (stops more))
        | inr all ↦ let here : taken ≡ at = omega (arith, walked.within) in subst (λ k. IsReadTo m text k []) here last
      ]
    ])
