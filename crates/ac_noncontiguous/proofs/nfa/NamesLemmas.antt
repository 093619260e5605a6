-- Each state of the tables stands for only one text: the order of the states determines it.
use Rattle.std.proofs.Common.{◌≡◌, ◌≢◌, ℕ, zero, suc, ◌+◌, ◌<◌, ◌≤◌, map, List, [], ◌∷◌, length, Some, refl, sym, ap, subst, ◌∙◌, inl, inr, ⊎_elim, arith}
use Rattle.std.proofs.lemmas.Bool.{cases_lt, cases_eq}
use Rattle.std.proofs.lemmas.List.{nil_from_length}
use Rattle.ac_input.specs.Dictionary.{Dictionary, IsEntered, Begins, BeginsEntered}
use Rattle.ac_input.specs.Failure.{IsList, IsLeastPlace}
use Rattle.ac_input.specs.Laws.LiveLaws.{canonical}
use Rattle.ac_input.specs.Limits.{IsPrefix}
use Rattle.ac_input.specs.States.{BeginsBefore}
use Rattle.ac_input.proofs.lemmas.ShadowLemmas.{list-one}
use Rattle.ac_noncontiguous.specs.declared.nfa.tables.Tables.{Tables}
use Rattle.ac_noncontiguous.specs.Nfa.{InOneRun, AreTables, list_of, kept_of}
use Rattle.ac_noncontiguous.proofs.trie.DictionaryLemmas.{begins-canonical}
use Rattle.ac_noncontiguous.proofs.nfa.ReadLemmas.{list-long, tables-top, tables-next}

-- ---- the first pattern of a text

-- if a fact holds of some place, there can't be no least place of which it holds
least-some : {P : ℕ → Type 0} (bound n : ℕ) → n < bound → P n → ¬ ((a : ℕ) → ¬ IsLeastPlace P (Some a))
least-some zero n lt p none = omega (arith, lt)
least-some (suc bound) n lt p none =
    let sooner = least-some bound in
    none n (
      p,
      λ k q. ⊎_elim (λ (less : k < n). absurd (sooner k (omega (arith, less, lt)) q none)) (λ (le : n ≤ k). le)
          (cases_lt k n),
    )

-- no two texts each begin before the other
before-both : (m : Dictionary) (s t : List ℕ) → {n : ℕ} → ((p : List ℕ) × IsEntered m n p × Begins m.pairing s p)
    → {k : ℕ} → ((p : List ℕ) × IsEntered m k p × Begins m.pairing t p) → BeginsBefore m s t → ¬ BeginsBefore m t s
before-both m s t {n} g {k} h forth back =
    least-some (suc n) n (omega arith) g (λ a first.
    least-some (suc k) k (omega arith) h (λ b second.
    let less = forth a b first second in
    let more = back b a second first in
    omega (arith, less, more)))

-- a text that isn't empty and begins an entered pattern has some pattern that begins with it
begun : (m : Dictionary) (t : List ℕ) → t ≢ [] → BeginsEntered m t
    → (n : ℕ) × ((p : List ℕ) × IsEntered m n p × Begins m.pairing t p)
begun m [] some b = absurd (some refl)
begun m (x ∷ xs) some b = (b.0, (b.1, b.2, b.3))

-- a canonical text that isn't empty and begins an entered pattern is a prefix
is-prefix : {m : Dictionary} {t : List ℕ} → t ≢ [] → BeginsEntered m t → map (canonical m.pairing) t ≡ t → IsPrefix m t
is-prefix {m} {t} some begins settled =
    let b = begun m t some begins in
    let p = b.1.0 in
    let long : 0 < length t = ⊎_elim (λ (lt : 0 < length t). lt)
    (λ (le : length t ≤ 0). absurd (some (nil_from_length t (omega (arith, le))))) (cases_lt 0 (length t)) in
    record { some = long; entered = (b.0, p, b.1.1, b.1.2.0, sym settled ∙ begins-canonical m.pairing t p b.1.2) }

-- ---- the texts

-- two namings of the states of one table give one number of states
same-len : {m : Dictionary} {tables : Tables} {f g : ℕ → List ℕ} (tf : AreTables m f tables) (tg : AreTables m g tables)
    → tf.len ≡ tg.len
same-len tf tg = let a = tf.counted in let b = tg.counted in omega (arith, a, b)

-- two states that stand for one text under two namings, and aren't starts, are in one run
one-run : {m : Dictionary} {tables : Tables} {f g : ℕ → List ℕ} (tf : AreTables m f tables) (tg : AreTables m g tables)
    {i j : ℕ} → 1 < i → i < j → j < tf.len → g j ≡ f i → f i ≢ [] → InOneRun tables.start i j
one-run {m} {tables} {f} {g} tf tg {i} {j} past lt within same some =
    let states = tables.states.items in
    let matches = tables.matches.items in
    let i_in : i < tf.len = omega (arith, lt, within) in
    let j_in : j < tg.len = let e = same-len tf tg in omega (arith, within, e) in
    let one : list_of states matches i
    ≡ list_of states matches j = list-one (tf.lists.lists i past i_in) (list_of states matches j)
    (subst (λ t. IsList m t (list_of states matches j)) same (tg.lists.lists j (omega (arith, past, lt)) j_in)) in
    let long_i = list-long states matches i (tf.lists.ranges i i_in) in
    let long_j = list-long states matches j (tg.lists.ranges j j_in) in
    let lens : (kept_of states i).matches_len ≡ (kept_of states j).matches_len = sym long_i
    ∙ (ap length one ∙ long_j) in
    let top = tables-top ∣ (f, tf) ∣₁ in
    let next = tables-next ∣ (f, tf) ∣₁ in
    let not_start_i : (i ≢ tables.start)
    × (i ≢ tables.start + 1) = ((λ e. some (ap f e ∙ tf.texts.starts.2)), (λ e. some (ap f e ∙ tf.texts.starts.3))) in
    let not_start_j : (j ≢ tables.start)
    × (j ≢ tables.start + 1) =
    ((λ e. some (sym same ∙ (ap g e ∙ tg.texts.starts.2))), (λ e. some (sym same ∙ (ap g e ∙ tg.texts.starts.3)))) in
    let not_i = not_start_i.0 in
    let not_i_next = not_start_i.1 in
    let not_j = not_start_j.0 in
    let not_j_next = not_start_j.1 in
    ⊎_elim
    (λ (none : tables.max_match < i). inr (omega (arith, none, next, not_i, not_i_next)))
    (λ (match : i ≤ tables.max_match).
    let has = (tf.lists.some i past i_in).1 match in
    let match_j = (tg.lists.some j (omega (arith, past, lt)) j_in).0 (omega (arith, has, lens)) in
    inl (past, omega (arith, match_j, top, not_j, not_j_next)))
    (cases_lt tables.max_match i)

-- each state below a bound has one text under both namings
one-below : {m : Dictionary} {tables : Tables} {f g : ℕ → List ℕ}
    → (tf : AreTables m f tables) (tg : AreTables m g tables) (bound : ℕ) {i : ℕ} → i < bound → 1 < i → i < tf.len
    → f i ≡ g i
one-below tf tg zero lt past within = absurd (omega (arith, lt))
one-below {m} {tables} {f} {g} tf tg (suc bound) {i} lt past within =
    let earlier : (k : ℕ) → k < i → 1 < k
    → f k ≡ g k = λ k less some. one-below tf tg bound (omega (arith, less, lt)) some (omega (arith, less, within)) in
    let len = same-len tf tg in
    let g_in : i < tg.len = omega (arith, within, len) in
    ⊎_elim
    (λ (one : i ≡ tables.start). ap f one ∙ (tf.texts.starts.2 ∙ (sym tg.texts.starts.2 ∙ ap g (sym one))))
    (λ (not_start : i ≢ tables.start).
    ⊎_elim
    (λ (two : i ≡ tables.start + 1). ap f two ∙ (tf.texts.starts.3 ∙ (sym tg.texts.starts.3 ∙ ap g (sym two))))
    (λ (not_next : i ≢ tables.start + 1).
    let some_f : f i ≢ [] = λ none.
    ⊎_elim (λ (e : i ≡ tables.start). not_start e) (λ (e : i ≡ tables.start + 1). not_next e)
    (tf.texts.others i past within none) in
    let some_g : g i ≢ [] = λ none.
    ⊎_elim (λ (e : i ≡ tables.start). not_start e) (λ (e : i ≡ tables.start + 1). not_next e)
    (tg.texts.others i past g_in none) in
    let begins_f = tf.texts.begin i past within in
    let begins_g = tg.texts.begin i past g_in in
    let h = tg.texts.all (f i) (is-prefix some_f begins_f.0 begins_f.1) in
    let k = tf.texts.all (g i) (is-prefix some_g begins_g.0 begins_g.1) in
    ⊎_elim
    (λ (here : h.0 ≡ i). sym h.3 ∙ ap g here)
    (λ (ne : h.0 ≢ i).
    ⊎_elim
    (λ (before : h.0 < i). absurd (not_next (tf.texts.apart h.0 i h.1 before within (earlier h.0 before h.1 ∙ h.3)).1))
    (λ (after : i ≤ h.0).
    ⊎_elim
    (λ (here : k.0 ≡ i). ap f (sym here) ∙ k.3)
    (λ (other : k.0 ≢ i).
    ⊎_elim
    (λ (before : k.0 < i). absurd
    (not_next (tg.texts.apart k.0 i k.1 before g_in (sym (earlier k.0 before k.1) ∙ k.3)).1))
    (λ (behind : i ≤ k.0).
    let up_h : i < h.0 = omega (arith, ne, after) in
    let up_k : i < k.0 = omega (arith, other, behind) in
    let run_h = one-run tf tg past up_h (let e = h.2 in omega (arith, e, len)) h.3 some_f in
    let run_k : InOneRun tables.start i k.0 =
    one-run tg tf past up_k (let e = k.2 in omega (arith, e, len)) k.3 some_g in
    let low = tg.texts.deeper i h.0 up_h h.2 run_h in
    let high = tf.texts.deeper i k.0 up_k k.2 run_k in
    let at_h = ap length h.3 in
    let at_k = ap length k.3 in
    let forth : BeginsBefore m (g i) (f i) = subst (BeginsBefore m (g i)) h.3
    (tg.texts.by_first i h.0 up_h h.2 run_h (omega (arith, low, high, at_h, at_k))) in
    let back : BeginsBefore m (f i) (g i) = subst (BeginsBefore m (f i)) k.3
    (tf.texts.by_first i k.0 up_k k.2 run_k (omega (arith, low, high, at_h, at_k))) in
    let b_f = begun m (f i) some_f begins_f.0 in
    let b_g = begun m (g i) some_g begins_g.0 in
    absurd (before-both m (g i) (f i) b_g.1 b_f.1 forth back))
    (cases_lt k.0 i))
    (cases_eq k.0 i))
    (cases_lt h.0 i))
    (cases_eq h.0 i))
    (cases_eq i (tables.start + 1)))
    (cases_eq i tables.start)

-- all namings of the states of one table are equal
pub names-one : {m : Dictionary} {tables : Tables} {f g : ℕ → List ℕ} → (tf : AreTables m f tables)
    → AreTables m g tables → {i : ℕ} → 1 < i → i < tf.len → f i ≡ g i
names-one tf tg {i} past within = one-below tf tg (suc i) (omega arith) past within
