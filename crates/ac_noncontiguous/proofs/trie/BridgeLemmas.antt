-- What the states of a trie are for its dictionary: the prefixes of entered patterns, and where these patterns end.
use Rattle.std.proofs.Common.{◌≡◌, ◌≢◌, ℕ, ◌<◌, true, List, [], ◌∷◌, ◌++◌, length, get_or, take, Option, Some, None, sym, ap, subst, ◌∙◌, ⊎_elim, arith, slice_get, length-append}
use Rattle.std.proofs.lemmas.Bool.{cases_eq}
use Rattle.std.proofs.lemmas.List.{take-map, map-append}
use Rattle.std.proofs.lemmas.Option.{slice_get_within, slice_get-get_or}
use Rattle.ac_input.specs.Dictionary.{Dictionary, IsPattern, IsEntered, Begins, BeginsEntered}
use Rattle.ac_input.specs.Laws.LiveLaws.{canonical}
use Rattle.ac_input.proofs.lemmas.AlikeLemmas.{canonical-text}
use Rattle.ac_input.proofs.lemmas.SameLemmas.{canonical-same_text, same_text-canonical}
use Rattle.ac_input.specs.Limits.{canonical_text, IsPrefix}
use Rattle.ac_input.specs.Failure.{IsOwn}
use Rattle.ac_noncontiguous.specs.declared.trie.State.{State}
use Rattle.ac_noncontiguous.specs.Trie.Tree.{IsTree, parent, byte, depth, text, is_match}
use Rattle.ac_noncontiguous.specs.Trie.Entering.{HasNoChild}
use Rattle.ac_noncontiguous.specs.Standing.{HasEntered}
use Rattle.ac_noncontiguous.proofs.trie.DictionaryLemmas.{begins-canonical, canonical-begins}
use Rattle.ac_noncontiguous.proofs.trie.StandingLemmas.{end-cases}
use Rattle.ac_noncontiguous.proofs.trie.TextLemmas.{push-same, text-child, text-start, text-one}
use Rattle.ac_noncontiguous.proofs.nfa.CountLemmas.{state-prefix, prefix-state}
use Rattle.ac_input.proofs.lemmas.LiveLemmas.{BeginsEntered-from}

-- The states are those of the trie of a dictionary.
pub record Stands (m : Dictionary) (states : List State) (ends : List (Option ℕ)) : Type 0 where
  pub tree : IsTree states
  pub entered : HasEntered m states ends

-- the text of a state is of canonical bytes
pub text-settled : {m : Dictionary} {states : List State} {ends : List (Option ℕ)} → Stands m states ends → {i : ℕ}
    → i < length states → canonical_text m (text states i) ≡ text states i
text-settled {m} {states} s {i} within =
    ⊎_elim
    (λ (none : i ≡ 0).
    let e : text states i ≡ [] = ap (text states) none ∙ text-start states s.tree in
    ap (canonical_text m) e ∙ sym e)
    (λ (ne : i ≢ 0).
    let b = s.entered.begins i (omega arith) within in
    let front = canonical_text m b.1 in
    let d = depth states i in
    ap (canonical_text m) b.4
    ∙ (sym (take-map (canonical m.pairing) d front) ∙ (ap (take d) (canonical-text m.pairing b.1) ∙ sym b.4)))
    (cases_eq i 0)

-- the byte that leads to a state is canonical
pub byte-settled : {m : Dictionary} {states : List State} {ends : List (Option ℕ)} → Stands m states ends → {c : ℕ}
    → 0 < c → c < length states → canonical m.pairing (byte states c) ≡ byte states c
byte-settled {m} {states} s {c} some within =
    let above = text states (parent states c) in
    let t = text-child states s.tree some within in
    let e : canonical_text m above ++ canonical m.pairing (byte states c) ∷ [] ≡ above ++ byte states c ∷ [] =
    sym (map-append (canonical m.pairing) above (byte states c ∷ []))
    ∙ (ap (canonical_text m) (sym t) ∙ (text-settled s within ∙ t)) in
    (push-same (canonical_text m above) above e).1

-- ---- a child of a state, and a prefix that is one byte longer

-- and the other way
some-begins : (m : Dictionary) (t : List ℕ) → 0 < length t → BeginsEntered m t
    → (n : ℕ) × (p : List ℕ) × IsEntered m n p × Begins m.pairing t p
some-begins m [] some b = absurd (omega arith)
some-begins m (x ∷ xs) some b = b

-- the text of a state begins an entered pattern
pub text-begins : {m : Dictionary} {states : List State} {ends : List (Option ℕ)} → Stands m states ends → {i : ℕ}
    → i < length states → BeginsEntered m (text states i)
text-begins {m} {states} s {i} within =
    ⊎_elim
    (λ (none : i ≡ 0). subst (BeginsEntered m) (sym (ap (text states) none ∙ text-start states s.tree)) tt)
    (λ (ne : i ≢ 0).
    let p = (state-prefix s.tree s.entered (omega arith) within).entered in
    BeginsEntered-from m (text states i) p.2
    (canonical-begins m.pairing (text states i) p.1 p.3 (text-settled s within ∙ p.4)))
    (cases_eq i 0)

-- if a state has a child for a byte, the state's text with that byte begins an entered pattern
pub child-begins : {m : Dictionary} {states : List State} {ends : List (Option ℕ)} → Stands m states ends → {c : ℕ}
    → 0 < c → c < length states → BeginsEntered m (text states (parent states c) ++ byte states c ∷ [])
child-begins {m} {states} s some within =
    subst (BeginsEntered m) (text-child states s.tree some within) (text-begins s within)

-- if a state's text with a canonical byte begins an entered pattern, the state has a child for the byte
pub begins-child : {m : Dictionary} {states : List State} {ends : List (Option ℕ)} → Stands m states ends → {of low : ℕ}
    → of < length states → canonical m.pairing low ≡ low → BeginsEntered m (text states of ++ low ∷ [])
    → (c : ℕ) × (0 < c) × (c < length states) × (parent states c ≡ of) × (byte states c ≡ low)
begins-child {m} {states} s {of} {low} within settled begins =
    let t = text states of ++ low ∷ [] in
    let some : 0 < length t = omega (arith, length-append (text states of) (low ∷ [])) in
    let b = some-begins m t some begins in
    let e : canonical_text m t ≡ t = map-append (canonical m.pairing) (text states of) (low ∷ [])
    ∙ (ap (λ xs. xs ++ canonical m.pairing low ∷ []) (text-settled s within)
    ∙ ap (λ x. text states of ++ x ∷ []) settled) in
    let front = begins-canonical m.pairing t b.1 b.3 in
    let is_prefix : IsPrefix m t = record { some = some; entered = (b.0, b.1, b.2, b.3.0, sym e ∙ front) } in
    let k = prefix-state s.tree s.entered is_prefix in
    let c = k.0 in
    let parts =
    push-same (text states (parent states c)) (text states of) (sym (text-child states s.tree k.1 k.2) ∙ k.3) in
    let p = s.tree.parents c k.1 k.2 in
    (c, k.1, k.2, text-one states s.tree (omega (arith, p.0, k.2)) within parts.0, parts.1)

-- if a state has no child for a canonical byte, its text with that byte begins no entered pattern
pub none-begins : {m : Dictionary} {states : List State} {ends : List (Option ℕ)} → Stands m states ends → {of low : ℕ}
    → of < length states → canonical m.pairing low ≡ low → HasNoChild states of low
    → ¬ BeginsEntered m (text states of ++ low ∷ [])
none-begins s within settled none begins =
    let c = begins-child s within settled begins in
    none c.0 c.1 c.2 c.3 c.4

-- ---- the patterns that end in a state, and those that are equal to its text

-- a pattern that ends in a state is equal to its text, up to pairing
pub ends-own : {m : Dictionary} {states : List State} {ends : List (Option ℕ)} → Stands m states ends → {i n : ℕ}
    → (slice_get ends n ≡ Some (Some i)) → IsOwn m (text states i) n
ends-own {m} {states} {ends} s {i} {n} e =
    let n_in : n < length m.patterns = omega (arith, slice_get_within ends n (Some i) e, s.entered.counted) in
    let p = get_or m.patterns n [] in
    let is_p : IsPattern m n p = slice_get-get_or m.patterns n [] n_in in
    let k = s.entered.entered n i p is_p e in (
      p,
      k.0,
      same_text-canonical m.pairing p (text states i) (sym (ap (canonical_text m) k.2 ∙ canonical-text m.pairing p)),
    )

-- and the other way
pub own-ends : {m : Dictionary} {states : List State} {ends : List (Option ℕ)} → Stands m states ends → {i n : ℕ}
    → i < length states → IsOwn m (text states i) n → (slice_get ends n ≡ Some (Some i))
own-ends {m} {states} {ends} s {i} {n} within own =
    let p = own.0 in
    let e : canonical_text m p ≡ text states i = canonical-same_text m.pairing p (text states i) own.2
    ∙ text-settled s within in
    ⊎_elim
    (λ (at : (j : ℕ) × (slice_get ends n ≡ Some (Some j))).
    let k = s.entered.entered n at.0 p own.1.0 at.1 in
    let one : at.0 ≡ i = text-one states s.tree k.1 within (k.2 ∙ e) in
    subst (λ j. (slice_get ends n ≡ Some (Some j))) one at.1)
    (λ (out : slice_get ends n ≡ Some None). let k = s.entered.left_out n p own.1.0 out in absurd (own.1.1 k.0 k.1))
    (end-cases ends n (omega (arith, s.entered.counted, slice_get_within m.patterns n p own.1.0)))

-- some pattern is equal to the text of a match state
pub match-own : {m : Dictionary} {states : List State} {ends : List (Option ℕ)} → Stands m states ends → {i : ℕ}
    → i < length states → is_match states i ≡ true → (n : ℕ) × IsOwn m (text states i) n
match-own s {i} within h =
    let k = (s.entered.matches i within).0 h in
    (k.0, ends-own s k.1)

-- a state whose text is a pattern is a match state
pub own-match : {m : Dictionary} {states : List State} {ends : List (Option ℕ)} → Stands m states ends → {i n : ℕ}
    → i < length states → IsOwn m (text states i) n → is_match states i ≡ true
own-match s {i} {n} within own = (s.entered.matches i within).1 (n, own-ends s within own)
