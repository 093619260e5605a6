-- A trie with one more pattern stands for the dictionary with one more pattern.
use Rattle.std.proofs.Common.{◌≡◌, ◌≢◌, ◌⊎◌, ℕ, zero, suc, ◌<◌, ◌≤◌, true, false, List, [], ◌∷◌, ◌++◌, length, get_or, take, Option, Some, None, refl, sym, ap, ap₂, subst, ◌∙◌, inl, inr, ⊎_elim, arith, slice_get, length-append, true≢false}
use Rattle.std.proofs.lemmas.Bool.{cases_lt, cases_eq}
use Rattle.std.proofs.lemmas.List.{take_all, take-take, length-take-le, length-map}
use Rattle.std.proofs.lemmas.Option.{slice_get_within, slice_get-get_or}
use Rattle.ac_input.specs.declared.search.MatchKind.TheVariants.{LeftmostFirst}
use Rattle.ac_input.specs.Dictionary.{Dictionary, IsPattern, IsShadowed, IsEntered}
use Rattle.ac_input.specs.Laws.LiveLaws.{canonical}
use Rattle.ac_input.specs.Number.{greatest_number}
use Rattle.ac_input.specs.Limits.{with_pattern, canonical_text}
use Rattle.ac_noncontiguous.specs.declared.trie.State.{State}
use Rattle.ac_noncontiguous.specs.Trie.Tree.{IsTree, Extends, parent, depth, is_match, path, text}
use Rattle.ac_noncontiguous.specs.Trie.Entering.{IsWalked, IsMarked}
use Rattle.ac_noncontiguous.specs.Standing.{HasEntered}
use Rattle.ac_noncontiguous.proofs.trie.TextLemmas.{text-extends, length-text}
use Rattle.ac_noncontiguous.proofs.trie.DictionaryLemmas.{get-kept, get-last, get-cases, pattern-before, shadowed-kept, shadowed-before, entered-kept, begins-canonical, canonical-begins}

-- a pattern ends in a state or doesn't
ends-or-not : (end : Option ℕ) (i : ℕ) → (end ≡ Some i) ⊎ (end ≢ Some i)
ends-or-not None i = inr (λ e. cc)
ends-or-not (Some id) i =
    ⊎_elim (λ (e : id ≡ i). inl (ap Some e)) (λ (ne : id ≢ i). inr (λ e. let same : id ≡ i = cc in ne same))
    (cases_eq id i)

-- a pattern past those of the dictionary is the one that was added
pub pattern-last : (m : Dictionary) {p : List ℕ} {n : ℕ} {q : List ℕ} → length m.patterns ≤ n
    → IsPattern (with_pattern m p) n q → q ≡ p
pattern-last m {p} {n} {q} past h =
    ⊎_elim
    (λ (there : IsPattern m n q). absurd (omega (arith, slice_get_within m.patterns n q there)))
    (λ (last : (n ≡ length m.patterns) × (q ≡ p)). last.1)
    (get-cases m.patterns n h)

-- what one more pattern's end and the new states must be
pub record IsMore (m : Dictionary) (p : List ℕ) (old new : List State) (end : Option ℕ) : Type 0 where
  pub longer : length old ≤ length new
  pub same : (i : ℕ) → i < length old → (depth new i ≡ depth old i) × (text new i ≡ text old i)
  pub ended : (id : ℕ) → end ≡ Some id
      → IsEntered (with_pattern m p) (length m.patterns) p × (id < length new) × (text new id ≡ canonical_text m p)
      × (is_match new id ≡ true)
  pub shadowed : end ≡ None → (m.kind ≡ LeftmostFirst) × IsShadowed (with_pattern m p) (length m.patterns) p
  pub added : (i : ℕ) → length old ≤ i → i < length new
      → IsEntered (with_pattern m p) (length m.patterns) p × (depth new i ≤ length p)
      × (text new i ≡ take (depth new i) (canonical_text m p))
  pub unmarked : (i : ℕ) → i < length old → end ≢ Some i → is_match new i ≡ is_match old i
  pub unmarked_added : (i : ℕ) → length old ≤ i → i < length new → end ≢ Some i → is_match new i ≡ false

-- a trie with that end and those states stands for the dictionary with the pattern
pub stand-more : {m : Dictionary} {p : List ℕ} {old new : List State} {ends : List (Option ℕ)} {end : Option ℕ}
    → HasEntered m old ends → length p ≤ greatest_number → IsMore m p old new end
    → HasEntered (with_pattern m p) new (ends ++ end ∷ [])
stand-more {m} {p} {old} {new} {ends} {end} s short g =
    record {
      counted = omega (arith, length-append ends (end ∷ []), length-append m.patterns (p ∷ []), s.counted);
      short = λ n q h.
          ⊎_elim
          (λ (there : IsPattern m n q). s.short n q there)
          (λ (last : (n ≡ length m.patterns) × (q ≡ p)). omega (arith, ap length last.1))
          (get-cases m.patterns n h);
      entered = λ n id q h e.
          ⊎_elim
          (λ (there : slice_get ends n ≡ Some (Some id)).
          let n_in : n < length ends = slice_get_within ends n (Some id) there in
          let k = s.entered n id q (pattern-before m p (omega (arith, s.counted)) h) there in
          (entered-kept m p k.0, omega (arith, k.1, g.longer), (g.same id k.1).1 ∙ k.2))
          (λ (last : (n ≡ length ends) × (Some id ≡ end)).
          let k = g.ended id (sym last.1) in
          let n_is : n ≡ length m.patterns = last.0 ∙ s.counted in
          let q_is : q ≡ p = pattern-last m (omega arith) h in (
            subst (λ j. IsEntered (with_pattern m p) j q) (sym n_is)
                (subst (λ t. IsEntered (with_pattern m p) (length m.patterns) t) (sym q_is) k.0),
            k.1,
            k.2 ∙ ap (canonical_text m) (sym q_is),
          ))
          (get-cases ends n e);
      left_out = λ n q h e.
          ⊎_elim
          (λ (there : slice_get ends n ≡ Some None).
          let n_in : n < length ends = slice_get_within ends n None there in
          let k = s.left_out n q (pattern-before m p (omega (arith, s.counted)) h) there in
          (k.0, shadowed-kept m p k.1))
          (λ (last : (n ≡ length ends) × (None ≡ end)).
          let k = g.shadowed (sym last.1) in
          let n_is : n ≡ length m.patterns = last.0 ∙ s.counted in
          let q_is : q ≡ p = pattern-last m (omega arith) h in (
            k.0,
            subst (λ j. IsShadowed (with_pattern m p) j q) (sym n_is)
                (subst (λ t. IsShadowed (with_pattern m p) (length m.patterns) t) (sym q_is) k.1),
          ))
          (get-cases ends n e);
      begins = λ i some within.
          ⊎_elim
          (λ (lt : i < length old).
          let b = s.begins i some lt in
          let e = g.same i lt in (
            b.0,
            b.1,
            entered-kept m p b.2,
            omega (arith, b.3, e.0),
            e.1 ∙ (b.4 ∙ ap (λ d. take d (canonical_text m b.1)) (sym e.0)),
          ))
          (λ (ge : length old ≤ i). let a = g.added i ge within in (length m.patterns, p, a.0, a.1, a.2))
          (cases_lt i (length old));
      matches = λ i within. (to i within, from i within);
    }
  where
    to : (i : ℕ) → i < length new → is_match new i ≡ true → (n : ℕ) × (slice_get (ends ++ end ∷ []) n ≡ Some (Some i))
    to i within h =
        ⊎_elim
        (λ (here : end ≡ Some i). (length ends, get-last ends ∙ ap Some here))
        (λ (elsewhere : end ≢ Some i).
        ⊎_elim
        (λ (lt : i < length old). let k = (s.matches i lt).0 (sym (g.unmarked i lt elsewhere) ∙ h) in
        (k.0, get-kept ends end k.0 k.1))
        (λ (ge : length old ≤ i). absurd (true≢false (sym h ∙ g.unmarked_added i ge within elsewhere)))
        (cases_lt i (length old)))
        (ends-or-not end i)

    from : (i : ℕ) → i < length new → (n : ℕ) × (slice_get (ends ++ end ∷ []) n ≡ Some (Some i)) → is_match new i ≡ true
    from i within k =
        ⊎_elim
        (λ (there : slice_get ends k.0 ≡ Some (Some i)).
        let n_in : k.0 < length ends = slice_get_within ends k.0 (Some i) there in
        let lt =
        (s.entered k.0 i (get_or m.patterns k.0 []) (slice_get-get_or m.patterns k.0 [] (omega (arith, s.counted)))
        there).1 in
        ⊎_elim
        (λ (here : end ≡ Some i). (g.ended i here).3)
        (λ (elsewhere : end ≢ Some i). g.unmarked i lt elsewhere ∙ (s.matches i lt).1 (k.0, there))
        (ends-or-not end i))
        (λ (last : (k.0 ≡ length ends) × (Some i ≡ end)). (g.ended i (sym last.1)).3)
        (get-cases ends k.0 k.1)

-- marking a state as a match state leaves the texts as they are
path-marked : {old new : List State} {id : ℕ} → IsMarked old new id → (up i : ℕ) → path new up i ≡ path old up i
path-marked k zero i = refl
path-marked {old} {new} k (suc up) i =
    let s = k.same i in
    ap₂ (λ xs b. xs ++ b ∷ []) (ap (path new up) s.0 ∙ path-marked k up (parent old i)) s.1

text-marked : (old new : List State) (id : ℕ) → IsMarked old new id → (i : ℕ) → text new i ≡ text old i
text-marked old new id k i = ap (λ d. path new d i) (k.same i).2 ∙ path-marked k (depth old i) i

-- If no state on the way of a pattern is a match state, no pattern that ends in a state is a proper prefix of it.
not-ended : {m : Dictionary} {old mid : List State} {ends : List (Option ℕ)} (bytes : List ℕ) → HasEntered m old ends
    → IsTree old → Extends old mid
    → ((i : ℕ) → i < length mid → depth mid i < length bytes → text mid i ≡ take (depth mid i) bytes
    → is_match mid i ≡ false) → (e : ℕ) {i : ℕ} {q : List ℕ} → IsPattern m e q → length q < length bytes
    → canonical_text m q ≡ take (length q) bytes → slice_get ends e ≢ Some (Some i)
not-ended {m} {mid} bytes s tree ext free e {i} {q} is short front there =
    let k = s.entered e i q is there in
    let x = ext.same i k.1 in
    let same_text = text-extends tree ext i k.1 in
    let deep : depth mid i ≡ length q = sym (length-text mid i)
    ∙ (ap length (same_text ∙ k.2) ∙ length-map q (canonical m.pairing)) in
    let unmarked = free i (omega (arith, k.1, ext.longer)) (omega arith)
    (same_text ∙ (k.2 ∙ (front ∙ ap (λ d. take d bytes) (sym deep)))) in
    true≢false (sym ((s.matches i k.1).1 (e, there)) ∙ (sym x.3 ∙ unmarked))

-- a pattern that isn't entered is shadowed by an earlier pattern
shadow-sooner : {m : Dictionary} {old : List State} {ends : List (Option ℕ)} {bytes : List ℕ} → HasEntered m old ends
    → {e : ℕ} {q : List ℕ} → IsPattern m e q → canonical_text m q ≡ take (length q) bytes → slice_get ends e ≡ Some None
    → (f : ℕ) × (r : List ℕ) × (f < e) × IsPattern m f r × (length r < length q)
    × (canonical_text m r ≡ take (length r) bytes)
shadow-sooner {m} {bytes} s {e} {q} is front there =
    let k = (s.left_out e q is there).1 in
    let sooner = begins-canonical m.pairing k.1 q k.5 in
    let inner : take (length k.1) (canonical_text m q) ≡ take (length k.1) bytes = ap (take (length k.1)) front
    ∙ take-take (length k.1) (length q) bytes (omega (arith, k.4)) in
    (k.0, k.1, k.2, k.3, k.4, sooner ∙ inner)

-- where a pattern ends, or that it ends nowhere
pub end-cases : (ends : List (Option ℕ)) (e : ℕ) → e < length ends
    → ((i : ℕ) × (slice_get ends e ≡ Some (Some i))) ⊎ (slice_get ends e ≡ Some None)
end-cases ends e within = by (get_or ends e None) (slice_get-get_or ends e None within)
  where
    by : (end : Option ℕ) → slice_get ends e ≡ Some end
        → ((i : ℕ) × (slice_get ends e ≡ Some (Some i))) ⊎ (slice_get ends e ≡ Some None)
    by (Some i) there = inl (i, there)
    by None there = inr there

-- No earlier pattern is a proper prefix: a prefix that isn't entered would be shadowed by one that is earlier still.
pub no-shadow : {m : Dictionary} {old mid : List State} {ends : List (Option ℕ)} (bytes : List ℕ)
    → HasEntered m old ends → IsTree old → Extends old mid
    → ((i : ℕ) → i < length mid → depth mid i < length bytes → text mid i ≡ take (depth mid i) bytes
    → is_match mid i ≡ false) → (bound : ℕ) {e : ℕ} {q : List ℕ} → e < bound → IsPattern m e q → length q < length bytes
    → canonical_text m q ≡ take (length q) bytes → ⊥
no-shadow bytes s tree ext free zero lt is short front = absurd (omega arith)
no-shadow {m} {ends} bytes s tree ext free (suc bound) {e} {q} lt is short front =
    ⊎_elim
    (λ (at : (i : ℕ) × (slice_get ends e ≡ Some (Some i))). not-ended bytes s tree ext free e is short front at.1)
    (λ (there : slice_get ends e ≡ Some None).
    let k = shadow-sooner s is front there in
    no-shadow bytes s tree ext free bound (omega (arith, k.2)) k.3 (omega (arith, k.4)) k.5)
    (end-cases ends e (omega (arith, s.counted, slice_get_within m.patterns e q is)))

-- A pattern that was entered byte by byte is entered.
pub entered-walked : {m : Dictionary} {p : List ℕ} {old mid : List State} {ends : List (Option ℕ)} (read at : ℕ)
    → HasEntered m old ends → IsTree old → Extends old mid
    → (m.kind ≡ LeftmostFirst → (i : ℕ) → i < length mid → depth mid i < length p
    → text mid i ≡ take (depth mid i) (canonical_text m p) → is_match mid i ≡ false)
    → IsEntered (with_pattern m p) (length m.patterns) p
entered-walked {m} {p} read at s tree ext free =
    let bytes = canonical_text m p in
    let len : length bytes ≡ length p = length-map p (canonical m.pairing) in (
      get-last m.patterns,
      λ first shadow.
          let k = shadowed-before m p (omega arith) shadow in
          no-shadow bytes s tree ext (λ i within shallow spelled. free first i within (omega arith) spelled)
          (length m.patterns) k.2 k.3 (omega (arith, k.4)) (begins-canonical m.pairing k.1 p k.5),
    )

-- what an entered pattern adds to the trie
pub more-entered : {m : Dictionary} {p : List ℕ} {old mid new : List State} {ends : List (Option ℕ)} {id : ℕ}
    → HasEntered m old ends → IsTree old → length p ≤ greatest_number
    → IsWalked m.kind old mid (canonical_text m p) (length (canonical_text m p)) id → IsMarked mid new id
    → IsMore m p old new (Some id)
more-entered {m} {p} {mid} {new} {id} s tree short w k =
    let bytes = canonical_text m p in
    let len : length bytes ≡ length p = length-map p (canonical m.pairing) in
    let entered = entered-walked 0 0 s tree w.extends
    (λ first i within shallow spelled. w.unmatched first i within (omega arith) spelled) in
    let texts = text-marked mid new id k in
    record {
      longer = omega (arith, w.extends.longer, k.len);
      same = λ i lt. ((k.same i).2 ∙ (w.extends.same i lt).2, texts i ∙ text-extends tree w.extends i lt);
      ended = λ end here.
          let e : id ≡ end = cc in
          subst (λ i. IsEntered (with_pattern m p) (length m.patterns) p × (i < length new)
          × (text new i ≡ canonical_text m p) × (is_match new i ≡ true)) e (
            entered,
            omega (arith, w.reached.0, k.len),
            texts id ∙ (w.reached.2 ∙ take_all (length bytes) bytes (omega arith)),
            k.marked,
          );
      shadowed = λ e. cc;
      added = λ i past within.
          let a = w.added i past (omega (arith, k.len)) in
          let d = (k.same i).2 in
          (entered, omega (arith, a.0), texts i ∙ (a.1 ∙ ap (λ n. take n bytes) (sym d)));
      unmarked = λ i lt elsewhere. k.others i (λ e. elsewhere (ap Some (sym e))) ∙ (w.extends.same i lt).3;
      unmarked_added = λ i past within elsewhere. k.others i (λ e. elsewhere (ap Some (sym e)))
          ∙ (w.added i past (omega (arith, k.len))).2;
    }

-- the trie with an entered pattern stands for the dictionary with it
pub stand-entered : {m : Dictionary} (p : List ℕ) {old mid new : List State} {ends : List (Option ℕ)} {id : ℕ}
    → HasEntered m old ends → IsTree old → length p ≤ greatest_number
    → IsWalked m.kind old mid (canonical_text m p) (length (canonical_text m p)) id → IsMarked mid new id
    → HasEntered (with_pattern m p) new (ends ++ Some id ∷ [])
stand-entered p s tree short w k = stand-more s short (more-entered s tree short w k)

-- what a shadowed pattern adds to the trie
pub more-left_out : {m : Dictionary} {p : List ℕ} {old mid : List State} {ends : List (Option ℕ)} {read at : ℕ}
    → HasEntered m old ends → IsTree old → length p ≤ greatest_number → m.kind ≡ LeftmostFirst
    → read < length (canonical_text m p) → is_match mid at ≡ true → IsWalked m.kind old mid (canonical_text m p) read at
    → IsMore m p old mid None
more-left_out {m} {p} {old} {mid} {ends} {read} {at} s tree short first more match w =
    let bytes = canonical_text m p in
    let len : length bytes ≡ length p = length-map p (canonical m.pairing) in
    let at_old : at < length old =
    ⊎_elim (λ (lt : at < length old). lt)
    (λ (ge : length old ≤ at). absurd (true≢false (sym match ∙ (w.added at ge w.reached.0).2)))
    (cases_lt at (length old)) in
    let none_added : length mid ≤ length old =
    ⊎_elim (λ (lt : length old < length mid). absurd (omega (arith, w.deeper lt)))
    (λ (ge : length mid ≤ length old). ge) (cases_lt (length old) (length mid)) in
    let x = w.extends.same at at_old in
    let e = (s.matches at at_old).0 (sym x.3 ∙ match) in
    let n_in : e.0 < length m.patterns = omega (arith, s.counted, slice_get_within ends e.0 (Some at) e.1) in
    let q = get_or m.patterns e.0 [] in
    let is_q : IsPattern m e.0 q = slice_get-get_or m.patterns e.0 [] n_in in
    let k = s.entered e.0 at q is_q e.1 in
    let spelled : canonical_text m q ≡ take read bytes = sym k.2
    ∙ (sym (text-extends tree w.extends at at_old) ∙ w.reached.2) in
    let q_len : length q ≡ read = sym (length-map q (canonical m.pairing))
    ∙ (ap length spelled ∙ length-take-le read bytes (omega arith)) in
    let begins = canonical-begins m.pairing q p (omega arith) (spelled ∙ ap (λ n. take n bytes) (sym q_len)) in
    record {
      longer = w.extends.longer;
      same = λ i lt. ((w.extends.same i lt).2, text-extends tree w.extends i lt);
      ended = λ id here. cc;
      shadowed = λ _. (first, (e.0, q, n_in, get-kept m.patterns p e.0 is_q, omega arith, begins));
      added = λ i past within. absurd (omega arith);
      unmarked = λ i lt elsewhere. (w.extends.same i lt).3;
      unmarked_added = λ i past within elsewhere. absurd (omega arith);
    }

-- the trie with a shadowed pattern stands for the dictionary with it
pub stand-left_out : {m : Dictionary} (p : List ℕ) {old mid : List State} {ends : List (Option ℕ)} {read at : ℕ}
    → HasEntered m old ends → IsTree old → length p ≤ greatest_number → m.kind ≡ LeftmostFirst
    → read < length (canonical_text m p) → is_match mid at ≡ true → IsWalked m.kind old mid (canonical_text m p) read at
    → HasEntered (with_pattern m p) mid (ends ++ None ∷ [])
stand-left_out p s tree short first more match w = stand-more s short (more-left_out s tree short first more match w)
