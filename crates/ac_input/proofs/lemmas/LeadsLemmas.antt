-- Which state a text leads to, and which it fails to.
use Rattle.std.proofs.Common.{◌≡◌, ◌≢◌, ◌↔◌, ℕ, ◌+◌, ◌≤◌, Bool, true, false, map, List, [], ◌∷◌, ◌++◌, length, drop, Option, Some, None, IsTrue, sym, ap, subst, refl, ◌∙◌, arith, length-append, length-drop}
use Rattle.std.proofs.lemmas.List.{drop-append-le, drop-drop, drop-map, map-append, length-map}
use Rattle.std.proofs.lemmas.Option.{same_Some}
use Rattle.ac_input.specs.declared.search.MatchKind.TheVariants.{Standard}
use Rattle.ac_input.specs.declared.search.Anchored.TheVariants.{No, Yes}
use Rattle.ac_input.specs.Same.{same_text}
use Rattle.ac_input.specs.Dictionary.{Dictionary, BeginsEntered, IsLive, live_len}
use Rattle.ac_input.specs.Laws.LiveLaws.{canonical}
use Rattle.ac_input.specs.Tells.{Tells}
use Rattle.ac_input.specs.Failure.{IsFailure, IsOwn, AreOwn, IsList, OwnAlone, OwnThen}
use Rattle.ac_input.specs.States.{LeadsTo, FailsTo}
use Rattle.ac_input.proofs.lemmas.SameLemmas.{canonical-same_text, same_text-canonical, same_text-back}
use Rattle.ac_input.proofs.lemmas.LiveLemmas.{dead-append}
use Rattle.ac_input.proofs.lemmas.StateLemmas.{live-one, live-of_live, shifted_place}
use Rattle.ac_input.proofs.lemmas.AlikeLemmas.{failure-same, canonical-text, canonical-like, begins-same, live-same, list-same}
use Rattle.ac_input.proofs.lemmas.FailureLemmas.{begins-live, begins-none, failure-next, failure-one, failure-shorter, live-next, live-next_none, live-first, failure-first, live-first_none}
use Rattle.ac_input.proofs.lemmas.TellsLemmas.{tells-live, tells-dead, tells-anchored, tells-anchored_dead}
use Rattle.ac_input.proofs.lemmas.SomeLemmas.{live-some, failure-some}

-- ---- texts and their canonical bytes

-- the rest of a text's canonical bytes is the canonical bytes of its rest
canonical-drop : (pairing : List ℕ) (n : ℕ) (text : List ℕ)
    → map (canonical pairing) (drop n text) ≡ drop n (map (canonical pairing) text)
canonical-drop pairing n text = sym (drop-map (canonical pairing) n text)

-- a state and the text that it stands for have the same canonical bytes after one more byte
canonical-push : (pairing text : List ℕ) {state : List ℕ} (byte : ℕ) → state ≡ map (canonical pairing) text
    → map (canonical pairing) (state ++ byte ∷ []) ≡ map (canonical pairing) (text ++ byte ∷ [])
canonical-push pairing text {state} byte is =
    map-append (canonical pairing) state (byte ∷ [])
    ∙ ap (λ xs. xs ++ canonical pairing byte ∷ []) (ap (map (canonical pairing)) is ∙ canonical-text pairing text)
    ∙ sym (map-append (canonical pairing) text (byte ∷ []))

-- a state is the same as the text that it stands for
stands-same : (pairing text : List ℕ) {state : List ℕ} → state ≡ map (canonical pairing) text
    → IsTrue (same_text pairing state text)
stands-same pairing text is =
    subst (λ xs. IsTrue (same_text pairing xs text)) (sym is)
    (same_text-back pairing text (map (canonical pairing) text) (canonical-like pairing text))

-- rests of texts with the same canonical bytes have the same canonical bytes
same-stands : (pairing xs ys : List ℕ) (n : ℕ) → map (canonical pairing) xs ≡ map (canonical pairing) ys
    → map (canonical pairing) (drop n xs) ≡ map (canonical pairing) (drop n ys)
same-stands pairing xs ys n e = canonical-drop pairing n xs ∙ ap (drop n) e ∙ sym (canonical-drop pairing n ys)

-- ---- one state

-- a text leads to at most one state
pub leads-one : (m : Dictionary) (anchored : Bool) (text : List ℕ) (r s : Option (List ℕ)) → LeadsTo m anchored text r
    → LeadsTo m anchored text s → r ≡ s
leads-one m anchored text None None g h = refl
leads-one m anchored text None (Some y) g h = absurd (g h.0 h.1.0)
leads-one m anchored text (Some x) None g h = absurd (h g.0 g.1.0)
leads-one m anchored text (Some x) (Some y) g h =
    let e : g.0 ≡ h.0 = same_Some g.0 h.0 (live-one m anchored text (Some g.0) (Some h.0) g.1 h.1) in
    ap Some (g.2 ∙ ap (λ n. map (canonical m.pairing) (drop n text)) e ∙ sym h.2)

-- each text leads to some state
pub leads-some : {m : Dictionary} {anchored : Bool} {text : List ℕ} → (r : Option (List ℕ)) × LeadsTo m anchored text r
leads-some {m} {anchored} {text} = by (live-some).0 (live-some).1
  where
    by : (r : Option ℕ) → IsLive m anchored text r → (s : Option (List ℕ)) × LeadsTo m anchored text s
    by None dead = let r : (s : Option (List ℕ)) × LeadsTo m anchored text s = (None, dead) in r
    by (Some from) live =
        let r : (s : Option (List ℕ))
        × LeadsTo m anchored text s = (Some (map (canonical m.pairing) (drop from text)), (from, live, refl)) in r

-- a text fails to at most one state
pub fails-one : (m : Dictionary) (text : List ℕ) (r s : Option (List ℕ)) → FailsTo m text r → FailsTo m text s → r ≡ s
fails-one m text None None g h = refl
fails-one m text None (Some y) g h = absurd (g h.0 h.1.0)
fails-one m text (Some x) None g h = absurd (h g.0 g.1.0)
fails-one m text (Some x) (Some y) g h =
    let e : g.0 ≡ h.0 = same_Some g.0 h.0 (failure-one m text (Some g.0) (Some h.0) g.1 h.1) in
    ap Some (g.2 ∙ ap (λ n. map (canonical m.pairing) (drop n text)) e ∙ sym h.2)

-- if one text leads to every state that another leads to, both lead to exactly the same states
leads-both : {m : Dictionary} {xs ys : List ℕ} → ((r : Option (List ℕ)) → LeadsTo m false xs r → LeadsTo m false ys r)
    → (r : Option (List ℕ)) → LeadsTo m false xs r ↔ LeadsTo m false ys r
leads-both {m} {xs} {ys} forth r =
    let some = leads-some in
    (forth r, λ h. subst (LeadsTo m false xs) (leads-one m false ys some.0 r (forth some.0 some.1) h) some.1)

-- texts that are the same lead to one state
leads-same : (m : Dictionary) (anchored : Bool) (xs ys : List ℕ) (r : Option (List ℕ))
    → map (canonical m.pairing) xs ≡ map (canonical m.pairing) ys → LeadsTo m anchored xs r → LeadsTo m anchored ys r
leads-same m anchored xs ys None e h = live-same m xs ys anchored None (same_text-canonical m.pairing xs ys e) h
leads-same m anchored xs ys (Some x) e h = (
  h.0,
  live-same m xs ys anchored (Some h.0) (same_text-canonical m.pairing xs ys e) h.1,
  h.2 ∙ same-stands m.pairing xs ys h.0 e,
)

-- where the rest of a text determines what is live of the text, both lead to one state
pub leads-rest : {m : Dictionary} {text : List ℕ} (from : ℕ)
    → ((r : Option ℕ) → IsLive m false (drop from text) r → IsLive m false text (shifted_place from r))
    → (r : Option (List ℕ)) → LeadsTo m false (drop from text) r → LeadsTo m false text r
leads-rest from forth None h = forth None h
leads-rest {m} {text} from forth (Some x) h =
    (from + h.0, forth (Some h.0) h.1, h.2 ∙ ap (map (canonical m.pairing)) (drop-drop h.0 from text))

-- ---- what a state stands for

-- a state stands for canonical bytes that begin an entered pattern
pub leads-state : {m : Dictionary} {anchored : Bool} {text state : List ℕ} → LeadsTo m anchored text (Some state)
    → (map (canonical m.pairing) state ≡ state) × BeginsEntered m state
leads-state {m} {text} {state} h = (
  ap (map (canonical m.pairing)) h.2 ∙ canonical-text m.pairing (drop h.0 text) ∙ sym h.2,
  begins-same m (drop h.0 text) state
      (same_text-back m.pairing state (drop h.0 text) (stands-same m.pairing (drop h.0 text) h.2)) h.1.0.begins,
)

-- the state to which a text fails stands for canonical bytes that begin an entered pattern, and is shorter than the
-- text
pub fails-state : {m : Dictionary} {text state : List ℕ} → FailsTo m text (Some state)
    → (map (canonical m.pairing) state ≡ state) × BeginsEntered m state × (length state + 1 ≤ length text)
fails-state {m} {text} {state} h =
    let shorter = failure-shorter h.1 in
    let long : length state ≡ length (drop h.0 text) = ap length h.2
    ∙ length-map (drop h.0 text) (canonical m.pairing) in (
      ap (map (canonical m.pairing)) h.2 ∙ canonical-text m.pairing (drop h.0 text) ∙ sym h.2,
      begins-same m (drop h.0 text) state
          (same_text-back m.pairing state (drop h.0 text) (stands-same m.pairing (drop h.0 text) h.2)) h.1.0.1.begins,
      omega arith,
    )

-- a state is as long as what is live
pub leads-long : {m : Dictionary} {anchored : Bool} {text state : List ℕ} (r : Option ℕ)
    → LeadsTo m anchored text (Some state) → IsLive m anchored text r → live_len text r ≡ length state
leads-long {m} {anchored} {text} {state} r h live =
    let long : length state ≡ length (drop h.0 text) = ap length h.2
    ∙ length-map (drop h.0 text) (canonical m.pairing) in
    let left = length-drop h.0 text in
    let e = live-one m anchored text (Some h.0) r h.1 live in
    let here : live_len text (Some h.0) ≡ length state = omega arith in
    subst (λ s. live_len text s ≡ length state) e here

-- a text that begins an entered pattern leads to its own state, from the start of either anchoring
pub leads-itself : {m : Dictionary} {anchored : Bool} {text : List ℕ} → BeginsEntered m text
    → LeadsTo m anchored text (Some (map (canonical m.pairing) text))
leads-itself begins = (0, (begins-live).0 begins, refl)

-- the state with one more byte, if that begins an entered pattern, leads to the state with the canonical byte appended
pub leads-child : {m : Dictionary} {anchored : Bool} {state : List ℕ} (byte : ℕ)
    → map (canonical m.pairing) state ≡ state → BeginsEntered m (state ++ byte ∷ [])
    → LeadsTo m anchored (state ++ byte ∷ []) (Some (state ++ canonical m.pairing byte ∷ []))
leads-child {m} {anchored} {state} byte is begins =
    let e : map (canonical m.pairing) (state ++ byte ∷ []) ≡ state ++ canonical m.pairing byte ∷ [] =
    map-append (canonical m.pairing) state (byte ∷ []) ∙ ap (λ xs. xs ++ canonical m.pairing byte ∷ []) is in
    subst (λ xs. LeadsTo m anchored (state ++ byte ∷ []) (Some xs)) e (leads-itself begins)

-- from the anchored start a text that begins no entered pattern leads to the dead state
pub leads-dead : {m : Dictionary} {text : List ℕ} → (¬ BeginsEntered m text) → LeadsTo m true text None
leads-dead {m} {text} none = (begins-none m text).0 none

-- a text that leads to the dead state still does so with more bytes
pub leads-stays_dead : {m : Dictionary} {anchored : Bool} {text : List ℕ} (more : List ℕ) → LeadsTo m anchored text None
    → LeadsTo m anchored (text ++ more) None
leads-stays_dead {m} {anchored} {text} more dead = dead-append m anchored text more dead

-- ---- one more byte

-- A text and the state of a part of it lead to one state with one more byte, if text and part then have one live
-- prefix.
next-both : {m : Dictionary} (text : List ℕ) {state : List ℕ} (byte : ℕ) {from : ℕ} (r : Option (List ℕ))
    → from ≤ length text → state ≡ map (canonical m.pairing) (drop from text)
    → ((s : Option ℕ) → IsLive m false (drop from text ++ byte ∷ []) s
    → IsLive m false (text ++ byte ∷ []) (shifted_place from s))
    → LeadsTo m false (state ++ byte ∷ []) r ↔ LeadsTo m false (text ++ byte ∷ []) r
next-both {m} text {state} byte {from} r inside is live = leads-both forth r
  where
    split : drop from (text ++ byte ∷ []) ≡ drop from text ++ byte ∷ []
    split = drop-append-le from text (byte ∷ []) inside

    forth : (s : Option (List ℕ)) → LeadsTo m false (state ++ byte ∷ []) s → LeadsTo m false (text ++ byte ∷ []) s
    forth s g =
        leads-rest from (λ k h. live k (subst (λ xs. IsLive m false xs k) split h)) s
        (subst (λ xs. LeadsTo m false xs s) (sym split)
        (leads-same m false (state ++ byte ∷ []) (drop from text ++ byte ∷ []) s
        (canonical-push m.pairing (drop from text) byte is) g))

-- with one more byte, a text leads where its state leads with that byte
pub leads-next : {m : Dictionary} {text state : List ℕ} (byte : ℕ) (r : Option (List ℕ))
    → LeadsTo m false text (Some state) → LeadsTo m false (state ++ byte ∷ []) r ↔ LeadsTo m false (text ++ byte ∷ []) r
leads-next {text} byte r h = next-both text byte r h.1.0.within h.2 (λ s live. (live-of_live (byte ∷ []) s h.1).0 live)

-- where the byte leads to no longer beginning, the text leads with it where its failure leads
pub leads-failure : {m : Dictionary} {text failure : List ℕ} (byte : ℕ) (r : Option (List ℕ))
    → FailsTo m text (Some failure) → (¬ BeginsEntered m (text ++ byte ∷ []))
    → LeadsTo m false (failure ++ byte ∷ []) r ↔ LeadsTo m false (text ++ byte ∷ []) r
leads-failure {m} {text} byte r h none =
    next-both text byte r h.1.0.1.within h.2 (λ s live. (live-next m text byte h.0 s h.1 none).0 live)

-- where the byte leads to no longer beginning, a text that isn't empty and has no failure leads to the dead state
pub leads-failure_none : {m : Dictionary} {text : List ℕ} (byte : ℕ) → text ≢ [] → FailsTo m text None
    → (¬ BeginsEntered m (text ++ byte ∷ [])) → LeadsTo m false (text ++ byte ∷ []) None
leads-failure_none {m} {text} byte some failure none = live-next_none m text byte some failure none

-- from the start, a byte that begins no entered pattern leads back to the start, if under a leftmost kind no pattern is
-- empty
pub leads-start : {m : Dictionary} {byte : ℕ} → (m.kind ≢ Standard → (n : ℕ) → ¬ IsOwn m [] n)
    → (¬ BeginsEntered m (byte ∷ [])) → LeadsTo m false (byte ∷ []) (Some [])
leads-start {m} {byte} none begins = (1, live-first m byte none begins, refl)

-- under a leftmost kind with an empty pattern, a byte that begins no entered pattern leads from the start to the dead
-- state
pub leads-start_none : {m : Dictionary} {byte n : ℕ} → m.kind ≢ Standard → IsOwn m [] n
    → (¬ BeginsEntered m (byte ∷ [])) → LeadsTo m false (byte ∷ []) None
leads-start_none {m} {byte} {n} leftmost own begins = live-first_none m byte n leftmost own begins

-- ---- failures

-- each text fails to a state
pub fails-some : {m : Dictionary} {text : List ℕ} → (r : Option (List ℕ)) × FailsTo m text r
fails-some {m} {text} = by (failure-some).0 (failure-some).1
  where
    by : (r : Option ℕ) → IsFailure m text r → (s : Option (List ℕ)) × FailsTo m text s
    by None failure = let r : (s : Option (List ℕ)) × FailsTo m text s = (None, failure) in r
    by (Some from) failure =
        let r : (s : Option (List ℕ))
        × FailsTo m text s = (Some (map (canonical m.pairing) (drop from text)), (from, failure, refl)) in r

-- where what is live of a rest is the failure of the text, the text fails to the state to which the rest leads
fails-rest : {m : Dictionary} {text : List ℕ} (from : ℕ)
    → ((r : Option ℕ) → IsLive m false (drop from text) r → IsFailure m text (shifted_place from r))
    → (r : Option (List ℕ)) → LeadsTo m false (drop from text) r → FailsTo m text r
fails-rest from forth None h = forth None h
fails-rest {m} {text} from forth (Some x) h =
    (from + h.0, forth (Some h.0) h.1, h.2 ∙ ap (map (canonical m.pairing)) (drop-drop h.0 from text))

-- A text with one more byte fails to where its failure leads with the byte, unless under a leftmost kind it has an own
-- pattern.
pub fails-next : {m : Dictionary} {text failure : List ℕ} (byte : ℕ) (r : Option (List ℕ))
    → FailsTo m text (Some failure) → (m.kind ≢ Standard → (n : ℕ) → ¬ IsOwn m (text ++ byte ∷ []) n)
    → LeadsTo m false (failure ++ byte ∷ []) r ↔ FailsTo m (text ++ byte ∷ []) r
fails-next {m} {text} {failure} byte r h none =
    let some = leads-some in (
      forth r,
      λ g. subst (LeadsTo m false (failure ++ byte ∷ []))
          (fails-one m (text ++ byte ∷ []) some.0 r (forth some.0 some.1) g) some.1,
    )
  where
    split : drop h.0 (text ++ byte ∷ []) ≡ drop h.0 text ++ byte ∷ []
    split = drop-append-le h.0 text (byte ∷ []) h.1.0.1.within

    forth : (s : Option (List ℕ)) → LeadsTo m false (failure ++ byte ∷ []) s → FailsTo m (text ++ byte ∷ []) s
    forth s g =
        fails-rest h.0 (λ k live. (failure-next byte k h.1 none).0 (subst (λ xs. IsLive m false xs k) split live)) s
        (subst (λ xs. LeadsTo m false xs s) (sym split)
        (leads-same m false (failure ++ byte ∷ []) (drop h.0 text ++ byte ∷ []) s
        (canonical-push m.pairing (drop h.0 text) byte h.2) g))

-- one byte fails to the start, if under a leftmost kind neither it nor the empty text has an own pattern
pub fails-first : {m : Dictionary} {byte : ℕ}
    → (m.kind ≢ Standard → (n : ℕ) → (¬ IsOwn m [] n) × (¬ IsOwn m (byte ∷ []) n)) → FailsTo m (byte ∷ []) (Some [])
fails-first none = (1, failure-first none, refl)

-- ---- lists

-- the list of a text is its own patterns, and then the list of the state to which it fails
pub list-of_failure : {m : Dictionary} {text failure : List ℕ} (own : List ℕ) {rest : List ℕ} → AreOwn m text own
    → FailsTo m text (Some failure) → IsList m failure rest → IsList m text (own ++ rest)
list-of_failure {m} {text} own {rest} are h list =
    OwnThen text own rest h.0 are h.1 (list-same list (stands-same m.pairing (drop h.0 text) h.2))

-- the list of a text that fails to the dead state is its own patterns
pub list-alone : {m : Dictionary} {text own : List ℕ} → AreOwn m text own → FailsTo m text None → IsList m text own
list-alone {text} {own} are none = OwnAlone text own are none

-- the list of the state to which a text leads describes the text
pub state-tells : {m : Dictionary} {text state ns : List ℕ} → IsList m state ns
    → (LeadsTo m false text (Some state) → Tells m No text ns)
    × (LeadsTo m true text (Some state) → Tells m Yes text ns)
state-tells {m} {text} {ns} list = (
  λ h. tells-live h.1 (list-same list (stands-same m.pairing (drop h.0 text) h.2)),
  λ h.
      let z : h.0 ≡ 0 = h.1.0.anchor refl in
      tells-anchored m text ns
      (subst (λ n. IsList m (drop n text) ns) z (list-same list (stands-same m.pairing (drop h.0 text) h.2))),
)

-- the empty list describes each text that leads to the dead state
pub dead-tells : {m : Dictionary} {text : List ℕ}
    → (LeadsTo m false text None → Tells m No text []) × (LeadsTo m true text None → Tells m Yes text [])
dead-tells {m} {text} = (tells-dead m text, tells-anchored_dead m text)

-- ---- from the anchored start

-- from the anchored start a byte leads to the state that is one byte longer, or to the dead state where there is none
pub leads-anchored : {m : Dictionary} {text state : List ℕ} (byte : ℕ) → LeadsTo m true text (Some state)
    → (BeginsEntered m (state ++ byte ∷ [])
    → LeadsTo m true (text ++ byte ∷ []) (Some (state ++ canonical m.pairing byte ∷ [])))
    × ((¬ BeginsEntered m (state ++ byte ∷ [])) → LeadsTo m true (text ++ byte ∷ []) None)
leads-anchored {m} {text} {state} byte h =
    let z : h.0 ≡ 0 = h.1.0.anchor refl in
    let is : state ≡ map (canonical m.pairing) text =
    subst (λ n. state ≡ map (canonical m.pairing) (drop n text)) z h.2 in
    let canon = canonical-push m.pairing text byte is in
    let like = same_text-canonical m.pairing (state ++ byte ∷ []) (text ++ byte ∷ []) canon in
    let child : map (canonical m.pairing) state ≡ state = ap (map (canonical m.pairing)) is
    ∙ canonical-text m.pairing text ∙ sym is in (
      λ begins. leads-same m true (state ++ byte ∷ []) (text ++ byte ∷ [])
          (Some (state ++ canonical m.pairing byte ∷ [])) canon (leads-child byte child begins),
      λ none. leads-dead
          (λ begins.
          none (begins-same m (text ++ byte ∷ []) (state ++ byte ∷ [])
          (same_text-back m.pairing (state ++ byte ∷ []) (text ++ byte ∷ []) like) begins)),
    )

-- ---- lengths

-- where the start is reached, nothing is live
pub leads-empty : {m : Dictionary} {anchored : Bool} {text : List ℕ} → LeadsTo m anchored text (Some [])
    → IsLive m anchored text (Some (length text))
leads-empty {m} {anchored} {text} h =
    let long : 0 ≡ length (drop h.0 text) = ap length h.2 ∙ length-map (drop h.0 text) (canonical m.pairing) in
    let left = length-drop h.0 text in
    let inside = h.1.0.within in
    let e : h.0 ≡ length text = omega arith in
    subst (λ n. IsLive m anchored text (Some n)) e h.1

-- a failure pays for the look at its state
pub fails-pays : (m : Dictionary) (text failure : List ℕ) (bytes looks : ℕ) → FailsTo m text (Some failure)
    → (looks + length text ≤ bytes + 1) → ((looks + 1) + length failure ≤ bytes + 1)
fails-pays m text failure bytes looks h paid = let shorter = (fails-state h).2 in omega arith

-- at its end a look-up has looked at no more states than it may
pub leads-paid : (m : Dictionary) (anchored : Bool) (state next : List ℕ) (byte bytes looks : ℕ)
    → (looks + length state ≤ bytes + 1)
    → (LeadsTo m anchored (state ++ byte ∷ []) (Some next) → looks + length next ≤ bytes + 2) × (looks + 1 ≤ bytes + 2)
leads-paid m anchored state next byte bytes looks paid = (
  λ h.
      let long : length next ≡ length (drop h.0 (state ++ byte ∷ [])) = ap length h.2
      ∙ length-map (drop h.0 (state ++ byte ∷ [])) (canonical m.pairing) in
      let left = length-drop h.0 (state ++ byte ∷ []) in
      let both = length-append state (byte ∷ []) in
      omega arith,
  omega arith,
)

-- ---- texts that are the same

-- texts that are the same lead to one state
pub same-leads : (m : Dictionary) (anchored : Bool) (xs ys : List ℕ) (r : Option (List ℕ))
    → IsTrue (same_text m.pairing xs ys) → LeadsTo m anchored xs r ↔ LeadsTo m anchored ys r
same-leads m anchored xs ys r like =
    let e = canonical-same_text m.pairing xs ys like in
    (leads-same m anchored xs ys r e, leads-same m anchored ys xs r (sym e))

-- a text fails where a text that is the same fails
fails-same : (m : Dictionary) (xs ys : List ℕ) (r : Option (List ℕ)) → IsTrue (same_text m.pairing xs ys)
    → FailsTo m xs r → FailsTo m ys r
fails-same m xs ys None like h = failure-same m xs ys None like h
fails-same m xs ys (Some x) like h = (
  h.0,
  failure-same m xs ys (Some h.0) like h.1,
  h.2 ∙ same-stands m.pairing xs ys h.0 (canonical-same_text m.pairing xs ys like),
)

-- texts that are the same fail to one state
pub same-fails : (m : Dictionary) (xs ys : List ℕ) (r : Option (List ℕ)) → IsTrue (same_text m.pairing xs ys)
    → FailsTo m xs r ↔ FailsTo m ys r
same-fails m xs ys r like = (fails-same m xs ys r like, fails-same m ys xs r (same_text-back m.pairing xs ys like))
