-- Bytes over which a search stays in the start.
use Rattle.std.proofs.Common.{◌≡◌, ◌≢◌, ◌↔◌, ⊎_elim, ℕ, ◌+◌, ◌-◌, ◌<◌, ◌≤◌, Bool, IsTrue, List, [], ◌∷◌, ◌++◌, length, take, drop, sym, ap, ap₂, subst, ◌∙◌, arith, length-drop, take-append-drop}
use Rattle.std.proofs.Math.Logic.{∥∥₁_elim, ∥∥₁_map, ∥∥₁_prop}
use Rattle.std.proofs.lemmas.Bool.{cases_lt, cases_eq}
use Rattle.std.proofs.lemmas.List.{append_assoc, drop-take, length-take-le, take-take}
use Rattle.ac_input.specs.Number.{StateID}
use Rattle.ac_input.specs.declared.search.Anchored.{Anchored}
use Rattle.ac_input.specs.declared.steps.Steps.{Steps}
use Rattle.ac_input.specs.Dictionary.{IsLive, live_len}
use Rattle.ac_input.specs.Input.{is_anchored}
use Rattle.ac_input.specs.Steps.{Done}
use Rattle.ac_input.specs.Work.{IsLookups}
use Rattle.ac_automaton.specs.declared.starters.Starters.{Starters}
use Rattle.ac_automaton.specs.declared.automaton.Advance.{Advance}
use Rattle.ac_automaton.specs.Automaton.{Built, IsReached, Leads, Advances}
use Rattle.ac_automaton.specs.Named.{NamedStates, Naming, AreNumbers, IsEdgeBy, IsReadBy, OfNames, IsStep}
use Rattle.ac_automaton.specs.Look.{StaysBut}
use Rattle.ac_automaton.specs.Starters.{AddsStarter, SkipsBelow}
use Rattle.ac_automaton.proofs.lemmas.CursorLemmas.{HasAdvanced, lookups-join, reached-on}
use Rattle.ac_automaton.proofs.automaton.LinkedLemmas.{straight}
use Rattle.ac_automaton.proofs.automaton.NamedLemmas.{named-next, read-from, cost-looks, AllNames}
use Rattle.ac_input.proofs.lemmas.SomeLemmas.{live-some}

-- A search in the start stays there over this byte, under every naming that fits the automaton, and the start matches
-- nothing.
pub record IsIdleBy (states : NamedStates) (start byte : ℕ) : Type 0 where
  pub plain : states.matches start ≡ []
  pub stays : (anchored : Bool) → OfNames states.Fits anchored start
      (λ names. IsStep states.built.dictionary names anchored start byte start)

-- ---- starters, gathered byte by byte

-- adding a byte to the starters extends the range by that byte
pub skips-add : {Idle : ℕ → Type 0} {limit : ℕ} (before after : Starters) → SkipsBelow Idle limit before
    → AddsStarter before limit after → SkipsBelow Idle (limit + 1) after
skips-add before after skips adds =
    λ byte lt none. let added = adds byte none in let apart = added.1 in skips byte (omega (arith, lt, apart)) added.0

-- a byte that is idle needs no entry among the starters
pub skips-idle : {Idle : ℕ → Type 0} {limit : ℕ} (starters : Starters) → SkipsBelow Idle limit starters → Idle limit
    → SkipsBelow Idle (limit + 1) starters
skips-idle {Idle} {limit} starters skips idle = λ byte lt none.
    ⊎_elim
    (λ (here : byte ≡ limit). subst Idle (sym here) idle)
    (λ (other : byte ≢ limit). skips byte (omega (arith, lt, other)) none)
    (cases_eq byte limit)

-- ---- idle bytes

-- An idle byte leads from the start to itself, whatever text was read before.
pub idle-stays : (states : NamedStates) (start : ℕ) (starters : Starters) (anchored : Anchored) → AllNames states
    → ∥ SkipsBelow (IsIdleBy states start) 256 starters ∥₁ → StaysBut (IsReadBy states anchored) starters start
idle-stays states start starters anchored all skips = λ byte small none text reads.
    let a = is_anchored anchored in
    read-from states anchored (text ++ byte ∷ []) start all
    (∥∥₁_elim skips ∥∥₁_prop (λ s. ∥∥₁_map reads.reached
    (λ w. (
      w.0,
      w.1,
      named-next
          ((s byte small none).stays a w.0 w.1 w.2.met) w.2,
    ))))

-- In an automaton that follows failures a byte is idle if its edge leads from the start back to the start.
pub linked-idle : (states : NamedStates) (start byte : ℕ)
    → ((names : Naming) → states.Fits names → AreNumbers states.built.dictionary names start)
    → ((anchored : Bool) → OfNames states.Fits anchored start
    (λ names. IsEdgeBy states.built.dictionary names start start byte start))
    → states.matches start ≡ [] → IsIdleBy states start byte
linked-idle states start byte numbers edges plain = record {
  plain = plain;
  stays = λ anchored names fits met.
      let n = numbers names fits in
      (straight states.built.dictionary names start anchored start byte start n (edges anchored names fits met) met
      (n.apart anchored start met)).step;
}

-- ---- reading on over them

-- taking n + k elements is taking n, then k of what follows
pub take-both : (n k : ℕ) (xs : List ℕ) → take (n + k) xs ≡ take n xs ++ take k (drop n xs)
take-both n k xs =
    sym (take-append-drop n (take (n + k) xs))
    ∙ ap₂ (λ a b. a ++ b) (take-take n (n + k) xs (omega arith)) (drop-take n k xs)

-- A run of bytes that leaves a search in its state, with one look each, extends what was read. The search doesn't stop
-- at that state.
pub advanced-run : {b : Built} {Reaches : Anchored → List ℕ → StateID → Type 0} {anchored : Anchored}
    {stops : StateID → Bool} {sid : StateID} {bytes : List ℕ} {n k : ℕ} {current : StateID} {s t u : Steps}
    → n + k ≤ length bytes → ¬ IsTrue (stops current)
    → ((j : ℕ) → j ≤ k → Leads (Reaches anchored) current (take j (drop n bytes)) current) → Done k 0 0 t u
    → HasAdvanced b Reaches anchored stops sid bytes n current s t
    → HasAdvanced b Reaches anchored stops sid bytes (n + k) current s u
advanced-run {b} {Reaches} {anchored} {sid} {bytes} {n} {k} {current} {s} {t} {u} fits apart leads done has =
    record {
      reads = further k (omega arith);
      plain = λ at lt le. ⊎_elim
          (λ (sooner : at < n + 1). has.plain at lt sooner)
          (λ (here : n + 1 ≤ at).
          let j : ℕ = at - n in
          let e : n + j ≡ at = omega arith in (
            current,
            subst (λ i. Leads (Reaches anchored) sid (take i bytes) current) e
                (further j (omega (arith, le, here))),
            apart,
          ))
          (cases_lt at (n + 1));
      cost = λ text p q reads g h.
          let m = b.dictionary in
          let a = is_anchored anchored in
          let rest = take k (drop n bytes) in
          let whole = joined text k in
          let there = has.reads text reads in
          let live = live-some in
          let first = has.cost text p live.0 reads g live.1 in
          let left = length-drop n bytes in
          let long : length rest ≡ k = length-take-le k (drop n bytes) (omega (arith, left, fits)) in
          let after : IsLive m a ((text ++ take n bytes) ++ rest) q =
          subst (λ l. IsLive m a l q) (sym whole) h in
          let second = cost-looks b Reaches rest long done (text ++ take n bytes) live.0 q there
          live.1 after in
          let both = lookups-join first
          second in
          let one = length-take-le n bytes (omega (arith, fits)) in
          let all = length-take-le (n + k) bytes fits in
          let count : length (take n bytes) + length rest ≡ length (take (n + k) bytes) =
          omega (arith, one, all, long) in
          subst (λ i. IsLookups b.deterministic i (live_len text p) (live_len (text ++ take (n + k) bytes) q) s u)
          count
          (subst (λ l. IsLookups b.deterministic (length (take n bytes) + length rest) (live_len text p)
          (live_len l q) s u) whole both);
    }
  where
    joined : (text : List ℕ) (j : ℕ) → (text ++ take n bytes) ++ take j (drop n bytes) ≡ text ++ take (n + j) bytes
    joined text j =
        append_assoc text (take n bytes) (take j (drop n bytes))
        ∙ ap (λ l. text ++ l) (sym (take-both n j bytes))

    further : (j : ℕ) → j ≤ k → Leads (Reaches anchored) sid (take (n + j) bytes) current
    further j le =
        λ text reads. subst (λ l. Reaches anchored l current) (joined text j)
        (leads j le (text ++ take n bytes) (has.reads text reads))

-- what was read stays as it is, where nothing was done since
pub advanced-same : {b : Built} {Reaches : Anchored → List ℕ → StateID → Type 0} {anchored : Anchored}
    {stops : StateID → Bool} {sid current : StateID} {bytes : List ℕ} {n : ℕ} {s t u : Steps} → Done 0 0 0 t u
    → HasAdvanced b Reaches anchored stops sid bytes n current s t
    → HasAdvanced b Reaches anchored stops sid bytes n current s u
advanced-same none has =
    record {
      reads = has.reads;
      plain = has.plain;
      cost = λ text p q reads g h.
          let first = has.cost text p q reads g h in
          let d = none.looked in
          record {
            some = omega (arith, first.some, d);
            bound = omega (arith, first.bound, d);
            one = λ is. let e = first.one is in omega (arith, e, d);
            scanned = omega (arith, none.scanned, first.scanned);
            moved = omega (arith, none.moved, first.moved);
          };
    }

-- ---- where it stops

-- Two tests that agree on all states reached make reading on stop at the same place.
pub advances-alike : {Reaches : List ℕ → StateID → Type 0} {tests : StateID → Bool} (others : StateID → Bool)
    {sid : StateID} {bytes : List ℕ} {stop : Advance} → IsReached Reaches sid
    → ((i : StateID) → IsReached Reaches i → (IsTrue (tests i) ↔ IsTrue (others i)))
    → Advances Reaches tests sid bytes stop → Advances Reaches others sid bytes stop
advances-alike {Reaches} others {sid} {bytes} {stop} reached alike h = record {
  taken = h.taken;
  reads = h.reads;
  plain =
      λ at some lt. let mid = h.plain at some lt in
      (mid.0, mid.1, λ e. mid.2 ((alike mid.0 (reached-on Reaches sid (take at bytes) mid.0 reached mid.1)).1 e));
  stops =
      λ lt. (alike stop.sid (reached-on Reaches sid (take stop.taken bytes) stop.sid reached h.reads)).0 (h.stops lt);
}
