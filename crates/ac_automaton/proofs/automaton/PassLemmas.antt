-- What reading on over bytes has passed, up to the first state that matches.
use Rattle.std.proofs.Common.{◌≡◌, ◌≢◌, ⊎_elim, ℕ, ◌<◌, ◌≤◌, Bool, true, false, IsTrue, List, [], ◌∷◌, length, take, refl, sym, arith}
use Rattle.std.proofs.lemmas.Bool.{cases_lt, false≢true}
use Rattle.ac_input.specs.Number.{StateID}
use Rattle.ac_input.specs.declared.search.Anchored.{Anchored}
use Rattle.ac_input.specs.declared.search.Anchored.TheVariants.{No}
use Rattle.ac_input.specs.declared.steps.Steps.{Steps}
use Rattle.ac_automaton.specs.Automaton.{Built, Leads, IsReadCost, PassesPlain, has_some, is_matching}
use Rattle.ac_automaton.specs.declared.automaton.Advance.{Advance}

-- ---- whether there are patterns

pub matching-some : (ns : List ℕ) → ns ≢ [] → IsTrue (has_some ns)
matching-some [] some = absurd (some refl)
matching-some (n ∷ ns) some = refl

pub matching-none : (ns : List ℕ) → ¬ IsTrue (has_some ns) → ns ≡ []
matching-none [] none = refl
matching-none (n ∷ ns) none = absurd (none refl)

pub some-matching : (ns : List ℕ) → IsTrue (has_some ns) → ns ≢ []
some-matching [] is = absurd (false≢true is)
some-matching (n ∷ ns) is = λ e. let d : n ∷ ns ≡ [] = e in cc

-- ---- where reading on stops

-- Reading on from a state stopped at the first state that matches, or after the last byte.
pub record StopsAtMatch (b : Built) (Reaches : Anchored → List ℕ → StateID → Type 0) (matches : StateID → List ℕ)
    (sid : StateID) (bytes : List ℕ) (stop : Advance) (matched : Bool) (before after : Steps) : Type 0 where
  pub within : stop.taken ≤ length bytes
  pub reads : Leads (Reaches No) sid (take stop.taken bytes) stop.sid
  pub plain : PassesPlain (Reaches No) (is_matching matches) sid bytes stop.taken
  pub there : matched ≡ true → matches stop.sid ≢ []
  pub none : matched ≡ false → (stop.taken ≡ length bytes) × (matches stop.sid ≡ [])
  pub cost : IsReadCost b Reaches No sid (take stop.taken bytes) before after

-- reading on stopped at a state that matches
pub stops-there : {b : Built} {Reaches : Anchored → List ℕ → StateID → Type 0} {matches : StateID → List ℕ}
    {sid : StateID} {bytes : List ℕ} {stop : Advance} {before after : Steps}
    → ((stop.taken ≤ length bytes) × (0 < length bytes → 0 < stop.taken))
    → Leads (Reaches No) sid (take stop.taken bytes) stop.sid
    → PassesPlain (Reaches No) (is_matching matches) sid bytes stop.taken
    → IsReadCost b Reaches No sid (take stop.taken bytes) before after
    → matches stop.sid ≢ []
    → StopsAtMatch b Reaches matches sid bytes stop true before after
stops-there takes reads plain cost matched = record {
  within = takes.0;
  reads = reads;
  plain = plain;
  there = λ e. matched;
  none = λ e. absurd (false≢true (sym e));
  cost = cost;
}

-- reading on read all the bytes, and found no state that matches
pub stops-none : {b : Built} {Reaches : Anchored → List ℕ → StateID → Type 0} {matches : StateID → List ℕ}
    {sid : StateID} {bytes : List ℕ} {stop : Advance} {before after : Steps}
    → ((stop.taken ≤ length bytes) × (0 < length bytes → 0 < stop.taken))
    → Leads (Reaches No) sid (take stop.taken bytes) stop.sid
    → PassesPlain (Reaches No) (is_matching matches) sid bytes stop.taken
    → (stop.taken < length bytes → IsTrue (is_matching matches stop.sid))
    → IsReadCost b Reaches No sid (take stop.taken bytes) before after
    → matches stop.sid ≡ []
    → StopsAtMatch b Reaches matches sid bytes stop false before after
stops-none {matches} {sid} {bytes} {stop} takes reads plain stops cost none =
    let within = takes.0 in
    record {
      within = within;
      reads = reads;
      plain = plain;
      there = λ e. absurd (false≢true e);
      none = λ e. (all, none);
      cost = cost;
    }
  where
    all : stop.taken ≡ length bytes
    all = ⊎_elim
        (λ (lt : stop.taken < length bytes). absurd (some-matching (matches stop.sid) (stops lt) none))
        (λ (ge : length bytes ≤ stop.taken). omega (arith, ge, takes.0))
        (cases_lt stop.taken (length bytes))

-- ---- what was read over

-- Reading on from one state to another took the first bytes, at this cost.
pub record ReadsOver (b : Built) (Reaches : Anchored → List ℕ → StateID → Type 0) (sid : StateID) (bytes : List ℕ)
    (stop : Advance) (before after : Steps) : Type 0 where
  pub within : stop.taken ≤ length bytes
  pub reads : Leads (Reaches No) sid (take stop.taken bytes) stop.sid
  pub cost : IsReadCost b Reaches No sid (take stop.taken bytes) before after

-- reading on that stopped at the first state that matches took the first bytes, at its cost
pub stops-over : {b : Built} {Reaches : Anchored → List ℕ → StateID → Type 0} {matches : StateID → List ℕ}
    {sid : StateID} {bytes : List ℕ} {stop : Advance} {matched : Bool} {before after : Steps}
    → StopsAtMatch b Reaches matches sid bytes stop matched before after
    → ReadsOver b Reaches sid bytes stop before after
stops-over stops = record { within = stops.within; reads = stops.reads; cost = stops.cost }
