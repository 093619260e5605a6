-- Reading on over several parts of some bytes, and over bytes that leave a search in the start.
use Rattle.std.proofs.Common.{◌≡◌, ◌↔◌, ⊎_elim, ℕ, zero, suc, ◌+◌, ◌-◌, ◌<◌, ◌≤◌, Bool, false, IsTrue, List, [], ◌∷◌, ◌++◌, length, take, drop, get_or, sym, ap, subst, ◌∙◌, arith, length-append, length-drop}
use Rattle.std.specs.Prelude.{nat_le, slice_index}
use Rattle.std.proofs.lemmas.Bool.{and_parts, and_from, cases_lt, false≢true, le-leb, leb-true}
use Rattle.std.proofs.lemmas.List.{append_assoc, get_or-drop, length-take-le, take-take}
use Rattle.std.proofs.lemmas.Option.{slice_get-get_or}
use Rattle.ac_input.specs.Number.{StateID}
use Rattle.ac_input.specs.declared.search.Anchored.{Anchored}
use Rattle.ac_input.specs.declared.steps.Steps.{Steps}
use Rattle.ac_input.specs.Dictionary.{IsLive, live_len}
use Rattle.ac_input.specs.Input.{is_anchored}
use Rattle.ac_input.specs.Work.{IsLookups}
use Rattle.ac_automaton.specs.Automaton.{Advances, Built, Leads, IsReadCost, PassesPlain}
use Rattle.ac_automaton.specs.Look.{is_between, ReadsTo, StaysBut}
use Rattle.ac_automaton.specs.Skip.{ReadsPart, ReadsToBy, ReadsSome}
use Rattle.ac_automaton.specs.Starters.{is_starter, PassesIdle}
use Rattle.ac_automaton.specs.declared.automaton.Advance.{Advance}
use Rattle.ac_automaton.specs.declared.look.Between.{Between}
use Rattle.ac_automaton.specs.declared.look.LookUp.{Ghosts}
use Rattle.ac_automaton.specs.declared.starters.Starters.{Starters}
use Rattle.ac_automaton.proofs.lemmas.CursorLemmas.{HasAdvanced, advanced-all_cost, advanced-cost, advanced-more, advances-all, advances-there, leads-none, lookups-join, take-more}
use Rattle.ac_automaton.proofs.skip.IdleLemmas.{advanced-run, advanced-same, take-both}
use Rattle.ac_input.proofs.lemmas.SomeLemmas.{live-some}

-- ---- between two numbers

pub between : {two : Between} {i : ℕ} → IsTrue (is_between two i) ↔ ((two.first ≤ i) × (i ≤ two.last))
between {two} {i} = (
  λ e. let both = and_parts (nat_le two.first i) (nat_le i two.last) e in
      (leb-true two.first i both.0, leb-true i two.last both.1),
  λ w. and_from (nat_le two.first i) (nat_le i two.last) (le-leb two.first i w.0) (le-leb i two.last w.1),
)

-- a number past the last one is not between the two
pub past-between : (two : Between) {i : ℕ} → two.last < i → ¬ IsTrue (is_between two i)
past-between two past e = let w = (between {two = two}).0 e in omega (arith, w.1, past)

-- ---- one byte after another

-- After one byte more, reading on stops if the state is between two numbers, and goes on elsewhere.
pub after-byte : {b : Built} {Reaches : Anchored → List ℕ → StateID → Type 0} {anchored : Anchored} {two : Between}
    {sid : StateID} {bytes : List ℕ} {n : ℕ} {current next : StateID} {has : Bool} {s t u : Steps}
    → n < length bytes → HasAdvanced b Reaches anchored (is_between two) sid bytes n current s t
    → Leads (Reaches anchored) current (get_or bytes n 0 ∷ []) next
    → IsReadCost b Reaches anchored current (get_or bytes n 0 ∷ []) t u → has ≡ is_between two next
    → (IsTrue has → ReadsTo b Reaches anchored two sid bytes (record { sid = next; taken = n + 1 }) s u)
    × (has ≡ false → HasAdvanced b Reaches anchored (is_between two) sid bytes (n + 1) next s u)
after-byte {b} {Reaches} {anchored} {two} {sid} {bytes} {n} {current} {next} {s} {t} {u} within so_far leads cost says =
    let stops = is_between two in
    let is = slice_get-get_or bytes n 0 within in (
      λ yes. record {
        goes = advances-there b Reaches anchored stops sid bytes n _ current next s t is within so_far leads
            (sym says ∙ yes);
        cost = advanced-cost b Reaches anchored stops sid bytes n _ current s t u is so_far cost;
      },
      λ no. advanced-more b Reaches anchored stops sid bytes n _ current next s t u is so_far leads cost
          (λ e. false≢true (sym no ∙ (says ∙ e))),
    )

-- After the last byte, reading on stops wherever it is.
pub reads-all : {b : Built} {Reaches : Anchored → List ℕ → StateID → Type 0} {anchored : Anchored} {two : Between}
    {sid : StateID} {bytes : List ℕ} {n taken : ℕ} {current : StateID} {s t : Steps}
    → n ≡ taken → taken ≡ length bytes → HasAdvanced b Reaches anchored (is_between two) sid bytes n current s t
    → ReadsTo b Reaches anchored two sid bytes (record { sid = current; taken = taken }) s t
reads-all {b} {Reaches} {anchored} {two} {sid} {bytes} {n} {taken} {current} {s} {t} is all has =
    record {
      goes = advances-all taken is all has;
      cost = advanced-all_cost taken is has;
    }

-- ---- two parts in turn

-- two parts in turn lead from the first state to the last
pub read-both : (Reaches : List ℕ → StateID → Type 0) (sid current next : StateID) (bytes : List ℕ) (n k : ℕ)
    → Leads Reaches sid (take n bytes) current → Leads Reaches current (take k (drop n bytes)) next
    → Leads Reaches sid (take (n + k) bytes) next
read-both Reaches sid current next bytes n k first second = λ text reads.
    let joined : (text ++ take n bytes) ++ take k (drop n bytes) ≡ text ++ take (n + k) bytes =
    append_assoc text (take n bytes) (take k (drop n bytes)) ∙ ap (λ l. text ++ l) (sym (take-both n k bytes)) in
    subst (λ l. Reaches l next) joined (second (text ++ take n bytes) (first text reads))

-- the cost of two parts in turn
pub cost-both : (b : Built) (Reaches : Anchored → List ℕ → StateID → Type 0) {anchored : Anchored}
    (sid current : StateID) (bytes : List ℕ) (n k : ℕ) {s t u : Steps}
    → n + k ≤ length bytes → Leads (Reaches anchored) sid (take n bytes) current
    → IsReadCost b Reaches anchored sid (take n bytes) s t
    → IsReadCost b Reaches anchored current (take k (drop n bytes)) t u
    → IsReadCost b Reaches anchored sid (take (n + k) bytes) s u
cost-both b Reaches {anchored} sid current bytes n k {s} {t} {u} fits leads first second = λ text p q reads g h.
    let m = b.dictionary in
    let a = is_anchored anchored in
    let rest = take k (drop n bytes) in
    let parts = take-both n k bytes in
    let whole : (text ++ take n bytes) ++ rest ≡ text ++ take (n + k) bytes = append_assoc text (take n bytes) rest
    ∙ ap (λ l. text ++ l) (sym parts) in
    let there = leads text reads in
    let live = live-some in
    let before = first text p live.0 reads g live.1 in
    let last : IsLive m a ((text ++ take n bytes) ++ rest) q = subst (λ l. IsLive m a l q) (sym whole) h in
    let after = second (text ++ take n bytes) live.0 q there live.1 last in
    let both = lookups-join before after in
    let count : length (take n bytes) + length rest ≡ length (take (n + k) bytes) =
    sym (ap length parts ∙ length-append (take n bytes) rest) in
    subst (λ i. IsLookups b.deterministic i (live_len text p) (live_len (text ++ take (n + k) bytes) q) s u) count
    (subst (λ l. IsLookups b.deterministic (length (take n bytes) + length rest) (live_len text p) (live_len l q) s u)
    whole both)

-- the states on the way of two parts in turn don't stop the search
pub plain-both : (Reaches : List ℕ → StateID → Type 0) {stops : StateID → Bool} (sid current : StateID) (bytes : List ℕ)
    (n : ℕ) {k : ℕ} → PassesPlain Reaches stops sid bytes (n + 1) → Leads Reaches sid (take n bytes) current
    → PassesPlain Reaches stops current (drop n bytes) k → PassesPlain Reaches stops sid bytes (n + k)
plain-both Reaches sid current bytes n plain leads more = λ at some lt. ⊎_elim
    (λ (sooner : at < n + 1). plain at some sooner)
    (λ (here : n + 1 ≤ at).
    let j : ℕ = at - n in
    let e : n + j ≡ at = omega (arith, here) in
    let mid = more j (omega (arith, here)) (omega (arith, lt, here)) in (
      mid.0,
      subst (λ i. Leads Reaches sid (take i bytes) mid.0) e (read-both Reaches sid current mid.0 bytes n j leads mid.1),
      mid.2,
    ))
    (cases_lt at (n + 1))

-- ---- reading on over a part of the bytes

module _ (b : Built) (Reaches : Anchored → List ℕ → StateID → Type 0) (anchored : Anchored) (stops : StateID → Bool)
    (sid : StateID) (bytes : List ℕ) where
  -- what was read of the front of the bytes was read of the bytes
  pub part-of-front : (front : List ℕ) (n : ℕ) (stop : Advance) (s t : Steps) → 0 < n → n ≤ length bytes
      → front ≡ take n bytes → Advances (Reaches anchored) stops sid front stop
      → IsReadCost b Reaches anchored sid (take stop.taken front) s t
      → ReadsPart b Reaches anchored stops sid bytes stop s t
  part-of-front front n stop s t positive fits is goes cost =
      let taken = goes.taken in
      let size : length front ≡ n = ap length is ∙ length-take-le n bytes fits in
      let inside = taken.0 in
      let same : (j : ℕ) → j ≤ n → take j front ≡ take j bytes = λ j le. ap (take j) is ∙ take-take j n bytes le in
      let all = same stop.taken (omega (arith, inside, size)) in
      record {
        some = taken.1 (omega (arith, size, positive));
        within = omega (arith, inside, size, fits);
        reads = subst (λ l. Leads (Reaches anchored) sid l stop.sid) all goes.reads;
        plain = λ at lt le. let mid = goes.plain at lt le in (
          mid.0,
          subst (λ l. Leads (Reaches anchored) sid l mid.0) (same at (omega (arith, le, inside, size))) mid.1,
          mid.2,
        );
        cost = subst (λ l. IsReadCost b Reaches anchored sid l s t) all cost;
      }

  -- a part read after the bytes that a search has passed extends them
  pub part-more : (current : StateID) (rest : List ℕ) (n : ℕ) (stop : Advance) (s t u : Steps)
      → rest ≡ drop n bytes → n ≤ length bytes
      → ReadsPart b Reaches anchored stops current rest stop t u
      → HasAdvanced b Reaches anchored stops sid bytes n current s t
      → ReadsPart b Reaches anchored stops sid bytes (record { sid = stop.sid; taken = n + stop.taken }) s u
  part-more current rest n stop s t u is within some has =
      let R = Reaches anchored in
      let k = stop.taken in
      let left = length-drop n bytes in
      let size = ap length is in
      let inside = some.within in
      let positive = some.some in
      let fits : n + k ≤ length bytes = omega (arith, left, size, inside, within) in
      record {
        some = omega (arith, positive);
        within = fits;
        reads = read-both R sid current stop.sid bytes n k has.reads
            (subst (λ l. Leads R current (take k l) stop.sid) is some.reads);
        plain = plain-both R sid current bytes n has.plain has.reads
            (subst (λ l. PassesPlain R stops current l k) is some.plain);
        cost = cost-both b Reaches sid current bytes n k fits has.reads has.cost
            (subst (λ l. IsReadCost b Reaches anchored current (take k l) t u) is some.cost);
      }

  -- where the search stops at the state of the part, reading on stops there
  pub part-stops : (stop : Advance) (s t : Steps) → ReadsPart b Reaches anchored stops sid bytes stop s t
      → IsTrue (stops stop.sid) → Advances (Reaches anchored) stops sid bytes stop
  part-stops stop s t some here = record {
    taken = (some.within, λ _. some.some);
    reads = some.reads;
    plain = some.plain;
    stops = λ _. here;
  }

  -- elsewhere reading on goes on from there
  pub part-goes : (stop : Advance) (s t : Steps) → ReadsPart b Reaches anchored stops sid bytes stop s t
      → ¬ IsTrue (stops stop.sid) → HasAdvanced b Reaches anchored stops sid bytes stop.taken stop.sid s t
  part-goes stop s t some past = record {
    reads = some.reads;
    plain = λ at lt le. ⊎_elim
        (λ (sooner : at < stop.taken). some.plain at lt sooner)
        (λ (here : stop.taken ≤ at). let e : stop.taken ≡ at = omega (arith, here, le) in
        subst (λ i. (mid : StateID) × Leads (Reaches anchored) sid (take i bytes) mid × ¬ IsTrue (stops mid)) e
        (stop.sid, some.reads, past))
        (cases_lt at stop.taken);
    cost = some.cost;
  }

-- ---- reading on by an automaton's own loop

module _ {S : Type 0} (A : Ghosts S) (automaton : S) (anchored : Anchored) (two : Between) (sid : StateID)
    (bytes : List ℕ) where
  -- a loop that also stops at the start passes no state at which the search stops
  pub some-to-start : (upper : Between) (stop : Advance) (s t : Steps) → upper.first ≡ two.first → two.last ≤ upper.last
      → 0 < length bytes → ReadsToBy A automaton anchored upper sid bytes stop s t
      → ReadsSome A automaton anchored two sid bytes stop s t
  some-to-start upper stop s t first before some to =
      let goes = to.goes in
      let taken = goes.taken in
      record {
        some = taken.1 some;
        within = taken.0;
        reads = goes.reads;
        plain = λ at lt le. let mid = goes.plain at lt le in (
          mid.0,
          mid.1,
          λ e. mid.2
              (let w = (between {two = two} {i = mid.0}).0 e in
              (between {two = upper} {i = mid.0}).1 (omega (arith, w.0, first), omega (arith, w.1, before))),
        );
        cost = to.cost;
      }

  -- over a part of the bytes, a loop that also stops at the start passes no state at which the search stops
  pub some-of-part : (part : List ℕ) (n : ℕ) (stop : Advance) (s t : Steps) → 0 < n → n ≤ length bytes
      → part ≡ take n bytes → ReadsToBy A automaton anchored two sid part stop s t
      → ReadsSome A automaton anchored two sid bytes stop s t
  some-of-part part n stop s t positive fits is to =
      part-of-front (A.built automaton) (A.Reaches automaton) anchored (is_between two) sid bytes part n stop s t
      positive fits is to.goes to.cost

  -- The search stops at a state between two numbers, and goes on elsewhere.
  pub after-some : (current : StateID) (rest : List ℕ) (n : ℕ) (stop : Advance) (has : Bool) (s t u : Steps)
      → rest ≡ drop n bytes → n ≤ length bytes
      → ReadsSome A automaton anchored two current rest stop t u
      → HasAdvanced (A.built automaton) (A.Reaches automaton) anchored (is_between two) sid bytes n current s t
      → has ≡ is_between two stop.sid
      → (IsTrue has → ReadsToBy A automaton anchored two sid bytes (record { sid = stop.sid; taken = n + stop.taken }) s
      u)
      × (has ≡ false → (n + stop.taken ≤ length bytes)
      × HasAdvanced (A.built automaton) (A.Reaches automaton) anchored (is_between two) sid bytes (n + stop.taken)
      stop.sid s u)
  after-some current rest n stop has s t u is within read so_far says =
      let some = part-more (A.built automaton) (A.Reaches automaton) anchored (is_between two) sid bytes current rest n
      stop s t u is within read so_far in (
        λ yes. record {
          goes = part-stops (A.built automaton) (A.Reaches automaton) anchored (is_between two) sid bytes _ s u some
              (sym says ∙ yes);
          cost = some.cost;
        },
        λ no. (
          some.within,
          part-goes (A.built automaton) (A.Reaches automaton) anchored (is_between two) sid bytes _ s u some
              (λ e. false≢true (sym no ∙ (says ∙ e))),
        ),
      )

-- ---- bytes that leave a search in the start

-- a run of bytes that are no starters leads from the start to itself
stays-run : (Reaches : List ℕ → StateID → Type 0) (starters : Starters) (start : StateID) (bytes : List ℕ) (k : ℕ)
    → StaysBut Reaches starters start → ((j : ℕ) → slice_index bytes j < 256) → k ≤ length bytes
    → ((j : ℕ) → j < k → is_starter starters (slice_index bytes j) ≡ false) → Leads Reaches start (take k bytes) start
stays-run Reaches starters start bytes zero stays small fits idle = leads-none Reaches start
stays-run Reaches starters start bytes (suc k) stays small fits idle =
    let byte = slice_index bytes k in
    let before = stays-run Reaches starters start bytes k stays small (omega (arith, fits))
    (λ j lt. idle j (omega (arith, lt))) in
    let more : take (suc k) bytes ≡ take k bytes ++ byte ∷ [] =
    take-more bytes k byte (slice_get-get_or bytes k 0 (omega (arith, fits))) in
    λ text reads.
    let whole : (text ++ take k bytes) ++ byte ∷ [] ≡ text ++ take (suc k) bytes =
    append_assoc text (take k bytes) (byte ∷ []) ∙ ap (λ l. text ++ l) (sym more) in
    subst (λ l. Reaches l start) whole
    (stays byte (small k) (idle k (omega arith)) (text ++ take k bytes) (before text reads))

-- a run of bytes that are no starters extends what was read
pub advanced-idle : {b : Built} {Reaches : Anchored → List ℕ → StateID → Type 0} {anchored : Anchored}
    {stops : StateID → Bool} {starters : Starters} {start sid current : StateID} {bytes rest : List ℕ} {n : ℕ}
    (passed : ℕ) {s t u : Steps}
    → ¬ IsTrue (stops start) → StaysBut (Reaches anchored) starters start → ((k : ℕ) → slice_index bytes k < 256)
    → rest ≡ drop n bytes → n ≤ length bytes
    → PassesIdle starters start current rest passed t u
    → HasAdvanced b Reaches anchored stops sid bytes n current s t
    → (n + passed ≤ length bytes) × HasAdvanced b Reaches anchored stops sid bytes (n + passed) current s u
advanced-idle {b} {Reaches} {anchored} {stops} {sid} {current} {bytes} {n} zero {s} {u} apart stays small is within
    passes has =
    let e : n ≡ n + zero = omega arith in (
      omega (arith, within),
      subst (λ i. HasAdvanced b Reaches anchored stops sid bytes i current s u) e (advanced-same passes.counted has),
    )
advanced-idle {Reaches} {anchored} {stops} {starters} {start} {current} {bytes} {rest} {n} (suc k) apart stays small is
    within passes has =
    let R = Reaches anchored in
    let at : current ≡ start = passes.at (omega arith) in
    let inside = passes.within in
    let fits : n + suc k ≤ length bytes = let left = ap length is in let all_left = length-drop n bytes in
    omega (arith, inside, left, all_left, within) in
    let fit : (j : ℕ) → slice_index rest j < 256 = λ j. let same : slice_index rest j ≡ slice_index bytes (n + j) =
    ap (λ l. slice_index l j) is ∙ get_or-drop n bytes j 0 in subst (λ v. v < 256) (sym same) (small (n + j)) in
    let quiet : ¬ IsTrue (stops current) = subst (λ i. ¬ IsTrue (stops i)) (sym at) apart in (
      fits,
      advanced-run fits quiet
          (λ j le. subst (λ i. Leads R i (take j (drop n bytes)) i) (sym at)
          (subst (λ l. Leads R start (take j l) start) is
          (stays-run R starters start rest j stays fit (omega (arith, le, inside))
          (λ i lt. passes.idle i (omega (arith, lt, le))))))
          passes.counted has,
    )
