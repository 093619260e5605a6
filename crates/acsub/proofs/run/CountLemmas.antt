-- What was counted to find the matches of an input, and what a run costs.
use Rattle.std.proofs.Common.{◌≡◌, ◌++◌, ℕ, ◌-◌, ◌*◌, ◌≤◌, ◌+◌, Bool, true, false, List, [], length, Option, None, Some, Result, Ok, Err, refl, sym, ap, ◌∙◌, subst, add-zero, arith}
use Rattle.std.specs.List.{concat}
use Rattle.std.specs.Prelude.{IsTrue, if◌then◌else◌}
use Rattle.std.proofs.Math.Nat.{mul-le-mul_left}
use Rattle.std.proofs.lemmas.List.{append-nil}
use Rattle.ac_input.specs.Computed.{walk_of}
use Rattle.ac_input.specs.Input.{Asked, whole_of, search_of}
use Rattle.ac_input.specs.Occurrence.{Occurrence}
use Rattle.ac_input.specs.Work.{longest, lookups_per_byte}
use Rattle.ac_input.specs.declared.search.MatchKind.{MatchKind}
use Rattle.ac_input.specs.declared.search.MatchKind.TheVariants.{Standard, LeftmostFirst, LeftmostLongest}
use Rattle.ac_input.specs.declared.steps.Steps.{Steps}
use Rattle.ac_automaton.specs.Automaton.{Built}
use Rattle.ac_automaton.specs.InMemory.Iter.{AnswersFindIter, IsWithinBudgetAhead, Walk, WalkCounts, fresh_walk, passed, walk_after_pick}
use Rattle.ac_automaton.specs.InMemory.Overlapping.OverlappingIter.{AnswersListing, IsRunAfter, IsWithinOneWalk, Run, RunCounts, fresh_run}
use Rattle.ac_automaton.specs.InMemory.Replace.{matches_in}
use Rattle.ac_automaton.specs.Stream.{Picks, again_for, looked_in_all, read_again}
use Rattle.ac_automaton.specs.Stream.Replace.{CostsSearch}
use Rattle.ac_automaton.specs.declared.error.MatchErrorKind.{MatchErrorKind}
use Rattle.ac_automaton.specs.declared.stream.devices.watched.Watched.{Watched}
use Rattle.aho_corasick.specs.AhoCorasick.{as_built, supported_by}
use Rattle.aho_corasick.specs.declared.ahocorasick.AhoCorasick.{AhoCorasick}
use Rattle.acsub.specs.Finder.{IsServing}
use Rattle.acsub.specs.Input.{ReadsWhole}
use Rattle.acsub.specs.Matches.{IsCounted, IsHeldCost, IsListingCounted, IsWalkCounted}
use Rattle.acsub.specs.Plan.{Plan}
use Rattle.acsub.specs.Run.{CostsRun, read_for_run}
use Rattle.acsub.specs.Served.{AreLooksFor, IsServedByDfa}
use Rattle.acsub.specs.Run.Transformed.{IsStreamed}
use Rattle.acsub.specs.declared.error.RunError.{RunError}
use Rattle.acsub.specs.declared.error.RunError.TheVariants as errors
use Rattle.acsub.specs.declared.matches.Matches.{Matches}
use Rattle.acsub.proofs.prepared.ServedLemmas.{serving-looks}
use Rattle.acsub.specs.declared.matches.Matches.TheVariants as sources

-- ---- one more match

-- the next match of a walk leaves its automaton as it is
walk-built : (w v : Walk) (r : Option Occurrence)
    → (v ≡ record (walk_after_pick w r) { looked = v.looked; scanned = v.scanned; moved = v.moved }) → v.built ≡ w.built
walk-built w v None after = ap (λ u. u.built) after
walk-built w v (Some o) after = ap (λ u. u.built) after

-- the next match of a walk leaves its input as it is
walk-asked : (w v : Walk) (r : Option Occurrence)
    → (v ≡ record (walk_after_pick w r) { looked = v.looked; scanned = v.scanned; moved = v.moved }) → v.asked ≡ w.asked
walk-asked w v None after = ap (λ u. u.asked) after
walk-asked w v (Some o) after = ap (λ u. u.asked) after

-- the next match of a walk was counted
pub walk-counted : (w v : Walk) (r : Option Occurrence) (before after : Steps)
    → (v ≡ record (walk_after_pick w r) { looked = v.looked; scanned = v.scanned; moved = v.moved })
    → WalkCounts w v before after → IsWithinBudgetAhead v
    → (plan : Plan) (n : ℕ) (begun : Steps) → IsWalkCounted plan n begun before w → IsWalkCounted plan n begun after v
walk-counted w v r before after goes (states, places, bytes, done, looked, scanned, moved) paid plan n begun h =
    let built = walk-built w v r goes in
    let asked = walk-asked w v r goes in
    let counted = h.counted in
    record {
      counted = record {
        looked = omega (arith, done.looked, looked, counted.looked);
        scanned = omega (arith, done.scanned, scanned, counted.scanned);
        moved = omega (arith, done.moved, moved, counted.moved);
      };
      kind = rw (built, asked) h.kind;
      looks = λ by_dfa. rw built (h.looks by_dfa);
      within = rw asked h.within;
      paid = paid;
    }

-- the next occurrence of a run was counted
pub listing-counted : (run later : Run) (r : Option Occurrence) (before after : Steps) → IsRunAfter run r later
    → RunCounts run later before after → IsWithinOneWalk later
    → (plan : Plan) (n : ℕ) (begun : Steps) → IsListingCounted plan n begun before run
    → IsListingCounted plan n begun after later
listing-counted run later r before after goes counts paid plan n begun h =
    let built = ap (λ u. u.built) goes in
    let asked = ap (λ u. u.asked) goes in
    let counted = h.counted in
    record {
      counted = record {
        looked = omega (arith, counts.looked, counted.looked);
        scanned = omega (arith, counts.scanned, counted.scanned);
        moved = omega (arith, counts.moved, counted.moved);
      };
      looks = λ by_dfa. rw built (h.looks by_dfa);
      within = rw asked h.within;
      paid = paid;
    }

-- ---- before the first match

module _ (plan : Plan) (ac : AhoCorasick) (input : List ℕ) (serves : IsServing plan.settings plan.rules ac)
    (now : Steps) where
  walk-uncounted : IsWalkCounted plan (length input) now now (fresh_walk (as_built ac) (whole_of input))
  walk-uncounted =
      record {
        counted = record { looked = sym (add-zero _); scanned = sym (add-zero _); moved = sym (add-zero _) };
        kind = ap (λ m. m.kind) serves.built.dictionary;
        looks = serving-looks plan.settings plan.rules ac serves;
        within = omega arith;
        paid = record {
          looked = λ _. omega arith;
          near = λ _. omega arith;
          leftmost = λ _. omega arith;
          scanned = omega arith;
          moved = refl;
        };
      }

  listing-uncounted : IsListingCounted plan (length input) now now (fresh_run (as_built ac) (whole_of input))
  listing-uncounted =
      record {
        counted = record { looked = sym (add-zero _); scanned = sym (add-zero _); moved = sym (add-zero _) };
        looks = serving-looks plan.settings plan.rules ac serves;
        within = omega arith;
        paid = record { looked = omega arith; scanned = omega arith; moved = refl };
      }

-- an automaton's new walk over a whole input has counted nothing
pub walk-fresh : (ac : AhoCorasick) (inside plan : Plan) (input : List ℕ) (asked : Asked)
    (given : Result Walk MatchErrorKind) (walk : Walk) → inside ≡ plan → IsServing inside.settings inside.rules ac
    → AnswersFindIter (as_built ac) (supported_by ac) asked given → given ≡ Ok walk → asked ≡ whole_of input
    → (now : Steps) → IsWalkCounted plan (length input) now now walk
walk-fresh ac inside plan input asked given walk same serves answers is over now =
    let answer = subst (λ r. AnswersFindIter (as_built ac) (supported_by ac) asked r) is answers in
    let fresh : walk ≡ fresh_walk (as_built ac) (whole_of input) = answer.1 ∙ ap (fresh_walk (as_built ac)) over in
    subst (λ w. IsWalkCounted plan (length input) now now w) (sym fresh)
    (subst (λ p. IsWalkCounted p (length input) now now (fresh_walk (as_built ac) (whole_of input))) same
    (walk-uncounted inside ac input serves now))

-- a new run through all that overlap in a whole input has counted nothing
pub listing-fresh : (ac : AhoCorasick) (inside plan : Plan) (input : List ℕ) (asked : Asked)
    (given : Result Run MatchErrorKind) (run : Run) → inside ≡ plan → IsServing inside.settings inside.rules ac
    → AnswersListing (as_built ac) (supported_by ac) asked given → given ≡ Ok run → asked ≡ whole_of input
    → (now : Steps) → IsListingCounted plan (length input) now now run
listing-fresh ac inside plan input asked given run same serves answers is over now =
    let answer = subst (λ r. AnswersListing (as_built ac) (supported_by ac) asked r) is answers in
    let fresh : run ≡ fresh_run (as_built ac) (whole_of input) = answer.1 ∙ ap (fresh_run (as_built ac)) over in
    subst (λ r. IsListingCounted plan (length input) now now r) (sym fresh)
    (subst (λ p. IsListingCounted p (length input) now now (fresh_run (as_built ac) (whole_of input))) same
    (listing-uncounted inside ac input serves now))

-- ---- what was counted is within what it may cost

-- false is not true
not-true : ¬ IsTrue false
not-true is = cc

-- a search of at most n bytes is within the plan's look-ups for n, if its automaton is deterministic where a DFA serves
pub looks-for : (plan : Plan) (deterministic : Bool) (looks less n : ℕ) (before after : Steps)
    → (IsServedByDfa plan.settings plan.rules → IsTrue deterministic) → less ≤ n
    → looks ≤ lookups_per_byte deterministic * less → after.looked.value ≤ before.looked.value + looks
    → AreLooksFor plan n before after
looks-for plan true looks less n before after serves le paid counted =
    record { most = omega arith; by_dfa = λ by_dfa. omega arith }
looks-for plan false looks less n before after serves le paid counted =
    record { most = omega arith; by_dfa = λ by_dfa. absurd (not-true (serves by_dfa)) }

-- no look-up was counted
no-looks : (plan : Plan) (n : ℕ) (steps : Steps) → AreLooksFor plan n steps steps
no-looks plan n steps = record { most = omega arith; by_dfa = λ by_dfa. omega arith }

-- nothing was counted
pub nothing-counted : (plan : Plan) (n : ℕ) (steps : Steps) → IsHeldCost plan n steps steps
nothing-counted plan n steps = record { looked = λ _. no-looks plan n steps; scanned = omega arith; moved = refl }

-- what was counted to find the matches is within what finding them may cost
pub counted-cost : (plan : Plan) (n : ℕ) (before after : Steps) (matches : Matches)
    → IsCounted plan n before after matches → IsHeldCost plan n before after
counted-cost plan n before after (sources.Walk walk) h =
    let counted = h.counted in
    let paid = h.paid in
    let within = h.within in
    let le : passed walk ≤ n = omega arith in
    let long : walk.asked.span.end - walk.asked.span.start ≤ n = omega arith in
    record {
      looked = λ standard. looks-for plan walk.built.deterministic walk.looked
          (walk.asked.span.end - walk.asked.span.start) n before after h.looks long (paid.looked (h.kind ∙ standard))
          (omega (arith, counted.looked));
      scanned = omega (arith, counted.scanned, paid.scanned, le);
      moved = omega (arith, counted.moved, paid.moved);
    }
counted-cost plan n before after (sources.Overlapping run) h =
    let counted = h.counted in
    let paid = h.paid in
    let le = h.within in
    record {
      looked = λ standard. looks-for plan run.built.deterministic run.looked (run.asked.span.end - run.asked.span.start)
          n before after h.looks le paid.looked (omega (arith, counted.looked));
      scanned = omega (arith, counted.scanned, paid.scanned, le);
      moved = omega (arith, counted.moved, paid.moved);
    }
counted-cost plan n before after (sources.Packed picks) h =
    subst (IsHeldCost plan n before) (sym h) (nothing-counted plan n before)

-- ---- what a run costs

-- if nothing was read, nothing was counted
pub nothing_cost : {R : Type 0} (plan : Plan) (r : Watched R) (steps : Steps) (error : RunError)
    → CostsRun plan r r steps steps (Err error)
nothing_cost plan r steps error =
    record {
      gained = [];
      read = sym (append-nil r.pieces.items);
      streamed =
          λ _. record { looked = no-looks plan (read_for_run plan []) steps; scanned = refl; moved = omega arith };
      whole = λ _. tt;
      whole_input = λ _. nothing-counted plan 0 steps;
    }

-- a run that holds its input costs what finding its matches costs
pub held-cost : {R : Type 0} (plan : Plan) (r r' : Watched R) (before after : Steps)
    (result : Result (Unit {0}) RunError) (pieces : List (List ℕ)) (input : List ℕ) → ¬ IsStreamed plan
    → r'.pieces.items ≡ r.pieces.items ++ pieces → input ≡ concat pieces
    → IsHeldCost plan (length input) before after → CostsRun plan r r' before after result
held-cost plan r r' before after result pieces input held read is cost =
    record {
      gained = pieces;
      read = read;
      streamed = λ streamed. absurd (held streamed);
      whole = λ streamed. absurd (held streamed);
      whole_input = λ _. subst (λ bytes. IsHeldCost plan (length bytes) before after) is cost;
    }

-- a run that holds its input, and can't read it to its end, counts nothing
pub unread-cost : {R : Type 0} (remaining : R → Option (List ℕ)) (plan : Plan) (r r' : Watched R) (steps : Steps)
    (e : RunError) → ¬ IsStreamed plan → ReadsWhole remaining r r' (Err e) → CostsRun plan r r' steps steps (Err e)
unread-cost remaining plan r r' steps (errors.Rule e) held h = absurd h
unread-cost remaining plan r r' steps (errors.Setting e) held h = absurd h
unread-cost remaining plan r r' steps (errors.Build kind) held h = absurd h
unread-cost remaining plan r r' steps (errors.Read e) held h =
    held-cost plan r r' steps steps (Err (errors.Read e)) h.0 (concat h.0) held h.1.pieces refl
    (nothing-counted plan _ steps)
unread-cost remaining plan r r' steps (errors.Write e) held h = absurd h
unread-cost remaining plan r r' steps errors.WriteZero held h = absurd h
unread-cost remaining plan r r' steps errors.Memory held h =
    held-cost plan r r' steps steps (Err errors.Memory) h.0 (concat h.0) held h.1.pieces refl
    (nothing-counted plan _ steps)
unread-cost remaining plan r r' steps errors.Position held h = absurd h

-- at most all bytes are read ahead in vain
vain-most : (b : Built) (n matches : ℕ) → looked_in_all Picks b n matches ≤ n + read_again b.dictionary n matches
vain-most b n matches = by b.lanes b.dictionary.kind (longest b.dictionary.patterns)
  where
    by : (lanes : Bool) (kind : MatchKind) (long : ℕ)
        → n + again_for kind long (if lanes then n else 0) matches ≤ n + again_for kind long n matches
    by true kind long = omega arith
    by false Standard long = omega arith
    by false LeftmostFirst long = let again : ℕ = (long + 1) * matches in omega arith
    by false LeftmostLongest long = let again : ℕ = (long + 1) * matches in omega arith

-- a run that writes while it reads costs what the search of the stream costs
pub streamed-cost : {R : Type 0} (plan : Plan) (ac : AhoCorasick) (r r' : Watched R) (before after : Steps)
    (result : Result (Unit {0}) RunError) → IsServing plan.settings plan.rules ac → IsStreamed plan
    → CostsSearch (as_built ac) r r' before after result → CostsRun plan r r' before after result
streamed-cost plan ac r r' before after result serves streamed (pieces, read, cost, whole) =
    let b = as_built ac in
    let x = concat pieces in
    let n = read_for_run plan x in
    let same : length x + read_again b.dictionary (length x) (length (matches_in b x))
    ≡ n = ap
    (λ m. length x + read_again m (length x)
    (length (walk_of m.kind (search_of m (whole_of x).anchored (whole_of x).haystack (whole_of x).span))))
    serves.built.dictionary in
    let most = mul-le-mul_left (lookups_per_byte b.deterministic) (vain-most b (length x) (length (matches_in b x))) in
    let looked =
    subst (λ k. after.looked.value ≤ before.looked.value + lookups_per_byte b.deterministic * k) same
    (omega (arith, cost.looked, most)) in
    record {
      gained = pieces;
      read = read;
      streamed =
          λ _. record {
            looked = looks-for plan b.deterministic (lookups_per_byte b.deterministic * n) n n before after
                (serving-looks plan.settings plan.rules ac serves) (omega arith) (omega arith) looked;
            scanned = cost.scanned;
            moved = cost.moved;
          };
      whole = λ _. whole;
      whole_input = λ held. absurd (held streamed);
    }
