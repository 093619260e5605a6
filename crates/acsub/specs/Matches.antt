-- The matches of an input that are still to come, and the work that was counted for finding them.
use Rattle.std.specs.Prelude.{◌≡◌, ℕ, ◌+◌, ◌-◌, ◌*◌, ◌≤◌, IsTrue, List}
use Rattle.ac_input.specs.Occurrence.{Occurrence}
use Rattle.ac_input.specs.Steps.{Done}
use Rattle.ac_input.specs.declared.search.MatchKind.TheVariants.{Standard}
use Rattle.ac_input.specs.declared.steps.Steps.{Steps}
use Rattle.ac_automaton.specs.InMemory.Iter.{IsWithinBudgetAhead, Walk, walk_kind, left_of}
use Rattle.ac_automaton.specs.InMemory.Overlapping.OverlappingIter.{IsWithinOneWalk, Run, rest_of}
use Rattle.acsub.specs.Plan.{Plan}
use Rattle.acsub.specs.Served.{AreLooksFor, IsServedByDfa}
use Rattle.acsub.specs.declared.matches.Matches.{Matches}
use Rattle.acsub.specs.declared.matches.Matches.TheVariants as sources

-- ---- what it may cost

-- What a run that holds its input may cost, for n bytes of input. Under the standard kind its look-ups are within those
-- of one walk.
pub record IsHeldCost (plan : Plan) (n : ℕ) (before after : Steps) : Type 0 where
  pub looked : plan.settings.kind ≡ Standard → AreLooksFor plan n before after
  pub scanned : after.scanned.value ≤ before.scanned.value + 256 * n
  pub moved : after.moved.value ≡ before.moved.value

-- ---- what was counted

-- All that was counted since `begun` is what a walk counted. The walk ends within n bytes, and its automaton is
-- deterministic where a DFA serves.
pub record IsWalkCounted (plan : Plan) (n : ℕ) (begun now : Steps) (walk : Walk) : Type 0 where
  pub counted : Done walk.looked walk.scanned walk.moved begun now
  pub kind : walk_kind walk ≡ plan.settings.kind
  pub looks : IsServedByDfa plan.settings plan.rules → IsTrue walk.built.deterministic
  pub within : walk.asked.span.end ≤ n
  pub paid : IsWithinBudgetAhead walk

-- All that was counted since `begun` is what a run through all occurrences counted. The run spans at most n bytes, and
-- its automaton is deterministic where a DFA serves.
pub record IsListingCounted (plan : Plan) (n : ℕ) (begun now : Steps) (run : Run) : Type 0 where
  pub counted : Done run.looked run.scanned run.moved begun now
  pub looks : IsServedByDfa plan.settings plan.rules → IsTrue run.built.deterministic
  pub within : run.asked.span.end - run.asked.span.start ≤ n
  pub paid : IsWithinOneWalk run

-- the remaining matches
abbrev pub left_in : Matches → List Occurrence
left_in (sources.Walk walk) = left_of walk
left_in (sources.Overlapping run) = rest_of run
left_in (sources.Packed picks) = picks

-- everything that was counted since a point is what finding these matches of this many bytes took; packed search counts
-- nothing
abbrev pub IsCounted : Plan → ℕ → Steps → Steps → Matches → Type 0
IsCounted plan n begun now (sources.Walk walk) = IsWalkCounted plan n begun now walk
IsCounted plan n begun now (sources.Overlapping run) = IsListingCounted plan n begun now run
IsCounted plan n begun now (sources.Packed picks) = now ≡ begun

-- nothing was counted yet
abbrev pub IsUncounted : Plan → ℕ → Matches → Type 0
IsUncounted plan n matches = (now : Steps) → IsCounted plan n now now matches

-- What finding took in between was counted: where all was counted before, all is counted after.
abbrev pub KeepsCount : Matches → Matches → Steps → Steps → Type 0
KeepsCount old new before after =
    (plan : Plan) (n : ℕ) (begun : Steps) → IsCounted plan n begun before old → IsCounted plan n begun after new
