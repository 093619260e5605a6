-- Where bytes free a search, so do more bytes.
use Rattle.std.proofs.Common.{ℕ, List, ◌≡◌}
use Rattle.ac_input.specs.Number.{StateID}
use Rattle.ac_input.specs.declared.search.MatchKind.TheVariants.{Standard}
use Rattle.ac_input.specs.declared.steps.Steps.{Steps}
use Rattle.ac_automaton.specs.Ahead.{ReadsAheadBy, TakesEachBy}
use Rattle.ac_automaton.specs.Automaton.{Built}
use Rattle.ac_automaton.specs.declared.ahead.Note.{Note}
use Rattle.std.specs.Prelude.{Option}
use Rattle.ac_automaton.proofs.lanes.ChainLemmas.{takes-weaker}

-- what an automaton has read ahead, between bytes that free a search by more
pub reads-weaker : {Free More : ℕ → StateID → Type 0} {b : Built} {Reaches : List ℕ → StateID → Type 0}
    {matches : StateID → List ℕ} {anew : Option StateID} {sid : StateID} {bytes : List ℕ} {at len read : ℕ}
    {notes : List Note} {s t : Steps}
    → (b.dictionary.kind ≡ Standard → (byte : ℕ) (state : StateID) → Free byte state → More byte state)
    → ReadsAheadBy Free b Reaches matches anew sid bytes at len read notes s t
    → ReadsAheadBy More b Reaches matches anew sid bytes at len read notes s t
reads-weaker {Free} {matches} {anew} {sid} {bytes} {at} {notes} more h = record {
  are = h.are;
  within = h.within;
  covered = h.covered;
  most = h.most;
  lanes = h.lanes;
  counted = h.counted;
  taken = λ kind. let all : TakesEachBy Free matches anew bytes at sid notes = h.taken kind in
      (all.0, all.1, takes-weaker matches anew bytes (more kind) at sid notes all.0 all.1 all.2);
}
