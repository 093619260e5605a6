-- An automaton over named states may pass places at which no pattern opens.
use Rattle.std.proofs.Common.{◌≡◌, ℕ, ◌<◌, false, IsTrue, List, [], ◌++◌, length, Some}
use Rattle.std.specs.Prelude.{slice_index, ◌≤◌}
use Rattle.std.proofs.Math.Logic.{∥∥₁_map}
use Rattle.ac_input.specs.Number.{StateID}
use Rattle.ac_input.specs.declared.search.Anchored.TheVariants.{No}
use Rattle.ac_input.specs.Dictionary.{IsLive, IsPattern}
use Rattle.ac_input.proofs.lemmas.OpeningLemmas.{leads-passed}
use Rattle.ac_automaton.specs.Automaton.{Leads}
use Rattle.ac_automaton.specs.Named.{NamedStates, Naming, AreLinked, IsReadBy}
use Rattle.ac_automaton.specs.Skip.{MayPass}
use Rattle.ac_automaton.proofs.automaton.LinkedLemmas.{run-leads}
use Rattle.ac_automaton.proofs.automaton.NamedLemmas.{read-from, read-starts, AllNames}

-- A search may pass places where no pattern opens, if the start matches nothing and every text leads somewhere.
pub may-pass : (states : NamedStates) (len start : ℕ)
    → AllNames states → 0 < len → ((n : ℕ) (p : List ℕ) → IsPattern states.built.dictionary n p → len ≤ length p)
    → IsReadBy states No [] start → IsTrue (states.starts start) → states.matches start ≡ []
    → ((bytes : List ℕ) → ((k : ℕ) → slice_index bytes k < 256)
    → (mid : StateID) × Leads (IsReadBy states No) start bytes mid)
    → MayPass states.built.dictionary len (IsReadBy states No) start
may-pass states len start all some long begins is none leads =
    record {
      begins = begins;
      empty = λ text reads. empty text reads;
      all = leads;
      forgets = λ front end sid no_opening enough to text reads.
          let there : IsReadBy states No end sid = to [] begins in
          read-from states No (text ++ (front ++ end)) sid all
          (∥∥₁_map there.reached (λ w. (
            w.0,
            w.1,
            record {
              met = w.2.met;
              leads =
                  leads-passed front end (w.0.text sid) some long (empty text reads)
                  no_opening enough w.2.leads;
            },
          )));
    }
  where
    empty : (text : List ℕ) → IsReadBy states No text start
        → IsLive states.built.dictionary false text (Some (length text))
    empty text reads = (read-starts states start all No text reads).empty is none

-- In an automaton that follows failures every text leads somewhere.
pub linked-may-pass : (states : NamedStates) (len start : ℕ) (edge : ℕ → ℕ → ℕ) (fail : ℕ → ℕ)
    → AllNames states → ((names : Naming) → states.Fits names → AreLinked states.built.dictionary names start edge fail)
    → 0 < len → ((n : ℕ) (p : List ℕ) → IsPattern states.built.dictionary n p → len ≤ length p)
    → IsReadBy states No [] start → IsTrue (states.starts start) → states.matches start ≡ []
    → MayPass states.built.dictionary len (IsReadBy states No) start
linked-may-pass states len start edge fail all linked some long begins is none =
    may-pass states len start all some long begins is none
    (λ bytes small. (_, run-leads states start edge fail all linked start bytes small))
