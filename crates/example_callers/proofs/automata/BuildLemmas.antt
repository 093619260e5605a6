-- What an automaton that was built of patterns finds.
use Rattle.std.proofs.Common.{◌≡◌, ℕ, Bool, List, Option, Some, None, IsTrue, map, sym, ap, ◌∙◌, subst}
use Rattle.std.specs.Prelude.{◌↔◌, is_some}
use Rattle.std.specs.Borrow.{Bor}
use Rattle.ac_input.specs.declared.search.MatchKind.{MatchKind}
use Rattle.ac_input.specs.Best.{IsBest}
use Rattle.ac_input.specs.Dictionary.{Dictionary}
use Rattle.ac_input.specs.Occurrence.{Search, Occurrence}
use Rattle.ac_input.specs.Same.{IsUnpaired}
use Rattle.ac_automaton.specs.Automaton.{Built}
use Rattle.ac_noncontiguous.specs.Builder.{ByDefault, IsBuiltOf}
use Rattle.aho_corasick.specs.AhoCorasick.{HasOccurrence}
use Rattle.aho_corasick.specs.Callers.{FindsBytes}

-- an automaton built with the default settings finds its patterns byte for byte
pub first-bytes : (patterns : List (Bor (List ℕ))) (b : Built) → ByDefault (λ s. IsBuiltOf s patterns b)
    → FindsBytes (map (λ p. p.now) patterns) b.dictionary
first-bytes patterns b (s, first, built) =
    let same = built.dictionary in (
      ap (λ m. m.patterns) same,
      ap (λ m. m.kind) same ∙ first.match_kind,
      subst IsUnpaired (sym (ap (λ m. m.pairing) same)) first.pairing,
    )

-- a search has a best match exactly if it has an occurrence
pub best-some : (kind : MatchKind) (s : Search) (found : Bool) (r : Option Occurrence) → IsBest kind s r
    → found ≡ is_some r → IsTrue found ↔ HasOccurrence s
best-some kind s found None best is = (λ yes. cc, λ has. absurd (best has.0 has.1))
best-some kind s found (Some o) best is = (λ _. (o, best.0), λ _. is)
