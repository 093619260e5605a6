-- What holds of an automaton's patterns holds of its copy's.
use Rattle.std.proofs.Common.{◌≡◌, ℕ, List, Option, sym, ap, subst, ◌∙◌}
use Rattle.std.specs.Prelude.{IfSome}
use Rattle.std.proofs.Math.Logic.{∥∥₁_map}
use Rattle.ac_input.specs.Candidate.{Filter}
use Rattle.ac_input.specs.Dictionary.{Dictionary, dictionary_of}
use Rattle.ac_input.specs.declared.search.MatchKind.{MatchKind}
use Rattle.ac_literal.specs.declared.openings.Openings.{Openings}
use Rattle.ac_literal.specs.Openings.{AreCopiedIfAny, AreOpenings}
use Rattle.ac_noncontiguous.specs.Nfa.{IsHeldFor}

-- a dictionary with the patterns, pairing and kind of another is that dictionary
pub same-dictionary : (m : Dictionary) {patterns : List (List ℕ)} {pairing : List ℕ} {kind : MatchKind}
    → patterns ≡ m.patterns → pairing ≡ m.pairing → kind ≡ m.kind → dictionary_of patterns pairing kind ≡ m
same-dictionary m p q k = λ i. record { patterns = p i; pairing = q i; kind = k i }

-- openings of the patterns are those of the copy
pub opened-same : (openings : Option Openings) (pairing : List ℕ) (kind : MatchKind) {patterns copy : List (List ℕ)}
    → copy ≡ patterns → ∥ IfSome openings (AreOpenings (dictionary_of patterns pairing kind)) ∥₁
    → ∥ IfSome openings (AreOpenings (dictionary_of copy pairing kind)) ∥₁
opened-same openings pairing kind same opened =
    subst (λ ps. ∥ IfSome openings (AreOpenings (dictionary_of ps pairing kind)) ∥₁) (sym same) opened

-- a copy of openings is of the same dictionary
pub opened-copied : (held copy : Option Openings) (m : Dictionary) → AreCopiedIfAny held copy
    → ∥ IfSome held (AreOpenings m) ∥₁ → ∥ IfSome copy (AreOpenings m) ∥₁
opened-copied held copy m copied opened = ∥∥₁_map opened (copied m)

-- a prefilter of the patterns is one of the copy
pub held-same : (pairing : List ℕ) (kind : MatchKind) {patterns copy : List (List ℕ)} {held kept : Option Filter}
    → copy ≡ patterns → kept ≡ held → IsHeldFor (dictionary_of patterns pairing kind) held
    → IsHeldFor (dictionary_of copy pairing kind) kept
held-same pairing kind same keeps is f e = is f (sym keeps ∙ e) ∙ ap (λ ps. dictionary_of ps pairing kind) (sym same)
