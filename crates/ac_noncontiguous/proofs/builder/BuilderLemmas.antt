-- What the results of a build's parts give together.
use Rattle.std.proofs.Common.{◌≡◌, ℕ, List, Bool, true, false, Option, Some, None, Result, Ok, Err, IfOk, IfSome, IsSome, refl, sym, subst, ◌∙◌}
use Rattle.std.proofs.lemmas.Bool.{false≢true}
use Rattle.std.specs.declared.alloc.AllocError.{AllocError}
use Rattle.ac_input.specs.Candidate.{Filter}
use Rattle.ac_input.specs.declared.search.MatchKind.{MatchKind}
use Rattle.ac_input.specs.Dictionary.{Dictionary, dictionary_of}
use Rattle.ac_input.specs.Limits.{IsWithinLimits}
use Rattle.ac_literal.specs.declared.openings.Openings.{Openings}
use Rattle.ac_literal.specs.Openings.{AreOpenings, OpenAll}
use Rattle.ac_literal.specs.Prefilter.{IsDemanded, IsAdmissible, IsPrefilterOf, IsWayOf}
use Rattle.ac_noncontiguous.specs.Builder.{AreCompiled, IsHeld}
use Rattle.ac_noncontiguous.specs.Nfa.{AreParts}
use Rattle.ac_noncontiguous.specs.declared.nfa.tables.Tables.{Tables}

-- two facts about a result give a third
pub if_ok-both : {T E : Type 0} (r : Result T E) {P Q R : T → Type 0} → IfOk r P → IfOk r Q
    → ((t : T) → P t → Q t → R t) → IfOk r R
if_ok-both (Ok t) p q f = f t p q
if_ok-both (Err e) p q f = tt

-- where a prefilter is wanted, the one that is held is that of the prefilter's build
pub some-held : {m b : Dictionary} {wanted : Bool} (r : Result (Option Filter) AllocError) → b ≡ m → wanted ≡ true
    → IfOk r (λ made. IfSome made (IsPrefilterOf b))
    → IfOk r (λ made. IsDemanded b → IsSome made)
    → IfOk r (λ held. IsHeld wanted m held)
some-held (Err e) same on p n = tt
some-held (Ok None) same on p n =
    record {
      off = λ _. refl;
      demanded = λ _ demand. absurd (false≢true (n (subst IsDemanded (sym same) demand)));
      made = λ f is. absurd (let e : None ≡ Some f = is in cc);
    }
some-held {m} (Ok (Some f)) same on p n =
    record {
      off = λ off. absurd (let e : true ≡ false = sym on ∙ off in cc);
      demanded = λ _ _ is. absurd (let e : Some f ≡ None = is in cc);
      made = λ g is. let e : f ≡ g = cc in
          subst (λ h. IsAdmissible m × IsWayOf h.dictionary h.needles × (h.dictionary ≡ m)) e
          (subst IsAdmissible same p.admissible, p.way, p.dictionary ∙ same);
    }

-- the parts of an automaton are those of its dictionary
pub parts-of : {m from : Dictionary} {wanted : Bool} {tables : Tables} {held : Option Filter} → from ≡ m
    → AreCompiled m tables → IsWithinLimits m → IsHeld wanted m held → AreParts from tables held
parts-of {tables} {held} same compiled within is =
    subst (λ k. AreParts k tables held) (sym same)
    (record {
      within = ∣ within ∣₁;
      stands = ∣ compiled.0 ∣₁;
      classed = ∣ compiled.1 ∣₁;
      held = λ f holds. (is.made f holds).2;
      paired = compiled.2;
    })

-- the openings of patterns are those of every dictionary of these patterns, whatever its kind
pub opened-kind : (patterns : List (List ℕ)) (pairing : List ℕ) (kind : MatchKind) (openings : Option Openings)
    → IfSome openings (OpenAll patterns pairing) → IfSome openings (AreOpenings (dictionary_of patterns pairing kind))
opened-kind patterns pairing kind None h = h
opened-kind patterns pairing kind (Some o) h = h kind
