-- What packed search finds, that the matches of an input lie in order, and what accepted settings say of both.
use Rattle.std.proofs.Common.{◌≡◌, ◌≢◌, ℕ, ◌<◌, false, List, [], length, None, inl, inr, refl, ap, ◌∙◌, subst, arith}
use Rattle.std.proofs.lemmas.Bool.{cases_eq}
use Rattle.std.proofs.lemmas.List.{length-map, nil_from_length}
use Rattle.ac_input.specs.declared.search.MatchKind as kinds
use Rattle.ac_input.specs.declared.search.MatchKind.TheVariants as kind
use Rattle.ac_input.specs.Dictionary.{whole}
use Rattle.ac_input.specs.Rules.{Rule}
use Rattle.ac_input.specs.Computed.{walk_of}
use Rattle.ac_input.specs.Same.{IsUnpaired, other}
use Rattle.ac_input.proofs.lemmas.SameLemmas.{unpaired-none}
use Rattle.ac_input.proofs.lemmas.UnpairedLemmas.{walk_after-unpaired}
use Rattle.ac_input.proofs.lemmas.WalkLemmas.{walk_of-walk}
use Rattle.ac_literal.specs.Packed.{AreServed, Packed, search_kind, part_search}
use Rattle.std.specs.Prelude.{get_or}
use Rattle.ac_automaton.specs.InMemory.Replace.{LieInOrder}
use Rattle.acsub.specs.Finder.{IsFinderOf, whole_walk}
use Rattle.acsub.specs.Served.{dictionary_for}
use Rattle.acsub.specs.Args.Settings.{IsAccepted}
use Rattle.acsub.specs.Rules.Sides.{rule_patterns}
use Rattle.acsub.specs.Plan.{Plan}
use Rattle.acsub.specs.declared.prepared.Finder.TheVariants as finders
use Rattle.acsub.specs.declared.args.settings.Engine.TheVariants as engine
use Rattle.acsub.specs.declared.args.settings.Mode.TheVariants as mode
use Rattle.acsub.specs.declared.args.settings.SettingError.TheVariants as error
use Rattle.acsub.specs.declared.args.settings.Settings.{Settings}
use Rattle.ac_automaton.proofs.lemmas.ReplaceLemmas.{walk-lies}

-- the walk of a packed search that serves a plan is the plan's walk
pub packed-walk : (plan : Plan) (input : List ℕ) (searcher : Packed)
    → IsFinderOf plan.settings plan.rules (finders.Packed searcher)
    → walk_of (search_kind searcher.kind) (part_search searcher.patterns input 0 (length input)) ≡ whole_walk plan input
packed-walk plan input searcher serves =
    ap (λ k. walk_of k (part_search searcher.patterns input 0 (length input))) serves.0.0
    ∙ ap (λ ps. walk_of plan.settings.kind (part_search ps input 0 (length input))) serves.0.1
    ∙ walk_after-unpaired plan.settings.kind (whole (dictionary_for plan.settings plan.rules) input false) []
    plan.settings.pairing unpaired-none serves.1 0 None

-- the matches of a walk over a whole input lie in order
pub whole-lies : (plan : Plan) (input : List ℕ)
    → LieInOrder (length plan.rules) (length input) 0 (whole_walk plan input)
whole-lies plan input =
    let search_in = whole (dictionary_for plan.settings plan.rules) input false in
    let lies =
    walk-lies plan.settings.kind search_in 0 None _ (walk_of-walk plan.settings.kind search_in (omega arith)) in
    subst (λ count. LieInOrder count (length input) 0 (whole_walk plan input))
    (length-map plan.rules (λ (rule : Rule). rule.0)) lies

-- settings that ask for overlapping matches are accepted only with the standard kind
overlap-kind : (s : Settings) (rules : List Rule) (k : kinds.MatchKind) → IsAccepted s rules → s.mode ≡ mode.Overlap
    → s.kind ≡ k → k ≡ kind.Standard
overlap-kind s rules kind.Standard accepted over is = refl
overlap-kind s rules kind.LeftmostFirst accepted over is = absurd (accepted error.OverlapLeftmost (over, λ e. cc))
overlap-kind s rules kind.LeftmostLongest accepted over is = absurd (accepted error.OverlapLeftmost (over, λ e. cc))

pub overlap-standard : (s : Settings) (rules : List Rule) → IsAccepted s rules → s.mode ≡ mode.Overlap
    → s.kind ≡ kind.Standard
overlap-standard s rules accepted over = overlap-kind s rules s.kind accepted over refl

-- settings that ask for packed search are not accepted with the standard kind
pub packed-kind : (s : Settings) (rules : List Rule) → IsAccepted s rules → s.engine ≡ engine.Packed
    → s.kind ≢ kind.Standard
packed-kind s rules accepted packs standard = accepted error.PackedStandard (packs, standard)

-- accepted settings that ask for packed search pair no byte
pub packed-unpaired : (s : Settings) (rules : List Rule) → IsAccepted s rules → s.engine ≡ engine.Packed
    → IsUnpaired s.pairing
packed-unpaired s rules accepted packs byte =
    elim (cases_eq (other s.pairing byte) byte) [
      | inl same ↦ same
      | inr differs ↦
          absurd (accepted error.PackedFold (packs, λ unpaired. differs (unpaired byte)))
    ]

-- accepted settings that ask for packed search come with patterns that it serves
pub packed-served : (s : Settings) (rules : List Rule) → IsAccepted s rules → s.engine ≡ engine.Packed
    → AreServed (rule_patterns rules)
packed-served s rules accepted packs =
    let count : length (rule_patterns rules) ≡ length rules = length-map rules (λ (rule : Rule). rule.0) in
    let some : length rules ≢ 0 = λ none. accepted error.PackedCount (packs, inl none) in
    let few : ¬ (128 < length rules) = λ many. accepted error.PackedCount (packs, inr many) in
    record {
      some = omega arith;
      few = omega arith;
      full = λ number within.
          let filled : length (get_or (rule_patterns rules) number [])
          ≢ 0 = λ e. accepted error.PackedEmpty
          (packs, (number, within, nil_from_length (get_or (rule_patterns rules) number []) e)) in
          omega arith;
    }
