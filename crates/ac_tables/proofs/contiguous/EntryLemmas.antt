-- Where the transitions of a state lead, by classes of bytes.
use Rattle.std.proofs.Common.{◌≡◌, ◌≢◌, ◌⊎◌, ℕ, zero, suc, ◌<◌, false, map, List, [], ◌∷◌, Some, slice_get, inl, inr, refl, sym, ap, subst, ◌∙◌, ⊎_elim, arith}
use Rattle.std.specs.Prelude.{◌==◌}
use Rattle.std.proofs.lemmas.Bool.{cases_eq, cond-true, cond-false, eq-eqb}
use Rattle.std.proofs.lemmas.Option.{slice_get_within, same_Some}
use Rattle.ac_input.specs.Alphabet.{class}
use Rattle.ac_input.specs.Alphabet.Classes.{IsByteOf}
use Rattle.ac_input.specs.Dictionary.{Dictionary}
use Rattle.ac_input.specs.Same.{same}
use Rattle.ac_input.proofs.lemmas.ClassLemmas.{unknown-ends}
use Rattle.ac_noncontiguous.specs.declared.nfa.NFA.{NFA}
use Rattle.ac_noncontiguous.specs.Nfa.{IsEdge}
use Rattle.ac_noncontiguous.specs.Nfa.Reads.{dictionary}
use Rattle.ac_noncontiguous.specs.Nfa.ReadCalls.{state_len, special_in, edges_in, IsEdgeIn, AreLeading, AreEdges}
use Rattle.ac_tables.specs.Contiguous.Words.{next_by}
use Rattle.ac_tables.specs.Contiguous.Table.{placed_edge}
use Rattle.ac_tables.specs.Source.{AreServing}
use Rattle.ac_tables.proofs.contiguous.LenLemmas.{not-equal}

-- ---- bytes of no entered pattern

-- if two bytes share a class, neither stands in an entered pattern
pub neither-known : (m : Dictionary) (classes : List ℕ) (b c : ℕ) → AreServing m classes → b < 256 → c < 256
    → class classes b ≡ class classes c → b ≢ c → (¬ IsByteOf m b) × (¬ IsByteOf m c)
neither-known m classes b c h b_small c_small same ne = (
  λ known. ne (sym (h.alone b b_small known c c_small (sym same))),
  λ known. ne (h.alone c c_small known b b_small same),
)

-- an edge for one byte of a class is an edge for the others
pub edge-alike : (m : Dictionary) (classes : List ℕ) (len start : ℕ) (text : ℕ → List ℕ) (i b c j : ℕ)
    → AreServing m classes → b < 256 → c < 256 → class classes b ≡ class classes c → b ≢ c
    → IsEdge m len start text i b j → IsEdge m len start text i c j
edge-alike m classes len start text i b c j h b_small c_small same ne edge =
    let unknown = neither-known m classes b c h b_small c_small same ne in
    let no_b = unknown-ends m (text i) b unknown.0 in
    let no_c = unknown-ends m (text i) c unknown.1 in
    record {
      dead = edge.dead;
      child = λ past begins. absurd (no_c begins);
      none = λ past other _. edge.none past other no_b;
      back = λ is _. let back = edge.back is no_b in (back.0, h.alike b c b_small c_small same false (text i) _ back.1);
    }

-- ---- the first transition of a class

-- the transitions lead by the first one of the class, or nowhere where none is of the class
abbrev FirstOf : List (ℕ × ℕ) → List ℕ → (ℕ → ℕ) → ℕ → Type 0
FirstOf edges classes place wanted =
    ((k b n : ℕ) × (slice_get edges k ≡ Some (b, n)) × (class classes b ≡ wanted)
    × (next_by (map (placed_edge classes place) edges) wanted ≡ place n))
    ⊎ (((k b n : ℕ) → slice_get edges k ≡ Some (b, n) → class classes b ≢ wanted)
    × (next_by (map (placed_edge classes place) edges) wanted ≡ 1))

-- transitions lead by the first one of a class
first-of : (edges : List (ℕ × ℕ)) (classes : List ℕ) (place : ℕ → ℕ) (wanted : ℕ) → FirstOf edges classes place wanted
first-of [] classes place wanted = inr (λ k b n is. absurd (omega (arith, slice_get_within [] k (b, n) is)), refl)
first-of (edge ∷ edges) classes place wanted =
    let rest = next_by (map (placed_edge classes place) edges) wanted in
    ⊎_elim
    (λ (here : class classes edge.0 ≡ wanted).
    inl (
      0,
      edge.0,
      edge.1,
      refl,
      here,
      cond-true (class classes edge.0 == wanted) (place edge.1) rest (eq-eqb (class classes edge.0) wanted here),
    ))
    (λ (other : class classes edge.0 ≢ wanted).
    let skipped : next_by (map (placed_edge classes place) (edge ∷ edges)) wanted
    ≡ rest = cond-false (class classes edge.0 == wanted) (place edge.1) rest
    (not-equal (class classes edge.0) wanted other) in
    by skipped other (first-of edges classes place wanted))
    (cases_eq (class classes edge.0) wanted)
  where
    by : next_by (map (placed_edge classes place) (edge ∷ edges)) wanted
        ≡ next_by (map (placed_edge classes place) edges) wanted → class classes edge.0 ≢ wanted
        → FirstOf edges classes place wanted → FirstOf (edge ∷ edges) classes place wanted
    by skipped other (inl f) = inl (suc f.0, f.1, f.2, f.3, f.4, skipped ∙ f.5)
    by skipped other (inr none) = inr (later, skipped ∙ none.1)
      where
        later : (k b n : ℕ) → slice_get (edge ∷ edges) k ≡ Some (b, n) → class classes b ≢ wanted
        later zero b n is e = let same = same_Some edge (b, n) is in other (ap (λ x. class classes x.0) same ∙ e)
        later (suc k) b n is e = none.0 k b n is e

-- ---- where a byte leads

-- A byte leads from a state where the state's transitions lead by its class, and nowhere if no transition has that
-- class.
pub entry : (nfa : NFA) (classes : List ℕ) (place : ℕ → ℕ) (text : ℕ → List ℕ) (i byte : ℕ)
    → AreServing (dictionary nfa) classes → place 1 ≡ 1 → 1 < state_len nfa → byte < 256
    → AreEdges nfa i (edges_in nfa i) → AreLeading nfa text i (edges_in nfa i)
    → (j : ℕ) × (j < state_len nfa)
    × (next_by (map (placed_edge classes place) (edges_in nfa i)) (class classes byte) ≡ place j)
    × IsEdgeIn nfa text i byte j
entry nfa classes place text i byte serving fail long small edges leading =
    by (first-of (edges_in nfa i) classes place (class classes byte))
  where
    by : FirstOf (edges_in nfa i) classes place (class classes byte)
        → (j : ℕ) × (j < state_len nfa)
        × (next_by (map (placed_edge classes place) (edges_in nfa i)) (class classes byte) ≡ place j)
        × IsEdgeIn nfa text i byte j
    by (inl f) =
        let within = edges.within f.0 f.1 f.2 f.3 in
        let own = leading.lead f.0 f.1 f.2 f.3 in
        ⊎_elim
        (λ (same : f.1 ≡ byte). (f.2, within.1, f.5, subst (λ b. IsEdgeIn nfa text i b f.2) same own))
        (λ (other : f.1 ≢ byte). (
          f.2,
          within.1,
          f.5,
          edge-alike (dictionary nfa) classes (state_len nfa) (special_in nfa).start_unanchored_id text i f.1 byte f.2
              serving within.0 small f.4 other own,
        ))
        (cases_eq f.1 byte)
    by (inr none) = (1, long, none.1 ∙ sym fail, leading.missing byte small (λ k next is. none.0 k byte next is refl))
