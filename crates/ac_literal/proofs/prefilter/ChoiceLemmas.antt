-- How rare bytes are chosen, and how far after the beginning of a pattern they may stand.
use Rattle.std.proofs.Common.{◌≡◌, ℕ, ◌+◌, ◌<◌, ◌≤◌, ◌⊎◌, ◌==◌, max, Bool, true, List, [], ◌∷◌, ◌++◌, length, replicate, if◌then◌else◌, IsTrue, refl, sym, ap, ◌∙◌, subst, inl, inr, arith, get_or-set_same, get_or-set_other}
use Rattle.std.specs.Prelude.{slice_index, slice_set}
use Rattle.std.specs.List.{Contains}
use Rattle.std.proofs.lemmas.Bool.{cases_lt, cases_eq, false≢true}
use Rattle.std.proofs.lemmas.Bool.Decides.{nat_tests}
use Rattle.std.proofs.lemmas.Grind.{common_steps, get_or_default_zero}
use Rattle.std.proofs.lemmas.List.Elements.{Contains-append_left, Contains-append_right, Contains-push_cases}
use Rattle.ac_input.specs.Same.{other, same}
use Rattle.ac_input.proofs.lemmas.ContainsLemmas.{Contains-nil, Contains-head}
use Rattle.ac_literal.specs.Prefilter.Needles.{few_has, few_surely_has, AddsByte}
use Rattle.ac_literal.specs.Prefilter.Strategies.{AreDistances, StandsInSome}
use Rattle.ac_literal.specs.Prefilter.Rare.{HoldsFew, IsClosed, IsChosen, AreReached, IsRareSoFar}
use Rattle.ac_literal.specs.declared.prefilter.needles.FewBytes.{FewBytes}
use Rattle.ac_literal.specs.declared.prefilter.needles.FewBytes.TheVariants as few
use Rattle.ac_literal.specs.declared.prefilter.rare_bytes.RareBytesBuilder.{RareBytesBuilder}
use Rattle.ac_input.proofs.lemmas.SameLemmas.{same-cases}

-- the distances, when a byte may stand at one more place
abbrev pub lengthened : List ℕ → ℕ → ℕ → List ℕ
lengthened distances byte at = slice_set distances byte (max (slice_index distances byte) at)

-- the distance of each byte in the lengthened distances
lengthened-index : (distances : List ℕ) {byte : ℕ} (at each : ℕ) → byte < length distances
    → slice_index (lengthened distances byte at) each
    ≡ (if byte == each then max (slice_index distances byte) at else slice_index distances each)
lengthened-index distances at each within = grind (arith, nat_tests, get_or-set_same, get_or-set_other)

-- no distance shrinks
pub lengthened-grown : (distances : List ℕ) {byte : ℕ} (at each : ℕ) → byte < length distances
    → slice_index distances each ≤ slice_index (lengthened distances byte at) each
lengthened-grown distances {byte} at each within =
    let is = lengthened-index distances at each within in
    elim (cases_eq byte each) [ inl e ↦ grind (arith, nat_tests) | inr n ↦ grind (arith, nat_tests) ]

-- the lengthened distance of the byte reaches the place
pub lengthened-reach : (distances : List ℕ) {byte at : ℕ} → byte < length distances
    → at ≤ slice_index (lengthened distances byte at) byte
lengthened-reach distances {byte} {at} within = let is = lengthened-index distances at byte within in
    grind (arith, nat_tests)

-- none becomes greater than 254
pub lengthened-near : (distances : List ℕ) {byte at : ℕ} → byte < length distances → at ≤ 254
    → ((each : ℕ) → slice_index distances each ≤ 254) → (each : ℕ)
    → slice_index (lengthened distances byte at) each ≤ 254
lengthened-near distances {byte} {at} within small near each =
    let is = lengthened-index distances at each within in
    let here = near byte in
    let there = near each in
    elim (cases_eq byte each) [ inl e ↦ grind (arith, nat_tests) | inr n ↦ grind (arith, nat_tests) ]

-- a byte is the same as itself
pub same-self : (pairing : List ℕ) (a : ℕ) → IsTrue (same pairing a a)
same-self pairing a = grind (arith, nat_tests)

-- a byte is the same as its partner
pub same-other : (pairing : List ℕ) (a : ℕ) → IsTrue (same pairing a (other pairing a))
same-other pairing a = grind (arith, nat_tests)

-- one more place of a pattern is recorded, under its byte and what is paired with it
pub record Recorded (pairing before p now next : List ℕ) (place : ℕ) : Type 0 where
  pub grown : (byte : ℕ) → slice_index before byte ≤ slice_index next byte
  pub reach : (at byte : ℕ) → at < place + 1 → IsTrue (same pairing (slice_index p at) byte)
      → at ≤ slice_index next byte
  pub near : ((byte : ℕ) → slice_index before byte ≤ 254) → (byte : ℕ) → slice_index next byte ≤ 254

module _ (pairing before p now once next : List ℕ) (place byte pair : ℕ) (is : slice_index p place ≡ byte)
    (paired : other pairing byte ≡ pair) (within : byte < length now) (within_too : pair < length once)
    (first : once ≡ lengthened now byte place) (second : next ≡ lengthened once pair place) where
  -- no distance shrinks
  steps_grow : (each : ℕ) → slice_index now each ≤ slice_index next each
  steps_grow each =
      let a : slice_index now each ≤ slice_index once each =
      subst (λ xs. slice_index now each ≤ slice_index xs each) (sym first) (lengthened-grown now place each within) in
      let b : slice_index once each
      ≤ slice_index next each = subst (λ xs. slice_index once each ≤ slice_index xs each) (sym second)
      (lengthened-grown once place each within_too) in
      omega arith

  -- both bytes reach the place
  reach_byte : place ≤ slice_index next byte
  reach_byte =
      let a : place ≤ slice_index once byte =
      subst (λ xs. place ≤ slice_index xs byte) (sym first) (lengthened-reach now within) in
      let b : slice_index once byte
      ≤ slice_index next byte = subst (λ xs. slice_index once byte ≤ slice_index xs byte) (sym second)
      (lengthened-grown once place byte within_too) in
      omega arith

  reach_pair : place ≤ slice_index next pair
  reach_pair = subst (λ xs. place ≤ slice_index xs pair) (sym second) (lengthened-reach once within_too)

  -- none becomes greater than 254
  steps_near : place ≤ 254 → ((each : ℕ) → slice_index now each ≤ 254) → (each : ℕ) → slice_index next each ≤ 254
  steps_near small near =
      let a : (each : ℕ) → slice_index once each ≤ 254 =
      subst (λ xs. (each : ℕ) → slice_index xs each ≤ 254) (sym first) (lengthened-near now within small near) in
      subst (λ xs. (each : ℕ) → slice_index xs each ≤ 254) (sym second) (lengthened-near once within_too small a)

  -- one more place of a pattern is recorded, under its byte and what is paired with it
  pub recorded : place ≤ 254 → ((each : ℕ) → slice_index before each ≤ slice_index now each)
      → ((at each : ℕ) → at < place → IsTrue (same pairing (slice_index p at) each) → at ≤ slice_index now each)
      → (((each : ℕ) → slice_index before each ≤ 254) → (each : ℕ) → slice_index now each ≤ 254)
      → Recorded pairing before p now next place
  recorded small grown reach near =
      record {
        grown = λ each. let a = grown each in let b = steps_grow each in omega arith;
        reach = λ at each h e.
            elim (cases_lt at place) [
              | inl earlier ↦ let a = reach at each earlier e in let b = steps_grow each in omega arith
              | inr later ↦
                  let here : at ≡ place = omega arith in
                  let same_here : IsTrue (same pairing byte each) =
                  subst (λ x. IsTrue (same pairing x each)) (ap (slice_index p) here ∙ is) e in
                  elim (same-cases pairing same_here) [
                    | inl equal ↦ let a = subst (λ x. place ≤ slice_index next x) equal reach_byte in omega arith
                    | inr other_one ↦
                        let a = subst (λ x. place ≤ slice_index next x) (sym paired ∙ other_one) reach_pair in
                        omega arith
                  ]
            ];
        near = λ low. steps_near small (near low);
      }

-- what is known to be among the bytes is among them
surely-has : (these : FewBytes) (byte : ℕ) → IsTrue (few_surely_has these byte) → IsTrue (few_has these byte)
surely-has few.None byte h = h
surely-has (few.Some needles) byte h = h
surely-has few.TooMany byte h = refl

-- what is among them is known to be, unless there are too many; then every byte may be
has-surely : (these : FewBytes) (byte : ℕ) → IsTrue (few_has these byte)
    → IsTrue (few_surely_has these byte) ⊎ ((each : ℕ) → IsTrue (few_has these each))
has-surely few.None byte h = inl h
has-surely (few.Some needles) byte h = inl h
has-surely few.TooMany byte h = inr (λ each. refl)

-- a pattern that holds one of the bytes needs no other
pub chosen-held : (pairing p : List ℕ) (these : FewBytes) (at : ℕ) → IsClosed pairing these → at < length p
    → IsTrue (few_has these (slice_index p at)) → IsChosen pairing these p these
chosen-held pairing p these at closed within held =
    record {
      kept = λ byte h. h;
      held = record {
        at = at;
        within = within;
        held = λ byte e. elim (same-cases pairing e) [
          | inl equal ↦ subst (λ x. IsTrue (few_has these x)) equal held
          | inr other_one ↦ subst (λ x. IsTrue (few_has these x)) other_one (closed (slice_index p at) held)
        ];
      };
      closed = closed;
      only = λ byte h. inl h;
    }

-- otherwise one of its bytes is added, with its partner
pub chosen-added : {pairing p : List ℕ} {these one two : FewBytes} {rare pair : ℕ} → IsClosed pairing these
    → Contains p rare → other pairing rare ≡ pair → other pairing pair ≡ rare → AddsByte these rare one
    → AddsByte one pair two → IsChosen pairing these p two
chosen-added {pairing} {p} {these} {two} {rare} closed stands paired back first second =
    let place = get_or_default_zero p stands.0 rare stands.1 in
    let is : slice_index p stands.0 ≡ rare = sym place ∙ stands.2 in
    let has_rare : IsTrue (few_has two rare) = second.kept rare first.has in
    record {
      kept = λ byte h. second.kept byte (first.kept byte h);
      held = record {
        at = stands.0;
        within = stands.1;
        held = λ byte e. elim (same-cases pairing (subst (λ x. IsTrue (same pairing x byte)) is e)) [
          | inl equal ↦ subst (λ x. IsTrue (few_has two x)) equal has_rare
          | inr other_one ↦ subst (λ x. IsTrue (few_has two x)) (sym paired ∙ other_one) second.has
        ];
      };
      closed = λ byte h. elim (has-surely two byte h) [
        | inl surely ↦ elim (second.only byte surely) [
          | inl before ↦ elim (first.only byte before) [
            | inl old ↦
                second.kept (other pairing byte)
                (first.kept (other pairing byte) (closed byte (surely-has these byte old)))
            | inr equal ↦ subst (λ x. IsTrue (few_has two x)) (sym paired ∙ ap (other pairing) equal) second.has
          ]
          | inr equal ↦ subst (λ x. IsTrue (few_has two x)) (sym back ∙ ap (other pairing) equal) has_rare
        ]
        | inr all ↦ all (other pairing byte)
      ];
      only = λ byte h. elim (second.only byte h) [
        | inl before ↦ elim (first.only byte before) [
          | inl old ↦ inl old
          | inr equal ↦ inr (rare, stands, subst (λ x. IsTrue (same pairing rare x)) equal (same-self pairing rare))
        ]
        | inr equal ↦
            inr (rare, stands, subst (λ x. IsTrue (same pairing rare x)) (paired ∙ equal) (same-other pairing rare))
      ];
    }

-- the state of a new builder, which has no pattern yet
pub rare-none : {pairing distances : List ℕ} → ((byte : ℕ) → slice_index distances byte ≤ 254)
    → IsRareSoFar pairing [] (record { few = few.None; distances = distances; is_short = true })
rare-none near =
    record {
      short = λ e p given. absurd (Contains-nil given);
      held = λ p given. absurd (Contains-nil given);
      reach = λ e p given. absurd (Contains-nil given);
      near = near;
      closed = λ byte h. absurd (false≢true h);
      known = λ byte h. absurd (false≢true h);
    }

-- distances that are all 0 are at most 254
pub near-zeros : (n byte : ℕ) → slice_index (replicate n 0) byte ≤ 254
near-zeros n byte =
    elim (cases_lt byte n) [ inl within ↦ grind (arith, common_steps) | inr past ↦ grind (arith, common_steps) ]

-- one more pattern
module _ (pairing : List ℕ) (patterns : List (List ℕ)) (p : List ℕ) (old : RareBytesBuilder) (these : FewBytes)
    (distances : List ℕ) (is_short : Bool)
    (so_far : IsRareSoFar pairing patterns old) (chosen : IsChosen pairing old.few p these)
    (reached : AreReached pairing old.distances p distances)
    (short_before : is_short ≡ true → old.is_short ≡ true) (short_now : is_short ≡ true → length p < 256) where
  -- a pattern of the longer list is an earlier one or this one
  given_cases : (q : List ℕ) → Contains (patterns ++ p ∷ []) q → Contains patterns q ⊎ (p ≡ q)
  given_cases q given = Contains-push_cases patterns p q given

  -- a byte that stands in an earlier pattern stands in some pattern
  stands_still : (byte : ℕ) → StandsInSome pairing patterns byte → StandsInSome pairing (patterns ++ p ∷ []) byte
  stands_still byte s = (s.0, s.1, Contains-append_left patterns (p ∷ []) s.0 s.2, s.3, s.4)

  -- what is known with one more pattern
  pub rare-push : IsRareSoFar pairing (patterns ++ p ∷ [])
      (record { few = these; distances = distances; is_short = is_short })
  rare-push =
      record {
        short = λ e q given. elim (given_cases q given) [
          | inl earlier ↦ so_far.short (short_before e) q earlier
          | inr this ↦ subst (λ r. length r < 256) this (short_now e)
        ];
        held = λ q given. elim (given_cases q given) [
          | inl earlier ↦ let h = so_far.held q earlier in
              record { at = h.at; within = h.within; held = λ byte e. chosen.kept byte (h.held byte e) }
          | inr this ↦ subst (λ r. HoldsFew pairing these r) this chosen.held
        ];
        reach = λ e q given. elim (given_cases q given) [
          | inl earlier ↦ λ at byte within h. let a = so_far.reach (short_before e) q earlier at byte within h in
              let b = reached.grown byte in omega arith
          | inr this ↦ subst (λ r. AreDistances pairing distances r) this (reached.reach (short_now e))
        ];
        near = reached.near so_far.near;
        closed = chosen.closed;
        known = λ byte h. elim (chosen.only byte h) [
          | inl old_one ↦ stands_still byte (so_far.known byte old_one)
          | inr new_one ↦
              (p, new_one.0, Contains-append_right patterns (p ∷ []) p (Contains-head []), new_one.1, new_one.2)
        ];
      }
