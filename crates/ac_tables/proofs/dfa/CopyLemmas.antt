-- A copy of a table is that of the same dictionary.
use Rattle.std.proofs.Common.{◌≡◌, ℕ, zero, suc, ◌+◌, ◌-◌, ◌<◌, ◌≤◌, ◌≢◌, ◌↔◌, [], length, take, drop, refl, sym, ap, ap₂, subst, ◌∙◌, arith}
use Rattle.std.specs.Prelude.{slice_index, ◌==◌, ◌&&◌, ◌/◌, not, nat_le, if◌then◌else◌}
use Rattle.std.proofs.Math.Logic.{∥∥₁_map}
use Rattle.ac_input.specs.Alphabet.{class}
use Rattle.ac_input.specs.Dictionary.{Dictionary}
use Rattle.ac_input.specs.Failure.{IsList}
use Rattle.ac_input.specs.Input.{is_anchored}
use Rattle.ac_automaton.specs.Named.{Naming, IsStep}
use Rattle.ac_tables.specs.declared.dfa.lists.Lists.{Lists}
use Rattle.ac_tables.specs.declared.dfa.table.Table.{Table}
use Rattle.ac_tables.specs.Dfa.Copy.{AreSameLists, IsSameDfaTable}
use Rattle.ac_tables.specs.Dfa.Table.{list_start, dfa_list_of, list_index, stride_of, dfa_matches_by, AreDfaRows}

-- ---- lists

end-same : (old new : Lists) (k : ℕ) → AreSameLists old new
    → slice_index new.ends.items k ≡ slice_index old.ends.items k
end-same old new k s = ap (λ xs. slice_index xs k) s.ends

start-same : (old new : Lists) (k : ℕ) → AreSameLists old new → list_start new k ≡ list_start old k
start-same old new zero s = refl
start-same old new (suc k) s = end-same old new k s

-- each list of a copy is the old list
list-same : (old new : Lists) (k : ℕ) → AreSameLists old new → dfa_list_of new k ≡ dfa_list_of old k
list-same old new k s =
    ap₂ (λ b a. take (b - a) (drop a new.patterns.items)) (end-same old new k s) (start-same old new k s)
    ∙ ap (λ xs. take (slice_index old.ends.items k - list_start old k) (drop (list_start old k) xs)) s.patterns

-- ---- a table whose vectors are replaced by equal ones

-- the old table with the new one's vectors
abbrev moved : Table → Table → Table
moved old new = record old { trans = new.trans; lists = new.lists }

-- with the new vectors each number has its old patterns
matches-same : (old new : Table) (sid : ℕ) → IsSameDfaTable old new
    → dfa_matches_by (moved old new) sid ≡ dfa_matches_by old sid
matches-same old new sid s =
    ap (λ list. if not (sid == 0) && nat_le sid old.max_match then list else [])
    (list-same old.lists new.lists (list_index old.kind (sid / stride_of old)) s.lists)

-- the old table with the new vectors is that of the dictionary
moved-rows : (m : Dictionary) (old new : Table) (names : Naming) → IsSameDfaTable old new → AreDfaRows m old names
    → AreDfaRows m (moved old new) names
moved-rows m old new names s h =
    let long = ap length s.trans in
    let ends = ap length s.lists.ends in
    let patterns = ap length s.lists.patterns in
    record {
      classes = h.classes;
      alone = h.alone;
      within = λ a sid met. let w = h.within a sid met in (let room = w.0 in omega (arith, room, long), w.1);
      rows = h.rows;
      dead = h.dead;
      steps = λ anchored sid byte serves met small.
          subst (λ xs. IsStep m names (is_anchored anchored) sid byte (slice_index xs (sid + class old.classes byte)))
          (sym s.trans) (h.steps anchored sid byte serves met small);
      first = h.first;
      starting = h.starting;
      lists = λ a sid text met is. subst (IsList m text) (sym (matches-same old new sid s)) (h.lists a sid text met is);
      matching = λ a sid met some. subst (λ ns. (ns ≢ []) ↔ (sid ≤ old.max_match)) (sym (matches-same old new sid s))
          (h.matching a sid met some);
      listed = λ a sid met some le. let l = h.listed a sid met some le in omega (arith, l, ends);
      ranges = record {
        rising = λ k lt. let up = h.ranges.rising k (omega (arith, lt, ends)) in
            let b = end-same old.lists new.lists k s.lists in let a = start-same old.lists new.lists k s.lists in
            omega (arith, up, a, b);
        within = λ k lt. let w = h.ranges.within k (omega (arith, lt, ends)) in
            let b = end-same old.lists new.lists k s.lists in omega (arith, w, b, patterns);
      };
      unanchored = h.unanchored;
      only = h.only;
      greatest = h.greatest;
      wide = h.wide;
      starts = h.starts;
      known = λ k lt. subst (λ xs. slice_index xs k < length m.patterns) (sym s.lists.patterns)
          (h.known k (omega (arith, lt, patterns)));
    }

-- the old table with the new vectors is the new table
moved-is : (old new : Table) → IsSameDfaTable old new → moved old new ≡ new
moved-is old new s = λ i. record (moved old new) {
  classes = sym s.classes i;
  stride2 = sym s.stride2 i;
  start = sym s.start i;
  start_anchored = sym s.start_anchored i;
  max_match = sym s.max_match i;
  kind = sym s.kind i;
}

-- a copy is that of the same dictionary
pub copy-rows : (m : Dictionary) (old new : Table) → IsSameDfaTable old new
    → (∥ ((names : Naming) × AreDfaRows m old names) ∥₁) → (∥ ((names : Naming) × AreDfaRows m new names) ∥₁)
copy-rows m old new s h =
    ∥∥₁_map h (λ w. (w.0, subst (λ t. AreDfaRows m t w.0) (moved-is old new s) (moved-rows m old new w.0 s w.1)))
