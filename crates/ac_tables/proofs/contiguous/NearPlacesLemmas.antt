-- Which states near the start are found, how deep they are, and what their rows take.
use Rattle.std.proofs.Common.{◌≡◌, ◌≢◌, ◌⊎◌, ⊎_elim, inl, inr, ℕ, ◌+◌, ◌-◌, ◌*◌, ◌/◌, ◌<◌, ◌≤◌, false, List, [], ◌∷◌, ◌++◌, length, None, Option, Some, refl, sym, ap, subst, ◌∙◌, arith, length-append}
use Rattle.std.specs.Prelude.{IfSome, IsPermutation, slice_index}
use Rattle.std.proofs.Math.Logic.{∥∥₁_map}
use Rattle.std.proofs.Math.Nat.{div-mul-le_self, le-mul_of_pos_right, mul-le-mul_right}
use Rattle.std.proofs.Math.Seq.{get_or-append_seam}
use Rattle.std.proofs.lemmas.Bool.{cases_lt, cases_eq}
use Rattle.std.proofs.lemmas.Grind.{get_or_default_zero}
use Rattle.std.proofs.lemmas.List.{get_or_append_left}
use Rattle.std.proofs.lemmas.List.Sorted.{All-permutation, length_permutation}
use Rattle.ac_input.specs.Dictionary.{Dictionary}
use Rattle.ac_input.specs.Number.{greatest_number}
use Rattle.ac_input.specs.declared.search.Anchored.TheVariants.{No}
use Rattle.ac_automaton.specs.Named.{nowhere, Naming, IsNamed}
use Rattle.ac_automaton.proofs.automaton.LinkedLemmas.{straight}
use Rattle.ac_automaton.proofs.automaton.NamedLemmas.{read-from, read-next}
use Rattle.ac_tables.specs.Contiguous.Filled.{entry_bytes, index_block, index_entries}
use Rattle.ac_tables.specs.Contiguous.NearReads.{near_depth, AreFound, AreFoundBy, AreNearWithin, AreNextsFound, ArePlacesNear, HasRoomNear, IsFoundTo, IsMetWithin, IsNextFound}
use Rattle.ac_tables.specs.Contiguous.Reads.{contiguous_dictionary, contiguous_named_states, IsContiguousMadeOf, IsMet}
use Rattle.ac_tables.specs.Contiguous.Rows.{AreRowsIfAny, row_len}
use Rattle.ac_tables.specs.Contiguous.Table.{AreStates}
use Rattle.ac_tables.specs.Contiguous.WordReads.{ByteLeadsTo}
use Rattle.ac_tables.specs.Contiguous.Words.{StateParts}
use Rattle.ac_tables.specs.declared.contiguous.NFA.{NFA}
use Rattle.ac_tables.specs.declared.contiguous.rows.Rows.{Rows}
use Rattle.ac_tables.specs.declared.contiguous.table.Table.{Table}
use Rattle.ac_tables.proofs.contiguous.FollowLemmas.{laid-edge, laid-numbers}
use Rattle.ac_tables.proofs.contiguous.NameLemmas.{names-are, read-is_met, start-read}
use Rattle.ac_tables.proofs.contiguous.NearLemmas.{met-within}

-- ---- how deep a state is

-- a state to which a search comes within some depth is one to which it may come
pub within-met : (nfa : NFA) (depth place : ℕ) → IsMetWithin nfa depth place → IsMet nfa false place
within-met nfa depth place h = read-is_met nfa No place (∥∥₁_map h (λ w. (w.0, w.2)))

-- the start is met before a byte is read
pub within-start : (nfa : NFA) (depth : ℕ) → IsMetWithin nfa depth nfa.table.start
within-start nfa depth = ∣ ([], omega arith, start-read nfa No nfa.table.start refl) ∣₁

-- a state is no deeper than a greater depth
within-more : (nfa : NFA) (depth more place : ℕ) → depth ≤ more → IsMetWithin nfa depth place
    → IsMetWithin nfa more place
within-more nfa depth more place less h = ∥∥₁_map h (λ w. (w.0, (let few = w.1 in omega (arith, few, less)), w.2))

-- the state to which a transition leads is at most one deeper
within-next : (nfa : NFA) (depth sid byte next : ℕ) → byte < 256 → ByteLeadsTo nfa.table sid byte next → next ≢ nowhere
    → IsMetWithin nfa depth sid → IsMetWithin nfa (depth + 1) next
within-next nfa depth sid byte next small leads some h = ∥∥₁_map h (λ w. (
  w.0 ++ byte ∷ [],
  (let few = w.1 in let long = length-append w.0 (byte ∷ []) in omega (arith, few, long)),
  read-next (contiguous_named_states nfa) No sid byte next (names-are nfa)
      (λ names fits met.
      let edge = laid-edge nfa false sid byte next small leads names fits met in
      (straight (contiguous_dictionary nfa) names nfa.table.start false sid byte next (laid-numbers nfa names fits) edge
      met some).step) w.0 w.2,
))

-- ---- the places that are found

-- one place more is found, of a state at most one deeper
found-more : (nfa : NFA) (most first depth next : ℕ) (found : List ℕ) → AreFoundBy nfa most first depth found
    → length found < most → IsMetWithin nfa (depth + 1) next → AreFoundBy nfa most first depth (found ++ next ∷ [])
found-more nfa most first depth next found h room deep =
    let long : length (found ++ next ∷ []) ≡ length found + 1 = length-append found (next ∷ []) in
    let within = h.within in
    record {
      few = omega (arith, long, room);
      within = omega (arith, long, within);
      near = λ i less. subst (IsMetWithin nfa depth)
          (sym (get_or_append_left found (next ∷ []) 0 i (omega (arith, less, within)))) (h.near i less);
      all = λ i less. ⊎_elim
          (λ (low : i < length found).
          subst (IsMetWithin nfa (depth + 1)) (sym (get_or_append_left found (next ∷ []) 0 i low)) (h.all i low))
          (λ (high : length found ≤ i).
          let here : i ≡ length found = omega (arith, high, less, long) in
          subst (IsMetWithin nfa (depth + 1))
          (sym (ap (slice_index (found ++ next ∷ [])) here ∙ get_or-append_seam found next [] 0)) deep)
          (cases_lt i (length found));
    }

-- the next state by a byte
pub nexts-child : (nfa : NFA) (most sid byte next : ℕ) (old new : List ℕ) → byte < 256
    → ByteLeadsTo nfa.table sid byte next → IsNextFound most next old new → AreNextsFound nfa most sid old new
nexts-child nfa most sid byte next old new small leads is = λ first depth deep h. ⊎_elim
    (λ (same : new ≡ old). subst (AreFoundBy nfa most first depth) (sym same) h)
    (λ (more : (next ≢ nowhere) × (length old < most) × (new ≡ old ++ next ∷ [])).
    subst (AreFoundBy nfa most first depth) (sym more.2)
    (found-more nfa most first depth next old h more.1 (within-next nfa depth sid byte next small leads more.0 deep)))
    is

-- the start is found first
pub found-start : (nfa : NFA) (most : ℕ) → 0 < most → IsFoundTo nfa most 0 1 0 (nfa.table.start ∷ [])
found-start nfa most some =
    let start : (depth i : ℕ) → i < 1 → IsMetWithin nfa depth (slice_index (nfa.table.start ∷ []) i) =
    λ depth i less. let e : i ≡ 0 = omega (arith, less) in
    subst (λ k. IsMetWithin nfa depth (slice_index (nfa.table.start ∷ []) k)) (sym e) (within-start nfa depth) in
    record {
      by = record {
        few = omega (arith, some);
        within = omega arith;
        near = start 0;
        all = start 1;
      };
      asked = omega arith;
      left = λ _. omega arith;
      near = omega arith;
      last = inl (omega arith);
    }

-- the next states of one more were found
found-after : (nfa : NFA) (most at first depth : ℕ) (old new : List ℕ) → IsFoundTo nfa most at first depth old
    → at < length old → AreNextsFound nfa most (slice_index old at) old new → AreFoundBy nfa most first depth new
found-after nfa most at first depth old new h less nexts =
    nexts first depth (h.by.near at (h.left less)) h.by

-- they are those of a state that isn't the last of its depth
pub found-on : (nfa : NFA) (most at first depth : ℕ) (old new : List ℕ) → IsFoundTo nfa most at first depth old
    → at < length old → depth < near_depth → AreNextsFound nfa most (slice_index old at) old new → at + 1 ≢ first
    → IsFoundTo nfa most (at + 1) first depth new
found-on nfa most at first depth old new h less above nexts other =
    let low = h.left less in
    record {
      by = found-after nfa most at first depth old new h less nexts;
      asked = omega (arith, low);
      left = λ _. omega (arith, low, other);
      near = h.near;
      last = inl above;
    }

-- they are those of the last state of its depth
pub found-deeper : (nfa : NFA) (most at first depth : ℕ) (old new : List ℕ) → IsFoundTo nfa most at first depth old
    → at < length old → depth < near_depth → AreNextsFound nfa most (slice_index old at) old new → at + 1 ≡ first
    → IsFoundTo nfa most (at + 1) (length new) (depth + 1) new
found-deeper nfa most at first depth old new h less above nexts last =
    let by = found-after nfa most at first depth old new h less nexts in
    let within = by.within in
    record {
      by = record {
        few = by.few;
        within = omega arith;
        near = by.all;
        all = λ i less. within-more nfa (depth + 1) (depth + 1 + 1) _ (omega arith) (by.all i less);
      };
      asked = omega (arith, within, last);
      left = λ more. more;
      near = omega (arith, above);
      last = inr refl;
    }

-- where all were asked, or those that were found are as deep as may be, none is deeper
pub found-all : (nfa : NFA) (most at first depth : ℕ) (found : List ℕ) → IsFoundTo nfa most at first depth found
    → (length found ≤ at) ⊎ (near_depth ≤ depth) → AreFound nfa most found
found-all nfa most at first depth found h done =
    let asked = h.asked in
    let all : length found ≤ first = ⊎_elim
    (λ (end : length found ≤ at). let e : length found ≤ first = omega (arith, end, asked) in e)
    (λ (deep : near_depth ≤ depth). ⊎_elim
    (λ (above : depth < near_depth). absurd (omega (arith, deep, above)))
    (λ (same : first ≡ length found). let e : length found ≤ first = omega (arith, same) in e)
    h.last)
    done in
    record {
      few = h.by.few;
      near = λ i d less. subst (IsMetWithin nfa near_depth) (sym (get_or_default_zero found i d less))
          (within-more nfa depth near_depth (slice_index found i) h.near (h.by.near i (omega (arith, less, all))));
    }

-- in any order they are those that were found
pub found-sorted : (nfa : NFA) (most : ℕ) (found sorted : List ℕ) → IsPermutation found sorted → AreFound nfa most found
    → AreFound nfa most sorted
found-sorted nfa most found sorted same h = record {
  few = let few = h.few in let len = length_permutation found sorted same in omega (arith, len, few);
  near = All-permutation (IsMetWithin nfa near_depth) found sorted same h.near;
}

-- ---- those that get rows

-- the start alone
pub near-start : (nfa : NFA) (most : ℕ) → 0 < most → ArePlacesNear nfa most (nfa.table.start ∷ [])
near-start nfa most some = record {
  some = omega arith;
  few = omega (arith, some);
  rise = λ i j less within. absurd (omega (arith, less, within));
  near = λ i within. let e : i ≡ 0 = omega (arith, within) in
      subst (λ k. IsMetWithin nfa near_depth (slice_index (nfa.table.start ∷ []) k)) (sym e)
      (within-start nfa near_depth);
}

-- one place more, past the last one
pub near-more : (nfa : NFA) (most next last : ℕ) (places : List ℕ) → ArePlacesNear nfa most places
    → slice_index places (length places - 1) ≡ last → last < next → length places < most
    → IsMetWithin nfa near_depth next → ArePlacesNear nfa most (places ++ next ∷ [])
near-more nfa most next last places h at past room deep =
    let long : length (places ++ next ∷ []) ≡ length places + 1 = length-append places (next ∷ []) in
    let some = h.some in
    let old : (i : ℕ) → i < length places → slice_index (places ++ next ∷ []) i ≡ slice_index places i =
    λ i less. get_or_append_left places (next ∷ []) 0 i less in
    let new : slice_index (places ++ next ∷ []) (length places) ≡ next = get_or-append_seam places next [] 0 in
    record {
      some = omega (arith, long);
      few = omega (arith, long, room);
      rise = λ i j less within. ⊎_elim
          (λ (low : j < length places). let up = h.rise i j less low in
          omega (arith, up, old i (let k : i < length places = omega (arith, less, low) in k), old j low))
          (λ (high : length places ≤ j).
          let here : j ≡ length places = omega (arith, high, within, long) in
          let there : slice_index (places ++ next ∷ []) j ≡ next = ap (slice_index (places ++ next ∷ [])) here ∙ new in
          let low : i < length places = omega (arith, less, here) in
          ⊎_elim
          (λ (end : i ≡ length places - 1).
          let same = ap (slice_index places) end in
          omega (arith, old i low, same, at, past, there))
          (λ (other : i ≢ length places - 1).
          let up = h.rise i (length places - 1) (omega (arith, low, other)) (omega (arith, some)) in
          omega (arith, old i low, up, at, past, there))
          (cases_eq i (length places - 1)))
          (cases_lt j (length places));
      near = λ i within. ⊎_elim
          (λ (low : i < length places). subst (IsMetWithin nfa near_depth) (sym (old i low)) (h.near i low))
          (λ (high : length places ≤ i).
          let here : i ≡ length places = omega (arith, high, within, long) in
          subst (IsMetWithin nfa near_depth) (sym (ap (slice_index (places ++ next ∷ [])) here ∙ new)) deep)
          (cases_lt i (length places));
    }

-- ---- what their rows take

-- as many things of one size as there is room for
room-for : (most total size : ℕ) → most ≤ total / size → most * size ≤ total
room-for most total size less =
    let fits = div-mul-le_self total size in
    let all = mul-le-mul_right size less in
    omega (arith, fits, all)

-- there is room for some rows, if no more are made than the numbers and the memory have room for
pub room-near : (nfa : NFA) (stride memory numbers entries most : ℕ) → 0 < most → 0 < stride → most ≤ numbers / stride
    → most ≤ entries / (stride + 1) → (0 < numbers → numbers + length nfa.table.words.items ≤ greatest_number)
    → (0 < entries → entries + (length nfa.table.words.items / index_block + 1) ≤ memory / entry_bytes)
    → HasRoomNear nfa stride memory most
room-near nfa stride memory numbers entries most some wide less few left room =
    let those = room-for most numbers stride less in
    let all = room-for most entries (stride + 1) few in
    let one : most ≤ most * stride = le-mul_of_pos_right most wide in
    record {
      numbers = let l = left (omega (arith, some, those, one)) in omega (arith, l, those);
      small = let r = room (omega (arith, some, all, one)) in omega (arith, r, all);
    }

-- the rows of so many states take no more than there is room for
pub near-small : (nfa : NFA) (memory most : ℕ) (rows : Rows) → HasRoomNear nfa (row_len rows) memory most
    → ArePlacesNear nfa most rows.places.items → length rows.index.items ≡ index_entries rows.places.items
    → AreNearWithin nfa memory rows
near-small nfa memory most rows room h index =
    let last = length rows.places.items - 1 in
    let some = h.some in
    let within = met-within nfa (slice_index rows.places.items last)
    (within-met nfa near_depth (slice_index rows.places.items last) (h.near last (omega (arith, some)))) in
    let wide = mul-le-mul_right (row_len rows + 1) h.few in
    let len = rows.len in
    let small = room.small in
    record {
      near = h.near;
      small = omega (arith, within, wide, len, small, index);
    }

-- ---- an automaton with the same words

-- by some naming of words and rows, a text leads to the state at a place
abbrev IsReachedBy : Dictionary → Table → Option Rows → List ℕ → ℕ → Type 0
IsReachedBy m table rows text place =
    ∥ ((names : Naming)
    × ((parts : ℕ → StateParts) × AreStates m table names parts × AreRowsIfAny m table.classes names rows)
    × IsNamed m names false text place) ∥₁

-- the rows near the start are those of an automaton that differs in them alone
pub near-same : (old new : NFA) (memory : ℕ) (rows : Rows)
    → IsContiguousMadeOf (contiguous_dictionary old) old.table old.rows old.prefilter new
    → AreNearWithin old memory rows → AreNearWithin new memory rows
near-same old new memory rows same h = record {
  near = λ i less.
      let place = slice_index rows.places.items i in
      let m = contiguous_dictionary old in
      ∥∥₁_map (h.near i less) (λ w. (
        w.0,
        w.1,
        read-from (contiguous_named_states new) No w.0 place (names-are new)
            (subst (λ m. IsReachedBy m new.table new.rows w.0 place) (sym same.dictionary)
            (subst (λ t. IsReachedBy m t new.rows w.0 place) (sym same.table)
            (subst (λ r. IsReachedBy m old.table r w.0 place) (sym same.rows) w.2.reached))),
      ));
  small = h.small;
}

-- the same, if there are any
pub near-same-any : (old new : NFA) (memory : ℕ) (near : Option Rows)
    → IsContiguousMadeOf (contiguous_dictionary old) old.table old.rows old.prefilter new
    → IfSome near (AreNearWithin old memory) → IfSome near (AreNearWithin new memory)
near-same-any old new memory None same h = h
near-same-any old new memory (Some rows) same h = near-same old new memory rows same h
