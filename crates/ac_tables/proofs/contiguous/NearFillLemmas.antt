-- How the rows of the states near the start are filled.
use Rattle.std.proofs.Common.{◌≡◌, ◌≢◌, ⊎_elim, ℕ, zero, suc, ◌+◌, ◌*◌, ◌^◌, ◌<◌, ◌≤◌, ◌/◌, false, IsTrue, List, [], ◌∷◌, ◌++◌, length, None, Some, refl, sym, ap, subst, ◌∙◌, arith, length-set}
use Rattle.std.specs.Prelude.{slice_index, slice_set}
use Rattle.std.proofs.Math.Logic.{∥∥₁_map}
use Rattle.std.proofs.Math.Nat.{mul-le-mul_right}
use Rattle.std.proofs.lemmas.Bool.{cases_lt, cases_eq}
use Rattle.std.proofs.lemmas.List.{get_or-set_same, get_or-set_other}
use Rattle.ac_input.specs.Number.{greatest_number}
use Rattle.ac_input.specs.Alphabet.{alphabet_len, class, IsClasses}
use Rattle.ac_input.specs.Alphabet.Classes.{ClassesLeadAlike}
use Rattle.ac_input.specs.Dictionary.{Dictionary}
use Rattle.ac_input.specs.declared.steps.Steps.{Steps}
use Rattle.ac_input.specs.States.{LeadsTo}
use Rattle.ac_automaton.specs.Named.{Naming, IsStep, IsEdgeBy, IsFailureBy, AreNumbers, nowhere}
use Rattle.ac_automaton.proofs.automaton.LinkedLemmas.{straight, stuck, following-none, following-more}
use Rattle.ac_automaton.proofs.automaton.NamedLemmas.{stands-for}
use Rattle.ac_tables.specs.Contiguous.Near.{AreNearRows, LeadsToNumber, IsNumberOf, place_by}
use Rattle.ac_tables.specs.Contiguous.NearReads.{AreBytesOf, FailsToNumber, HasCopiedRow, IsFailureRow, HasFilledAll, HasFilledPart, HasFilledTo, HasPut, HasPutEdges, LeadsByEntry, IsByteOfClass}
use Rattle.ac_tables.specs.Contiguous.Reads.{contiguous_dictionary, IsLaidOut, IsMet, LooksUp}
use Rattle.ac_tables.specs.Contiguous.Rows.{AreRowsIfAny, row_len}
use Rattle.ac_tables.specs.Contiguous.WordReads.{ByteLeadsTo, FailsAt, ListsEdges, edge_class}
use Rattle.ac_tables.specs.declared.contiguous.NFA.{NFA}
use Rattle.ac_tables.specs.declared.contiguous.rows.Rows.{Rows}
use Rattle.ac_tables.specs.declared.contiguous.table.Table.{Table}
use Rattle.ac_tables.proofs.contiguous.CutLemmas.{row-room}
use Rattle.ac_tables.proofs.contiguous.FollowLemmas.{laid-edge, laid-failure, laid-numbers}

-- ---- the places

-- unanchored searches may come to the state after a look-up
pub met-next : (nfa : NFA) (sid byte next : ℕ) (before after : Steps) → IsMet nfa false sid
    → LooksUp nfa false 0 sid byte next before after → IsMet nfa false next
met-next nfa sid byte next before after h looks = ∥∥₁_map h (λ w. (w.0, w.1, (looks w.0 w.1 w.2).0.met))

-- unanchored searches may come to the state to which a transition leads
pub met-step : (nfa : NFA) (sid byte next : ℕ) → byte < 256 → IsMet nfa false sid → ByteLeadsTo nfa.table sid byte next
    → next ≢ nowhere → IsMet nfa false next
met-step nfa sid byte next small h leads some = ∥∥₁_map h (λ w.
    let edge = laid-edge nfa false sid byte next small leads w.0 w.1 w.2 in (
      w.0,
      w.1,
      (straight (contiguous_dictionary nfa) w.0 nfa.table.start false sid byte next (laid-numbers nfa w.0 w.1) edge w.2
          some).step.met,
    ))

-- ---- entries

-- where a look-up leads, its number leads
pub number-leads : (nfa : NFA) (near : Rows) (place byte next number : ℕ) (before after : Steps) → nfa.rows ≡ None
    → LooksUp nfa false 0 place byte next before after → IsNumberOf near next number
    → LeadsToNumber (contiguous_dictionary nfa) nfa.table near.places.items (row_len near) place byte number
number-leads nfa near place byte next number before after alone looks is = (
  is.0,
  λ names fits met.
      let laid : IsLaidOut nfa names =
      (fits.0, fits.1, subst (AreRowsIfAny (contiguous_dictionary nfa) nfa.table.classes names) (sym alone) tt) in
      subst (IsStep (contiguous_dictionary nfa) names false place byte) (sym is.1) (looks names laid met).0,
)

-- where a transition leads, its number leads
pub number-straight : (nfa : NFA) (near : Rows) (place byte next number : ℕ) → nfa.rows ≡ None → byte < 256
    → ByteLeadsTo nfa.table place byte next → next ≢ nowhere → IsNumberOf near next number
    → LeadsToNumber (contiguous_dictionary nfa) nfa.table near.places.items (row_len near) place byte number
number-straight nfa near place byte next number alone small leads some is = (
  is.0,
  λ names fits met.
      let m = contiguous_dictionary nfa in
      let laid : IsLaidOut nfa names =
      (fits.0, fits.1, subst (AreRowsIfAny m nfa.table.classes names) (sym alone) tt) in
      let edge = laid-edge nfa false place byte next small leads names laid met in
      subst (IsStep m names false place byte) (sym is.1)
      (straight m names nfa.table.start false place byte next (laid-numbers nfa names laid) edge met some).step,
)

-- a byte that a state has no transition for leads where it does from the state's failure
step-failed : (m : Dictionary) (names : Naming) (start sid byte fail next : ℕ) → AreNumbers m names start
    → IsTrue (names.met false sid) → IsEdgeBy m names start sid byte nowhere → IsFailureBy m names sid fail
    → IsStep m names false fail byte next → IsStep m names false sid byte next
step-failed m names start sid byte fail next numbers met edge failure step =
    let s = stuck m names start sid byte nowhere edge refl in
    let h = following-more numbers (following-none {m = m} {names = names} {sid = sid} {byte = byte} met) s failure in
    let is = s.is in
    record {
      met = step.met;
      dead = λ none. absurd (cc);
      leads = λ text at. ⊎_elim
          (λ (none : names.text fail ≡ None).
          subst (LeadsTo m false (text ++ byte ∷ [])) (sym (step.dead none)) (h.dead text at none))
          (λ (state : (v : List ℕ) × (names.text fail ≡ Some v)).
          h.leads text state.0 (names.text next) at state.1 (step.leads state.0 state.1))
          (stands-for names {sid = fail});
    }

-- so the number to which it leads is the same
pub number-failed : (nfa : NFA) (near : Rows) (place byte next number : ℕ) → nfa.rows ≡ None → byte < 256
    → ByteLeadsTo nfa.table place byte next → next ≡ nowhere → FailsToNumber nfa near place byte number
    → LeadsToNumber (contiguous_dictionary nfa) nfa.table near.places.items (row_len near) place byte number
number-failed nfa near place byte next number alone small leads none failed = (
  failed.2.0,
  λ names fits met.
      let m = contiguous_dictionary nfa in
      let laid : IsLaidOut nfa names =
      (fits.0, fits.1, subst (AreRowsIfAny m nfa.table.classes names) (sym alone) tt) in
      let edge = laid-edge nfa false place byte next small leads names laid met in
      let failure = laid-failure nfa place failed.0 failed.1 names laid met in
      step-failed m names nfa.table.start place byte failed.0 _ (laid-numbers nfa names laid) met
      (subst (IsEdgeBy m names nfa.table.start place byte) none edge) failure (failed.2.1 names fits failure.met),
)

-- an entry of rows that were changed is one of rows with the same places and stride
pub entry-same : (nfa : NFA) (old new : Rows) (row byte number : ℕ) → new.places.items ≡ old.places.items
    → new.stride2 ≡ old.stride2 → LeadsByEntry nfa new row byte number → LeadsByEntry nfa old row byte number
entry-same nfa old new row byte number places stride h =
    subst (λ ps. LeadsToNumber (contiguous_dictionary nfa) nfa.table ps (row_len old) (slice_index ps row) byte number)
    places
    (subst (λ s. LeadsToNumber (contiguous_dictionary nfa) nfa.table new.places.items (2 ^ s)
    (slice_index new.places.items row) byte number) stride h)

-- nothing is filled yet
pub part-none : (nfa : NFA) (bytes : List ℕ) (row : ℕ) (old : Rows) → HasFilledPart nfa bytes row 0 old old
part-none nfa bytes row old = record {
  places = refl;
  index = refl;
  stride = refl;
  len = refl;
  before = λ at less. refl;
  filled = λ k less. absurd (omega (arith, less));
}

-- one entry more is filled
pub part-more : (nfa : NFA) (bytes : List ℕ) (row count at number : ℕ) (old now new : Rows)
    → HasFilledPart nfa bytes row count old now → at ≡ row * row_len old + count → at < length now.trans.items
    → HasPut at number now new → LeadsByEntry nfa now row (slice_index bytes count) number
    → HasFilledPart nfa bytes row (count + 1) old new
part-more nfa bytes row count at number old now new h is within put entry = record {
  places = put.places ∙ h.places;
  index = put.index ∙ h.index;
  stride = put.stride ∙ h.stride;
  len = ap length put.trans ∙ (length-set now.trans.items at number ∙ h.len);
  before = λ i less. ap (λ l. slice_index l i) put.trans
      ∙ (get_or-set_other now.trans.items at i number 0 (λ e. omega (arith, e, less, is)) ∙ h.before i less);
  filled = λ k less. ⊎_elim
      (λ (low : k < count).
      let same : slice_index new.trans.items (row * row_len old + k) ≡ slice_index now.trans.items (row * row_len old + k) =
      ap (λ l. slice_index l (row * row_len old + k)) put.trans
      ∙ get_or-set_other now.trans.items at (row * row_len old + k) number 0 (λ e. omega (arith, e, low, is)) in
      subst (LeadsByEntry nfa old row (slice_index bytes k)) (sym same) (h.filled k low))
      (λ (high : count ≤ k).
      let here : k ≡ count = omega (arith, high, less) in
      let same : slice_index new.trans.items (row * row_len old + k) ≡ number =
      ap (slice_index new.trans.items) (ap (λ j. row * row_len old + j) here ∙ sym is)
      ∙ (ap (λ l. slice_index l at) put.trans ∙ get_or-set_same now.trans.items at number 0 within) in
      subst (LeadsByEntry nfa old row (slice_index bytes k)) (sym same)
      (subst (λ j. LeadsByEntry nfa old row (slice_index bytes j) number) (sym here)
      (entry-same nfa old now row (slice_index bytes count) number h.places h.stride entry)))
      (cases_lt k count);
}

-- what is filled of rows is filled, whatever they were before
pub rows-kept : (nfa : NFA) (bytes : List ℕ) (row : ℕ) (old now : Rows) → HasFilledTo nfa bytes row old now
    → HasFilledTo nfa bytes row now now
rows-kept nfa bytes row old now h =
    let len : row_len now ≡ row_len old = ap (λ s. 2 ^ s) h.stride in
    record {
      places = refl;
      index = refl;
      stride = refl;
      len = refl;
      filled = λ r k less within.
          entry-same nfa now old r (slice_index bytes k) _ (sym h.places) (sym h.stride)
          (subst (λ n. LeadsByEntry nfa old r (slice_index bytes k) (slice_index now.trans.items (r * n + k))) (sym len)
          (h.filled r k less within));
    }

-- the entry of an earlier row leads where the failure does
pub part-failed : (nfa : NFA) (bytes : List ℕ) (row from count k place : ℕ) (old now : Rows) → length bytes ≤ row_len old
    → k < length bytes → HasFilledTo nfa bytes row old old → IsFailureRow nfa old row from
    → HasFilledPart nfa bytes row count old now → place ≡ slice_index old.places.items row
    → FailsToNumber nfa now place (slice_index bytes k) (slice_index now.trans.items (from * row_len old + k))
part-failed nfa bytes row from count k place old now letters less before failure h at =
    let byte = slice_index bytes k in
    let size = row-room row from (row_len old) failure.before in
    let same = h.before (from * row_len old + k) (omega (arith, size, less, letters)) in (
      slice_index now.places.items from,
      subst (λ p. FailsAt nfa.table p (slice_index now.places.items from)) (sym at)
          (subst (λ ps. FailsAt nfa.table (slice_index old.places.items row) (slice_index ps from)) (sym h.places) failure.fails),
      subst (LeadsByEntry nfa now from byte) (sym same)
          (entry-same nfa now old from byte _ (sym h.places) (sym h.stride) (before.filled from k failure.before less)),
    )

-- in a copied row nothing is filled yet
pub part-copied : (nfa : NFA) (bytes : List ℕ) (from row : ℕ) (old now : Rows) → HasCopiedRow from row old now
    → HasFilledPart nfa bytes row 0 old now
part-copied nfa bytes from row old now h = record {
  places = h.places;
  index = h.index;
  stride = h.stride;
  len = h.len;
  before = h.before;
  filled = λ k less. absurd (omega (arith, less));
}

-- an entry of a copied row leads where the failure does
pub copied-failed : (nfa : NFA) (bytes : List ℕ) (row from k place : ℕ) (old now : Rows) → length bytes ≤ row_len old
    → k < length bytes → HasFilledTo nfa bytes row old old → IsFailureRow nfa old row from → HasCopiedRow from row old now
    → place ≡ slice_index old.places.items row
    → FailsToNumber nfa now place (slice_index bytes k) (slice_index now.trans.items (row * row_len old + k))
copied-failed nfa bytes row from k place old now letters less before failure h at =
    let size = row-room row from (row_len old) failure.before in
    let same = h.before (from * row_len old + k) (omega (arith, size, less, letters)) in
    subst (FailsToNumber nfa now place (slice_index bytes k)) (same ∙ sym (h.copied k (omega (arith, less, letters))))
    (part-failed nfa bytes row from 0 k place old now letters less before failure (part-copied nfa bytes from row old now h) at)

-- where another entry of the row is put, nothing before the row changes
part-put : (nfa : NFA) (bytes : List ℕ) (row at number : ℕ) (old now new : Rows) → HasFilledPart nfa bytes row 0 old now
    → row * row_len old ≤ at → HasPut at number now new → HasFilledPart nfa bytes row 0 old new
part-put nfa bytes row at number old now new h past put = record {
  places = put.places ∙ h.places;
  index = put.index ∙ h.index;
  stride = put.stride ∙ h.stride;
  len = ap length put.trans ∙ (length-set now.trans.items at number ∙ h.len);
  before = λ i low. ap (λ l. slice_index l i) put.trans
      ∙ (get_or-set_other now.trans.items at i number 0 (λ e. omega (arith, e, low, past)) ∙ h.before i low);
  filled = λ k less. absurd (omega (arith, less));
}

-- a copied row is right but for the entries of the classes by which the state leads on
pub edges-copied : (nfa : NFA) (bytes : List ℕ) (row from len : ℕ) (old now : Rows) → nfa.rows ≡ None
    → length bytes ≤ row_len old → AreBytesOf nfa.table.classes bytes → HasFilledTo nfa bytes row old old
    → IsFailureRow nfa old row from → HasCopiedRow from row old now
    → ListsEdges nfa.table (slice_index old.places.items row) len → HasPutEdges nfa bytes row len 0 old now
edges-copied nfa bytes row from len old now alone letters those before failure h listed = record {
  kept = part-copied nfa bytes from row old now h;
  right = λ k less none.
      let byte = slice_index bytes k in
      let place = slice_index old.places.items row in
      let number = slice_index now.trans.items (row * row_len old + k) in
      let is = those.own k less in
      let leads = number-failed nfa now place byte nowhere number alone is.small
      (listed.others byte (λ at within e. none at (omega arith) within (e ∙ is.same))) refl
      (copied-failed nfa bytes row from k place old now letters less before failure h refl) in
      entry-same nfa old now row byte number h.places h.stride
      (subst (λ p. LeadsToNumber (contiguous_dictionary nfa) nfa.table now.places.items (row_len now) p byte number)
      (sym (ap (λ ps. slice_index ps row) h.places)) leads);
}

-- the entry of one class more is put
pub edges-more : (nfa : NFA) (bytes : List ℕ) (row len count one at number : ℕ) (old now new : Rows)
    → HasPutEdges nfa bytes row len count old now → one ≡ edge_class nfa.table (slice_index old.places.items row) count
    → at ≡ row * row_len old + one → at < length now.trans.items → HasPut at number now new
    → LeadsByEntry nfa now row (slice_index bytes one) number → HasPutEdges nfa bytes row len (count + 1) old new
edges-more nfa bytes row len count one at number old now new h is there within put entry = record {
  kept = part-put nfa bytes row at number old now new h.kept (omega (arith, there)) put;
  right = λ k less none. ⊎_elim
      (λ (here : k ≡ one).
      let same : slice_index new.trans.items (row * row_len old + k) ≡ number =
      ap (slice_index new.trans.items) (ap (λ j. row * row_len old + j) here ∙ sym there)
      ∙ (ap (λ l. slice_index l at) put.trans ∙ get_or-set_same now.trans.items at number 0 within) in
      subst (LeadsByEntry nfa old row (slice_index bytes k)) (sym same)
      (subst (λ j. LeadsByEntry nfa old row (slice_index bytes j) number) (sym here)
      (entry-same nfa old now row (slice_index bytes one) number h.kept.places h.kept.stride entry)))
      (λ (other : k ≢ one).
      let same : slice_index new.trans.items (row * row_len old + k) ≡ slice_index now.trans.items (row * row_len old + k) =
      ap (λ l. slice_index l (row * row_len old + k)) put.trans
      ∙ get_or-set_other now.trans.items at (row * row_len old + k) number 0
      (λ e. other (let n : k ≡ one = omega (arith, e, there) in n)) in
      subst (LeadsByEntry nfa old row (slice_index bytes k)) (sym same)
      (h.right k less (λ i low inside. ⊎_elim
      (λ (last : i ≡ count). λ e. other (sym e ∙ (ap (edge_class nfa.table (slice_index old.places.items row)) last ∙ sym is)))
      (λ (later : i ≢ count). none i (omega (arith, low, later)) inside)
      (cases_eq i count))))
      (cases_eq k one);
}

-- once the entries of all these classes are put, the row is filled
pub edges-all : (nfa : NFA) (bytes : List ℕ) (row len count : ℕ) (old new : Rows) → HasPutEdges nfa bytes row len count old new
    → len ≤ count → HasFilledPart nfa bytes row (length bytes) old new
edges-all nfa bytes row len count old new h done = record {
  places = h.kept.places;
  index = h.kept.index;
  stride = h.kept.stride;
  len = h.kept.len;
  before = h.kept.before;
  filled = λ k less. h.right k less (λ at low inside. absurd (omega (arith, low, inside, done)));
}

-- no row is filled yet
pub rows-none : (nfa : NFA) (bytes : List ℕ) (old : Rows) → HasFilledTo nfa bytes 0 old old
rows-none nfa bytes old = record {
  places = refl;
  index = refl;
  stride = refl;
  len = refl;
  filled = λ row k less within. absurd (omega (arith, less));
}

-- one row more is filled
pub rows-more : (nfa : NFA) (bytes : List ℕ) (row : ℕ) (old now new : Rows) → length bytes ≤ row_len old
    → HasFilledTo nfa bytes row old now → HasFilledPart nfa bytes row (length bytes) now new
    → HasFilledTo nfa bytes (row + 1) old new
rows-more nfa bytes row old now new letters h more =
    let len : row_len now ≡ row_len old = ap (λ s. 2 ^ s) h.stride in
    record {
      places = more.places ∙ h.places;
      index = more.index ∙ h.index;
      stride = more.stride ∙ h.stride;
      len = more.len ∙ h.len;
      filled = λ r k less within. ⊎_elim
          (λ (low : r < row).
          let size = row-room row r (row_len old) low in
          let wide : row * row_len now ≡ row * row_len old = ap (λ n. row * n) len in
          let same = more.before (r * row_len old + k) (omega (arith, size, wide, within, letters)) in
          subst (LeadsByEntry nfa old r (slice_index bytes k)) (sym same) (h.filled r k low within))
          (λ (high : row ≤ r).
          let here : r ≡ row = omega (arith, high, less) in
          let entry = entry-same nfa old now row (slice_index bytes k) _ h.places h.stride (more.filled k within) in
          let at : row * row_len now + k ≡ r * row_len old + k =
          ap (λ n. row * n + k) len ∙ ap (λ n. n * row_len old + k) (sym here) in
          subst (λ n. LeadsByEntry nfa old r (slice_index bytes k) (slice_index new.trans.items n)) at
          (subst (λ n. LeadsByEntry nfa old n (slice_index bytes k) (slice_index new.trans.items (row * row_len now + k)))
          (sym here) entry))
          (cases_lt r row);
    }

-- ---- all rows

-- bytes of one class lead to the same number
alike-number : (m : Dictionary) (table : Table) (places : List ℕ) (stride place b c number : ℕ)
    → ClassesLeadAlike m table.classes → b < 256 → c < 256 → class table.classes b ≡ class table.classes c
    → LeadsToNumber m table places stride place b number → LeadsToNumber m table places stride place c number
alike-number m table places stride place b c number alike b_small c_small same h = (
  h.0,
  λ names fits met.
      let step = h.1 names fits met in
      record {
        met = step.met;
        dead = step.dead;
        leads = λ text is. alike b c b_small c_small same false text (names.text (place_by places stride number)) (step.leads text is);
      },
)

-- the rows are those of the states near the start
pub near-filled : (nfa : NFA) (bytes : List ℕ) (old new : Rows) → ClassesLeadAlike (contiguous_dictionary nfa) nfa.table.classes
    → AreBytesOf nfa.table.classes bytes → length bytes ≤ row_len old
    → length old.trans.items + length nfa.table.words.items ≤ greatest_number
    → HasFilledAll nfa bytes old new → AreNearRows (contiguous_dictionary nfa) nfa.table new
near-filled nfa bytes old new alike those letters room h =
    let len : row_len new ≡ row_len old = ap (λ s. 2 ^ s) h.stride in
    record {
      room = let l = h.len in omega (arith, l, room);
      letters = λ byte small. let w = (those.same byte small).within in omega (arith, w, letters, len);
      lead = λ row byte one small.
          let classes = nfa.table.classes in
          let k : ℕ = class classes byte in
          let is = those.same byte small in
          let i : ℕ = row / row_len new in
          let whole = one.whole in
          let within : i < length old.places.items = let w = one.within in let p = ap length h.places in omega (arith, w, p) in
          let entry = h.filled i k within is.within in
          let at : i * row_len old + k ≡ row + k = ap (λ n. i * n + k) (sym len) ∙ ap (λ n. n + k) whole in
          let there = subst (λ n. LeadsByEntry nfa old i (slice_index bytes k) (slice_index new.trans.items n)) at entry in
          let other = alike-number (contiguous_dictionary nfa) nfa.table old.places.items (row_len old)
          (slice_index old.places.items i) (slice_index bytes k) byte (slice_index new.trans.items (row + k)) alike is.small small
          is.same there in
          entry-same nfa new old i byte (slice_index new.trans.items (row + k)) (sym h.places) (sym h.stride) other;
    }

-- each class below the number of classes is that of a byte
class-had : (classes : List ℕ) → IsClasses classes → (n : ℕ) → n < 256 → (k : ℕ) → k ≤ class classes n
    → (b : ℕ) × (b < 256) × (class classes b ≡ k)
class-had classes is zero within k less = let first = is.first in (0, omega arith, omega (arith, first, less))
class-had classes is (suc n) within k less =
    let up : class classes (suc n) ≡ class classes (n + 1) = ap (class classes) (omega arith) in
    ⊎_elim
    (λ (high : class classes n < k). (
      suc n,
      within,
      ⊎_elim
          (λ (same : class classes (n + 1) ≡ class classes n). absurd (omega (arith, up, same, high, less)))
          (λ (next : class classes (n + 1) ≡ class classes n + 1).
          let e : class classes (suc n) ≡ k = omega (arith, up, next, high, less) in e)
          (is.next n (omega (arith, within))),
    ))
    (λ (low : k ≤ class classes n). class-had classes is n (omega (arith, within)) k low)
    (cases_lt (class classes n) k)

-- where each byte's class has a byte, each class has one
pub bytes-own : (classes bytes : List ℕ) → IsClasses classes → length bytes ≡ alphabet_len classes
    → ((b : ℕ) → b < 256 → IsByteOfClass classes bytes (class classes b))
    → (k : ℕ) → k < length bytes → IsByteOfClass classes bytes k
bytes-own classes bytes is counted h k less =
    let had = class-had classes is 255 (omega arith) k (omega (arith, less, counted)) in
    subst (IsByteOfClass classes bytes) had.2 (h had.0 had.1)

-- one byte more has its class
pub bytes-more : (classes bytes : List ℕ) (byte : ℕ) → byte < 256 → class classes byte < length bytes
    → ((b : ℕ) → b < byte → IsByteOfClass classes bytes (class classes b))
    → (b : ℕ) → b < byte + 1 → IsByteOfClass classes (slice_set bytes (class classes byte) byte) (class classes b)
bytes-more classes bytes byte small within h b less =
    let size = length-set bytes (class classes byte) byte in
    ⊎_elim
    (λ (same : class classes b ≡ class classes byte).
    let here : slice_index (slice_set bytes (class classes byte) byte) (class classes b) ≡ byte =
    ap (slice_index (slice_set bytes (class classes byte) byte)) same
    ∙ get_or-set_same bytes (class classes byte) byte 0 within in
    record {
      within = omega (arith, size, within, same);
      small = omega (arith, here, small);
      same = ap (class classes) here ∙ sym same;
    })
    (λ (other : class classes b ≢ class classes byte).
    let before : b < byte = ⊎_elim (λ (low : b < byte). low)
    (λ (high : byte ≤ b). absurd (other (ap (class classes) (let e : b ≡ byte = omega (arith, high, less) in e)))) (cases_lt b byte) in
    let old = h b before in
    let here = get_or-set_other bytes (class classes byte) (class classes b) byte 0 other in
    let old_small = old.small in
    let old_within = old.within in
    record {
      within = omega (arith, size, old_within);
      small = omega (arith, here, old_small);
      same = ap (class classes) here ∙ old.same;
    })
    (cases_eq (class classes b) (class classes byte))

-- fewer rows than there may be fit, too
pub rows-fit : (most count words stride : ℕ) → count ≤ most → most * stride + words ≤ greatest_number
    → count * stride + words ≤ greatest_number
rows-fit most count words stride few room = let less = mul-le-mul_right stride few in omega (arith, less, room)
