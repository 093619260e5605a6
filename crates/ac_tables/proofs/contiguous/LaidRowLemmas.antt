-- Rows that are filled from an automaton are those of its dictionary, by the naming of the places.
use Rattle.std.proofs.Common.{◌≡◌, ℕ, ◌+◌, ◌-◌, ◌*◌, ◌<◌, ◌≤◌, false, IsTrue, List, [], ◌∷◌, ◌++◌, length, Option, Some, None, inl, refl, sym, ap, subst, ◌∙◌, arith}
use Rattle.std.specs.Prelude.{◌/◌, ◌^◌, slice_index, IfSome, Bool}
use Rattle.std.proofs.Math.Nat.{mul-le-mul_right}
use Rattle.ac_input.specs.Alphabet.{class}
use Rattle.ac_input.specs.Number.{greatest_number}
use Rattle.ac_input.specs.declared.search.StartKind.TheVariants.{Unanchored}
use Rattle.ac_input.specs.declared.search.Anchored.TheVariants.{No}
use Rattle.ac_input.specs.States.{LeadsTo}
use Rattle.ac_automaton.specs.Named.{Naming, IsStep}
use Rattle.ac_noncontiguous.specs.declared.nfa.NFA.{NFA}
use Rattle.ac_noncontiguous.specs.Nfa.{state_of}
use Rattle.ac_noncontiguous.specs.Nfa.Reads.{dictionary}
use Rattle.ac_noncontiguous.specs.Nfa.ReadCalls.{state_len, MayBeMet, LeadsIn, IsReadable}
use Rattle.ac_tables.specs.Contiguous.Table.{place_in}
use Rattle.ac_tables.specs.Contiguous.Build.{ArePlacesIn, AreRowsFrom, HasStride}
use Rattle.ac_tables.specs.Source.{AreClassesFor}
use Rattle.ac_tables.specs.Dfa.Filling.{IsFit, AreRowsUpTo}
use Rattle.ac_tables.specs.Contiguous.Rows.{AreUnanchoredRows, AreRowsIfAny, AreSameIfAny, row_len, place_in_row, IsRowIn}
use Rattle.ac_tables.specs.Contiguous.Cut.{Rise}
use Rattle.ac_tables.specs.declared.contiguous.rows.Rows.{Rows}
use Rattle.ac_input.specs.Dictionary.{Dictionary}
use Rattle.ac_tables.proofs.contiguous.CutLemmas.{row-is}
use Rattle.ac_tables.proofs.dfa.BuildLemmas.{chosen-fit}
use Rattle.ac_tables.proofs.contiguous.PlacesLemmas.{met-stands, met-unanchored, named-state, is_met}
use Rattle.ac_tables.proofs.contiguous.StandLemmas.{place-rises, place-one}
use Rattle.ac_tables.proofs.contiguous.LayLemmas.{Laid, start_in, names_in, text-some, text-none, met-at, text-at, met-but}

-- ---- places

-- the places of the states rise
pub places-rise : (nfa : NFA) (dense_depth : ℕ) (classes places : List ℕ) → ArePlacesIn nfa dense_depth classes places
    → Rise places
places-rise nfa dense_depth classes places h i j lt within =
    let counted = h.counted in
    let a = h.at i (omega (arith, lt, within, counted)) in
    let b = h.at j (omega (arith, within, counted)) in
    let up = place-rises nfa dense_depth classes i j lt in
    omega (arith, a, b, up)

-- ---- one step

-- where a byte leads from a state, with all failures followed, is a step of the place
step-named : (nfa : NFA) (dense_depth : ℕ) (classes : List ℕ) (text : ℕ → List ℕ) (i byte next : ℕ)
    → Laid nfa text dense_depth classes → i < state_len nfa → IsTrue (is_met (start_in nfa) false i)
    → LeadsIn nfa No i byte next → IsStep (dictionary nfa) (names_in nfa dense_depth classes text) false
    (place_in nfa dense_depth classes i) byte (place_in nfa dense_depth classes next)
step-named nfa dense_depth classes text i byte next h i_in i_met leads =
    let names = names_in nfa dense_depth classes text in
    let place = place_in nfa dense_depth classes in
    let stands = met-stands (start_in nfa) false i i_met in
    let next_in = leads.met.within in
    let next_met = met-but (start_in nfa) next leads.met.stands leads.met.own in
    let from : names.text (place i) ≡ state_of text i = text-at nfa dense_depth classes text false i i_in i_met in
    let to : names.text (place next) ≡ state_of text next =
    text-at nfa dense_depth classes text false next next_in next_met in
    record {
      met = met-at nfa dense_depth classes text false next next_in next_met;
      dead = λ none. to ∙ ap (state_of text) (leads.dead (text-none text i stands (sym from ∙ none)));
      leads = λ t some.
          let p = text-some text i t (sym from ∙ some) in
          subst (LeadsTo (dictionary nfa) false (t ++ byte ∷ [])) (sym to)
          (subst (λ v. LeadsTo (dictionary nfa) false (v ++ byte ∷ []) (state_of text next)) p.1
          (leads.leads text h.stand p.0));
    }

-- ---- the rows

-- What a row gives for a byte: where the byte leads, and that there is a row there, too.
record IsRowStep (nfa : NFA) (dense_depth : ℕ) (classes : List ℕ) (text : ℕ → List ℕ) (rows : Rows)
    (row byte : ℕ) : Type 0 where
  one : IsRowIn rows (slice_index rows.trans.items (row + class classes byte))
  step : IsStep (dictionary nfa) (names_in nfa dense_depth classes text) false (place_in_row rows row) byte
      (place_in_row rows (slice_index rows.trans.items (row + class classes byte)))

row-step : (nfa : NFA) (dense_depth : ℕ) (classes places : List ℕ) (text : ℕ → List ℕ) (rows : Rows) (row byte : ℕ)
    → Laid nfa text dense_depth classes → ArePlacesIn nfa dense_depth classes places
    → AreRowsFrom nfa classes places rows → IsRowIn rows row
    → IsTrue ((names_in nfa dense_depth classes text).met false (place_in_row rows row)) → byte < 256
    → IsRowStep nfa dense_depth classes text rows row byte
row-step nfa dense_depth classes places text rows row byte h laid made one met small =
    let place = place_in nfa dense_depth classes in
    let stride = row_len rows in
    let start = start_in nfa in
    let counted = laid.counted in
    let long = ap length made.at in
    let inside = one.within in
    let k : ℕ = row / stride in
    let k_in : k < state_len nfa = omega (arith, inside, long, counted) in
    let at : place_in_row rows row ≡ place k = ap (λ ps. slice_index ps k) made.at ∙ laid.at k k_in in
    let s = named-state (state_of text) (state_len nfa) start (λ _ i. place i) false (place_in_row rows row) met in
    let same : s.0 ≡ k = place-one nfa dense_depth classes s.0 k (s.3 ∙ at) in
    let k_met : IsTrue (is_met start false k) = subst (λ i. IsTrue (is_met start false i)) same s.2 in
    let may : MayBeMet nfa No k =
    record { within = k_in; stands = met-stands start false k k_met; own = met-unanchored start k k_met } in
    let cell = made.filled.right No k refl may (inl k_in) byte small in
    let next = cell.0 in
    let leads = cell.1.0 in
    let next_in = leads.met.within in
    let some : 0 < stride = let letter = made.fit.letters byte small in omega (arith, letter) in
    let is : (slice_index rows.trans.items (row + class classes byte)) ≡ next * stride =
    ap (λ n. slice_index rows.trans.items (n + class classes byte)) (sym one.whole) ∙ cell.1.1 in
    let there = row-is rows.places.items stride next some (omega (arith, next_in, long, counted)) in
    let to : place_in_row rows (next * stride) ≡ place next = there.1
    ∙ (ap (λ ps. slice_index ps next) made.at ∙ laid.at next next_in) in
    record {
      one = subst (IsRowIn rows) (sym is) there.0;
      step =
          subst (λ n. IsStep (dictionary nfa) (names_in nfa dense_depth classes text) false (place_in_row rows row) byte
          (place_in_row rows n)) (sym is)
          (subst (λ n. IsStep (dictionary nfa) (names_in nfa dense_depth classes text) false (place_in_row rows row)
          byte n) (sym to)
          (subst (λ n. IsStep (dictionary nfa) (names_in nfa dense_depth classes text) false n byte (place next))
          (sym at)
          (step-named nfa dense_depth classes text k byte next h k_in k_met leads)));
    }

-- the rows of an automaton are those of its dictionary
rows-named : (nfa : NFA) (dense_depth : ℕ) (classes places : List ℕ) (text : ℕ → List ℕ) (rows : Rows)
    → Laid nfa text dense_depth classes → ArePlacesIn nfa dense_depth classes places
    → AreRowsFrom nfa classes places rows
    → AreUnanchoredRows (dictionary nfa) classes (names_in nfa dense_depth classes text) (row_len rows) rows.trans.items
    rows.places.items
rows-named nfa dense_depth classes places text rows h laid made = record {
  letters = made.fit.letters;
  lead = λ row byte one met small.
      (row-step nfa dense_depth classes places text rows row byte h laid made one met small).one;
  steps = λ row byte one met small.
      (row-step nfa dense_depth classes places text rows row byte h laid made one met small).step;
}

-- the rows of an automaton, if there are any, are those of its dictionary
pub rows-if-any : (nfa : NFA) (dense_depth : ℕ) (classes places : List ℕ) (text : ℕ → List ℕ) (rows : Option Rows)
    → Laid nfa text dense_depth classes → ArePlacesIn nfa dense_depth classes places
    → IfSome rows (AreRowsFrom nfa classes places)
    → AreRowsIfAny (dictionary nfa) classes (names_in nfa dense_depth classes text) rows
rows-if-any nfa dense_depth classes places text None h laid made = tt
rows-if-any nfa dense_depth classes places text (Some rows) h laid made =
    rows-named nfa dense_depth classes places text rows h laid made

-- ---- rows that are filled

-- rows of the automaton over the classes, with this stride, can be filled
pub plan-fit : (nfa : NFA) (classes : List ℕ) (stride : ℕ) → IsReadable nfa
    → ((classed : Bool) × AreClassesFor nfa classed classes) → HasStride classes stride
    → state_len nfa * stride ≤ greatest_number
    → IsFit (record { nfa = nfa; kind = Unanchored; classes = classes; stride = stride })
plan-fit nfa classes stride r chosen has small =
    let le : (state_len nfa - 1) * stride ≤ state_len nfa * stride =
    mul-le-mul_right stride (let one : state_len nfa - 1 ≤ state_len nfa = omega arith in one) in
    chosen-fit chosen.0 nfa Unanchored classes stride r chosen.1 has.least has.wide (omega (arith, le, small))

-- rows that are filled by a plan are those of the automaton
pub rows-from : (nfa : NFA) (classes places : List ℕ) (rows : Rows) (stride : ℕ) → rows.places.items ≡ places
    → stride ≡ row_len rows → IsFit (record { nfa = nfa; kind = Unanchored; classes = classes; stride = stride })
    → AreRowsUpTo (record { nfa = nfa; kind = Unanchored; classes = classes; stride = stride }) (state_len nfa)
    (state_len nfa) rows.trans.items → AreRowsFrom nfa classes places rows
rows-from nfa classes places rows stride at is fit filled = record {
  at = at;
  fit = subst (λ s. IsFit (record { nfa = nfa; kind = Unanchored; classes = classes; stride = s })) is fit;
  filled =
      subst (λ s. AreRowsUpTo (record { nfa = nfa; kind = Unanchored; classes = classes; stride = s }) (state_len nfa)
      (state_len nfa) rows.trans.items) is filled;
}

-- how many entries rows have in all
pub rows-len : (trans places : List ℕ) (states stride exponent : ℕ) → length places ≡ states
    → length trans ≡ states * stride → stride ≡ 2 ^ exponent → length trans ≡ length places * 2 ^ exponent
rows-len trans places states stride exponent counted len is =
    len ∙ (ap (λ n. n * stride) (sym counted) ∙ ap (λ n. length places * n) is)

-- ---- copies

-- the rows of a copy are right by the naming of the old rows
pub rows-copied : (m : Dictionary) (classes : List ℕ) (names : Naming) (old new : Option Rows) → AreSameIfAny old new
    → AreRowsIfAny m classes names old → AreRowsIfAny m classes names new
rows-copied m classes names None None same h = tt
rows-copied m classes names None (Some new) same h = absurd same
rows-copied m classes names (Some old) None same h = absurd same
rows-copied m classes names (Some old) (Some new) same h =
    let trans = subst (λ xs. AreUnanchoredRows m classes names (row_len old) xs old.places.items) (sym same.trans) h in
    let places =
    subst (λ xs. AreUnanchoredRows m classes names (row_len old) new.trans.items xs) (sym same.places) trans in
    subst (λ n. AreUnanchoredRows m classes names (2 ^ n) new.trans.items new.places.items) (sym same.stride2) places
