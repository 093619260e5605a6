-- Filling the rows state by state: no row is written over another, and a failure's row is filled before its state's.
use Rattle.std.proofs.Common.{◌≡◌, ◌≢◌, ◌⊎◌, ℕ, ◌+◌, ◌-◌, ◌*◌, ◌<◌, ◌≤◌, List, length, inl, inr, ⊎_elim, refl, sym, ap, subst, ◌∙◌, arith}
use Rattle.std.specs.Prelude.{slice_index}
use Rattle.std.specs.Coded.{le_prop}
use Rattle.std.proofs.Math.Logic.{∥∥₁_elim}
use Rattle.std.proofs.lemmas.Bool.{cases_lt, cases_eq}
use Rattle.std.proofs.lemmas.Nat.{mul-le, mul-add-lt}
use Rattle.std.specs.List.{CopiedTo, SameBelow, SameFrom}
use Rattle.ac_input.specs.Number.{greatest_number}
use Rattle.ac_input.specs.declared.search.Anchored.{Anchored}
use Rattle.ac_input.specs.declared.search.Anchored.TheVariants.{No, Yes}
use Rattle.ac_input.specs.Dfa.{Serves, dfa_states}
use Rattle.ac_input.specs.Input.{is_anchored}
use Rattle.ac_noncontiguous.specs.declared.nfa.NFA.{NFA}
use Rattle.ac_noncontiguous.specs.Nfa.ReadCalls.{state_len, fail_in, depth_in, special_in, MayBeMet, IsReadable}
use Rattle.ac_tables.specs.Dfa.Table.{dfa_row_of}
use Rattle.ac_tables.specs.Dfa.Filling.{RowPlan, number_in, IsFit, IsRowRight, IsUnwritten, IsChangedIn, AreRowsFilled, IsDone, AreRowsUpTo}
use Rattle.ac_tables.proofs.dfa.RowLemmas.{row-below, row-room, number-fits, row-apart}
use Rattle.ac_tables.proofs.dfa.CellLemmas.{texts-of, source-of, met-dead, dead-right}

-- ---- places

-- the whole row of a state is within the table
pub row-space : (p : RowPlan) (anchored : Anchored) (sid len : ℕ) → IsFit p → sid < state_len p.nfa
    → len ≡ dfa_states p.kind (state_len p.nfa) * p.stride → number_in p anchored sid + p.stride ≤ len
row-space p anchored sid len fit within is =
    let s = fit.source.starts in
    row-room (dfa_states p.kind (state_len p.nfa))
    (dfa_row_of p.kind (special_in p.nfa).start_unanchored_id (is_anchored anchored) sid) p.stride len
    (row-below p.kind (special_in p.nfa).start_unanchored_id (state_len p.nfa) (is_anchored anchored) sid s.0 s.1
    within) is

-- the number of a state is at most the greatest number
pub number-small : (p : RowPlan) (anchored : Anchored) (sid : ℕ) → IsFit p → sid < state_len p.nfa
    → number_in p anchored sid ≤ greatest_number
number-small p anchored sid fit within =
    let s = fit.source.starts in
    number-fits (dfa_states p.kind (state_len p.nfa))
    (dfa_row_of p.kind (special_in p.nfa).start_unanchored_id (is_anchored anchored) sid) p.stride greatest_number
    (row-below p.kind (special_in p.nfa).start_unanchored_id (state_len p.nfa) (is_anchored anchored) sid s.0 s.1
    within) fit.few

-- a place in another row is before a row or after it
place-outside : (row other stride x : ℕ) → row ≢ other → x < stride
    → (other * stride + x < row * stride) ⊎ (row * stride + stride ≤ other * stride + x)
place-outside row other stride x apart within =
    ⊎_elim
    (λ (less : other < row). let h = mul-add-lt other stride x row less within in inl (omega (arith, h)))
    (λ (more : row ≤ other).
    let h : (row + 1) * stride ≤ other * stride =
    mul-le (row + 1) stride other stride (omega (arith, more, apart)) (omega arith) in
    let e : (row + 1) * stride ≡ row * stride + stride = omega arith in
    inr (omega (arith, h, e)))
    (cases_lt other row)

-- Searches of this anchoring are served and may come to the state, which is past the first two: it has a row of its
-- own.
pub record HasOwnRow (p : RowPlan) (a : Anchored) (sid : ℕ) : Type 0 where
  pub serves : Serves p.kind a
  pub met : MayBeMet p.nfa a sid
  pub past : 1 < sid

-- the row of a state, and no other, has changed, and is right
pub record IsRowFilled (p : RowPlan) (a : Anchored) (sid : ℕ) (old new : List ℕ) : Type 0 where
  pub changed : IsChangedIn p.stride (number_in p a sid) old new
  pub right : IsRowRight p a sid new

-- a change in one state's row leaves another state's row unchanged
pub changed-others : (p : RowPlan) (a b : Anchored) (i j x : ℕ) (old new : List ℕ) → IsFit p → HasOwnRow p a i
    → Serves p.kind b → MayBeMet p.nfa b j → (a ≡ b → i ≢ j) → x < p.stride
    → IsChangedIn p.stride (number_in p a i) old new
    → slice_index new (number_in p b j + x) ≡ slice_index old (number_in p b j + x)
changed-others p a b i j x old new fit own serves met ne within h =
    let start = (special_in p.nfa).start_unanchored_id in
    let apart = row-apart p.kind start a b i j own.serves serves fit.source.starts.0 own.past own.met.own met.own ne in
    let here = dfa_row_of p.kind start (is_anchored a) i in
    let there = dfa_row_of p.kind start (is_anchored b) j in
    ⊎_elim
    (λ (less : there * p.stride + x < here * p.stride). h.before (there * p.stride + x) less)
    (λ (more : here * p.stride + p.stride ≤ there * p.stride + x). h.after (there * p.stride + x) more)
    (place-outside here there p.stride x apart within)

-- ---- a row that is copied

-- a copied row changes nothing else
pub copied-changed : (stride row : ℕ) (old new : List ℕ) (n : ℕ) → n ≡ stride → length new ≡ length old
    → SameBelow old new row → SameFrom old new (row + n) → IsChangedIn stride row old new
copied-changed stride row old new n is len below from = record {
  len = len;
  before = λ k lt. below k 0 lt;
  after = λ k le. from k 0 (omega (arith, le, is));
}

-- the entries of a copied row are those of the other row
pub copied-entry : (row other x n : ℕ) (old new : List ℕ) → x < n → CopiedTo old new other row n
    → slice_index new (row + x) ≡ slice_index old (other + x)
copied-entry row other x n old new within copied =
    let e : other + ((row + x) - row) ≡ other + x = omega arith in
    copied (row + x) 0 (omega arith) (omega (arith, within)) ∙ ap (slice_index old) e

-- ---- the rows of a state

-- a right row that is unchanged stays right
pub right-kept : (p : RowPlan) (a : Anchored) (sid : ℕ) (old new : List ℕ) → IsFit p
    → ((x : ℕ) → x < p.stride → slice_index new (number_in p a sid + x) ≡ slice_index old (number_in p a sid + x))
    → IsRowRight p a sid old → IsRowRight p a sid new
right-kept p a sid old new fit kept right byte small =
    let r = right byte small in
    (r.0, (r.1.0, kept _ (fit.letters byte small) ∙ r.1.1))

-- the rows are filled if the unanchored row is right, where only unanchored searches are served
pub filled-plain : (p : RowPlan) (u v : ℕ) (old new : List ℕ) → IsFit p → HasOwnRow p No u → ¬ Serves p.kind Yes
    → IsRowFilled p No u old new → AreRowsFilled p u v old new
filled-plain p u v old new fit own unserved filled = record {
  len = filled.changed.len;
  row = λ _. filled.right;
  row_anchored = λ s. absurd (unserved s);
  others = by;
}
  where
    by : (a : Anchored) (sid x : ℕ) → Serves p.kind a → MayBeMet p.nfa a sid → (a ≡ No → sid ≢ u) → (a ≡ Yes → sid ≢ v)
        → x < p.stride → slice_index new (number_in p a sid + x) ≡ slice_index old (number_in p a sid + x)
    by No sid x serves met_a ne ne_v within =
        changed-others p No No u sid x old new fit own serves met_a (λ _ e. ne refl (sym e)) within filled.changed
    by Yes sid x serves met_a ne ne_v within = absurd (unserved serves)

-- the rows are filled if the anchored row is right, where only anchored searches are served
pub filled-anchored : (p : RowPlan) (u v : ℕ) (old new : List ℕ) → IsFit p → ¬ Serves p.kind No → HasOwnRow p Yes v
    → IsRowFilled p Yes v old new → AreRowsFilled p u v old new
filled-anchored p u v old new fit unserved own filled = record {
  len = filled.changed.len;
  row = λ s. absurd (unserved s);
  row_anchored = λ _. filled.right;
  others = by;
}
  where
    by : (a : Anchored) (sid x : ℕ) → Serves p.kind a → MayBeMet p.nfa a sid → (a ≡ No → sid ≢ u) → (a ≡ Yes → sid ≢ v)
        → x < p.stride → slice_index new (number_in p a sid + x) ≡ slice_index old (number_in p a sid + x)
    by No sid x serves met_a ne ne_v within = absurd (unserved serves)
    by Yes sid x serves met_a ne ne_v within =
        changed-others p Yes Yes v sid x old new fit own serves met_a (λ _ e. ne_v refl (sym e)) within filled.changed

-- the two anchorings are different
anchorings-apart : No ≢ Yes
anchorings-apart e = let f : No ≡ Yes = e in cc

-- writing the row for unanchored searches leaves the row for anchored ones blank
pub blank-still : (p : RowPlan) (u v : ℕ) (old mid : List ℕ) → IsFit p → HasOwnRow p No u → HasOwnRow p Yes v
    → IsChangedIn p.stride (number_in p No u) old mid → IsUnwritten p.stride (number_in p Yes v) old
    → IsUnwritten p.stride (number_in p Yes v) mid
blank-still p u v old mid fit plain own changed blank x within =
    changed-others p No Yes u v x old mid fit plain own.serves own.met (λ e. absurd (anchorings-apart e)) within changed
    ∙ blank x within

-- the rows are filled if first the unanchored row is right and then the anchored one, where both searches are served
pub filled-both : (p : RowPlan) (u v : ℕ) (old mid new : List ℕ) → IsFit p → HasOwnRow p No u → HasOwnRow p Yes v
    → IsRowFilled p No u old mid → IsRowFilled p Yes v mid new → AreRowsFilled p u v old new
filled-both p u v old mid new fit plain own first second = record {
  len = second.changed.len ∙ first.changed.len;
  row =
      λ _. right-kept p No u mid new fit (λ x within. changed-others p Yes No v u x mid new fit own plain.serves
      plain.met (λ e. absurd (anchorings-apart (sym e))) within second.changed) first.right;
  row_anchored = λ _. second.right;
  others = by;
}
  where
    by : (a : Anchored) (sid x : ℕ) → Serves p.kind a → MayBeMet p.nfa a sid → (a ≡ No → sid ≢ u) → (a ≡ Yes → sid ≢ v)
        → x < p.stride → slice_index new (number_in p a sid + x) ≡ slice_index old (number_in p a sid + x)
    by No sid x serves met_a ne ne_v within =
        changed-others p Yes No v sid x mid new fit own serves met_a (λ e. absurd (anchorings-apart (sym e))) within
        second.changed
        ∙ changed-others p No No u sid x old mid fit plain serves met_a (λ _ e. ne refl (sym e)) within first.changed
    by Yes sid x serves met_a ne ne_v within =
        changed-others p Yes Yes v sid x mid new fit own serves met_a (λ _ e. ne_v refl (sym e)) within second.changed
        ∙ changed-others p No Yes u sid x old mid fit plain serves met_a (λ e. absurd (anchorings-apart e)) within
        first.changed

-- ---- all rows

-- at first the row of the dead state is right, and all others are blank
pub rows-none : (p : RowPlan) (trans : List ℕ) → IsFit p → length trans ≡ dfa_states p.kind (state_len p.nfa) * p.stride
    → IsUnwritten (length trans) 0 trans → AreRowsUpTo p 2 (special_in p.nfa).start_unanchored_id trans
rows-none p trans fit len blank = record {
  len = len;
  right = λ a sid serves met done.
      let stands = met.stands in
      let is : sid ≡ 0 = ⊎_elim (λ (low : sid < 2). omega (arith, low, stands))
      (λ (h : ((special_in p.nfa).start_unanchored_id ≤ sid) × (sid < (special_in p.nfa).start_unanchored_id)).
      omega (arith, h.0, h.1)) done in
      subst (λ i. IsRowRight p a i trans) (sym is)
      (dead-right p a trans fit (all a 0 (met-dead p.nfa a fit.source).within));
  blank = λ a sid serves met _. all a sid met.within;
}
  where
    all : (a : Anchored) (sid : ℕ) → sid < state_len p.nfa → IsUnwritten p.stride (number_in p a sid) trans
    all a sid within x in_row =
        let room = row-space p a sid (length trans) fit within len in
        let e : 0 + (number_in p a sid + x) ≡ number_in p a sid + x = omega arith in
        subst (λ k. slice_index trans k ≡ 0) e (blank (number_in p a sid + x) (omega (arith, room, in_row)))

-- of the two states that are filled, each has a right row for its anchoring
right-now : (p : RowPlan) (a : Anchored) (sid u v : ℕ) (old new : List ℕ) → Serves p.kind a
    → ((a ≡ No → sid ≡ u) × (a ≡ Yes → sid ≡ v)) → AreRowsFilled p u v old new → IsRowRight p a sid new
right-now p No sid u v old new serves here f =
    subst (λ i. IsRowRight p No i new) (sym (here.0 refl)) (f.row serves)
right-now p Yes sid u v old new serves here f =
    subst (λ i. IsRowRight p Yes i new) (sym (here.1 refl)) (f.row_anchored serves)

-- the rows of one more state, or of the two starts, are filled
pub rows-more : (p : RowPlan) (start low high more further u v : ℕ) (old new : List ℕ)
    → start ≡ (special_in p.nfa).start_unanchored_id → IsFit p
    → (¬ IsDone start low high u) × (¬ IsDone start low high v)
    → IsDone start more further u × IsDone start more further v
    → ((sid : ℕ) → IsDone start low high sid → IsDone start more further sid)
    → ((a : Anchored) (sid : ℕ) → MayBeMet p.nfa a sid → IsDone start more further sid
    → IsDone start low high sid ⊎ ((a ≡ No → sid ≡ u) × (a ≡ Yes → sid ≡ v))) → AreRowsUpTo p low high old
    → AreRowsFilled p u v old new → AreRowsUpTo p more further new
rows-more p start low high more further u v old new is fit fresh now grows only h f = record {
  len = f.len ∙ h.len;
  right = λ a sid serves met done.
      ⊎_elim
      (λ (before : IsDone start low high sid). right-kept p a sid old new fit
      (λ x within. f.others a sid x serves met (λ _ e. fresh.0 (subst (IsDone start low high) e before))
      (λ _ e. fresh.1 (subst (IsDone start low high) e before)) within)
      (h.right a sid serves met (subst (λ n. IsDone n low high sid) is before)))
      (λ (here : (a ≡ No → sid ≡ u) × (a ≡ Yes → sid ≡ v)). right-now p a sid u v old new serves here f)
      (only a sid met (subst (λ n. IsDone n more further sid) (sym is) done));
  blank = λ a sid serves met free x within.
      let still : ¬ IsDone start more further sid =
      λ done. free (subst (λ n. IsDone n more further sid) is done) in
      f.others a sid x serves met (λ _ e. still (subst (IsDone start more further) (sym e) now.0))
      (λ _ e. still (subst (IsDone start more further) (sym e) now.1)) within
      ∙ h.blank a sid serves met (λ before. still
      (grows sid (subst (λ n. IsDone n low high sid) (sym is) before))) x within;
}

-- the next state of the first run isn't filled yet
pub fresh-low : (start low high : ℕ) → low < start → ¬ IsDone start low high low
fresh-low start low high within done =
    ⊎_elim (λ (l : low < low). omega (arith, l)) (λ (r : (start ≤ low) × (low < high)). omega (arith, r.0, within)) done

-- the next state of the second run isn't filled yet
pub fresh-high : (start low high : ℕ) → low ≤ start → start + 2 ≤ high → ¬ IsDone start low high high
fresh-high start low high within past done =
    ⊎_elim (λ (l : high < low). omega (arith, l, within, past))
    (λ (r : (start ≤ high) × (high < high)). omega (arith, r.1)) done

-- the rows of the starts are filled
pub rows-starts : (p : RowPlan) (old new : List ℕ) → IsFit p
    → AreRowsUpTo p 2 (special_in p.nfa).start_unanchored_id old
    → AreRowsFilled p (special_in p.nfa).start_unanchored_id ((special_in p.nfa).start_unanchored_id + 1) old new
    → AreRowsUpTo p 2 ((special_in p.nfa).start_unanchored_id + 2) new
rows-starts p old new fit h f =
    let start = (special_in p.nfa).start_unanchored_id in
    let past = fit.source.starts.0 in
    rows-more p start 2 start 2 (start + 2) start (start + 1) old new refl fit (
      λ done. ⊎_elim (λ (l : start < 2). omega (arith, l, past))
          (λ (r : (start ≤ start) × (start < start)). omega (arith, r.1)) done,
      λ done. ⊎_elim (λ (l : start + 1 < 2). omega (arith, l, past))
          (λ (r : (start ≤ start + 1) × (start + 1 < start)). omega (arith, r.1)) done,
    )
    (inr (omega arith, omega arith), inr (omega arith, omega arith))
    (λ sid done. ⊎_elim (λ (l : sid < 2). inl l) (λ (r : (start ≤ sid) × (sid < start)). inr (r.0, omega (arith, r.1)))
    done)
    by h f
  where
    by : (a : Anchored) (sid : ℕ) → MayBeMet p.nfa a sid
        → IsDone (special_in p.nfa).start_unanchored_id 2 ((special_in p.nfa).start_unanchored_id + 2) sid
        → IsDone (special_in p.nfa).start_unanchored_id 2 (special_in p.nfa).start_unanchored_id sid
        ⊎ ((a ≡ No → sid ≡ (special_in p.nfa).start_unanchored_id)
        × (a ≡ Yes → sid ≡ (special_in p.nfa).start_unanchored_id + 1))
    by No sid met done =
        ⊎_elim (λ (l : sid < 2). inl (inl l))
        (λ (r : ((special_in p.nfa).start_unanchored_id ≤ sid) × (sid < (special_in p.nfa).start_unanchored_id + 2)).
        let own = met.own in inr (λ _. omega (arith, r.0, r.1, own), λ e. absurd (anchorings-apart e))) done
    by Yes sid met done =
        ⊎_elim (λ (l : sid < 2). inl (inl l))
        (λ (r : ((special_in p.nfa).start_unanchored_id ≤ sid) × (sid < (special_in p.nfa).start_unanchored_id + 2)).
        let own = met.own in inr (λ e. absurd (anchorings-apart (sym e)), λ _. omega (arith, r.0, r.1, own))) done

-- the rows of a state of the first run are filled
pub rows-low : (p : RowPlan) (low high : ℕ) (old new : List ℕ) → IsFit p → low < (special_in p.nfa).start_unanchored_id
    → AreRowsUpTo p low high old → AreRowsFilled p low low old new → AreRowsUpTo p (low + 1) high new
rows-low p low high old new fit within h f =
    let start = (special_in p.nfa).start_unanchored_id in
    let fresh = fresh-low start low high within in
    rows-more p start low high (low + 1) high low low old new refl fit (fresh, fresh)
    (inl (omega arith), inl (omega arith))
    (λ sid done. ⊎_elim (λ (l : sid < low). inl (omega (arith, l))) (λ (r : (start ≤ sid) × (sid < high)). inr r) done)
    (λ a sid met done. ⊎_elim (λ (l : sid < low + 1). ⊎_elim (λ (before : sid < low). inl (inl before))
    (λ (last : low ≤ sid). inr (λ _. omega (arith, l, last), λ _. omega (arith, l, last))) (cases_lt sid low))
    (λ (r : (start ≤ sid) × (sid < high)). inl (inr r)) done)
    h f

-- the rows of a state of the second run are filled
pub rows-high : (p : RowPlan) (low high : ℕ) (old new : List ℕ) → IsFit p → low ≤ (special_in p.nfa).start_unanchored_id
    → (special_in p.nfa).start_unanchored_id + 2 ≤ high → AreRowsUpTo p low high old → AreRowsFilled p high high old new
    → AreRowsUpTo p low (high + 1) new
rows-high p low high old new fit within past h f =
    let start = (special_in p.nfa).start_unanchored_id in
    let fresh = fresh-high start low high within past in
    rows-more p start low high low (high + 1) high high old new refl fit (fresh, fresh)
    (inr (omega (arith, past), omega arith), inr (omega (arith, past), omega arith))
    (λ sid done. ⊎_elim (λ (l : sid < low). inl l) (λ (r : (start ≤ sid) × (sid < high)). inr (r.0, omega (arith, r.1)))
    done)
    (λ a sid met done. ⊎_elim (λ (l : sid < low). inl (inl l))
    (λ (r : (start ≤ sid) × (sid < high + 1)). ⊎_elim (λ (before : sid < high). inl (inr (r.0, before)))
    (λ (last : high ≤ sid). inr (λ _. omega (arith, r.1, last), λ _. omega (arith, r.1, last))) (cases_lt sid high))
    done)
    h f

-- at the end all rows are filled
pub rows-all : (p : RowPlan) (low high : ℕ) (trans : List ℕ) → (special_in p.nfa).start_unanchored_id ≤ low
    → state_len p.nfa ≤ high → AreRowsUpTo p low high trans → AreRowsUpTo p (state_len p.nfa) (state_len p.nfa) trans
rows-all p low high trans first second h = record {
  len = h.len;
  right = λ a sid serves met done.
      let within = met.within in
      h.right a sid serves met (⊎_elim (λ (l : sid < low). inl l)
      (λ (r : low ≤ sid). inr (omega (arith, r, first), omega (arith, within, second))) (cases_lt sid low));
  blank = λ a sid serves met free. absurd (free (inl met.within));
}

-- ---- failures

-- unanchored searches may come to a state's failure
pub met-failure : (nfa : NFA) (sid : ℕ) → IsReadable nfa → sid < state_len nfa → MayBeMet nfa No (fail_in nfa sid)
met-failure nfa sid r within =
    let f = r.fails sid within in record { within = f.within; stands = f.stands; own = f.unanchored }

-- the start fails to the dead state
failure-start : (nfa : NFA) → IsReadable nfa → fail_in nfa (special_in nfa).start_unanchored_id ≤ 1
failure-start nfa r =
    let start = (special_in nfa).start_unanchored_id in
    let s = (source-of nfa r).starts in
    let within : start < state_len nfa = omega (arith, s.1) in
    let f = r.fails start within in
    ∥∥₁_elim r.stand le_prop (λ w.
    let deep = (r.deep start within w.0 w.1).1 s.0 in
    let none = ap length (texts-of nfa w.0 w.1).starts.2 in
    ⊎_elim
    (λ (past : 1 < fail_in nfa start). let less = f.shallower past in absurd (omega (arith, less, deep, none)))
    (λ (low : fail_in nfa start ≤ 1). low)
    (cases_lt 1 (fail_in nfa start)))

-- depth never falls from one state of a run to a later one
deep-later : (nfa : NFA) (i j : ℕ) → IsReadable nfa → i ≤ j → j < state_len nfa
    → ((1 < i) × (j < (special_in nfa).start_unanchored_id)) ⊎ ((special_in nfa).start_unanchored_id + 1 < i)
    → depth_in nfa i ≤ depth_in nfa j
deep-later nfa i j r le within run =
    ⊎_elim
    (λ (same : i ≡ j). let e = ap (depth_in nfa) same in omega (arith, e))
    (λ (ne : i ≢ j). ∥∥₁_elim r.stand le_prop (λ w. (r.ordered w.0 w.1).deeper i j (omega (arith, le, ne)) within run))
    (cases_eq i j)

-- The failure of a state is filled, if the state is no deeper than the next state of either run.
failure-done : (nfa : NFA) (low high sid : ℕ) → IsReadable nfa → 2 ≤ low
    → (special_in nfa).start_unanchored_id + 2 ≤ high → sid < state_len nfa
    → (low < (special_in nfa).start_unanchored_id → depth_in nfa sid ≤ depth_in nfa low)
    → (high < state_len nfa → depth_in nfa sid ≤ depth_in nfa high)
    → IsDone (special_in nfa).start_unanchored_id low high (fail_in nfa sid)
failure-done nfa low high sid r past_low past_high within first second =
    let start = (special_in nfa).start_unanchored_id in
    let fail = fail_in nfa sid in
    let f = r.fails sid within in
    let fail_in_len = f.within in
    ⊎_elim
    (λ (small : fail ≤ 1). inl (omega (arith, small, past_low)))
    (λ (more : 2 ≤ fail).
    let less = f.shallower (omega (arith, more)) in
    ⊎_elim
    (λ (before : fail < start).
    ⊎_elim
    (λ (done : fail < low). inl done)
    (λ (free : low ≤ fail).
    let deep = deep-later nfa low fail r free fail_in_len (inl (omega (arith, past_low), before)) in
    let top = first (omega (arith, free, before)) in
    absurd (omega (arith, less, deep, top)))
    (cases_lt fail low))
    (λ (after : start ≤ fail).
    ⊎_elim
    (λ (done : fail < high). inr (after, done))
    (λ (free : high ≤ fail).
    let deep = deep-later nfa high fail r free fail_in_len (inr (omega (arith, past_high))) in
    let top = second (omega (arith, free, fail_in_len)) in
    absurd (omega (arith, less, deep, top)))
    (cases_lt fail high))
    (cases_lt fail start))
    (let h = cases_lt 1 fail in ⊎_elim (λ (l : 1 < fail). inr (omega (arith, l))) (λ (r : fail ≤ 1). inl r) h)

-- the row of the unanchored start's failure is right
pub failure-right_start : (p : RowPlan) (trans : List ℕ) → IsReadable p.nfa
    → AreRowsUpTo p 2 (special_in p.nfa).start_unanchored_id trans → Serves p.kind No
    → IsRowRight p No (fail_in p.nfa (special_in p.nfa).start_unanchored_id) trans
failure-right_start p trans r h serves =
    let s = (source-of p.nfa r).starts in
    let small = failure-start p.nfa r in
    h.right No (fail_in p.nfa (special_in p.nfa).start_unanchored_id) serves
    (met-failure p.nfa (special_in p.nfa).start_unanchored_id r (omega (arith, s.1))) (inl (omega (arith, small)))

-- the row of the failure of the first run's next state is right, if it is filled next
pub failure-right_low : (p : RowPlan) (low high : ℕ) (trans : List ℕ) → IsReadable p.nfa → 2 ≤ low
    → (special_in p.nfa).start_unanchored_id + 2 ≤ high → low < (special_in p.nfa).start_unanchored_id
    → (high < state_len p.nfa → depth_in p.nfa low ≤ depth_in p.nfa high) → AreRowsUpTo p low high trans
    → Serves p.kind No → IsRowRight p No (fail_in p.nfa low) trans
failure-right_low p low high trans r past_low past_high before first h serves =
    let s = (source-of p.nfa r).starts in
    let within : low < state_len p.nfa = omega (arith, s.1, before) in
    h.right No (fail_in p.nfa low) serves (met-failure p.nfa low r within)
    (failure-done p.nfa low high low r past_low past_high within (λ _. omega arith) first)

-- the row of the failure of the second run's next state is right, if it is filled next
pub failure-right_high : (p : RowPlan) (low high : ℕ) (trans : List ℕ) → IsReadable p.nfa → 2 ≤ low
    → (special_in p.nfa).start_unanchored_id + 2 ≤ high → high < state_len p.nfa
    → (low < (special_in p.nfa).start_unanchored_id → depth_in p.nfa high < depth_in p.nfa low)
    → AreRowsUpTo p low high trans → Serves p.kind No → IsRowRight p No (fail_in p.nfa high) trans
failure-right_high p low high trans r past_low past_high within first h serves =
    h.right No (fail_in p.nfa high) serves (met-failure p.nfa high r within)
    (failure-done p.nfa low high high r past_low past_high within
    (λ before. let lt = first before in omega (arith, lt)) (λ _. omega arith))

-- searches of either anchoring may come to a state past 1 that isn't a start
pub met-both : (nfa : NFA) (a : Anchored) (sid : ℕ) → sid < state_len nfa → 1 < sid
    → (sid < (special_in nfa).start_unanchored_id) ⊎ ((special_in nfa).start_unanchored_id + 1 < sid)
    → MayBeMet nfa a sid
met-both nfa No sid within past side =
    record { within = within; stands = λ e. omega (arith, e, past); own = λ e. grind arith }
met-both nfa Yes sid within past side =
    record { within = within; stands = λ e. omega (arith, e, past); own = λ e. grind arith }

pub met-start_own : (nfa : NFA) → IsReadable nfa → MayBeMet nfa Yes ((special_in nfa).start_unanchored_id + 1)
met-start_own nfa r =
    let s = (source-of nfa r).starts in
    record { within = s.1; stands = λ e. omega (arith, s.0, e); own = λ e. omega (arith, e) }
