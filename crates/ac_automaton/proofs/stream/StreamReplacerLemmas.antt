-- How a replacement over a stream goes on from one slice of its text to the next.
use Rattle.std.proofs.Common.{◌≡◌, ℕ, ◌-◌, ◌<◌, ◌≤◌, ◌&&◌, Bool, true, false, List, [], ◌∷◌, ◌++◌, length, take, get_or, Option, Some, None, refl, sym, ap, ◌∙◌, subst, arith, append-nil, length-append}
use Rattle.std.specs.List.{concat}
use Rattle.std.specs.Option.{is_some}
use Rattle.std.proofs.Math.Seq.{take-append_seam}
use Rattle.std.proofs.lemmas.Bool.{false≢true}
use Rattle.std.proofs.lemmas.List.{take_all}
use Rattle.ac_input.specs.Occurrence.{Occurrence}
use Rattle.ac_input.specs.Text.{replaced_from}
use Rattle.ac_automaton.specs.InMemory.Replace.{LieInOrder, matches_in}
use Rattle.ac_automaton.specs.Stream.{AreAllGiven, CanBeCounted, FindsHeld, IsOnCourse, ReadsNothing, StreamProgress, cut_of, may_wait, read_by, IsFront, Picks}
use Rattle.ac_automaton.specs.Stream.Replace.{IsPlaced, replaced_in}
use Rattle.ac_automaton.specs.Stream.Replacer.{FindsPart, HandsOut, IsAllOut, IsHandedOut, IsMatchMet, IsPlacedAt, IsReplacing, LooksForMatch, TakesPart, ReplacerProgress, ends_there, handed_out, part_bytes, decided_to, replaced_by}
use Rattle.ac_automaton.specs.declared.stream.replacer.Part.{Part}
use Rattle.ac_automaton.specs.declared.stream.replacer.Part.TheVariants.{Text, Replacement}
use Rattle.ac_automaton.specs.declared.stream.replacer.StreamReplacer.TheInside.{Inside}
use Rattle.ac_automaton.proofs.stream.PlacedLemmas.{cut-placed, cut-within, each-closed, front-at_cut, item-placed, match-behind, none-placed}
use Rattle.ac_automaton.proofs.stream.StreamTextLemmas.{replaced-grows, replaced-push}
use Rattle.ac_automaton.proofs.in_memory.iter.ItemsLemmas.{lies-longer}

-- how far a replacement has come, from what it keeps
abbrev pub replacer_progress_of : {S : Type 0} → Inside S → ReplacerProgress
replacer_progress_of i = record { search = i.search; at = i.at; met = i.met; finished = i.finished; over = i.over }

-- ---- the next match

-- the search for the next match reads nothing
finds-same : (s t : StreamProgress Picks) (found : Option Occurrence) → FindsHeld s found t → ReadsNothing s t
finds-same s t None finds = finds.0
finds-same s t (Some o) finds = finds.0

-- the matches before the last one
but-last : (given all : List Occurrence) (o : Occurrence) → all ≡ given ++ o ∷ [] → take (length all - 1) all ≡ given
but-last given all o is =
    let long = ap length is ∙ length-append given (o ∷ []) in
    let n : length all - 1 ≡ length given = omega arith in
    ap (λ k. take k all) n ∙ ap (take (length given)) is ∙ take-append_seam given (o ∷ [])

-- finding the next match leaves the replaced matches as they are
found-replaced : (s t : StreamProgress Picks) (found : Option Occurrence) → FindsHeld s found t
    → replaced_by t found ≡ s.given
found-replaced s t None finds = finds.1
found-replaced s t (Some o) finds = but-last s.given t.given o finds.1

-- after the next match is found, the text may be handed out from the place as before
look-placed : {s t : StreamProgress Picks} {at : ℕ} (found : Option Occurrence) → IsPlaced s at → IsOnCourse t
    → FindsHeld s found t → IsPlacedAt t at found
look-placed None placed course finds = none-placed placed course finds
look-placed {s} {t} {at} (Some o) placed course finds =
    let same = finds.0 in
    let is = finds.4 in
    let from : t.from ≡ s.from = same.from in
    let before = match-behind s t o course finds at placed tt in
    let long : length (read_by t) ≡ length (read_by s) = ap (λ pieces. length (concat pieces)) same.pieces in
    let within : o.end ≤ length (read_by s) = is.within in
    record {
      given = finds.1 ∙ ap (λ os. os ++ o ∷ []) (sym (found-replaced s t (Some o) finds));
      placed = item-placed s t o course finds at placed;
      pattern = subst (λ b. o.pattern < length b.dictionary.patterns) (sym same.built) is.pattern;
      some = is.some;
      held = let h = placed.held in omega arith;
      before = before;
      within = omega arith;
      lies = subst (λ b. LieInOrder (length b.dictionary.patterns) at 0 (replaced_by t (Some o))) (sym same.built)
          (subst (LieInOrder (length s.built.dictionary.patterns) at 0) (sym (found-replaced s t (Some o) finds))
          (placed.lies tt));
    }

-- where no match was found, all were returned
look-all : (s t : StreamProgress Picks) (found : Option Occurrence) → CanBeCounted (read_by s) → FindsHeld s found t
    → found ≡ None → AreAllGiven t
look-all s t None few finds none = finds.2 few
look-all s t (Some o) few finds none = absurd (cc)

module _ (r : ReplacerProgress) (t : StreamProgress Picks) (found : Option Occurrence) (is : IsReplacing r)
    (none : r.met ≡ None) (open_ : r.over ≡ false) (few : CanBeCounted (read_by r.search)) (course : IsOnCourse t)
    (finds : FindsHeld r.search found t) where
  -- nothing was read
  same : ReadsNothing r.search t
  same = finds-same r.search t found finds

  -- the text may be handed out from the place on
  stood : IsPlaced r.search r.at
  stood = subst (IsPlacedAt r.search r.at) none (is.placed open_ few)

  -- the replacement keeps the next match rightly
  pub look-right : IsReplacing (record r { search = t; met = found })
  look-right = record {
    course = course;
    closed = same.closed ∙ is.closed ∙ ap (λ b. r.finished && may_wait b.dictionary.kind) (sym same.built);
    within = let w = is.within in
        let long : length (read_by t) ≡ length (read_by r.search) = ap (λ pieces. length (concat pieces)) same.pieces in
        omega arith;
    placed = λ _ _. look-placed found stood course finds;
    ended = λ over. absurd (false≢true (sym open_ ∙ over));
  }

  -- the next match was looked for, and no slice was handed out
  pub look-on : LooksForMatch r (record r { search = t; met = found })
  look-on = record {
    same = same;
    at = refl;
    finished = refl;
    over = refl;
    text = λ replacements.
        ap (λ pieces. replaced_from 0 (take r.at (concat pieces)) replacements (replaced_by t found)) same.pieces
        ∙ ap (replaced_from 0 (take r.at (read_by r.search)) replacements)
        (found-replaced r.search t found finds ∙ ap (replaced_by r.search) (sym none));
    all = look-all r.search t found few finds;
  }

-- no match was met
pub none-met : (met : Option Occurrence) → is_some met ≡ false → met ≡ None
none-met None is = refl
none-met (Some o) is = absurd (false≢true (sym is))

-- ---- a slice of what was read

-- a slice that is handed out lies in the held bytes
pass-lent : (s : StreamProgress Picks) (at to : ℕ) (met : Option Occurrence) (finished : Bool) → IsPlacedAt s at met
    → at < to → to ≡ decided_to s met finished → (s.from ≤ at) × (at ≤ to) × (to ≤ length (read_by s))
pass-lent s at to None true placed lt is = (placed.held, omega arith, omega arith)
pass-lent s at to None false placed lt is = let cut = cut-within placed.course in
    (placed.held, omega arith, omega arith)
pass-lent s at to (Some o) finished placed lt is = let within = placed.within in let some = placed.some in
    (placed.held, omega arith, omega arith)

-- the matches replaced lie before the slice
pass-lies : (s : StreamProgress Picks) (at : ℕ) (met : Option Occurrence) → IsPlacedAt s at met
    → LieInOrder (length s.built.dictionary.patterns) at 0 (replaced_by s met)
pass-lies s at None placed = placed.lies tt
pass-lies s at (Some o) placed = placed.lies

-- the text may be handed out from the slice's end on, unless that ends the text
pass-placed : (s : StreamProgress Picks) (at to : ℕ) (met : Option Occurrence) (finished : Bool) → IsPlacedAt s at met
    → at < to → to ≡ decided_to s met finished → ends_there met finished ≡ false → IsPlacedAt s to met
pass-placed s at to None true placed lt is open_ = absurd (false≢true (sym open_))
pass-placed s at to None false placed lt is open_ = cut-placed s at to placed is
pass-placed s at to (Some o) finished placed lt is open_ = record {
  given = placed.given;
  placed = placed.placed;
  pattern = placed.pattern;
  some = placed.some;
  held = let h = placed.held in omega arith;
  before = omega arith;
  within = placed.within;
  lies = lies-longer (length s.built.dictionary.patterns) 0 (replaced_by s (Some o)) (omega arith) placed.lies;
}

-- at the end of the text all was handed out
pass-ended : (r : ReplacerProgress) (to : ℕ) → (r.met ≡ None → AreAllGiven r.search)
    → (met : Option Occurrence) (finished : Bool) → r.met ≡ met → r.finished ≡ finished
    → to ≡ decided_to r.search met finished → ends_there met finished ≡ true
    → (r.finished ≡ true) × IsHandedOut (record r { at = to; over = true })
pass-ended r to all None finished none done is ends =
    (done ∙ ends, record { met = none; all = all none; at = is ∙ ap (decided_to r.search None) (sym done) })
pass-ended r to all (Some o) finished some done is ends = absurd (false≢true ends)

module _ (r : ReplacerProgress) (to : ℕ) (is : IsReplacing r) (open_ : r.over ≡ false)
    (few : CanBeCounted (read_by r.search)) (lt : r.at < to) (there : to ≡ decided_to r.search r.met r.finished) where
  -- the slice is the next one
  pub pass-text : (over : Bool) → TakesPart r (record r { at = to; over = over }) (Some (Text r.at to))
  pass-text over =
      let placed = is.placed open_ few in
      let lent = pass-lent r.search r.at to r.met r.finished placed lt there in (
        refl,
        refl,
        lt,
        lent.2,
        lent,
        λ replacements.
            sym (replaced-grows (read_by r.search) replacements (length r.search.built.dictionary.patterns) 0 r.at to
            (replaced_by r.search r.met) (pass-lies r.search r.at r.met placed) (omega arith) lent.1 lent.2),
      )

  -- what the replacement keeps after the slice is right
  pub text-right : (r.met ≡ None → AreAllGiven r.search) → (over : Bool) → over ≡ ends_there r.met r.finished
      → IsReplacing (record r { at = to; over = over })
  text-right all over ends =
      let placed = is.placed open_ few in
      let lent = pass-lent r.search r.at to r.met r.finished placed lt there in
      record {
        course = is.course;
        closed = is.closed;
        within = lent.2;
        placed = λ more _. pass-placed r.search r.at to r.met r.finished placed lt there (sym ends ∙ more);
        ended = λ done. let e = pass-ended r to all r.met r.finished refl refl there (sym ends ∙ done) in
            (e.0, record { met = e.1.met; all = e.1.all; at = e.1.at });
      }

-- ---- the replacement of a match

-- the text up to a match's end: the text before it, and the replacement
replace-text : {s : StreamProgress Picks} {at : ℕ} {o : Occurrence} (replacements : List (List ℕ)) → IsMatchMet s at o
    → o.start ≤ at
    → replaced_from 0 (take o.end (read_by s)) replacements s.given
    ≡ replaced_from 0 (take at (read_by s)) replacements (replaced_by s (Some o)) ++ get_or replacements o.pattern []
replace-text {s} {at} {o} replacements met late =
    let x = read_by s in
    let before = met.before in
    let some = met.some in
    let there : at ≡ o.start = omega arith in
    let lies =
    subst (λ k. LieInOrder (length s.built.dictionary.patterns) k 0 (replaced_by s (Some o))) there met.lies in
    ap (replaced_from 0 (take o.end x) replacements) met.given
    ∙ sym (replaced-push x replacements (length s.built.dictionary.patterns) 0 (replaced_by s (Some o)) o lies
    (omega arith) (omega arith) met.within)
    ∙ ap (λ k. replaced_from 0 (take k x) replacements (replaced_by s (Some o)) ++ get_or replacements o.pattern [])
    (sym there)

-- the replacement of the match is the next slice
pub pass-replacement : {r : ReplacerProgress} (o : Occurrence) (end pattern : ℕ) → IsReplacing r → r.over ≡ false
    → CanBeCounted (read_by r.search) → r.met ≡ Some o → decided_to r.search r.met r.finished ≤ r.at → end ≡ o.end
    → pattern ≡ o.pattern
    → TakesPart r (record r { at = end; met = None }) (Some (Replacement pattern))
pass-replacement {r} o end pattern is open_ few some late is_end is_pattern =
    let met : IsMatchMet r.search r.at o = subst (IsPlacedAt r.search r.at) some (is.placed open_ few) in
    let late_there : o.start ≤ r.at = subst (λ m. decided_to r.search m r.finished ≤ r.at) some late in
    let filled = met.some in
    let before = met.before in
    let number = met.pattern in
    let within = met.within in (
      refl,
      refl,
      omega arith,
      omega arith,
      omega arith,
      λ replacements.
          ap (λ k. replaced_from 0 (take k (read_by r.search)) replacements r.search.given) is_end
          ∙ replace-text replacements met late_there
          ∙ ap (λ m. replaced_from 0 (take r.at (read_by r.search)) replacements (replaced_by r.search m)
          ++ get_or replacements o.pattern []) (sym some)
          ∙ ap (λ n. replaced_from 0 (take r.at (read_by r.search)) replacements (replaced_by r.search r.met)
          ++ get_or replacements n []) (sym is_pattern),
    )

-- ---- no slice

-- Where all that is decided was handed out, the text handed out is the front of the pushed text, or all of it,
-- replaced.
pub all-out : {r : ReplacerProgress} (replacements : List (List ℕ))
    → r.search.closed ≡ (r.finished && may_wait r.search.built.dictionary.kind) → IsHandedOut r
    → (r.finished ≡ false → IsPlaced r.search r.at) → IsAllOut r replacements
all-out {r} replacements closed out placed =
    let s = r.search in
    let x = read_by s in
    record {
      out = out;
      front = λ more.
          let at : r.at ≡ cut_of s = out.at ∙ ap (decided_to s None) more in
          let open_ : s.closed ≡ false = closed ∙ ap (λ b. b && may_wait s.built.dictionary.kind) more in
          subst (λ m. IsFront s.built.dictionary (replaced_in s.built replacements) x
          (replaced_from 0 (take r.at x) replacements (replaced_by s m))) (sym out.met)
          (front-at_cut s.built replacements refl (record { placed = placed more; cut = at; all = out.all })
          open_);
      whole = λ ended.
          let at : r.at ≡ length x = out.at ∙ ap (decided_to s None) ended in
          let waits : s.closed ≡ may_wait s.built.dictionary.kind = closed
          ∙ ap (λ b. b && may_wait s.built.dictionary.kind) ended in
          let all : s.given ≡ matches_in s.built x = out.all.all (each-closed s.built.dictionary.kind s.closed waits) in
          ap (λ m. replaced_from 0 (take r.at x) replacements (replaced_by s m)) out.met
          ∙ ap (λ y. replaced_from 0 y replacements s.given)
          (ap (λ k. take k x) at ∙ take_all (length x) x (omega arith))
          ∙ ap (replaced_from 0 x replacements) all;
    }

-- the place is where the decided text ends
place-there : {s : StreamProgress Picks} {at : ℕ} (finished : Bool) → IsPlaced s at → at ≤ length (read_by s)
    → decided_to s None finished ≤ at → at ≡ decided_to s None finished
place-there true placed within le = omega arith
place-there false placed within le = let cut = placed.cut in omega arith

-- no slice is left before the place
pub pass-none : {r : ReplacerProgress} (over : Bool) → IsReplacing r → r.over ≡ false
    → CanBeCounted (read_by r.search)
    → (r.met ≡ None → AreAllGiven r.search) → r.met ≡ None → decided_to r.search r.met r.finished ≤ r.at
    → (replacements : List (List ℕ)) → IsAllOut (record r { over = over }) replacements
pass-none {r} over is open_ few all none le replacements =
    let stood : IsPlaced r.search r.at = subst (IsPlacedAt r.search r.at) none (is.placed open_ few) in
    let before = subst (λ m. decided_to r.search m r.finished ≤ r.at) none le in
    all-out replacements is.closed
    (record { met = none; all = all none; at = place-there r.finished stood is.within before })
    (λ _. stood)

-- where the text is over, all of it was handed out
pub over-out : {r : ReplacerProgress} → IsReplacing r → r.over ≡ true → (replacements : List (List ℕ))
    → IsAllOut r replacements
over-out is over replacements = let ended = is.ended over in
    all-out replacements is.closed ended.1 (λ more. absurd (false≢true (sym more ∙ ended.0)))

-- ---- the two steps together

-- where no slice is handed out, the text handed out stays the same
hands-none : {r t : ReplacerProgress} (u : ReplacerProgress) (replacements : List (List ℕ)) → LooksForMatch r t
    → u.search ≡ t.search
    → u.finished ≡ t.finished → u.at ≡ t.at → u.met ≡ t.met → HandsOut r u replacements []
hands-none {r} u replacements looks search finished at met = record {
  same = subst (λ s. ReadsNothing r.search s) (sym search) looks.same;
  finished = finished ∙ looks.finished;
  text = (λ i. replaced_from 0 (take (at i) (read_by (search i))) replacements (replaced_by (search i) (met i)))
      ∙ looks.text replacements ∙ sym (append-nil (handed_out r replacements));
}

-- finding the next match, if none was met, and then taking the next slice
pub look-pass : {r t : ReplacerProgress} (u : ReplacerProgress) (part : Option Part) → LooksForMatch r t
    → TakesPart t u part
    → FindsPart r u part
look-pass u None looks p =
    λ replacements. (hands-none u replacements looks p.0 p.1 p.2 p.3, λ _. p.4 replacements)
look-pass {r} {t} u (Some part) looks p = (
  λ replacements. record {
    same = subst (λ s. ReadsNothing r.search s) (sym p.0) looks.same;
    finished = p.1 ∙ looks.finished;
    text = p.5 replacements ∙ ap (λ text. text ++ part_bytes (read_by u.search) replacements part)
        (looks.text replacements);
  },
  (let at = looks.at in let lt : t.at < u.at = p.2 in omega arith),
  p.3,
  p.4,
)

-- taking a slice leaves the search unchanged
pub passes-search : (t u : ReplacerProgress) (part : Option Part) → TakesPart t u part → u.search ≡ t.search
passes-search t u None p = p.0
passes-search t u (Some part) p = p.0

-- nothing was done
pub advance-none : (r : ReplacerProgress)
    → (CanBeCounted (read_by r.search) → (replacements : List (List ℕ)) → IsAllOut r replacements) → FindsPart r r None
advance-none r out = λ replacements. (
  record {
    same = record {
      on = λ standard. omega arith;
      last = omega arith;
      closed = refl;
      built = refl;
      pieces = refl;
      from = refl;
    };
    finished = refl;
    text = sym (append-nil (handed_out r replacements));
  },
  λ few. out few replacements,
)
