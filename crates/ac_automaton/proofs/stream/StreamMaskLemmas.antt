-- What a masking of a stream keeps between its calls stays right.
use Rattle.std.proofs.Common.{◌≡◌, ◌≢◌, ⊎_elim, ℕ, ◌+◌, ◌-◌, ◌*◌, ◌<◌, ◌≤◌, max, min, nat_lt, Bool, true, false, IsTrue, List, [], ◌∷◌, ◌++◌, length, take, drop, Option, Ok, Err, refl, sym, ap, ap₂, subst, ◌∙◌, arith, append-nil, append_assoc, length-append, length-drop, length-take, take-append-drop}
use Rattle.std.proofs.Math.Seq.{drop-append_seam}
use Rattle.std.proofs.lemmas.Bool.{cases_lt, false≢true, ltb-false, ltb-true}
use Rattle.std.proofs.lemmas.List.{drop-append-le, drop-drop, drop_all, length-take-le, take-append-le, take_all}
use Rattle.std.proofs.lemmas.List.Elements.{All-push}
use Rattle.std.proofs.lemmas.List.Folds.{concat-append}
use Rattle.ac_input.specs.Number.{StateID, usize_max}
use Rattle.ac_input.specs.declared.search.Anchored.TheVariants.{No}
use Rattle.ac_input.specs.declared.search.MatchKind.TheVariants.{Standard}
use Rattle.ac_input.specs.declared.steps.Steps.{Steps}
use Rattle.ac_input.specs.Dictionary.{Dictionary, IsLive, live_len, whole}
use Rattle.ac_input.specs.Mask.{IsFinalBefore}
use Rattle.ac_input.specs.Occurrence.{Occurs}
use Rattle.ac_input.specs.Steps.{AreNone, Done}
use Rattle.ac_input.specs.Tells.{Tells, ending}
use Rattle.ac_input.specs.Work.{longest, lookups_per_byte, shortest}
use Rattle.ac_input.proofs.lemmas.MaskGrowthLemmas.{longest-told}
use Rattle.ac_input.proofs.lemmas.MaskLemmas.{final-before_last, final-before_live, masked-masked}
use Rattle.ac_input.proofs.lemmas.SomeLemmas.{live-some}
use Rattle.ac_input.proofs.lemmas.StateLemmas.{new-behind}
use Rattle.ac_input.proofs.lemmas.UnusedLemmas.{occurs-some}
use Rattle.ac_automaton.specs.Automaton.{Built, IsReadCost, StartTells}
use Rattle.ac_automaton.specs.Masking.{MasksFrom, masked_in}
use Rattle.ac_automaton.specs.Stream.{CanBeCounted, NothingIsLive, Picks, room_of}
use Rattle.ac_automaton.specs.Stream.Devices.Buffer.{Held, IsRollPaid, room_for, rolled}
use Rattle.ac_automaton.specs.Stream.Mask.{AppendsFront, CutsAfter, FillsMask, HasMadeRoom, HasMasked, HasMaskedAll, HasOutrun, HasTakenIn, IsAllMasked, IsOpenWithin, MaskCounts, MasksFront, MasksPushedWithin, MasksRead, TakesPiece, IsMaskCut, IsOnMask, IsOnMaskBy, IsStreamMask, IsMaskPaid, MaskProgress, front_of, mask_at, masked_of, passed_to, ready_of}
use Rattle.ac_automaton.specs.declared.automaton.Automaton.{Ghosts}
use Rattle.ac_automaton.specs.declared.error.StreamError.{StreamError}
use Rattle.ac_automaton.specs.declared.error.StreamError.TheVariants.{Config, Read, Write, WriteZero, Memory, Position}
use Rattle.ac_automaton.specs.declared.stream.devices.watched.Watched.{Watched}
use Rattle.ac_automaton.specs.declared.stream.mask.masker.Masker.TheInside.{Inside}
use Rattle.ac_automaton.proofs.stream.StreamPushLemmas.{as_piece-some}
use Rattle.ac_automaton.proofs.stream.StreamSearchLemmas.{IsGrown}

-- ---- what is held

-- the masked text is as long as the text
pub masked-length : (b : Built) (mask : ℕ) (x : List ℕ) → length (masked_in b mask x) ≡ length x
masked-length b mask x = (masked-masked mask (whole b.dictionary x false) (omega arith)).len

-- as long as what was read is its front
pub front-length : (s : MaskProgress) → IsOnMask s → length (front_of s) ≡ s.at
front-length s course = length-take-le s.at (passed_to s) course.ordered.1

module _ (s : MaskProgress) (bytes : List ℕ) (course : IsOnMask s)
    (is : bytes ≡ drop s.from (masked_of s) ++ drop s.at (passed_to s)) where
  masked-held : length (drop s.from (masked_of s)) ≡ s.at - s.from
  masked-held =
      let a = masked-length s.built s.mask (front_of s) in
      let b = front-length s course in
      let c = length-drop s.from (masked_of s) in
      omega (arith, a, b, c)

  -- the held bytes reach from the first that is held to the last that was passed
  pub held-length : s.from + length bytes ≡ length (passed_to s)
  held-length =
      let a = masked-held in
      let b = length-drop s.at (passed_to s) in
      let c = length-append (drop s.from (masked_of s)) (drop s.at (passed_to s)) in
      let d = ap length is in
      let e = course.ordered in
      let f = course.ready in
      omega (arith, a, b, c, d, e.0, e.1, f.0, f.1)

  -- what is held from a masked place on
  held-from : (place : ℕ) → s.from ≤ place → place ≤ s.at
      → drop (place - s.from) bytes ≡ drop place (masked_of s) ++ drop s.at (passed_to s)
  held-from place from to =
      let a = masked-held in
      let there : s.from + (place - s.from) ≡ place = omega (arith, from) in
      ap (drop (place - s.from)) is
      ∙ drop-append-le (place - s.from) (drop s.from (masked_of s)) (drop s.at (passed_to s)) (omega (arith, a, from, to))
      ∙ ap (λ l. l ++ drop s.at (passed_to s))
      (drop-drop (place - s.from) s.from (masked_of s) ∙ ap (λ n. drop n (masked_of s)) there)

  -- the bytes that are ready are held
  pub held-ready : take (s.cut - s.out) (drop (s.out - s.from) bytes) ≡ ready_of s
  held-ready =
      let a = masked-length s.built s.mask (front_of s) in
      let b = front-length s course in
      let c = length-drop s.out (masked_of s) in
      ap (take (s.cut - s.out)) (held-from s.out course.ready.0 (omega (arith, course.ready.1, course.ordered.0)))
      ∙ take-append-le (s.cut - s.out) (drop s.out (masked_of s)) (drop s.at (passed_to s))
      (omega (arith, a, b, c, course.ordered.0))

-- ---- the places of what it keeps

-- the bytes that wait stay when what was ready is dropped
pub course-dropped : {IsCut : Dictionary → List ℕ → ℕ → Type 0} {room bytes : ℕ} (s : MaskProgress) (from moved : ℕ)
    → s.from ≤ from → from ≤ s.cut → 7 * moved ≤ bytes → IsOnMaskBy IsCut room bytes s
    → IsOnMaskBy IsCut room bytes (record s { from = from; out = s.cut; moved = moved })
course-dropped s from moved later sooner few course = record {
  standard = course.standard;
  filled = course.filled;
  ready = (sooner, omega arith);
  ordered = course.ordered;
  open_ = course.open_;
  closed_ = course.closed_;
  short = course.short;
  paid = record {
    some = course.paid.some;
    looked = course.paid.looked;
    scanned = course.paid.scanned;
    moved = few;
  };
}

-- after the last piece all that is masked is ready
pub course-finished : {IsCut : Dictionary → List ℕ → ℕ → Type 0} {room bytes : ℕ} (s : MaskProgress)
    → IsOnMaskBy IsCut room bytes s
    → IsOnMaskBy IsCut room bytes (record s { closed = true; out = s.cut; cut = s.at })
course-finished s course = record {
  standard = course.standard;
  filled = course.filled;
  ready = (omega (arith, course.ready.0, course.ready.1), course.ordered.0);
  ordered = (omega arith, course.ordered.1);
  open_ = λ e. absurd (false≢true (sym e));
  closed_ = λ e. refl;
  short = course.short;
  paid = record {
    some = course.paid.some;
    looked = course.paid.looked;
    scanned = course.paid.scanned;
    moved = course.paid.moved;
  };
}

-- with other places, and all else as it was, what it keeps is right
pub mask-still : {Reaches : List ℕ → StateID → Type 0} {s : MaskProgress} {sid : StateID} {buffer : Held} {over : Bool}
    (closed : Bool) (out cut : ℕ) → IsStreamMask Reaches s sid buffer over
    → IsOnMask (record s { closed = closed; out = out; cut = cut })
    → IsStreamMask Reaches (record s { closed = closed; out = out; cut = cut }) sid buffer over
mask-still closed out cut is course = record {
  course = course;
  reads = is.reads;
  bytes = is.bytes;
  keep = is.keep;
  read = is.read;
  roll = is.roll;
  lookups = is.lookups;
  countable = is.countable;
  uncountable = is.uncountable;
}

-- ---- room is made

-- the bytes that wait are moved to the front
pub mask-rolled : {Reaches : List ℕ → StateID → Type 0} {s : MaskProgress} {sid : StateID} {old new : Held} {over : Bool}
    → IsStreamMask Reaches s sid old over → new ≡ rolled old (s.cut - s.from) → IsRollPaid new
    → IsStreamMask Reaches (record s { from = s.cut; out = s.cut; moved = new.moved }) sid new over
mask-rolled {s} {old} {new} is moves paid =
    let course = is.course in
    let read : new.read ≡ length (passed_to s) = ap (λ h. h.read) moves ∙ is.read in
    let more = paid.paid in
    record {
      course = course-dropped s s.cut new.moved (omega (arith, course.ready.0, course.ready.1)) (omega arith)
          (omega (arith, more, read)) course;
      reads = is.reads;
      bytes = ap (λ h. h.bytes) moves
          ∙ held-from s old.bytes course is.bytes s.cut (omega (arith, course.ready.0, course.ready.1)) course.ordered.0;
      keep = ap (λ h. h.keep) moves ∙ is.keep;
      read = read;
      roll = paid;
      lookups = is.lookups;
      countable = is.countable;
      uncountable = is.uncountable;
    }

-- how many bytes wait
pub waiting-few : {Reaches : List ℕ → StateID → Type 0} {s : MaskProgress} {sid : StateID} {buffer : Held} {over : Bool}
    → IsStreamMask Reaches s sid buffer over → s.closed ≡ false → s.at ≡ length (passed_to s)
    → length (passed_to s) < s.cut + buffer.keep
waiting-few {s} is unclosed all =
    let near = (is.course.open_ unclosed).near in
    let front = front-length s is.course in
    omega (arith, near, front, all, is.keep)

-- ---- a piece comes

-- how far a masking has come after a piece
abbrev pub after_piece : MaskProgress → List ℕ → MaskProgress
after_piece s piece = record s { pieces = s.pieces ++ piece ∷ [] }

-- what was passed is what was passed before and the piece
pub passed-more : (s : MaskProgress) (piece : List ℕ) → passed_to (after_piece s piece) ≡ passed_to s ++ piece
passed-more s piece = concat-append s.pieces (piece ∷ []) ∙ ap (λ l. passed_to s ++ l) (append-nil piece)

-- its front is as it was
pub front-same : (s : MaskProgress) (piece : List ℕ) → s.at ≤ length (passed_to s)
    → front_of (after_piece s piece) ≡ front_of s
front-same s piece within =
    ap (take s.at) (passed-more s piece) ∙ take-append-le s.at (passed_to s) piece within

-- it is on its course, where more bytes pay for what was moved
pub course-grown : {IsCut : Dictionary → List ℕ → ℕ → Type 0} {room few bytes : ℕ} (s : MaskProgress) (piece : List ℕ)
    → length piece ≤ room → few ≤ bytes → IsOnMaskBy IsCut room few s
    → IsOnMaskBy IsCut room bytes (after_piece s piece)
course-grown {IsCut} {room} s piece short_one more course =
    let both = length-append (passed_to s) piece in
    let long = ap length (passed-more s piece) in
    record {
      standard = course.standard;
      filled = course.filled;
      ready = course.ready;
      ordered = (course.ordered.0, omega (arith, course.ordered.1, both, long));
      open_ = λ e.
          subst (λ l. IsCut s.built.dictionary l s.cut) (sym (front-same s piece course.ordered.1)) (course.open_ e);
      closed_ = course.closed_;
      short = All-push (λ l. length l ≤ room) s.pieces piece course.short short_one;
      paid = record {
        some = course.paid.some;
        looked = course.paid.looked;
        scanned = course.paid.scanned;
        moved = omega (arith, course.paid.moved, more);
      };
    }

-- and its looks are paid for
pub paid-grown : (s : MaskProgress) (piece : List ℕ) → s.at ≤ length (passed_to s) → IsMaskPaid s
    → IsMaskPaid (after_piece s piece)
paid-grown s piece within =
    subst
    (λ l. (live : Option ℕ) → IsLive s.built.dictionary false l live
    → (s.looked + live_len l live ≤ 2 * s.at) × (IsTrue s.built.deterministic → s.looked ≤ s.at))
    (sym (front-same s piece within))

module _ {Reaches : List ℕ → StateID → Type 0} {s : MaskProgress} {sid : StateID} {old new : Held} {was : Bool}
    (piece : List ℕ) (is : IsStreamMask Reaches s sid old was) (grown : IsGrown old new piece) where
  piece-short : length piece ≤ room_of Picks s.built
  piece-short =
      let within = grown.paid.within in
      let room : new.room ≡ room_of Picks s.built = grown.paid.room ∙ ap room_for (grown.keep ∙ is.keep) in
      let bytes = ap length grown.bytes in
      let joined = length-append old.bytes piece in
      omega arith

  -- the held bytes reach to the end of the piece
  pub piece-held : s.from + length new.bytes ≡ length (passed_to s) + length piece
  piece-held =
      let a = held-length s old.bytes is.course is.bytes in
      let b = ap length grown.bytes in
      let c = length-append old.bytes piece in
      omega (arith, a, b, c)

  -- what it keeps is right, and the piece isn't masked yet
  pub mask-grown : (over : Bool) → (over ≡ false → CanBeCounted (passed_to s ++ piece))
      → (over ≡ true → ¬ CanBeCounted (passed_to s ++ piece)) → IsStreamMask Reaches (after_piece s piece) sid new over
  mask-grown over few many =
      let course = is.course in
      let more = passed-more s piece in
      let same = front-same s piece course.ordered.1 in
      let both = length-append (passed_to s) piece in
      let long = ap length more in
      record {
        course = course-grown s piece piece-short (omega (arith, both, long)) course;
        reads = subst (λ l. Reaches l sid) (sym same) is.reads;
        bytes = grown.bytes ∙ ap (λ l. l ++ piece) is.bytes
            ∙ append_assoc (drop s.from (masked_of s)) (drop s.at (passed_to s)) piece
            ∙ ap (λ l. drop s.from (masked_of s) ++ l) (sym (drop-append-le s.at (passed_to s) piece course.ordered.1))
            ∙ ap (λ l. drop s.from (masked_of s) ++ drop s.at l) (sym more)
            ∙ ap (λ l. drop s.from (masked_in s.built s.mask l) ++ drop s.at (passed_to (after_piece s piece))) (sym same);
        keep = grown.keep ∙ is.keep;
        read = grown.read ∙ ap (λ n. n + length piece) is.read ∙ sym both ∙ sym long;
        roll = grown.paid;
        lookups = paid-grown s piece course.ordered.1 is.lookups;
        countable = λ e. subst CanBeCounted (sym more) (few e);
        uncountable = λ e. subst (λ l. ¬ CanBeCounted l) (sym more) (many e);
      }

  -- `over` is true exactly where there are more bytes than places
  pub mask-over : (held : List ℕ) → held ≡ new.bytes → s.from ≤ usize_max → (over : Bool)
      → over ≡ nat_lt (usize_max - s.from) (length held) → IsStreamMask Reaches (after_piece s piece) sid new over
  mask-over held same fits over is_over =
      let long = piece-held in
      let both = length-append (passed_to s) piece in
      let e = ap length same in
      mask-grown over
      (λ no. let le = ltb-false (usize_max - s.from) (length held) (sym is_over ∙ no) in
      omega (arith, long, both, e, le, fits))
      (λ yes few. let lt = ltb-true (usize_max - s.from) (length held) (sym is_over ∙ yes) in
      omega (arith, long, both, e, lt, few))

-- ---- where all is final

-- a text that is final before a place is so however it goes on
pub final-longer : (m : Dictionary) (text more : List ℕ) (place : ℕ) → IsFinalBefore m text place
    → IsFinalBefore m (text ++ more) place
final-longer m text more place final =
    let le = final.0 in
    let both = length-append text more in (
      omega (arith, le, both),
      λ rest o h before.
          let ends = final.1 (more ++ rest) o (subst (λ l. Occurs (whole m l false) o) (append_assoc text more rest) h)
          before in
          omega (arith, ends, both),
    )

-- where nothing is live, all is final
pub cut-idle : (m : Dictionary) (x : List ℕ) → NothingIsLive m x → IsMaskCut m x (length x)
cut-idle m x live = record { final = final-before_live m x (length x) live; near = omega arith; all = λ same. refl }

-- else all but the last bytes is, one fewer than the longest pattern has; and what was final before
pub cut-waits : (m : Dictionary) (x more : List ℕ) {cut keep place : ℕ} → IsMaskCut m x cut
    → keep ≡ max (longest m.patterns) 1 → place ≡ max cut (length (x ++ more) - (keep - 1))
    → ¬ NothingIsLive m (x ++ more) → IsMaskCut m (x ++ more) place
cut-waits m x more {cut} {keep} {place} is long there live = record {
  final = ⊎_elim
      (λ (later : cut < length (x ++ more) - (keep - 1)).
      final-before_last m (x ++ more) place (omega (arith, there, later)) (omega (arith, there, later, long)))
      (λ (le : length (x ++ more) - (keep - 1) ≤ cut).
      let same : cut ≡ place = omega (arith, there, le) in
      subst (IsFinalBefore m (x ++ more)) same (final-longer m x more cut is.final))
      (cases_lt cut (length (x ++ more) - (keep - 1)));
  near = omega (arith, there, long);
  all = λ nothing. absurd (live nothing);
}

-- where nothing of a text is live, no pattern matches at its state
nothing-matched : (m : Dictionary) (x ns : List ℕ) → m.kind ≡ Standard → 1 ≤ shortest m.patterns → Tells m No x ns
    → NothingIsLive m x → ¬ (ns ≢ [])
nothing-matched m x [] standard filled tells live some = some refl
nothing-matched m x (n ∷ ns) standard filled tells live some =
    let o = ending m x n in
    let told = longest-told m x (n ∷ ns) standard tells in
    let occurs = told.0.0 in
    let ends = told.0.1 in
    let after = new-behind false [] live (subst (λ l. Occurs (whole m l false) o) (sym (append-nil x)) occurs)
    (omega (arith, ends)) in
    let bytes = occurs-some {s = whole m x false} {o = o} (omega arith) filled occurs in
    omega (arith, after, bytes, ends)

-- What the automaton's tests say of what is live: nothing is in a start where no pattern matches, and something is
-- elsewhere.
pub idle-live : (b : Built) (x ns : List ℕ) {start : Bool} → b.dictionary.kind ≡ Standard
    → 1 ≤ shortest b.dictionary.patterns → Tells b.dictionary No x ns → StartTells b ns start No x
    → (IsTrue start → ns ≡ [] → NothingIsLive b.dictionary x)
    × ((IsTrue start → ns ≢ []) → ¬ NothingIsLive b.dictionary x)
idle-live b x ns standard filled tells is = (
  λ yes none. is.empty yes none,
  λ busy live. nothing-matched b.dictionary x ns standard filled tells live (busy (is.back live)),
)

-- ---- what came is masked

-- what isn't masked yet
abbrev new_of : MaskProgress → List ℕ
new_of s = drop s.at (passed_to s)

pub all-read : (s : MaskProgress) → front_of s ++ new_of s ≡ passed_to s
all-read s = take-append-drop s.at (passed_to s)

-- it is held after what is masked
pub new-held : (s : MaskProgress) (bytes : List ℕ) → IsOnMask s
    → bytes ≡ drop s.from (masked_of s) ++ drop s.at (passed_to s) → drop (s.at - s.from) bytes ≡ new_of s
new-held s bytes course is =
    let a = masked-length s.built s.mask (front_of s) in
    let c = front-length s course in
    held-from s bytes course is s.at (omega (arith, course.ready.0, course.ready.1, course.ordered.0)) (omega arith)
    ∙ ap (λ l. l ++ new_of s) (drop_all s.at (masked_of s) (omega (arith, a, c)))

masked-front : (s : MaskProgress) (bytes : List ℕ) → IsOnMask s
    → bytes ≡ drop s.from (masked_of s) ++ drop s.at (passed_to s)
    → take (s.at - s.from) bytes ≡ drop s.from (masked_of s)
masked-front s bytes course is =
    let a = masked-held s bytes course is in
    ap (take (s.at - s.from)) is
    ∙ take-append-le (s.at - s.from) (drop s.from (masked_of s)) (new_of s) (omega (arith, a))
    ∙ take_all (s.at - s.from) (drop s.from (masked_of s)) (omega (arith, a))

-- how far it has come once all is masked, with so many looks and scanned places more
abbrev pub masked_all : MaskProgress → ℕ → Steps → MaskProgress
masked_all s cut taken =
    record s {
      at = length (passed_to s);
      cut = cut;
      looked = s.looked + taken.looked.value;
      scanned = s.scanned + taken.scanned.value;
    }

-- what the new bytes cost is paid for
abbrev pub IsNewPaid : MaskProgress → Steps → Type 0
IsNewPaid s taken =
    (live : Option ℕ) → IsLive s.built.dictionary false (passed_to s) live
    → (s.looked + taken.looked.value + live_len (passed_to s) live ≤ 2 * length (passed_to s))
    × (IsTrue s.built.deterministic → s.looked + taken.looked.value ≤ length (passed_to s))
    × (length (passed_to s) ≤ s.looked + taken.looked.value) × (taken.scanned.value ≡ 0)
    × (taken.moved.value ≡ 0)

-- so its looks are paid for once all is masked
pub paid-masked : (s : MaskProgress) (cut : ℕ) (taken : Steps) → IsNewPaid s taken → IsMaskPaid (masked_all s cut taken)
paid-masked s cut taken new live alive =
    let front : take (length (passed_to s)) (passed_to s) ≡ passed_to s = take_all (length (passed_to s)) (passed_to s)
    (omega arith) in
    let paid = new live (subst (λ l. IsLive s.built.dictionary false l live) front alive) in
    let one = paid.0 in (
      subst (λ l. s.looked + taken.looked.value + live_len l live ≤ 2 * length (passed_to s)) (sym front) one,
      paid.1,
    )

-- and it is on its course, with a later cut
pub course-masked : {IsCut : Dictionary → List ℕ → ℕ → Type 0} {room bytes : ℕ} (s : MaskProgress) (cut : ℕ)
    (taken : Steps) → IsNewPaid s taken → s.closed ≡ false → s.out ≤ cut → cut ≤ length (passed_to s)
    → IsCut s.built.dictionary (passed_to s) cut → IsOnMaskBy IsCut room bytes s
    → IsOnMaskBy IsCut room bytes (masked_all s cut taken)
course-masked {IsCut} s cut taken new unclosed later within is_cut course =
    let front : take (length (passed_to s)) (passed_to s) ≡ passed_to s = take_all (length (passed_to s)) (passed_to s)
    (omega arith) in
    let live = live-some in
    let paid = new live.0 live.1 in
    let scanned = paid.3 in
    record {
      standard = course.standard;
      filled = course.filled;
      ready = (course.ready.0, later);
      ordered = (within, omega arith);
      open_ = λ e. subst (λ l. IsCut s.built.dictionary l cut) (sym front) is_cut;
      closed_ = λ e. absurd (false≢true (sym unclosed ∙ e));
      short = course.short;
      paid = record {
        some = paid.2;
        looked = by s.built.deterministic paid.1 (let two = paid.0 in omega (arith, two));
        scanned = let zero_scans = course.paid.scanned in omega (arith, scanned, zero_scans);
        moved = course.paid.moved;
      };
    }
  where
    by : (d : Bool) → (IsTrue d → s.looked + taken.looked.value ≤ length (passed_to s))
        → s.looked + taken.looked.value ≤ 2 * length (passed_to s)
        → s.looked + taken.looked.value ≤ lookups_per_byte d * length (passed_to s)
    by true one two = let e = one refl in omega (arith, e)
    by false one two = two

module _ {S : Type 0} (A : Ghosts S) (a : S) (s : MaskProgress) (sid : StateID) (old : Held) (over : Bool)
    (built : A.built a ≡ s.built) (is : IsStreamMask (A.Reaches a No) s sid old over) {fresh taken : Steps}
    (none : AreNone fresh)
    (cost : IsReadCost (A.built a) (A.Reaches a) No sid (drop (s.at - s.from) old.bytes) fresh taken) where
  -- what the new bytes cost is paid for
  pub new-paid : IsNewPaid s taken
  new-paid live after =
      let before = live-some in
      let was = is.lookups before.0 before.1 in
      let on = subst (λ l. IsReadCost s.built (A.Reaches a) No sid l fresh taken) (new-held s old.bytes is.course is.bytes)
      (subst (λ b. IsReadCost b (A.Reaches a) No sid (drop (s.at - s.from) old.bytes) fresh taken) built cost) in
      let run = on (front_of s) before.0 live is.reads before.1
      (subst (λ l. IsLive s.built.dictionary false l live) (sym (all-read s)) after) in
      let long = length-drop s.at (passed_to s) in
      let bound = subst (λ l. taken.looked.value + live_len l live
      ≤ fresh.looked.value + 2 * length (new_of s) + live_len (front_of s) before.0) (all-read s) run.bound in
      let some = run.some in
      let least = is.course.paid.some in
      let inside = is.course.ordered.1 in
      let zero_looks = none.looked in
      let first = was.0 in (
        omega (arith, bound, first, long, zero_looks, inside),
        λ d. let one = run.one d in let e = was.1 d in omega (arith, one, e, long, zero_looks, inside),
        omega (arith, some, long, zero_looks, least, inside),
        run.scanned ∙ none.scanned,
        run.moved ∙ none.moved,
      )

  -- what it keeps is right once all is masked
  pub mask-all : {bytes : List ℕ} (new : Held) (next : StateID) (cut : ℕ)
      → MasksFrom (A.built a) (A.Reaches a No) s.mask sid (s.at - s.from) old.bytes bytes next → new ≡ record old { bytes = bytes }
      → s.closed ≡ false → s.out ≤ cut → IsMaskCut s.built.dictionary (passed_to s) cut
      → IsStreamMask (A.Reaches a No) (masked_all s cut taken) next new over
  mask-all {bytes} new next cut masks grown unclosed later is_cut =
      let t = masked_all s cut taken in
      let course = is.course in
      let front : front_of t ≡ passed_to s = take_all (length (passed_to s)) (passed_to s) (omega arith) in
      let new_bytes = new-held s old.bytes course is.bytes in
      let long = front-length s course in
      let there : front_of s ++ drop (s.at - s.from) old.bytes ≡ passed_to s = ap (λ l. front_of s ++ l) new_bytes
      ∙ all-read s in
      let all : bytes ≡ drop s.from (masked_in s.built s.mask (passed_to s)) =
      masks.masked (front_of s) s.from is.reads
      (omega (arith, long, course.ready.0, course.ready.1, course.ordered.0))
      (masked-front s old.bytes course is.bytes
      ∙ ap (λ b. drop s.from (masked_in b s.mask (front_of s))) (sym built))
      ∙ ap (λ b. drop s.from (masked_in b s.mask (front_of s ++ drop (s.at - s.from) old.bytes))) built
      ∙ ap (λ l. drop s.from (masked_in s.built s.mask l)) there in
      let len = masks.len in
      record {
        course = course-masked s cut taken new-paid unclosed later is_cut.final.0 is_cut course;
        reads = subst (λ l. A.Reaches a No l next) (there ∙ sym front) (masks.reads (front_of s) is.reads);
        bytes = ap (λ h. h.bytes) grown ∙ all ∙ sym (append-nil (drop s.from (masked_in s.built s.mask (passed_to s))))
            ∙ ap (λ l. drop s.from (masked_in s.built s.mask l) ++ []) (sym front)
            ∙ ap (λ l. drop s.from (masked_of t) ++ l)
            (sym (drop_all (length (passed_to s)) (passed_to s) (omega arith)));
        keep = ap (λ h. h.keep) grown ∙ is.keep;
        read = ap (λ h. h.read) grown ∙ is.read;
        roll = subst IsRollPaid (sym grown)
            (record {
              keeps = is.roll.keeps;
              room = is.roll.room;
              within = let w = is.roll.within in omega (arith, w, len);
              paid = let p = is.roll.paid in omega (arith, p, len);
            });
        lookups = paid-masked s cut taken new-paid;
        countable = is.countable;
        uncountable = is.uncountable;
      }

-- the place before which all is final is right
pub cut-right : {S : Type 0} (A : Ghosts S) (a : S) (x more : List ℕ) (sid : StateID) {cut keep place : ℕ}
    → A.Reaches a No (x ++ more) sid → keep ≡ max (longest (A.built a).dictionary.patterns) 1
    → IsMaskCut (A.built a).dictionary x cut → CutsAfter A a sid cut keep (length (x ++ more)) place
    → (cut ≤ place) × IsMaskCut (A.built a).dictionary (x ++ more) place
cut-right A a x more sid {cut} {keep} {place} reads long is cuts =
    let m = (A.built a).dictionary in
    let both = length-append x more in
    let le = is.final.0 in
    ⊎_elim
    (λ (idle : NothingIsLive m (x ++ more) × (place ≡ length (x ++ more))).
    let there = idle.1 in (
      omega (arith, le, both, there),
      subst (IsMaskCut m (x ++ more)) (sym there) (cut-idle m (x ++ more) idle.0),
    ))
    (λ (waits : ¬ NothingIsLive m (x ++ more) × (place ≡ max cut (length (x ++ more) - (keep - 1)))).
    let there = waits.1 in (omega (arith, there), cut-waits m x more is long there waits.0))
    (cuts (x ++ more) reads)

-- and so it is once all that came is masked
pub mask-cut : {S : Type 0} (A : Ghosts S) (a : S) (s : MaskProgress) (sid : StateID) (old : Held) (over : Bool)
    → A.built a ≡ s.built → IsStreamMask (A.Reaches a No) s sid old over → {bytes : List ℕ} (next : StateID)
    {keep place : ℕ} → MasksFrom (A.built a) (A.Reaches a No) s.mask sid (s.at - s.from) old.bytes bytes next
    → keep ≡ max (longest s.built.dictionary.patterns) 1 → s.closed ≡ false
    → CutsAfter A a next s.cut keep (length (passed_to s)) place
    → (s.cut ≤ place) × IsMaskCut s.built.dictionary (passed_to s) place
mask-cut A a s sid old over built is next {keep} {place} masks long unclosed cuts =
    let new_bytes = new-held s old.bytes is.course is.bytes in
    let reads = subst (λ l. A.Reaches a No (front_of s ++ l) next) new_bytes (masks.reads (front_of s) is.reads) in
    let right = cut-right A a (front_of s) (new_of s) next reads
    (subst (λ b. keep ≡ max (longest b.dictionary.patterns) 1) (sym built) long)
    (subst (λ b. IsMaskCut b.dictionary (front_of s) s.cut) (sym built) (is.course.open_ unclosed))
    (subst (λ l. CutsAfter A a next s.cut keep (length l) place) (sym (all-read s)) cuts) in (
      right.0,
      subst (λ b. IsMaskCut b.dictionary (passed_to s) place) built
          (subst (λ l. IsMaskCut (A.built a).dictionary l place) (all-read s) right.1),
    )

-- ---- in terms of what it keeps

-- how far a masking has come, from what it keeps
abbrev pub mask_by : {S : Type 0} → Ghosts S → Inside S → MaskProgress
mask_by A i =
    mask_at (A.built i.automaton) i.mask i.pieces.items i.closed
    (record { from = i.from; at = i.at; out = i.out; cut = i.cut }) i.sums i.buffer

-- how far it has come with these pieces and this buffer, and all else as it was
abbrev pub mask_with : {S : Type 0} → Ghosts S → Inside S → List (List ℕ) → Held → MaskProgress
mask_with A i all new =
    mask_at (A.built i.automaton) i.mask all i.closed
    (record { from = i.from; at = i.at; out = i.out; cut = i.cut }) i.sums new

-- that is how far it has come after one piece more
pub mask-view : {S : Type 0} (A : Ghosts S) (i : Inside S) (all : List (List ℕ)) (new : Held) (piece : List ℕ)
    → all ≡ i.pieces.items ++ piece ∷ [] → new.moved ≡ i.buffer.moved
    → mask_with A i all new ≡ after_piece (mask_by A i) piece
mask-view A i all new piece more moved = λ j. record {
  built = A.built i.automaton;
  mask = i.mask;
  pieces = more j;
  closed = i.closed;
  from = i.from;
  at = i.at;
  out = i.out;
  cut = i.cut;
  looked = i.sums.looked.value;
  scanned = i.sums.scanned.value;
  moved = moved j;
}

-- how many bytes of a piece come: some, and all unless the room is full
pub taken-front : {Reaches : List ℕ → StateID → Type 0} {s : MaskProgress} {sid : StateID} {old : Held} {was : Bool}
    (piece : List ℕ) (n : ℕ) → IsStreamMask Reaches s sid old was
    → n ≡ min (length piece) (old.room - length old.bytes) → length (passed_to s) < s.from + room_of Picks s.built
    → 0 < length piece → (0 < n) × MasksFront (room_of Picks s.built) (after_piece s (take n piece)) piece n
taken-front {s} {old} piece n is many room some =
    let long = held-length s old.bytes is.course is.bytes in
    let roomy : old.room ≡ room_of Picks s.built = is.roll.room ∙ ap room_for is.keep in
    let within = is.roll.within in
    let less : n ≤ length piece = omega (arith, many) in
    let count : length (take n piece) ≡ n = length-take-le n piece less in
    let more = ap length (passed-more s (take n piece)) in
    let both = length-append (passed_to s) (take n piece) in
    let any : 0 < n = omega (arith, many, long, roomy, room, some) in (
      any,
      record {
        within = less;
        some = λ filled. any;
        full = λ lt. omega (arith, many, long, roomy, room, more, both, count, lt, within);
      },
    )

-- a read that failed brings no byte
pub nothing-grown : {old new : Held} → new ≡ old → IsRollPaid new → IsGrown old new []
nothing-grown {old} same paid = record {
  bytes = ap (λ h. h.bytes) same ∙ sym (append-nil old.bytes);
  read = ap (λ h. h.read) same ∙ (let e : old.read ≡ old.read + 0 = omega arith in e);
  keep = ap (λ h. h.keep) same;
  moved = ap (λ h. h.moved) same;
  paid = paid;
}

-- the last bytes that are held after a read are those that it returned
pub read-last : (bytes piece held : List ℕ) (n : ℕ) → held ≡ bytes ++ piece → length piece ≡ n
    → drop (length held - n) held ≡ piece
read-last bytes piece held n is count =
    let long = ap length is ∙ length-append bytes piece in
    let there : length held - n ≡ length bytes = omega (arith, long, count) in
    ap (λ k. drop k held) there ∙ ap (drop (length bytes)) is ∙ drop-append_seam bytes piece

-- ---- calls in turn

-- nothing was counted
pub mask-counts-none : (s t : MaskProgress) (steps : Steps) → t.looked ≡ s.looked → t.scanned ≡ s.scanned
    → t.moved ≡ s.moved → MaskCounts s t steps steps
mask-counts-none s t steps looked scanned moved = (
  0,
  0,
  0,
  record { looked = omega arith; scanned = omega arith; moved = omega arith },
  omega (arith, looked),
  omega (arith, scanned),
  omega (arith, moved),
)

-- what was counted adds up
pub mask-counts-then : (s mid t : MaskProgress) {x y z : Steps} → MaskCounts s mid x y → MaskCounts mid t y z
    → MaskCounts s t x z
mask-counts-then s mid t {x} {y} {z} a b =
    let d = a.3 in
    let e = b.3 in
    let done : Done (a.0 + b.0) (a.1 + b.1) (a.2 + b.2) x z = record {
      looked = omega (arith, d.looked, e.looked);
      scanned = omega (arith, d.scanned, e.scanned);
      moved = omega (arith, d.moved, e.moved);
    } in (
      a.0 + b.0,
      a.1 + b.1,
      a.2 + b.2,
      done,
      omega (arith, a.4, b.4),
      omega (arith, a.5, b.5),
      omega (arith, a.6, b.6),
    )

-- room was made, and no byte came
pub made-none : {s t : MaskProgress} → HasMadeRoom s t → HasTakenIn s t []
made-none {s} made = record {
  built = ap (λ u. u.built) made.same;
  mask = ap (λ u. u.mask) made.same;
  pieces = ap (λ u. u.pieces) made.same ∙ sym (append-nil s.pieces);
  closed = ap (λ u. u.closed) made.same;
  out = ap (λ u. u.out) made.same;
}

-- room was made, and a piece came
pub made-taken : {s mid t : MaskProgress} {piece : List ℕ} → HasMadeRoom s mid → TakesPiece mid t piece
    → HasTakenIn s t (piece ∷ []) × (t.cut ≡ s.cut)
made-taken {piece} made takes = (
  record {
    built = ap (λ u. u.built) takes ∙ ap (λ u. u.built) made.same;
    mask = ap (λ u. u.mask) takes ∙ ap (λ u. u.mask) made.same;
    pieces = ap (λ u. u.pieces) takes ∙ ap (λ u. u.pieces ++ piece ∷ []) made.same;
    closed = ap (λ u. u.closed) takes ∙ ap (λ u. u.closed) made.same;
    out = ap (λ u. u.out) takes ∙ ap (λ u. u.out) made.same;
  },
  ap (λ u. u.cut) takes ∙ ap (λ u. u.cut) made.same,
)

-- and all was masked
pub taken-masked : {s t last : MaskProgress} {more : List (List ℕ)} → HasTakenIn s t more → CanBeCounted (passed_to t)
    → HasMaskedAll t last → HasMasked s last more
taken-masked {last = last} taken few all =
    let same = ap passed_to all in (
      record {
        built = ap (λ u. u.built) all ∙ taken.built;
        mask = ap (λ u. u.mask) all ∙ taken.mask;
        pieces = ap (λ u. u.pieces) all ∙ taken.pieces;
        closed = ap (λ u. u.closed) all ∙ taken.closed;
        out = ap (λ u. u.out) all ∙ taken.out;
      },
      ap (λ u. u.at) all ∙ ap length (sym same),
      subst CanBeCounted (sym same) few,
    )

-- where room was made, a piece may come
pub open-for : {s t : MaskProgress} {room : ℕ} → HasMadeRoom s t → s.closed ≡ false → IsAllMasked s
    → length (passed_to t) < t.from + room → IsOpenWithin room t
open-for made unclosed masked room = record {
  unclosed = ap (λ u. u.closed) made.same ∙ unclosed;
  masked = ap (λ u. u.at) made.same ∙ masked ∙ ap (λ u. length (passed_to u)) (sym made.same);
  none = ap (λ u. u.out) made.same ∙ ap (λ u. u.cut) (sym made.same);
  room = room;
}

-- an empty piece came
pub none-came : {s mid t : MaskProgress} → HasMadeRoom s mid → IsAllMasked mid → CanBeCounted (passed_to mid)
    → TakesPiece mid t [] → HasMasked s t ([] ∷ []) × (t.cut ≡ s.cut)
none-came {mid} {t} made masked few takes =
    let taken = made-taken made takes in
    let same : passed_to t ≡ passed_to mid = ap passed_to takes ∙ passed-more mid [] ∙ append-nil (passed_to mid) in (
      (taken.0, ap (λ u. u.at) takes ∙ masked ∙ ap length (sym same), subst CanBeCounted (sym same) few),
      taken.1,
    )

-- a read or a push that stopped
module _ {s mid : MaskProgress} (t : MaskProgress) (made : HasMadeRoom s mid) where
  outruns : {piece : List ℕ} → TakesPiece mid t piece → ¬ CanBeCounted (passed_to t) → HasOutrun s t (piece ∷ [])
  outruns takes many = let taken = made-taken made takes in (taken.0, taken.1, many)

  pub fill-stopped : {R : Type 0} (remaining : R → Option (List ℕ)) (before after : Watched R) (error : StreamError)
      → IsAllMasked mid → CanBeCounted (passed_to mid) → FillsMask remaining mid t before after (Err error)
      → MasksRead remaining s t before after (Err error)
  fill-stopped remaining before after (Read error) masked few fills =
      let none = none-came made masked few fills.0 in (none.0, fills.1, none.1)
  fill-stopped remaining before after Position masked few fills = (fills.0, outruns fills.1 fills.3, fills.2)
  fill-stopped remaining before after (Config error) masked few fills = absurd fills
  fill-stopped remaining before after (Write error) masked few fills = absurd fills
  fill-stopped remaining before after WriteZero masked few fills = absurd fills
  fill-stopped remaining before after Memory masked few fills = absurd fills

  pub append-stopped : (room : Built → ℕ) (piece : List ℕ) (error : StreamError) → 0 < length piece
      → AppendsFront room mid t piece (Err error) → MasksPushedWithin room s t piece (Err error)
  append-stopped room piece Position some appends =
      let n = appends.0 in
      let filled : 0 < length (take n piece) = let e = length-take n piece in omega (arith, e, some, appends.1) in (
        n,
        subst (HasOutrun s t) (sym (as_piece-some (take n piece) filled)) (outruns appends.2 appends.3),
      )
  append-stopped room piece (Read error) some appends = absurd appends
  append-stopped room piece (Config error) some appends = absurd appends
  append-stopped room piece (Write error) some appends = absurd appends
  append-stopped room piece WriteZero some appends = absurd appends
  append-stopped room piece Memory some appends = absurd appends

  -- a piece came, and was masked
  pub append-masked : (room : Built → ℕ) {last : MaskProgress} (piece : List ℕ) {n : ℕ} → 0 < n
      → AppendsFront room mid t piece (Ok n) → HasMaskedAll t last → MasksPushedWithin room s last piece (Ok n)
  append-masked room {last} piece {n} any appends all =
      let front = appends.1 in
      let within = front.within in
      let filled : 0 < length (take n piece) = let e = length-take n piece in omega (arith, e, within, any) in
      let same = ap passed_to all in
      let from = ap (λ u. u.from) all in
      let built = ap (λ u. u.built) all in (
        subst (HasMasked s last) (sym (as_piece-some (take n piece) filled))
            (taken-masked (made-taken made appends.0).0 appends.2 all),
        record {
          within = front.within;
          some = front.some;
          full = λ lt. ap length same ∙ front.full lt ∙ ap₂ (λ p b. p + room b) (sym from) (sym built);
        },
      )
