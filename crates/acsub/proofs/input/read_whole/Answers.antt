-- Each read adds its piece after those before it.
use Rattle.std.proofs.Common.{◌≡◌, ◌+◌, ◌-◌, ◌≤◌, [], ◌∷◌, ◌++◌, length, take, length-take, length-drop, refl, sym, ap, ◌∙◌, arith}
use Rattle.std.specs.List.{concat}
use Rattle.std.proofs.lemmas.List.{append-nil}
use Rattle.ac_automaton.proofs.stream.devices.MovedLemmas.{AreFilled-push, given-none, given-gave, given-failed, given-push, still-open}
use Rattle.ac_automaton.proofs.stream.devices.BufferLemmas.{front-more}
use Rattle.acsub.proofs.input.InputLemmas.{filled-same, piece_filled, concat-push}
use Rattle.acsub.proofs.input.read_whole.Goals as goal

pub loop-input-init : goal.loop-input-init
loop-input-init g c =
    record { gained = []; gave = given-none; filled = tt; is = refl; within = omega arith; open_still = c.requires }

pub returns-in-Err : goal.returns-in-Err
returns-in-Err g c =
    let before = c.loop-input.invariant in
    let read = c.in-Err.ensures in
    let gave = given-failed before.open_still read.gave read.writes read.device in
    (before.gained ++ [] ∷ [], given-push before.gave gave)

pub returns-then-n-eq0 : goal.returns-then-n-eq0
returns-then-n-eq0 g c =
    let before = c.loop-input.invariant in
    let none : take c.in-Ok.n c.read.new.buf ≡ [] = ap (λ n. take n c.read.new.buf) c.if-n-eq0.true in
    let filled = c.loop-input.filled in
    let buffer = c.deref_mut.result.now in
    let len : length buffer ≡ c.make_room.new.input.len = omega (arith, c.deref_mut.ensures.len) in
    let room = c.in_ok-make_room.ensures.room in
    let rest : length c.read.new.buf ≡ length buffer - filled = c.read.auto.buf
    ∙ simp (length-take, length-drop) (omega arith) in
    let read = c.in-Ok.ensures in
    let one = given-gave before.open_still read.gave read.writes read.device.0
    (λ _. read.device.1 c.if-n-eq0.true (omega arith)) in
    let gave = given-push before.gave one in (
      before.gained ++ take c.in-Ok.n c.read.new.buf ∷ [],
      gave,
      (before.gained, before.filled, ap (λ piece. before.gained ++ piece ∷ []) none),
      c.truncate.ensures.items
          ∙ filled-same buffer _ _ c.make_room.new.input.len filled (omega arith) (omega arith)
          ∙ ap (take filled) c.deref_mut.ensures.value ∙ c.make_room.ensures.kept ∙ before.is
          ∙ sym (concat-push before.gained (take c.in-Ok.n c.read.new.buf)
          ∙ ap (λ piece. concat before.gained ++ piece) none ∙ append-nil (concat before.gained)),
    )

pub loop-input-preserved : goal.loop-input-preserved
loop-input-preserved g c =
    let before = c.loop-input.invariant in
    let piece = take c.in-Ok.n c.read.new.buf in
    let filled = c.loop-input.filled in
    let buffer = c.deref_mut.result.now in
    let len : length buffer ≡ c.make_room.new.input.len = omega (arith, c.deref_mut.ensures.len) in
    let room = c.in_ok-make_room.ensures.room in
    let within = c.in-Ok.ensures.gave.within in
    let rest : length c.read.new.buf ≡ length buffer - filled = c.read.auto.buf
    ∙ simp (length-take, length-drop) (omega arith) in
    let read = c.in-Ok.ensures in
    let some = piece_filled c.read.new.buf c.in-Ok.n c.if-n-eq0.false within in
    let one =
    given-gave before.open_still read.gave read.writes read.device.0 (λ none. absurd (c.if-n-eq0.false none)) in
    let fits : filled + c.in-Ok.n ≤ c.make_room.new.input.len = omega arith in
    record {
      gained = before.gained ++ piece ∷ [];
      gave = given-push before.gave one;
      filled = AreFilled-push before.gained before.filled some;
      is = front-more buffer c.read.new.buf _ _ fits (omega arith) within
          ∙ ap (λ front. front ++ piece)
          (ap (take filled) c.deref_mut.ensures.value ∙ c.make_room.ensures.kept ∙ before.is)
          ∙ sym (concat-push before.gained piece);
      within = fits;
      open_still = still-open piece one.turns.1 some;
    }
