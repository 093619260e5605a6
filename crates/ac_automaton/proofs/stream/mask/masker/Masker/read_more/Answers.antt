-- One read is made after room was made, and what it returns is masked.
use Rattle.std.proofs.Common.{◌≡◌, ℕ, List, [], ◌∷◌, length, refl, sym, ap, subst, ◌∙◌, arith}
use Rattle.std.proofs.lemmas.Grind.{common_steps}
use Rattle.std.proofs.lemmas.Bool.Decides.{nat_tests}
use Rattle.std.proofs.lemmas.Result.{err_from_is_err_and}
use Rattle.ac_automaton.specs.Stream.{CanBeCounted}
use Rattle.ac_automaton.specs.Stream.Devices.Moved.{HasGiven}
use Rattle.ac_automaton.specs.Stream.Mask.{TakesPiece, passed_to}
use Rattle.ac_automaton.proofs.stream.StreamMaskLemmas.{fill-stopped, none-came, open-for}
use Rattle.ac_automaton.proofs.stream.mask.masker.Masker.read_more.Goals as goal

pub returns-in_err-n-clause-read : goal.returns-in_err-n-clause-read
returns-in_err-n-clause-read g c =
    let p = err_from_is_err_and c.from_residual.result c.from_residual.ensures.1 in
    let made = c.make_room.ensures.made in
    let open_ = open-for made c.requires.unclosed c.requires.masked c.make_room.ensures.room in
    rw (p.1, p.2)
    (fill-stopped c.fill.new.self made g.R.Read.remaining c.args.reader.now c.fill.new.reader _ open_.masked (subst CanBeCounted (ap passed_to (sym made.same)) c.requires.countable)
    c.in_err-n.ensures.filled)

pub returns-then-n-eq0-clause-read : goal.returns-then-n-eq0-clause-read
returns-then-n-eq0-clause-read g c =
    let made = c.make_room.ensures.made in
    let open_ = open-for made c.requires.unclosed c.requires.masked c.make_room.ensures.room in
    let filled = c.in_ok-n.ensures.filled in
    let n : c.in_ok-n.n ≡ 0 = grind (arith, nat_tests) in
    let none : filled.0 ≡ [] = nothing filled.0 (filled.3 ∙ n) in
    let came = none-came made open_.masked (subst CanBeCounted (ap passed_to (sym made.same)) c.requires.countable)
    (subst (TakesPiece c.make_room.new.self c.fill.new.self) none filled.1) in (
      [],
      came.0,
      subst (λ p. HasGiven g.R.Read.remaining c.args.reader.now c.fill.new.reader (p ∷ []) 0) none filled.2,
      refl,
      λ e. came.1,
    )
  where
    nothing : (p : List ℕ) → length p ≡ 0 → p ≡ []
    nothing [] e = refl
    nothing (x ∷ xs) e = absurd (omega (arith, e))

pub returns-clause-read : goal.returns-clause-read
returns-clause-read g c = grind (arith, common_steps)

pub make_room-requires-clause-unclosed : goal.make_room-requires-clause-unclosed
make_room-requires-clause-unclosed g c = grind (arith, common_steps)

pub make_room-requires-clause-masked : goal.make_room-requires-clause-masked
make_room-requires-clause-masked g c = grind (arith, common_steps)

pub fill-requires-clause-ended : goal.fill-requires-clause-ended
fill-requires-clause-ended g c = grind (arith, common_steps)

pub fill-requires-clause-open : goal.fill-requires-clause-open
fill-requires-clause-open g c = grind (arith, common_steps)

pub returns-in_err-n-clause-counts : goal.returns-in_err-n-clause-counts
returns-in_err-n-clause-counts g c = grind (arith, common_steps)

pub returns-in_err-n-clause-kept : goal.returns-in_err-n-clause-kept
returns-in_err-n-clause-kept g c = grind (arith, common_steps)

pub returns-then-n-eq0-clause-counts : goal.returns-then-n-eq0-clause-counts
returns-then-n-eq0-clause-counts g c = grind (arith, common_steps)

pub returns-then-n-eq0-clause-kept : goal.returns-then-n-eq0-clause-kept
returns-then-n-eq0-clause-kept g c = grind (arith, common_steps)

pub mask_new-requires-clause-unclosed : goal.mask_new-requires-clause-unclosed
mask_new-requires-clause-unclosed g c = grind (arith, common_steps)

pub mask_new-requires-clause-countable : goal.mask_new-requires-clause-countable
mask_new-requires-clause-countable g c = grind (arith, common_steps)

pub returns-clause-counts : goal.returns-clause-counts
returns-clause-counts g c = grind (arith, common_steps)

pub returns-clause-kept : goal.returns-clause-kept
returns-clause-kept g c = grind (arith, common_steps)
