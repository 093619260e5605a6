-- A piece comes after room was made, and is masked.
use Rattle.std.proofs.Common.{◌≡◌, ◌<◌, length, sym, ap, subst, arith}
use Rattle.std.proofs.lemmas.Grind.{common_steps}
use Rattle.std.proofs.lemmas.Bool.Decides.{nat_tests}
use Rattle.std.proofs.lemmas.Result.{err_from_is_err_and}
use Rattle.ac_automaton.specs.Stream.{CanBeCounted, Picks, room_of}
use Rattle.ac_automaton.specs.Stream.Mask.{passed_to}
use Rattle.ac_automaton.proofs.stream.StreamMaskLemmas.{append-masked, append-stopped, made-none, mask-counts-none, mask_by, open-for}
use Rattle.ac_automaton.proofs.stream.StreamPushLemmas.{not-empty}
use Rattle.ac_automaton.proofs.stream.mask.masker.Masker.push_counted.Goals as goal

pub returns-then-self-clause-counts : goal.returns-then-self-clause-counts
returns-then-self-clause-counts g c =
    mask-counts-none c.args.self.now (mask_by g.A.Automaton c.self.inside) c.args.steps.now (ap (λ t. t.looked) c.self.view_is)
    (ap (λ t. t.scanned) c.self.view_is) (ap (λ t. t.moved) c.self.view_is)

pub make_room-requires-clause-masked : goal.make_room-requires-clause-masked
make_room-requires-clause-masked g c =
    c.requires.masked (subst (λ s. CanBeCounted (passed_to s)) c.self.view_is (c.self.invariant.countable c.if-self.false))

pub returns-then-is_empty-clause-pushed : goal.returns-then-is_empty-clause-pushed
returns-then-is_empty-clause-pushed g c =
    let few = subst (λ s. CanBeCounted (passed_to s)) c.self.view_is (c.self.invariant.countable c.if-self.false) in
    let made = c.make_room.ensures.made in
    let open_ = open-for made c.requires.unclosed (c.requires.masked few) c.make_room.ensures.room in
    let none : length c.args.piece.now ≡ 0 = grind (arith, nat_tests) in (
      (made-none made, open_.masked, subst CanBeCounted (ap passed_to (sym made.same)) few),
      record {
        within = omega arith;
        some = λ some. let more = not-empty c.args.piece.now some in omega (arith, more, none);
        full = λ lt. omega (arith, lt, none);
      },
    )

pub append-requires-clause-open : goal.append-requires-clause-open
append-requires-clause-open g c =
    open-for c.make_room.ensures.made c.requires.unclosed
    (c.requires.masked (subst (λ s. CanBeCounted (passed_to s)) c.self.view_is (c.self.invariant.countable c.if-self.false)))
    c.make_room.ensures.room

pub returns-in_err-n-clause-pushed : goal.returns-in_err-n-clause-pushed
returns-in_err-n-clause-pushed g c =
    let p = err_from_is_err_and c.from_residual.result c.from_residual.ensures.1 in
    rw (p.1, p.2)
    (append-stopped c.append.new.self c.make_room.ensures.made (room_of Picks) c.args.piece.now _
    (let some : 0 < length c.args.piece.now = grind (arith, nat_tests) in some) c.in_err-n.ensures.appended)

pub returns-clause-pushed : goal.returns-clause-pushed
returns-clause-pushed g c =
    let appended = c.in_ok-n.ensures.appended in
    let some : 0 < length c.args.piece.now = grind (arith, nat_tests) in
    append-masked c.append.new.self c.make_room.ensures.made (room_of Picks) c.args.piece.now
    (appended.1.some (λ none. let e = ap length none in omega (arith, e, some))) appended c.mask_new.ensures.masked

pub returns-then-self-clause-pushed : goal.returns-then-self-clause-pushed
returns-then-self-clause-pushed g c = grind (arith, common_steps)
