-- One read after another is masked and written, up to the end.
use Rattle.std.proofs.Common.{◌≡◌, ◌<◌, ◌≤◌, true, false, nat_eq, List, ℕ, ◌++◌, length, sym, ap, subst, ◌∙◌, arith, length-append}
use Rattle.std.proofs.lemmas.Grind.{common_steps}
use Rattle.std.specs.List.{concat}
use Rattle.std.proofs.lemmas.Bool.Decides.{nat_tests}
use Rattle.std.proofs.lemmas.Result.{err_from_is_err_and}
use Rattle.ac_input.specs.declared.search.Anchored.TheVariants.{No}
use Rattle.ac_input.specs.Occurrence.{Occurrence}
use Rattle.ac_input.specs.Dictionary.{whole}
use Rattle.ac_input.specs.Word.{OccursWhole}
use Rattle.ac_automaton.specs.Masking.Words.{CostsReading, MasksKnown, known_to}
use Rattle.ac_automaton.specs.Masking.Words.Stream.{IsWordMaskCut, IsWordMasker}
use Rattle.ac_automaton.proofs.stream.StreamMaskEndLemmas.{taken-all}
use Rattle.ac_automaton.proofs.stream.mask.words.WordEndLemmas.{IsSettled, known-before, settled-next, word-cut_at, written-first, written-next}
use Rattle.ac_automaton.proofs.stream.mask.words.WordMaskerLemmas.{masker-held}
use Rattle.ac_automaton.proofs.stream.mask.words.WordReadLemmas.{came, can-write, next-costs, piece-fits, roomy, stop-costs, stop-writes, write-ended, write-stopped}
use Rattle.ac_automaton.proofs.stream.mask.words.mask_to_end.Given.{Over}
use Rattle.ac_automaton.proofs.stream.mask.words.mask_to_end.Goals as goal
use Rattle.ac_automaton.proofs.stream.mask.words.mask_to_end.Goals.{After-cut_after-cut, After-mask_new}

pub loop-n-init : goal.loop-n-init
loop-n-init g c =
    let fresh = c.requires.fresh in
    written-first (g.A.Automaton.built c.args.automaton.now) (g.A.Automaton.Reaches c.args.automaton.now No) c.args.mask
    c.args.reader.now c.args.writer.now c.args.stream.now c.args.steps.now fresh.0 fresh.1 fresh.2 c.requires.alike
    c.requires.open

pub returns-in_err-n-clause-writes : goal.returns-in_err-n-clause-writes
returns-in_err-n-clause-writes g c =
    let p = err_from_is_err_and c.from_residual.result c.from_residual.ensures.1 in
    rw (p.1, p.2)
    (stop-writes g.R.Read.remaining g.W.Write.contents (g.A.Automaton.built c.args.automaton.now)
    (g.A.Automaton.Reaches c.args.automaton.now No) c.args.mask c.loop-n.invariant c.make_room.ensures.rolled
    c.make_room.ensures.made c.make_room.ensures.counts c.fill.new.self _ c.in_err-n.ensures)

pub returns-in_err-n-clause-cost : goal.returns-in_err-n-clause-cost
returns-in_err-n-clause-cost g c =
    let p = err_from_is_err_and c.from_residual.result c.from_residual.ensures.1 in
    rw (p.1, p.2)
    (stop-costs g.R.Read.remaining g.W.Write.contents (g.A.Automaton.built c.args.automaton.now)
    (g.A.Automaton.Reaches c.args.automaton.now No) c.args.mask c.loop-n.invariant c.make_room.ensures.rolled
    c.make_room.ensures.made c.make_room.ensures.counts c.fill.new.self _ c.in_err-n.ensures)

pub mask_new-requires-clause-is : goal.mask_new-requires-clause-is
mask_new-requires-clause-is g c = (
  concat c.loop-n.invariant.pieces ++ c.in_ok-n.ensures.0,
  came g.R.Read.remaining g.W.Write.contents (g.A.Automaton.built c.args.automaton.now)
      (g.A.Automaton.Reaches c.args.automaton.now No) c.args.mask c.loop-n.invariant c.make_room.ensures.rolled
      c.make_room.ensures.made c.make_room.ensures.counts c.fill.new.self c.in_ok-n.ensures,
)

-- what was read, with the piece
abbrev passed : (g : Over) → After-mask_new g → List ℕ
passed g c = concat c.loop-n.invariant.pieces ++ c.in_ok-n.ensures.0

-- what it keeps is right, with the piece
came_is : (g : Over) (c : After-mask_new g)
    → IsWordMasker (g.A.Automaton.built c.args.automaton.now) (g.A.Automaton.Reaches c.args.automaton.now No) c.args.mask
    (passed g c) c.fill.new.self
came_is g c =
    came g.R.Read.remaining g.W.Write.contents (g.A.Automaton.built c.args.automaton.now)
    (g.A.Automaton.Reaches c.args.automaton.now No) c.args.mask c.loop-n.invariant c.make_room.ensures.rolled
    c.make_room.ensures.made c.make_room.ensures.counts c.fill.new.self c.in_ok-n.ensures

-- what came is masked
masked_is : (g : Over) (c : After-mask_new g)
    → MasksKnown (g.A.Automaton.built c.args.automaton.now).dictionary (g.A.Automaton.Reaches c.args.automaton.now No)
    c.args.mask c.fill.new.self.from (nat_eq c.in_ok-n.n 0) (passed g c) c.mask_new.new.self.place
    c.mask_new.new.self.masked.bytes
masked_is g c = c.mask_new.ensures.masks (passed g c) (came_is g c)

-- and it cost so much
cost_is : (g : Over) (c : After-mask_new g)
    → CostsReading (g.A.Automaton.built c.args.automaton.now) (passed g c) c.fill.new.self.place.at
    c.mask_new.new.self.place.at c.make_room.new.steps c.mask_new.new.steps
cost_is g c = c.mask_new.ensures.cost (passed g c) (came_is g c)

-- all that could be written before was
settled_is : (g : Over) (c : After-mask_new g)
    → IsSettled g.W.Write.contents (g.A.Automaton.built c.args.automaton.now)
    (g.A.Automaton.Reaches c.args.automaton.now No) c.args.mask c.args.writer.now c.loop-n.writer
    (concat c.loop-n.invariant.pieces) c.make_room.new.self c.args.steps.now c.make_room.new.steps
settled_is g c =
    roomy g.R.Read.remaining g.W.Write.contents (g.A.Automaton.built c.args.automaton.now)
    (g.A.Automaton.Reaches c.args.automaton.now No) c.args.mask c.loop-n.invariant c.make_room.ensures.rolled
    c.make_room.ensures.made c.make_room.ensures.counts

-- what was written ends no later than what was read
later : (g : Over) (c : After-mask_new g) → c.make_room.new.self.out ≤ length (passed g c)
later g c =
    let le = (settled_is g c).cut.final.0 in
    let both = length-append (concat c.loop-n.invariant.pieces) c.in_ok-n.ensures.0 in
    omega (arith, le, both)

pub between-requires : goal.between-requires
between-requires g c =
    let d = (goal.at.between-requires g c).After-mask_new in
    let e = (masked_is g d).0 in
    let le = later g d in
    can-write g.R.Read.remaining g.W.Write.contents (g.A.Automaton.built c.args.automaton.now)
    (g.A.Automaton.Reaches c.args.automaton.now No) c.args.mask c.loop-n.invariant c.make_room.ensures.rolled
    c.make_room.ensures.made c.make_room.ensures.counts c.fill.new.self c.in_ok-n.ensures
    (nat_eq c.in_ok-n.n 0) c.mask_new.new.self c.mask_new.ensures.same (masked_is g d) (cost_is g d)
    c.mask_new.new.self.place.at (omega (arith, e, le)) (omega (arith, e))

pub returns-then-n-eq0-clause-writes : goal.returns-then-n-eq0-clause-writes
returns-then-n-eq0-clause-writes g c =
    let d = (goal.at.returns-then-n-eq0-clause-writes g c).After-mask_new in
    let none : c.in_ok-n.n ≡ 0 = grind (arith, nat_tests) in
    let over : nat_eq c.in_ok-n.n 0 ≡ true = grind (arith, nat_tests) in
    write-ended g.R.Read.remaining g.W.Write.contents (g.A.Automaton.built c.args.automaton.now)
    (g.A.Automaton.Reaches c.args.automaton.now No) c.args.mask c.loop-n.invariant c.make_room.ensures.rolled
    c.make_room.ensures.made c.make_room.ensures.counts c.fill.new.self c.in_ok-n.ensures
    (nat_eq c.in_ok-n.n 0) c.mask_new.new.self c.mask_new.ensures.same (masked_is g d) (cost_is g d) c.write_whole.result
    none over c.between.ensures c.write_whole.ensures.took c.write_whole.ensures.reads

pub returns-then-n-eq0-clause-cost : goal.returns-then-n-eq0-clause-cost
returns-then-n-eq0-clause-cost g c =
    let d = (goal.at.returns-then-n-eq0-clause-cost g c).After-mask_new in
    next-costs g.R.Read.remaining g.W.Write.contents (g.A.Automaton.built c.args.automaton.now)
    (g.A.Automaton.Reaches c.args.automaton.now No) c.args.mask c.loop-n.invariant c.make_room.ensures.rolled
    c.make_room.ensures.made c.make_room.ensures.counts c.fill.new.self c.in_ok-n.ensures
    (nat_eq c.in_ok-n.n 0) c.mask_new.new.self c.mask_new.ensures.same (masked_is g d) (cost_is g d) c.write_whole.result

pub cut_after-cut-requires-clause-reached : goal.cut_after-cut-requires-clause-reached
cut_after-cut-requires-clause-reached g c =
    ∣ (_, (masked_is g (goal.at.cut_after-cut-requires-clause-reached g c).After-mask_new).1.place.reads) ∣₁

-- the place up to which all may be written
cut_is : (g : Over) (c : After-cut_after-cut g)
    → (c.make_room.new.self.out ≤ c.cut_after-cut.result)
    × IsWordMaskCut (g.A.Automaton.built c.args.automaton.now).dictionary
    (concat c.loop-n.invariant.pieces ++ c.in_ok-n.ensures.0) c.cut_after-cut.result
cut_is g c =
    let is = came g.R.Read.remaining g.W.Write.contents (g.A.Automaton.built c.args.automaton.now)
    (g.A.Automaton.Reaches c.args.automaton.now No) c.args.mask c.loop-n.invariant c.make_room.ensures.rolled
    c.make_room.ensures.made c.make_room.ensures.counts c.fill.new.self c.in_ok-n.ensures in
    let masks = c.mask_new.ensures.masks (concat c.loop-n.invariant.pieces ++ c.in_ok-n.ensures.0) is in
    word-cut_at g.A.Automaton c.args.automaton.now (concat c.loop-n.invariant.pieces) c.in_ok-n.ensures.0
    c.mask_new.new.self.place c.make_room.new.self.out masks.1.place masks.0
    (c.keep.ensures ∙ ap (λ u. u.plain.keep) c.mask_new.ensures.same ∙ is.keep)
    (roomy g.R.Read.remaining g.W.Write.contents (g.A.Automaton.built c.args.automaton.now)
    (g.A.Automaton.Reaches c.args.automaton.now No) c.args.mask c.loop-n.invariant c.make_room.ensures.rolled
    c.make_room.ensures.made c.make_room.ensures.counts).cut
    (ap (λ u. u.out) c.mask_new.ensures.same ∙ ap (λ u. u.out) c.in_ok-n.ensures.1) c.requires.filled
    c.cut_after-cut.ensures

pub between-requires-in-loop-n : goal.between-requires-in-loop-n
between-requires-in-loop-n g c =
    let at = goal.at.between-requires-in-loop-n g c in
    let cut = cut_is g at.After-cut_after-cut in
    can-write g.R.Read.remaining g.W.Write.contents (g.A.Automaton.built c.args.automaton.now)
    (g.A.Automaton.Reaches c.args.automaton.now No) c.args.mask c.loop-n.invariant c.make_room.ensures.rolled
    c.make_room.ensures.made c.make_room.ensures.counts c.fill.new.self c.in_ok-n.ensures
    (nat_eq c.in_ok-n.n 0) c.mask_new.new.self c.mask_new.ensures.same (masked_is g at.After-mask_new)
    (cost_is g at.After-mask_new) c.cut_after-cut.result cut.0 cut.1.final.0

-- before it, all is known
known : (g : Over) (c : After-cut_after-cut g) (o : Occurrence)
    → OccursWhole (whole (g.A.Automaton.built c.args.automaton.now).dictionary
    (concat c.loop-n.invariant.pieces ++ c.in_ok-n.ensures.0) false) o
    → o.start < c.cut_after-cut.result
    → o.end < known_to (nat_eq c.in_ok-n.n 0) (concat c.loop-n.invariant.pieces ++ c.in_ok-n.ensures.0)
known g c o word before =
    let more : nat_eq c.in_ok-n.n 0 ≡ false = grind (arith, nat_tests) in
    let y = concat c.loop-n.invariant.pieces ++ c.in_ok-n.ensures.0 in
    subst (λ z. o.end < known_to z y) (sym more)
    (known-before (g.A.Automaton.built c.args.automaton.now).dictionary y c.cut_after-cut.result (cut_is g c).1.final o
    word before)

pub returns-in_err-write_whole-clause-writes : goal.returns-in_err-write_whole-clause-writes
returns-in_err-write_whole-clause-writes g c =
    let p = err_from_is_err_and c.from_residual-in_err-write_whole.result c.from_residual-in_err-write_whole.ensures.1 in
    let at = goal.at.returns-in_err-write_whole-clause-writes g c in
    let cut = cut_is g at.After-cut_after-cut in
    rw (p.1, p.2)
    (write-stopped g.R.Read.remaining g.W.Write.contents (g.A.Automaton.built c.args.automaton.now)
    (g.A.Automaton.Reaches c.args.automaton.now No) c.args.mask c.loop-n.invariant c.make_room.ensures.rolled
    c.make_room.ensures.made c.make_room.ensures.counts c.fill.new.self c.in_ok-n.ensures
    (nat_eq c.in_ok-n.n 0) c.mask_new.new.self c.mask_new.ensures.same (masked_is g at.After-mask_new)
    (cost_is g at.After-mask_new) c.cut_after-cut.result cut.0 cut.1.final.0 (known g at.After-cut_after-cut)
    c.between-in-loop-n.ensures _ c.in_err-write_whole.ensures.took c.write_whole-in-loop-n.ensures.reads)

pub returns-in_err-write_whole-clause-cost : goal.returns-in_err-write_whole-clause-cost
returns-in_err-write_whole-clause-cost g c =
    let d = (goal.at.returns-in_err-write_whole-clause-cost g c).After-mask_new in
    next-costs g.R.Read.remaining g.W.Write.contents (g.A.Automaton.built c.args.automaton.now)
    (g.A.Automaton.Reaches c.args.automaton.now No) c.args.mask c.loop-n.invariant c.make_room.ensures.rolled
    c.make_room.ensures.made c.make_room.ensures.counts c.fill.new.self c.in_ok-n.ensures
    (nat_eq c.in_ok-n.n 0) c.mask_new.new.self c.mask_new.ensures.same (masked_is g d) (cost_is g d)
    c.from_residual-in_err-write_whole.result

pub loop-n-smaller : goal.loop-n-smaller
loop-n-smaller g c =
    let d = (goal.at.loop-n-smaller g c).After-mask_new in
    let end = (masked_is g d).0 in
    let was = c.loop-n.invariant.settled.all in
    let both = length-append (concat c.loop-n.invariant.pieces) c.in_ok-n.ensures.0 in
    let count = c.in_ok-n.ensures.3 in
    let held = masker-held (came_is g d) in
    let few = c.in_ok-n.ensures.5 in
    let some : 0 < c.in_ok-n.n = grind (arith, nat_tests) in
    omega (arith, end, was, both, count, held, few, some)

pub loop-n-preserved : goal.loop-n-preserved
loop-n-preserved g c =
    let at = goal.at.loop-n-preserved g c in
    let a = c.args.automaton.now in
    let b = g.A.Automaton.built a in
    let cut = cut_is g at.After-cut_after-cut in
    let ok = c.in_ok-n.ensures in
    let last = c.mask_new.new.self in
    let more : nat_eq c.in_ok-n.n 0 ≡ false = grind (arith, nat_tests) in
    let some : 0 < c.in_ok-n.n = grind (arith, nat_tests) in
    let count = ok.3 in
    let held = masker-held (came_is g at.After-mask_new) in
    let few = ok.5 in
    written-next c.loop-n.invariant ok.0 (λ none. let e = ap length none in omega (arith, e, count, some)) ok.2
    (piece-fits g.R.Read.remaining g.W.Write.contents (g.A.Automaton.built c.args.automaton.now)
    (g.A.Automaton.Reaches c.args.automaton.now No) c.args.mask c.loop-n.invariant c.make_room.ensures.rolled
    c.make_room.ensures.made c.make_room.ensures.counts c.fill.new.self c.in_ok-n.ensures)
    (settled-next g.W.Write.contents b (g.A.Automaton.Reaches a No) c.args.mask (settled_is g at.After-mask_new) ok.0
    c.fill.new.self ok.1 ok.4 last c.mask_new.ensures.same
    (subst (λ z. MasksKnown b.dictionary (g.A.Automaton.Reaches a No) c.args.mask c.fill.new.self.from z
    (concat c.loop-n.invariant.pieces ++ ok.0) last.place last.masked.bytes) more (masked_is g at.After-mask_new))
    (cost_is g at.After-mask_new) c.cut_after-cut.result c.between-in-loop-n.result.now cut.0 cut.1
    (omega (arith, held, few)) c.between-in-loop-n.ensures
    (taken-all c.in_ok-write_whole.ensures.took c.write_whole-in-loop-n.ensures.reads))

pub fill-requires-clause-fits : goal.fill-requires-clause-fits
fill-requires-clause-fits g c = grind (arith, common_steps)
