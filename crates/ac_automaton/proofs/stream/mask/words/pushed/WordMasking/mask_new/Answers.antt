-- What came is masked, where it is known.
use Rattle.std.proofs.Common.{◌≡◌, ◌+◌, false, List, ℕ, sym, ap, subst, ◌∙◌, arith}
use Rattle.ac_input.specs.declared.search.Anchored.TheVariants.{No}
use Rattle.ac_input.specs.Steps.{AreNone}
use Rattle.ac_input.proofs.lemmas.SomeLemmas.{live-some}
use Rattle.ac_automaton.specs.Masking.Words.{CostsReading, MasksKnown}
use Rattle.ac_automaton.specs.Masking.Words.Pushed.{IsStreamWordMask}
use Rattle.ac_automaton.specs.Stream.Mask.{passed_to}
use Rattle.ac_automaton.proofs.stream.mask.words.WordPushLemmas.{masked-cut, masked-is, masked-paid, masked-view, word_mask_by}
use Rattle.ac_automaton.proofs.stream.mask.words.pushed.WordMasking.mask_new.Given.{Over}
use Rattle.ac_automaton.proofs.stream.mask.words.pushed.WordMasking.mask_new.Goals as goal
use Rattle.ac_automaton.proofs.stream.mask.words.pushed.WordMasking.mask_new.Goals.{After-mask_new}

-- more may come
unclosed : (g : Over) (c : After-mask_new g) → c.self.inside.closed ≡ false
unclosed g c = ap (λ s. s.closed) c.self.view_is ∙ c.requires.unclosed

-- what was passed
abbrev passed : (g : Over) → After-mask_new g → List ℕ
passed g c = passed_to (word_mask_by g.A.Automaton c.self.inside)

-- each word that is known is masked
masked : (g : Over) (c : After-mask_new g)
    → MasksKnown (g.A.Automaton.built c.self.inside.automaton).dictionary
    (g.A.Automaton.Reaches c.self.inside.automaton No) c.self.inside.mask c.self.inside.masker.from false (passed g c)
    c.mask_new.new.self.place c.mask_new.new.self.masked.bytes
masked g c = c.mask_new.ensures.masks (passed g c) (c.self.invariant.open_ (unclosed g c))

-- and it cost so much
cost : (g : Over) (c : After-mask_new g)
    → CostsReading (g.A.Automaton.built c.self.inside.automaton) (passed g c) c.self.inside.masker.place.at
    c.mask_new.new.self.place.at c.new-taken.result c.mask_new.new.steps
cost g c = c.mask_new.ensures.cost (passed g c) (c.self.invariant.open_ (unclosed g c))

-- no step was counted before
fresh : (g : Over) (c : After-mask_new g) → AreNone c.new-taken.result
fresh g c =
    record {
      looked = c.new-taken.ensures.looked;
      scanned = c.new-taken.ensures.scanned;
      moved = c.new-taken.ensures.moved;
    }

pub cut_after-self-inside-requires-clause-reached :
    goal.cut_after-self-inside-requires-clause-reached
cut_after-self-inside-requires-clause-reached g c =
    ∣ (_, (masked g (goal.at.cut_after-self-inside-requires-clause-reached g c).After-mask_new).1.place.reads) ∣₁

pub invariant_of-self : goal.invariant_of-self
invariant_of-self g c =
    let d = (goal.at.invariant_of-self g c).After-mask_new in
    let i = c.self.inside in
    let is = c.self.invariant in
    let same = c.mask_new.ensures.same in
    let cut = masked-cut g.A.Automaton i is (unclosed g d) same (masked g d) c.keep.ensures
    c.cut_after-self-inside.ensures in
    subst (λ t. IsStreamWordMask (g.A.Automaton.Reaches i.automaton No) t c.mask_new.new.self i.over)
    (sym
    (masked-view g.A.Automaton i is (unclosed g d) same (masked g d) (fresh g d) (cost g d)
    c.cut_after-self-inside.result c.add-2.new.self c.add-2.ensures.looked c.add-2.ensures.scanned))
    (masked-is g.A.Automaton i is (unclosed g d) same (masked g d) (fresh g d) (cost g d)
    c.cut_after-self-inside.result cut.0 cut.1)

pub returns-clause-counts : goal.returns-clause-counts
returns-clause-counts g c =
    let d = (goal.at.returns-clause-counts g c).After-mask_new in
    let paid = masked-paid g.A.Automaton c.self.inside c.self.invariant (unclosed g d) c.mask_new.ensures.same
    (masked g d) (fresh g d) (cost g d) (live-some).0 (live-some).1 in
    let looked = ap (λ s. s.looked) c.self.view_is in
    let scanned = ap (λ s. s.scanned) c.self.view_is in
    let moved = ap (λ s. s.moved) c.self.view_is in
    let same = ap (λ w. w.plain.moved + w.masked.moved) c.mask_new.ensures.same in (
      c.mask_new.new.steps.looked.value,
      c.mask_new.new.steps.scanned.value,
      c.mask_new.new.steps.moved.value,
      record { looked = c.add.ensures.looked; scanned = c.add.ensures.scanned; moved = c.add.ensures.moved },
      omega (arith, looked, c.add-2.ensures.looked),
      omega (arith, scanned, c.add-2.ensures.scanned),
      omega (arith, moved, same, paid.4),
    )

pub returns-clause-kept : goal.returns-clause-kept
returns-clause-kept g c = (invariant_of-self g c).course
