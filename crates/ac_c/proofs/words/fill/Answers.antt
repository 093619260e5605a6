-- Each turn moves one word into the buffer.
use Rattle.std.proofs.Common.{◌≡◌, ℕ, ◌∷◌, drop, length, None, Some, refl, sym, ap, ◌∙◌, arith}
use Rattle.ac_automaton.specs.InMemory.Words.{WordWalk, words_left}
use Rattle.ac_automaton.proofs.in_memory.words.WordWalkLemmas.{word-yields}
use Rattle.ac_c.proofs.walk.FillLemmas.{fill-end, fill-enough, fill-given, fill-rest}
use Rattle.ac_c.proofs.words.FillWordsLemmas.{from-written, words-none, words-on, words-over, words-same, words-stay, words-within}
use Rattle.ac_c.proofs.words.fill.Goals as goal

pub loop-at-init : goal.loop-at-init
loop-at-init c = record {
  rest = refl;
  enough = omega arith;
  given = refl;
  same = refl;
  within = c.requires;
  cost = words-none _ _;
}

pub returns-in-None-clause-gives : goal.returns-in-None-clause-gives
returns-in-None-clause-gives c =
    let i = c.loop-at.invariant in
    let n = c.in-None.ensures in
    let yields = word-yields c.loop-at.words c.next_counted.new.self None n.filled n.gives in
    let end : c.loop-at.at ≡ length (words_left c.args.words.now) = fill-end _ c.loop-at.at (sym i.rest ∙ yields.0) i.enough in
    record {
      given = record { count = omega arith; given = i.given };
      rest = yields.1 ∙ sym (sym i.rest ∙ yields.0);
      same = words-stay c.args.words.now c.loop-at.words c.next_counted.new.self _ i.same n.gives;
    }

pub returns-in-None-clause-cost : goal.returns-in-None-clause-cost
returns-in-None-clause-cost c =
    let i = c.loop-at.invariant in
    let built = ap (λ (x : WordWalk). x.built) i.same in
    let haystack = ap (λ (x : WordWalk). x.haystack) i.same in
    record {
      full = λ full. absurd (omega arith);
      over =
          λ less. words-over c.args.words.now c.loop-at.words c.next_counted.new.self c.loop-at.at _ _ _ built haystack
          (rw haystack at i.within) i.cost c.in-None.ensures.cost;
    }

pub loop-at-preserved : goal.loop-at-preserved
loop-at-preserved c =
    let i = c.loop-at.invariant in
    let n = c.in-Some.ensures in
    let o = c.in-Some.found in
    let w = c.args.words.now in
    let u = c.next_counted.new.self in
    let next : drop c.loop-at.at (words_left w) ≡ o ∷ words_left u =
    sym i.rest ∙ word-yields c.loop-at.words u (Some o) n.filled n.gives in
    record {
      rest = fill-rest _ c.loop-at.at o _ next;
      enough = fill-enough _ c.loop-at.at o _ next;
      given = rw c.from_match.ensures (fill-given _ c.loop-at.out c.loop-at.at o _ (omega arith) next i.given);
      same =
          rw c.from_match.ensures (words-same w c.loop-at.words u _ o i.same n.gives
          ∙ ap (λ (at : ℕ). record w { at = at; read = u.read; looked = u.looked; scanned = u.scanned; moved = u.moved })
          (sym (from-written w.at c.loop-at.out c.loop-at.at o (omega arith))));
      within = words-within c.loop-at.words u o n.gives;
      cost =
          rw (ap (λ (x : WordWalk). x.at) n.gives.1) (words-on w c.loop-at.words u c.loop-at.at o _ _ _
          (ap (λ (x : WordWalk). x.built) i.same) (ap (λ (x : WordWalk). x.kind) i.same) i.cost n.gives n.cost);
    }
