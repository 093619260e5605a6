-- What is masked where the walk stops, and as it reads on.
use Rattle.std.proofs.Common.{◌≡◌, ◌+◌, true, length, sym, ap, subst, ◌∙◌, arith}
use Rattle.std.proofs.lemmas.Grind.{common_steps}
use Rattle.ac_input.specs.declared.search.Anchored.TheVariants.{No}
use Rattle.ac_automaton.specs.Masking.Words.{HasMaskedWords, known_to}
use Rattle.ac_automaton.proofs.masking.words.CostLemmas.{costs-then}
use Rattle.ac_automaton.proofs.masking.words.WordMaskLemmas.{shows-quiet}
use Rattle.ac_automaton.proofs.words.FinalLemmas.{window-end}
use Rattle.ac_automaton.proofs.masking.words.mask_words_from.Goals as goal
use Rattle.ac_automaton.proofs.masking.words.mask_words_from.Goals.{then-place-end, else-place-end+then-window}

pub returns-then-place-end-2-clause-masks : goal.returns-then-place-end-2-clause-masks
returns-then-place-end-2-clause-masks g c x is stands =
    let a = c.args.automaton.now in
    let p = c.loop-place.place in
    let size = window-end is in
    let end : p.at ≡ length x = let e = c.if-place-end-2.true in omega arith in
    let closed : c.args.window.closed ≡ true =
    elim c.if-place-end.branch [
      | then-place-end w ↦ absurd (let lt = w.if-place-end.true in omega arith)
      | else-place-end+then-window w ↦ w.if-window.true
    ] in
    let known : p.at + 1 ≡ known_to c.args.window.closed x = ap (λ n. n + 1) end ∙ sym (ap (λ b. known_to b x) closed) in (
      end,
      subst (λ n. HasMaskedWords (g.A.Automaton.built a).dictionary (g.A.Automaton.Reaches a No) c.args.mask
          c.args.window.from n x p c.mask_word-last.new.masked) known
          (c.mask_word-last.ensures.masked x is (c.loop-place.invariant.has x is stands)),
    )

pub returns-then-place-end-2-clause-cost : goal.returns-then-place-end-2-clause-cost
returns-then-place-end-2-clause-cost g c x is stands = (c.loop-place.invariant.cost x is stands).1

pub loop-place-preserved : goal.loop-place-preserved
loop-place-preserved g c =
    let a = c.args.automaton.now in
    let b = g.A.Automaton.built a in
    let was = c.loop-place.invariant in
    let p = c.loop-place.place in
    let far = c.read_on.ensures.further.0 in
    let further = was.further in
    let last = c.mask_word-last.ensures.last in
    record {
      further = omega arith;
      last = let within = last.within in record { order = last.order; within = omega arith; masked = last.masked };
      has = λ x is stands.
          let seen = c.mask_word-last.ensures.masked x is (was.has x is stands) in
          let reads = c.read_on.ensures.reads x is seen.place in
          record {
            place = reads.0;
            shows = shows-quiet b.dictionary c.args.mask c.args.window.from p.at x c.mask_word-last.new.masked
                c.read_on.new.place.at far reads.1 seen.shows;
          };
      cost = λ x is stands.
          let before = was.cost x is stands in (
            (c.read_on.ensures.reads x is before.0).0,
            costs-then b x further (omega arith) before.1 (c.read_on.ensures.cost x is before.0),
          );
    }

pub returns-clause-masks : goal.returns-clause-masks
returns-clause-masks g c x is stands =
    let a = c.args.automaton.now in
    let p = c.loop-place.place in
    let size = window-end is in
    let has = c.loop-place.invariant.has x is stands in
    let within = has.place.within in
    let past = c.if-place-end.false in
    let end : p.at ≡ length x = omega arith in
    let known : p.at ≡ known_to c.args.window.closed x = end ∙ sym (ap (λ b. known_to b x) c.if-window.false) in (
      end,
      subst (λ n. HasMaskedWords (g.A.Automaton.built a).dictionary (g.A.Automaton.Reaches a No) c.args.mask
          c.args.window.from n x p c.loop-place.masked) known has,
    )

pub returns-clause-cost : goal.returns-clause-cost
returns-clause-cost g c x is stands = (c.loop-place.invariant.cost x is stands).1

pub read_on-requires-clause-stands : goal.read_on-requires-clause-stands
read_on-requires-clause-stands g c = grind (arith, common_steps)

pub overflow_add-end : goal.overflow_add-end
overflow_add-end g c = grind (arith, common_steps)

pub overflow_sub-begun : goal.overflow_sub-begun
overflow_sub-begun g c = grind (arith, common_steps)

pub loop-place-init : goal.loop-place-init
loop-place-init g c = grind (arith, common_steps)

pub mask_word-last-requires-clause-standard : goal.mask_word-last-requires-clause-standard
mask_word-last-requires-clause-standard g c = grind (arith, common_steps)

pub mask_word-last-requires-clause-near : goal.mask_word-last-requires-clause-near
mask_word-last-requires-clause-near g c = grind (arith, common_steps)

pub mask_word-last-requires-clause-last : goal.mask_word-last-requires-clause-last
mask_word-last-requires-clause-last g c = grind (arith, common_steps)

pub mask_word-last-requires-clause-may : goal.mask_word-last-requires-clause-may
mask_word-last-requires-clause-may g c = grind (arith, common_steps)

pub read_on-requires-clause-standard : goal.read_on-requires-clause-standard
read_on-requires-clause-standard g c = grind (arith, common_steps)

pub read_on-requires-clause-fits : goal.read_on-requires-clause-fits
read_on-requires-clause-fits g c = grind (arith, common_steps)

pub read_on-requires-clause-held : goal.read_on-requires-clause-held
read_on-requires-clause-held g c = grind (arith, common_steps)

pub loop-place-smaller : goal.loop-place-smaller
loop-place-smaller g c = grind (arith, common_steps)
