-- A walk over the copy of a text masks the words of the whole text.
use Rattle.std.proofs.Common.{◌≡◌, ◌∙◌, ◌++◌, ap, arith}
use Rattle.std.proofs.lemmas.Grind.{common_steps}
use Rattle.ac_input.specs.declared.search.Anchored.TheVariants.{No}
use Rattle.ac_automaton.specs.Words.{IsWindowOf}
use Rattle.ac_automaton.proofs.masking.words.CostLemmas.{whole-costs}
use Rattle.ac_automaton.proofs.masking.words.WordMaskLemmas.{begins-masking, shows-all}
use Rattle.ac_automaton.proofs.in_memory.mask.mask_words.Given.{Over}
use Rattle.ac_automaton.proofs.in_memory.mask.mask_words.Goals as goal
use Rattle.ac_automaton.proofs.in_memory.mask.mask_words.Goals.{After-deref}

-- the copy has the bytes of the text
copied : (g : Over) (c : After-deref g) → c.deref.result.now ≡ c.args.text.now
copied g c =
    c.deref.ensures.value ∙ c.in_ok-extend_from_slice.ensures.items
    ∙ ap (λ l. l ++ c.args.text.now) c.in_ok-copy.ensures.items

pub returns-clause-masked : goal.returns-clause-masked
returns-clause-masked g c =
    let a = c.args.automaton.now in
    let b = g.A.Automaton.built a in
    let x = c.args.text.now in
    let start = c.in_ok-start.start in
    let done = c.mask_words_from.ensures.masks x
    (record { within = omega arith; shown = copied g (goal.at.returns-clause-masked g c).After-deref })
    (begins-masking b.dictionary (g.A.Automaton.Reaches a No) c.args.mask x start c.in_ok-start.ensures.start) in (
      c.in_ok-start.ensures.can.0,
      c.in_ok-start.ensures.can.1,
      shows-all b c.args.mask x c.mask_words_from.new.masked done.1.shows,
    )

pub returns-clause-cost : goal.returns-clause-cost
returns-clause-cost g c =
    let a = c.args.automaton.now in
    let b = g.A.Automaton.built a in
    let x = c.args.text.now in
    let is : IsWindowOf _ x =
    record { within = omega arith; shown = copied g (goal.at.returns-clause-cost g c).After-deref } in
    let begins = begins-masking b.dictionary (g.A.Automaton.Reaches a No) c.args.mask x c.in_ok-start.start
    c.in_ok-start.ensures.start in
    let done = c.mask_words_from.ensures.masks x is begins in
    whole-costs b x c.mask_words_from.new.place.at done.0 (c.mask_words_from.ensures.cost x is begins.place)

pub mask_words_from-requires-clause-may : goal.mask_words_from-requires-clause-may
mask_words_from-requires-clause-may g c = grind (arith, common_steps)

pub returns-in_err-start-clause-masked : goal.returns-in_err-start-clause-masked
returns-in_err-start-clause-masked g c = grind (arith, common_steps)

pub returns-in_err-start-clause-cost : goal.returns-in_err-start-clause-cost
returns-in_err-start-clause-cost g c = grind (arith, common_steps)

pub returns-in_err-copy-clause-masked : goal.returns-in_err-copy-clause-masked
returns-in_err-copy-clause-masked g c = grind (arith, common_steps)

pub returns-in_err-copy-clause-cost : goal.returns-in_err-copy-clause-cost
returns-in_err-copy-clause-cost g c = grind (arith, common_steps)

pub mask_words_from-requires-clause-standard : goal.mask_words_from-requires-clause-standard
mask_words_from-requires-clause-standard g c = grind (arith, common_steps)

pub mask_words_from-requires-clause-fits : goal.mask_words_from-requires-clause-fits
mask_words_from-requires-clause-fits g c = grind (arith, common_steps)

pub mask_words_from-requires-clause-near : goal.mask_words_from-requires-clause-near
mask_words_from-requires-clause-near g c = grind (arith, common_steps)
