-- The text between two words is copied, and each word is replaced.
use Rattle.std.proofs.Common.{◌≡◌, ◌++◌, length, map, ap, ◌∙◌, arith}
use Rattle.std.proofs.lemmas.List.{take_rest}
use Rattle.ac_automaton.specs.InMemory.Words.{fresh_words, words_left}
use Rattle.ac_automaton.proofs.lemmas.ReplaceLemmas.{ends-within, fewer-left, lies-first, lies-next, replaced-end, replaced-pushed}
use Rattle.ac_automaton.proofs.stream.StreamWordLemmas.{words-lie}
use Rattle.ac_automaton.proofs.in_memory.replace.replace_words.Goals as goal

pub loop-found-init : goal.loop-found-init
loop-found-init g c =
    let x = c.args.haystack.now in
    let b = g.A.Automaton.built c.args.automaton.now in
    let all : words_left c.in_ok-words.words ≡ words_left (fresh_words b c.args.kind x) =
    ap words_left c.in_ok-words.ensures.3 in
    record {
      order = rw (c.in_ok-replaced.ensures.items, all);
      lies = rw (c.requires, all) (words-lie (record b.dictionary { kind = c.args.kind }) x);
      within = omega arith;
    }

pub push_replaced-requires : goal.push_replaced-requires
push_replaced-requires g c =
    let l = lies-first c.in-Some.ensures.steps c.loop-found.invariant.lies in
    record { lies = (l.0, l.1, l.2, l.3, tt) }

pub loop-found-preserved : goal.loop-found-preserved
loop-found-preserved g c =
    let first = c.in-Some.ensures.steps in
    let patterns = length c.args.replacements.now in
    let x = c.args.haystack.now in
    let at = c.loop-found.at in
    record {
      order = replaced-pushed at x (map (λ r. r.now) c.args.replacements.now) c.loop-found.replaced.items first
          c.in_ok-push_replaced.ensures c.end-at.ensures.value c.loop-found.invariant.order;
      lies = lies-next patterns (length x) at first c.end-at.ensures.value c.loop-found.invariant.lies;
      within = ends-within patterns at first c.end-at.ensures.value c.loop-found.invariant.lies;
    }

pub loop-found-smaller : goal.loop-found-smaller
loop-found-smaller g c = fewer-left c.in-Some.ensures.steps

pub returns : goal.returns
returns g c =
    let x = c.args.haystack.now in
    let made = c.loop-found.replaced.items in (
      (c.in_ok-words.ensures.0, c.in_ok-words.ensures.1, c.in_ok-words.ensures.2),
      c.in_ok-extend_from_slice.ensures.items ∙ ap (λ t. made ++ t) (take_rest x c.loop-found.at)
          ∙ replaced-end c.loop-found.at x (map (λ r. r.now) c.args.replacements.now) made c.in_default.ensures.steps.0 c.loop-found.invariant.order,
    )
