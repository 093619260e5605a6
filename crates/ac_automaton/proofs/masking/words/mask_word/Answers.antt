-- The longest word that ends where the walk stands gets the mask.
use Rattle.std.proofs.Common.{◌+◌, sym, subst, arith}
use Rattle.ac_automaton.specs.Masking.Words.{IsLongestWord, ShowsMasked}
use Rattle.ac_automaton.proofs.masking.words.WordMaskLemmas.{longest-held, shows-none, shows-word}
use Rattle.ac_automaton.proofs.masking.words.mask_word.Goals as goal

pub returns-then-start-place-clause-masked : goal.returns-then-start-place-clause-masked
returns-then-start-place-clause-masked g c x is has =
    let m = (g.A.Automaton.built c.args.automaton.now).dictionary in
    let p = c.args.place.now in
    let long = c.longest_word-start.ensures x is has.place in
    record {
      place = has.place;
      shows = shows-none m c.args.mask c.args.window.from p.at x c.args.masked.now
          (subst (IsLongestWord m x p.at) c.if-start-place.true long) has.shows;
    }

pub overflow_sub-start : goal.overflow_sub-start
overflow_sub-start g c =
    let stands = c.requires.may in
    longest-held (g.A.Automaton.built c.args.automaton.now).dictionary c.args.window.from c.requires.near
    (c.longest_word-start.ensures stands.0 stands.1 stands.2.place)

pub returns-clause-masked : goal.returns-clause-masked
returns-clause-masked g c x is has =
    let m = (g.A.Automaton.built c.args.automaton.now).dictionary in
    let p = c.args.place.now in
    let from = c.args.window.from in
    let start = c.longest_word-start.result in
    let long = c.longest_word-start.ensures x is has.place in
    let le = long.0 in
    record {
      place = has.place;
      shows = subst (ShowsMasked m c.args.mask from (p.at + 1) x) (sym c.mask_between.ensures.masked)
          (shows-word m c.args.mask from p.at x c.args.masked.now start long
          (let other = c.if-start-place.false in omega arith) (longest-held m from c.requires.near long) has.place.within
          has.shows);
    }
