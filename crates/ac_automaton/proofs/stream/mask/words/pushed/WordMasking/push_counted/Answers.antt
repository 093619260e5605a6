-- A piece comes after room was made, and is masked.
use Rattle.std.proofs.Common.{◌<◌, length, ap, arith}
use Rattle.std.proofs.lemmas.Bool.Decides.{nat_tests}
use Rattle.std.proofs.lemmas.Result.{err_from_is_err_and}
use Rattle.ac_automaton.specs.Masking.Words.Stream.{word_mask_room}
use Rattle.ac_automaton.proofs.stream.StreamMaskLemmas.{append-masked, append-stopped}
use Rattle.ac_automaton.proofs.stream.mask.words.pushed.WordMasking.push_counted.Goals as goal

pub returns-in_err-n-clause-pushed : goal.returns-in_err-n-clause-pushed
returns-in_err-n-clause-pushed g c =
    let p = err_from_is_err_and c.from_residual.result c.from_residual.ensures.1 in
    rw (p.1, p.2)
    (append-stopped c.append.new.self c.make_room.ensures.made word_mask_room c.args.piece.now _
    (let some : 0 < length c.args.piece.now = grind (arith, nat_tests) in some) c.in_err-n.ensures.appended)

pub returns-clause-pushed : goal.returns-clause-pushed
returns-clause-pushed g c =
    let appended = c.in_ok-n.ensures.appended in
    let some : 0 < length c.args.piece.now = grind (arith, nat_tests) in
    append-masked c.append.new.self c.make_room.ensures.made word_mask_room c.args.piece.now
    (appended.1.some (λ none. let e = ap length none in omega (arith, e, some))) appended c.mask_new.ensures.masked
