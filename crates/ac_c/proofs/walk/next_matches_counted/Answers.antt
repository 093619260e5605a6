-- The walk goes on from the cursor, which is then moved to where the walk stands.
use Rattle.std.proofs.Common.{false, true, length, rules}
use Rattle.std.proofs.lemmas.Bool.{le-leb, lt-leb}
use Rattle.ac_c.proofs.walk.CursorLemmas.{cursor-some, some-cost}
use Rattle.ac_c.proofs.walk.next_matches_counted.Goals as goal

pub returns-in-Ok-clause-some : goal.returns-in-Ok-clause-some
returns-in-Ok-clause-some c =
    let valid = c.in-Some.ensures.0 in
    let s = cursor-some false c.args.ac.now c.args.haystack.now c.args.cursor c.in-Ok.matches c.args.out.now
    c.taken.new.out _ _ c.taken.result (search rules) valid
    (rw (c.in-Some.ensures.1, c.place_at.ensures) at c.in-Ok.ensures.1) c.taken.ensures in
    ((valid, rw c.in-Some.ensures.1 at c.in-Ok.ensures.0), s.0, s.1)

pub returns-in-Ok-clause-cost : goal.returns-in-Ok-clause-cost
returns-in-Ok-clause-cost c =
    some-cost false c.args.ac.now c.args.haystack.now c.args.cursor c.in-Ok.matches _ _ _ _ c.taken.result
    (rw (c.in-Some.ensures.1, c.place_at.ensures) at c.in-Ok.ensures.1) c.taken.ensures
    (lt-leb 16 (length c.args.out.now) (search rules))

pub returns-in-Ok-try_find_iter_ahead_from-clause-some : goal.returns-in-Ok-try_find_iter_ahead_from-clause-some
returns-in-Ok-try_find_iter_ahead_from-clause-some c =
    let valid = c.in-Some.ensures.0 in let begun = c.in-Ok-try_find_iter_ahead_from in
    let t = c.taken-in-Ok-try_find_iter_ahead_from in
    let s = cursor-some true c.args.ac.now c.args.haystack.now c.args.cursor begun.matches c.args.out.now t.new.out _ _
    t.result (search rules) valid (rw (c.in-Some.ensures.1, c.place_at-2.ensures) at begun.ensures.1) t.ensures in
    ((valid, rw c.in-Some.ensures.1 at begun.ensures.0), s.0, s.1)

pub returns-in-Ok-try_find_iter_ahead_from-clause-cost : goal.returns-in-Ok-try_find_iter_ahead_from-clause-cost
returns-in-Ok-try_find_iter_ahead_from-clause-cost c =
    let begun = c.in-Ok-try_find_iter_ahead_from in let t = c.taken-in-Ok-try_find_iter_ahead_from in
    some-cost true c.args.ac.now c.args.haystack.now c.args.cursor begun.matches _ _ _ _ t.result
    (rw (c.in-Some.ensures.1, c.place_at-2.ensures) at begun.ensures.1) t.ensures
    (le-leb 16 (length c.args.out.now) (search rules))
