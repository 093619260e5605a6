use Rattle.std.proofs.Common.{length, ap, arith, append_assoc, append-nil}
use Rattle.ac_input.proofs.lemmas.AmongLemmas.{among-some, among-none, among-walk_one, among-within}
use Rattle.ac_input.proofs.lemmas.WordLemmas.{asked-counted}
use Rattle.test_plain.specs.Naive.{Plain}
use Rattle.test_plain.proofs.plain.Occurrences.{fits_too}
use Rattle.test_plain.proofs.plain.Naive.walk.Goals as goal

pub loop-found-smaller : goal.loop-found-smaller
loop-found-smaller c =
    let s : Plain = c.args.self.now in
    let fits = fits_too c.self.view_is c.self.invariant.1 in
    let rest = among-some (asked-counted s.words) fits c.in-Some.ensures in
    rw (ap (λ o. o.end) c.found.view_is) (omega (arith, ap length rest))

pub loop-found-preserved : goal.loop-found-preserved
loop-found-preserved c =
    let s : Plain = c.args.self.now in
    let fits = fits_too c.self.view_is c.self.invariant.1 in
    let within = among-within (asked-counted s.words) c.in-Some.ensures in
    let rest = among-some (asked-counted s.words) fits c.in-Some.ensures in
    rw (ap (λ o. o.end) c.found.view_is, c.in_ok-push.ensures.items)
    (record { within = omega arith; rest = rw (append_assoc, ← rest) c.loop-found.invariant.rest })

pub returns : goal.returns
returns c =
    let s : Plain = c.args.self.now in
    let fits = fits_too c.self.view_is c.self.invariant.1 in
    let none = among-none (asked-counted s.words) fits c.in_default.ensures in
    (among-walk_one (asked-counted s.words) _ s.search s.search.start _ _ fits).1
    (rw (none, append-nil) at c.loop-found.invariant.rest)
