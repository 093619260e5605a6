-- The bucket of the place's hash is searched, one entry at a time.
use Rattle.std.proofs.Common.{◌≡◌, sym, ◌∙◌, arith}
use Rattle.ac_input.specs.Occurrence.{StartsAt}
use Rattle.ac_input.specs.Best.{IsLeast}
use Rattle.ac_literal.specs.Packed.{search_kind, part_search}
use Rattle.ac_literal.proofs.packed.TableLemmas.{search-head, search-next, search-found, search-none, when_found, when_absent}
use Rattle.ac_literal.proofs.packed.rabinkarp.RabinKarp.find_at.Goals as goal

pub loop-link-init : goal.loop-link-init
loop-link-init c =
    rw c.bucket_of.ensures.value
    (search-head c.args.patterns.now c.args.haystack.now c.args.span.start c.args.span.end c.args.at c.args.hash
    c.args.self.now c.requires.table c.requires.hash)

pub returns-then-is_some : goal.returns-then-is_some
returns-then-is_some c =
    let found = rw c.entry-entry.ensures at c.match_at-found.ensures in
    let s = part_search c.args.patterns.now c.args.haystack.now c.args.span.start c.args.span.end in
    when_found (IsLeast (search_kind c.args.self.now.kind) (StartsAt s c.args.at)) _ c.match_at-found.result
    (sym c.is_some.ensures ∙ c.if-is_some.true) found
    (search-found c.args.patterns.now c.args.haystack.now c.args.span.start c.args.span.end c.args.at c.args.hash
    c.args.self.now c.requires.table c.requires.hash c.requires.within c.loop-link.invariant c.loop-link-test.true)

pub loop-link-preserved : goal.loop-link-preserved
loop-link-preserved c =
    let found = rw c.entry-entry.ensures at c.match_at-found.ensures in
    rw c.entry-entry.ensures
    (search-next c.args.patterns.now c.args.haystack.now c.args.span.start c.args.span.end c.args.at c.args.hash
    c.args.self.now c.requires.table c.requires.hash c.loop-link.invariant c.loop-link-test.true
    (when_absent _ c.match_at-found.result (sym c.is_some.ensures ∙ c.if-is_some.false) found))

pub returns : goal.returns
returns c =
    let empty : c.loop-link.link ≡ 0 = omega arith in
    search-none c.args.patterns.now c.args.haystack.now c.args.span.start c.args.span.end c.args.at c.args.hash
    c.args.self.now c.requires.table c.requires.hash c.requires.within
    (rw empty at c.loop-link.invariant)
