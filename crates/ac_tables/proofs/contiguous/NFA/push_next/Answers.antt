-- A place past the last one goes after it.
use Rattle.std.proofs.Common.{◌≡◌, ◌-◌, length, slice_index, ap, sym, subst, ◌∙◌, arith}
use Rattle.std.proofs.lemmas.List.{get_or_read}
use Rattle.ac_tables.specs.Contiguous.NearReads.{ArePlacesNear}
use Rattle.ac_tables.proofs.contiguous.NearPlacesLemmas.{near-more}
use Rattle.ac_tables.proofs.contiguous.NFA.push_next.Goals as goal

pub returns : goal.returns
returns c =
    let a = c.args.self.now in
    let places = c.args.places.now.items in
    let h = c.is_left_out.ensures c.if-is_left_out.false in
    let len = c.len-len.ensures in
    let some = c.requires.near.some in
    let read = get_or_read places (c.len-len.result - 1) c.index-last.result.now (omega (arith, some, len))
    c.index-last.ensures 0 in
    let all : c.len-len.result ≡ length places = omega (arith, len) in
    let last = ap (λ n. slice_index places (n - 1)) all in
    subst (ArePlacesNear a c.args.most) (sym c.in_ok-push.ensures.items)
    (near-more a c.args.most c.args.next c.index-last.result.now places c.requires.near (sym (read ∙ last)) h.1
    (omega (arith, h.2, len)) (c.requires.met h.0))
