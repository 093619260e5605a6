-- One row or two are filled, depending on the start kind.
use Rattle.std.proofs.Common.{◌≡◌, ℕ, sym, refl, subst}
use Rattle.ac_input.specs.declared.search.Anchored.{Anchored}
use Rattle.ac_input.specs.declared.search.Anchored.TheVariants.{No, Yes}
use Rattle.ac_input.specs.declared.search.StartKind.{StartKind}
use Rattle.ac_input.specs.declared.search.StartKind.TheVariants as starts
use Rattle.ac_input.specs.Dfa.{Serves}
use Rattle.ac_tables.specs.declared.dfa.fill.Filler.{Filler}
use Rattle.ac_tables.specs.Dfa.Fill.{ArePairMet, row_plan_of}
use Rattle.ac_tables.proofs.dfa.FilledLemmas.{HasOwnRow, filled-plain, filled-anchored, filled-both, blank-still}
use Rattle.ac_tables.proofs.dfa.fill.Filler.fill.Goals as goal

-- which anchorings a start kind serves
serves-plain : (kind : StartKind) → kind ≡ starts.Unanchored → Serves kind No × (¬ Serves kind Yes)
serves-plain kind is =
    subst (λ k. Serves k No × (¬ Serves k Yes)) (sym is) (refl, λ e. let f : Yes ≡ No = e in cc)

serves-anchored : (kind : StartKind) → kind ≡ starts.Anchored → (¬ Serves kind No) × Serves kind Yes
serves-anchored kind is =
    subst (λ k. (¬ Serves k No) × Serves k Yes) (sym is) (λ e. let f : No ≡ Yes = e in cc, refl)

serves-both : (kind : StartKind) (a : Anchored) → kind ≡ starts.Both → Serves kind a
serves-both kind a is = subst (λ k. Serves k a) (sym is) tt

-- both rows are of states that searches may come to
both-own : (f : Filler) {plain anchored : ℕ} → f.numbers.kind ≡ starts.Both → ArePairMet f plain anchored
    → HasOwnRow (row_plan_of f) No plain × HasOwnRow (row_plan_of f) Yes anchored
both-own f both met = (
  record { serves = serves-both f.numbers.kind No both; met = met.0; past = met.1 },
  record { serves = serves-both f.numbers.kind Yes both; met = met.2; past = met.3 },
)

pub fill_anchored-requires-in-Both-clause-blank : goal.fill_anchored-requires-in-Both-clause-blank
fill_anchored-requires-in-Both-clause-blank c =
    let p = row_plan_of c.args.self.now in
    let own = both-own c.args.self.now c.in-Both.is c.requires.met in
    blank-still p c.args.plain c.args.anchored c.args.trans.now c.fill_unanchored-in-Both.new.trans c.args.self.now.fit
    own.0 own.1 c.fill_unanchored-in-Both.ensures.alone (c.requires.blank own.1.serves)

pub returns-in-Unanchored : goal.returns-in-Unanchored
returns-in-Unanchored c =
    let p = row_plan_of c.args.self.now in
    let met = c.requires.met in
    let s = serves-plain p.kind c.in-Unanchored.is in
    filled-plain p c.args.plain c.args.anchored c.args.trans.now c.fill_unanchored.new.trans c.args.self.now.fit
    (record { serves = s.0; met = met.0; past = met.1 }) s.1
    (record { changed = c.fill_unanchored.ensures.alone; right = c.fill_unanchored.ensures.right })

pub returns-in-Anchored : goal.returns-in-Anchored
returns-in-Anchored c =
    let p = row_plan_of c.args.self.now in
    let met = c.requires.met in
    let s = serves-anchored p.kind c.in-Anchored.is in
    filled-anchored p c.args.plain c.args.anchored c.args.trans.now c.fill_anchored.new.trans c.args.self.now.fit s.0
    (record { serves = s.1; met = met.2; past = met.3 })
    (record { changed = c.fill_anchored.ensures.alone; right = c.fill_anchored.ensures.right })

pub returns-in-Both : goal.returns-in-Both
returns-in-Both c =
    let p = row_plan_of c.args.self.now in
    let own = both-own c.args.self.now c.in-Both.is c.requires.met in
    filled-both p c.args.plain c.args.anchored c.args.trans.now c.fill_unanchored-in-Both.new.trans
    c.fill_anchored-in-Both.new.trans c.args.self.now.fit own.0 own.1
    (record { changed = c.fill_unanchored-in-Both.ensures.alone; right = c.fill_unanchored-in-Both.ensures.right })
    (record { changed = c.fill_anchored-in-Both.ensures.alone; right = c.fill_anchored-in-Both.ensures.right })
