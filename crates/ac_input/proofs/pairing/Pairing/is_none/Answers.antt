-- Where a byte that isn't its own partner is found, not every byte is its own partner.
use Rattle.std.proofs.Common.{arith, refl, sym, ◌∙◌, ◌<◌, ◌≤◌, ⊎_elim}
use Rattle.std.proofs.lemmas.Bool.{cases_lt}
use Rattle.std.proofs.lemmas.List.{get_or_default, get_or_past}
use Rattle.ac_input.proofs.lemmas.SameLemmas.{other-named}
use Rattle.ac_input.proofs.pairing.Pairing.is_none.Goals as goal

pub returns-then-self-i : goal.returns-then-self-i
returns-then-self-i c = (
  λ h. absurd (cc),
  λ own.
      let table = c.self.inside.table in
      let i = c.loop-i.i in
      let table_own = rw (← c.self.view_is) at (own i) in
      absurd (c.if-self-i.true
      (get_or_default table i 0 i (omega (arith, c.self.invariant.len)) ∙ sym (other-named table c.self.invariant i)
      ∙ table_own)),
)

pub returns : goal.returns
returns c = (
  λ h byte.
      let table = c.self.inside.table in
      rw (← c.self.view_is) (other-named table c.self.invariant byte ∙ ⊎_elim
      (λ (within : byte < 256). c.loop-i.invariant byte (omega arith))
      (λ (past : 256 ≤ byte). get_or_past table byte byte (omega (arith, c.self.invariant.len)))
      (cases_lt byte 256)),
  λ own. refl,
)
