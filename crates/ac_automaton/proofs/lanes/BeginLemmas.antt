-- Where lanes begin.
use Rattle.std.proofs.Common.{◌≡◌, ℕ, ◌+◌, ◌*◌, ◌≤◌, Bool, List, sym, subst, refl, arith}
use Rattle.ac_input.specs.Number.{StateID}
use Rattle.ac_automaton.specs.Ahead.{CutBytes, MayBegin, lane_from}
use Rattle.ac_automaton.specs.declared.lanes.Lane.{Lane}

-- a place between two places is one between places further apart
may-wider : {after : List Bool} {bytes : List ℕ} {from to : ℕ} (less more : ℕ) {place : ℕ} → less ≤ from → to ≤ more
    → MayBegin after bytes from to place → MayBegin after bytes less more place
may-wider less more low high may =
    let past = may.past in
    let within = may.within in
    record { past = omega (arith, past, low); within = omega (arith, within, high); byte = may.byte; is = may.is }

-- four lanes that begin where they may cut the bytes
pub cut-bytes : {after : List Bool} {bytes : List ℕ} (at : ℕ) (sid start : StateID) (len quarter slots own : ℕ)
    {b c d : ℕ} (la lb lc ld : Lane) → 4 * quarter ≤ len → 4 * own ≤ slots
    → MayBegin after bytes (at + quarter) (at + quarter + quarter) b
    → MayBegin after bytes (at + 2 * quarter) (at + 2 * quarter + quarter) c
    → MayBegin after bytes (at + 3 * quarter) (at + 3 * quarter + quarter) d
    → la ≡ lane_from at sid b 0 own → lb ≡ lane_from b start c own (2 * own)
    → lc ≡ lane_from c start d (2 * own) (3 * own) → ld ≡ lane_from d start (at + len) (3 * own) slots
    → CutBytes after bytes at sid start (at + len) slots (record { a = la; b = lb; c = lc; d = ld })
cut-bytes {after} {bytes} at sid start len quarter slots own {b} {c} {d} la lb lc ld few room cut_b cut_c cut_d is_a
    is_b is_c
    is_d =
    let b0 = cut_b.past in let b1 = cut_b.within in
    let c0 = cut_c.past in let c1 = cut_c.within in
    let d0 = cut_d.past in let d1 = cut_d.within in
    let a_b : at ≤ b = omega (arith, b0) in
    let b_c : b ≤ c = omega (arith, b1, c0) in
    let c_d : c ≤ d = omega (arith, c1, d0) in
    let d_end : d ≤ at + len = omega (arith, d1, few) in
    subst (λ l. CutBytes after bytes at sid start (at + len) slots (record { a = l; b = lb; c = lc; d = ld }))
    (sym is_a)
    (subst (λ l. CutBytes after bytes at sid start (at + len) slots
    (record { a = lane_from at sid b 0 own; b = l; c = lc; d = ld })) (sym is_b)
    (subst (λ l. CutBytes after bytes at sid start (at + len) slots
    (record { a = lane_from at sid b 0 own; b = lane_from b start c own (2 * own); c = l; d = ld })) (sym is_c)
    (subst (λ l. CutBytes after bytes at sid start (at + len) slots
    (record {
      a = lane_from at sid b 0 own;
      b = lane_from b start c own (2 * own);
      c = lane_from c start d (2 * own) (3 * own);
      d = l;
    })) (sym is_d)
    (record {
      a = record { is = refl; some = a_b; own = (omega arith, omega (arith, room)) };
      b = record { is = refl; some = b_c; own = (omega arith, omega (arith, room)) };
      c = record { is = refl; some = c_d; own = (omega arith, omega (arith, room)) };
      d = record { is = refl; some = d_end; own = (omega (arith, room), omega arith) };
      cut_b = may-wider at (at + len) (omega arith)
          (omega (arith, few)) cut_b;
      cut_c = may-wider b (at + len) (omega (arith, b1))
          (omega (arith, few)) cut_c;
      cut_d = may-wider c (at + len) (omega (arith, c1))
          (omega (arith, few)) cut_d;
      last = refl;
      first = refl;
      apart = (omega arith, omega arith, omega arith);
    }))))
