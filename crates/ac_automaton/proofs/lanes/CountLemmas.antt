-- What four walks side by side count.
use Rattle.std.proofs.Common.{◌≡◌, ℕ, ◌+◌, ◌*◌, ap, arith}
use Rattle.ac_input.specs.Number.{StateID}
use Rattle.ac_input.specs.Steps.{Done}
use Rattle.ac_input.specs.declared.steps.Steps.{Steps}
use Rattle.ac_automaton.specs.Ahead.{HaveRead}
use Rattle.ac_automaton.specs.declared.lanes.Lanes.{Lanes}

-- nothing was done
pub done-none : (s : Steps) → Done 0 0 0 s s
done-none s = record { looked = omega arith; scanned = omega arith; moved = omega arith }

-- one look for a byte of each lane
pub done-turn : (n : ℕ) {s t a b c d : Steps} → Done (4 * n) 0 0 s t → Done 1 0 0 t a → Done 1 0 0 a b
    → Done 1 0 0 b c
    → Done 1 0 0 c d → Done (4 * (n + 1)) 0 0 s d
done-turn n before one two three four =
    record { looked = omega arith; scanned = omega arith; moved = omega arith }

-- the lanes read no byte
pub read-none : (lanes : Lanes) (s : Steps) → HaveRead lanes lanes s s
read-none lanes s =
    record {
      read = 0;
      each = record { a = omega arith; b = omega arith; c = omega arith; d = omega arith };
      counted = done-none s;
    }

-- the lanes read so many bytes more
pub read-by : (lanes result : Lanes) (n : ℕ) (a b c d : StateID) {s t : Steps}
    → result.a ≡ record lanes.a { at = lanes.a.at + n; sid = a }
    → result.b ≡ record lanes.b { at = lanes.b.at + n; sid = b }
    → result.c ≡ record lanes.c { at = lanes.c.at + n; sid = c }
    → result.d ≡ record lanes.d { at = lanes.d.at + n; sid = d }
    → Done (4 * n) 0 0 s t → HaveRead lanes result s t
read-by lanes result n a b c d is_a is_b is_c is_d done = record {
  read = n;
  each = record {
    a = ap (λ lane. lane.at) is_a;
    b = ap (λ lane. lane.at) is_b;
    c = ap (λ lane. lane.at) is_c;
    d = ap (λ lane. lane.at) is_d;
  };
  counted = done;
}

-- the lanes read on, and then on from there
pub read-join : {one two three : Lanes} {s t u : Steps} → HaveRead one two s t → HaveRead two three t u
    → HaveRead one three s u
read-join before after =
    let n : ℕ = before.read in
    let m : ℕ = after.read in
    let p = before.each in
    let q = after.each in
    let x = before.counted in
    let y = after.counted in
    record {
      read = n + m;
      each = record { a = omega arith; b = omega arith; c = omega arith; d = omega arith };
      counted = record { looked = omega arith; scanned = omega arith; moved = omega arith };
    }
