-- After its sixteenth lane the vector repeats the table.
use Rattle.std.proofs.Common.{◌≡◌, ◌%◌, ◌++◌, take, length, get_or, refl, ◌∙◌, arith, get_or-take, length-take-le}
use Rattle.std.proofs.lemmas.List.{get_or_append_left}
use Rattle.std.proofs.lemmas.List.FromFn.{get_or-map-range_with_len}
use Rattle.ac_literal.proofs.packed.teddy.twice.Goals as goal

pub returns : goal.returns
returns c =
    let once = take 16 c.args.table.now in
    let long : length once ≡ 16 = length-take-le 16 c.args.table.now (omega arith) in
    record {
      long = refl;
      each = λ k within. get_or-map-range_with_len (λ j. get_or (once ++ once) (j % 16) 0) 0 32 k k 0 within
          (omega arith)
          ∙ get_or_append_left once once 0 (k % 16) (omega arith)
          ∙ get_or-take 16 c.args.table.now (k % 16) 0 (omega arith);
    }
