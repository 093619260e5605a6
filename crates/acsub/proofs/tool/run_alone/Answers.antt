-- The run took its rules from the bytes, and then the writer was flushed; or the bytes could not be read.
use Rattle.std.proofs.Common.{inl, inr, refl}
use Rattle.acsub.proofs.tool.run_alone.Goals as goal

pub returns-in-Ok : goal.returns-in-Ok
returns-in-Ok g c =
    let ran = c.run_by_file-ran in
    inl (
      c.told_as.result,
      ran.new.writer,
      record {
        file = c.as_slice.result.now;
        is_file = rw c.as_slice.ensures.value c.in-Ok.ensures;
        result = ran.result;
        told = c.told_as.ensures;
        ran = ran.ensures.ran;
        counts = ran.ensures.counts;
        fault = ran.ensures.fault;
      },
      c.finish.ensures,
    )

pub returns-in-Err : goal.returns-in-Err
returns-in-Err g c = inr (c.in-Err.fault, refl, inl c.in-Err.ensures, refl)
