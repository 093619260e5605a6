use Rattle.ac_tables.proofs.contiguous.filled.rows_of.Goals as goal

pub fill-requires-clause-stride : goal.fill-requires-clause-stride
fill-requires-clause-stride c = record { least = c.stride-stride.ensures.value; wide = c.stride-stride.ensures.fits }
