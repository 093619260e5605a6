-- What a slot owns: nothing at null, and elsewhere what a box of its value owns.
use base.Fml.{Fml, feq}
use denote.RattleType.{RattleType}
use denote.RawPtr.{Ptr, null_ptr}
use Rattle.std.specs.Box.Ownership.{box_owns}
use Rattle.std.specs.Global.{Global}
use Rattle.std.specs.declared.option.Option.{Option}
use Rattle.std.specs.declared.option.Option.TheVariants.{None, Some}
use Rattle.std_heap.specs.contracts.GlobalAllocator.TheImpl.{ghosts}

abbrev pub slot_owns : (R : RattleType) → Global → Ptr → Option R.Denot → Fml
slot_owns R alloc at None = feq Ptr at null_ptr
slot_owns R alloc at (Some x) = box_owns (ghosts.dealloc_token alloc) R at x
