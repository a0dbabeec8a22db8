-- How the order of the limits on a page is asked.
use Rattle.std.specs.Prelude.{ℕ, cond, ◌&&◌, List, Ok, Err, Result, nat_le, slice_index}
use Rattle.command.specs.declared.fault.Fault.{Fault}
use Rattle.command.specs.declared.fault.Fault.TheVariants.{TwoStagesOutOfOrder, ThreeStagesOutOfOrder}

-- caution 2 is at most limit 2; then caution 3 at most alert 3, and that at most limit 3
abbrev pub limits_asked : List ℕ → Result (Unit {0}) Fault
limits_asked page =
    cond (nat_le (slice_index page 19) (slice_index page 20))
    (cond (nat_le (slice_index page 22) (slice_index page 23) && nat_le (slice_index page 23) (slice_index page 24)) (Ok tt) (Err ThreeStagesOutOfOrder))
    (Err TwoStagesOutOfOrder)
