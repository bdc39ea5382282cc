-- Finish: the sweep, the rule, what stays.
pub mod Sweep
pub mod FinishHeap
pub mod Safe
pub mod Finishes
pub mod Replaced
pub mod FinishKept
pub mod FinishMade
pub mod FinishRule
