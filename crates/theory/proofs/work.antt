-- How long a cycle can drag on: what each step pays.
pub mod Tracers
pub mod PaidSections
pub mod PaidReach
pub mod PaidTrace
pub mod PaidClean
pub mod PaidHeap
pub mod Cycling
pub mod PaidSteps
pub mod Limits
