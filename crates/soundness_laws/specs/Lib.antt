pub mod Tests
pub mod Sets
pub mod Entered
pub mod Small
