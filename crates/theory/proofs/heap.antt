-- The heap: pieces, unused granules, free runs.
pub mod Lists
pub mod Walk
pub mod Pieces
pub mod Facts
pub mod Sums
pub mod Free
pub mod Unused
pub mod Outside
pub mod Signs
