-- Links followed from pending objects on.
pub mod Chains
pub mod Goes
pub mod Settling
pub mod Reach
