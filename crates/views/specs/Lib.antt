pub mod Blocks
pub mod Trails
pub mod Trips
