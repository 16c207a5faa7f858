pub mod Asking
pub mod Engines
pub mod Figures
pub mod Fips197
pub mod Keys
pub mod Layout
pub mod Schedules
pub mod Undo
