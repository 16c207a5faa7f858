pub mod Desks
pub mod Reading
