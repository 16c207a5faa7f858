pub mod Deliveries
pub mod Desks
pub mod Directions
pub mod Lines
pub mod Words
