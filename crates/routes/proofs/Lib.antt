pub mod AdditivePowers
pub mod Cubes
pub mod FormulaLaws
pub mod Inversions
pub mod Packing
pub mod Selections
pub mod Subfield
