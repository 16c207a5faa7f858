pub mod Covers
pub mod Inversions
pub mod Replies
