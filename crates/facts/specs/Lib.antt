pub mod Numbers
pub mod Points
pub mod Format
pub mod Whole
pub mod Text
pub mod Atoms
