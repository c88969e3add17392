pub mod Loads
pub mod Derives
pub mod InOrder
pub mod Texts
