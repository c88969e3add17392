pub mod Compared
pub mod Restriction
pub mod Numbers
pub mod Definitions
pub mod Cases
