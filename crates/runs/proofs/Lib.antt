pub mod Acts
pub mod Turns
pub mod Wholes
pub mod Tellings
pub mod Grows
