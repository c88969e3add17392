pub mod Puts
pub mod Readings
