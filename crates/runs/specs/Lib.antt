pub mod Histories
pub mod Traces
pub mod Promise
pub mod Told
