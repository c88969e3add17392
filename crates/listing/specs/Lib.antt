pub mod Faults
pub mod Loading
pub mod Listing
pub mod Text
pub mod Dumps
pub mod Words
