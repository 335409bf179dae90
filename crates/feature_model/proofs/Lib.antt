pub mod Ascending
pub mod Changes
pub mod LimitNumbers
pub mod Mapped
pub mod Tests
pub mod TextLengths
