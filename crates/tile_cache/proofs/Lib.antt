pub mod Latest
pub mod LimitNumbers
pub mod Marks
pub mod Numbers
pub mod Places
