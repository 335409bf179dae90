-- The published archive, as it is read.
pub mod FirstBytes
pub mod Read
pub mod Tickets
pub mod Unchanged
