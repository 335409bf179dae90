pub mod Copies
pub mod Faults
pub mod First
pub mod Shared
pub mod Walks
pub mod Noted
