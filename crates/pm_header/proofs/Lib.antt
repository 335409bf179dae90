pub mod Fields
pub mod LimitNumbers
