mod FileCalls
mod LimitNumbers
pub mod Laws
