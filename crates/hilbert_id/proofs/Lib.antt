pub mod Ids
pub mod Laws
pub mod LimitNumbers
pub mod Positions
pub mod Powers
pub mod Stands
pub mod SameTile
