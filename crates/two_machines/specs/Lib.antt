pub mod Couriers
pub mod Machines
pub mod Standby
