pub mod Areas
pub mod Disks
pub mod Faults
pub mod Installs
pub mod Sectors
pub mod Upgrades
pub mod Written
