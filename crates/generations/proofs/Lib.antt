mod Exits
mod Formats
mod Layouts
mod LimitNumbers
pub mod Installs
pub mod Laws
mod Live
mod Parts
mod Roots
pub mod Upgrades
