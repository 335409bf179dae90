mod Exits
mod Opened
mod Served
mod Steps
mod Stretch
mod Walking
pub mod Noting
