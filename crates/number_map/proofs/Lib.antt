mod Between
pub mod Entries
mod Filled
mod Firsts
mod From
mod Home
mod Joined
mod Last
pub mod Numbers
mod Places
mod Search
