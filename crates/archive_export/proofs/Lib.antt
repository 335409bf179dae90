mod Finds
mod Joined
