mod Ends
mod LimitNumbers
mod Numerals
mod Reasons
