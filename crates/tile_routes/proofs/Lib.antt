mod Digits
mod Inserts
mod Keys
mod Methods
mod TileParts
mod Texts
