-- Tiles: those of the cache, those of the archive, and the maps that they are of.
pub mod Cached
pub mod EarlierMaps
pub mod SharedRead
pub mod Tags
