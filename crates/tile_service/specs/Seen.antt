-- What the author of an edit saw, compared with the map.
pub use Rattle.cached_map.specs.Seen.{IsAsSeen, IsFirstChanged}
