mod MetConditions
mod OneArchive
mod SeenEdits
mod TagLemmas
