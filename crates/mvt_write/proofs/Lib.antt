mod Distinct
mod FeaturesRead
pub mod Integers
pub mod Laws
pub mod LayerSteps
mod LayersRead
pub mod Lengths
pub mod LimitNumbers
mod Lists
mod Messages
pub mod Names
mod Pooled
mod Slotted
mod Spanned
mod TagSteps
mod ValuesRead
mod WriterSteps
