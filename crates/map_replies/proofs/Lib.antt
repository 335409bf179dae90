pub mod Along
mod Answering
mod Apart
mod BoxLemmas
mod CheckedEdits
mod ConditionLemmas
mod ConfirmedLemmas
pub mod Connections
pub mod Passing
mod TicketLemmas
mod PartLemmas
mod FeedLemmas
pub mod Goes
mod LateBeginnings
mod ListedReplies
mod ListLemmas
mod NumberedEdits
pub mod Meanwhiles
mod OldestLemmas
mod Pushed
mod ReadyLemmas
mod Routed
pub mod SendingLemmas
mod Texts
mod Told
mod TileLemmas
mod PageLemmas
mod LimitNumbers
mod WholeSteps
mod OneMethod
pub mod Quiet
pub mod NumberedPuts
