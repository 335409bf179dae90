mod AnswerLemmas
pub mod CarryLemmas
pub mod ExitLemmas
mod FoundLemmas
pub mod HandlerLemmas
pub mod KnownLemmas
mod LimitNumbers
pub mod PartLemmas
mod PieceLemmas
pub mod ReplyLemmas
pub mod ServeLemmas
mod SpellLemmas
mod TagForms
