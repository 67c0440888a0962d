pub mod ListLemmas
pub mod StandingLemmas
pub mod TurnLemmas
pub mod WalkLemmas
pub mod FindLemmas
pub mod DecideLemmas
pub mod LearnLemmas
pub mod OutcomeLemmas
