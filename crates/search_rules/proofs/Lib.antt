pub mod FamilyLemmas
pub mod StepLemmas
pub mod BoxLemmas
pub mod TrailLemmas
pub mod WalkLemmas
pub mod LearnLemmas
pub mod StateLemmas
pub mod MeasureLemmas
