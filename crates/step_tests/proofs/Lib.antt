pub mod StepSamples
pub mod BoundSamples
pub mod CompiledSamples
