-- The steps that a call takes.
pub mod Progress
pub mod StepBounds
