pub mod CoverLaws
mod SketchSteps
