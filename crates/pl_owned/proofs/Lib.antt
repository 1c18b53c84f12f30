mod Marks
mod OneOrder
mod OwnedSteps
pub mod OwnersTold
mod RedirectFronts
