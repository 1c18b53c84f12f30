mod BroughtBack
mod Reading
mod WantsMemory
