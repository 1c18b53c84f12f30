mod FoundPage
mod Listed
mod Offered
mod Views
