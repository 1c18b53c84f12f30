pub mod Asked
mod SameOrigin
mod SearchedPages
