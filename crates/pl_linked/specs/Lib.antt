pub mod Accounted
pub mod AccountedLaws
pub mod Linked
pub mod LinkedLaws
