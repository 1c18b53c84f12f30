pub mod Brings
pub mod CameFrom
pub mod Origins
