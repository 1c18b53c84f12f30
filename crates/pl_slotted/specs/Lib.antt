pub mod Slotted
