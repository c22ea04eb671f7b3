pub mod Limbs
pub mod Rooms
pub mod inside
