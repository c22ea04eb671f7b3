pub mod CircuitFacts
pub mod Products
pub mod Pairs
pub mod TakenInOrder
