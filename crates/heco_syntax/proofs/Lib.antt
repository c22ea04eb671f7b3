pub mod KindFacts
pub mod PlaceFacts
pub mod PlaceOrder
pub mod LexemeFacts
