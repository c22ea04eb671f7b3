pub mod KeySteps
pub mod MadeRows
pub mod PushedImages
pub mod ReadItems
