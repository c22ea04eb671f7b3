pub mod DrawnKeys
