pub mod Extending
pub mod Layers
pub mod Lengths
pub mod Made
pub mod Products
pub mod Reading
pub mod Rooms
pub mod Rows
