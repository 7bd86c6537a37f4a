pub mod LineTrays
