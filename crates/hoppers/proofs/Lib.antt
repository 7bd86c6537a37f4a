mod Stacks
pub mod Splits
