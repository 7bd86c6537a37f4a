pub mod Refusals
pub mod Printed
pub mod Meant
pub mod Making
pub mod Feeding
pub mod Printing
