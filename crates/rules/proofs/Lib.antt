pub mod Firsts
pub mod Found
