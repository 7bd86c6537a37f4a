mod Trims
mod Bodies
mod Cuts
mod Numerals
