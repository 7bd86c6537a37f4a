mod Taking
mod Texts
