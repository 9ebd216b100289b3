mod Concluding
mod Gathering
mod Plain
mod Numerals
mod Readback
