mod Recording
mod Ranges
mod Passing
mod Unpadding
mod Comparing
