mod Printing
mod Recording
