mod Calls
mod Loaded
mod Steps
mod Runs
mod Perfect_Runs
mod Delivery_Calls
