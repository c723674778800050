mod Steps
mod Twelve
mod Found
