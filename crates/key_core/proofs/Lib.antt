mod Base64Keys
mod Roots
mod Steps
mod Turns
