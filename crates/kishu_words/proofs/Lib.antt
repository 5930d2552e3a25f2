mod Walks
mod Steps
mod Whole
mod Ends
mod Parsed
mod Stores
mod Numerals
mod Rows
