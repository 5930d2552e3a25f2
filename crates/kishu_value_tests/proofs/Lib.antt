mod Parameters
mod Slices
