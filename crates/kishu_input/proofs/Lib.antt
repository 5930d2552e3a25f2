mod Begun
mod Reading
