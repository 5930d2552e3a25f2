mod Moved
mod Pictured
