mod Ends
mod Cuts
mod Found
mod White
mod Places
mod Examples
