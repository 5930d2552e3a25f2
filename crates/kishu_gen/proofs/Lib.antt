mod Making
mod Texts
