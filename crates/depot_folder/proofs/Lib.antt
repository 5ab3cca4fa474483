mod Numerals
mod Unheld
