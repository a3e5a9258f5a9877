mod Reading
mod Minus
mod Unique
