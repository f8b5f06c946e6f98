mod Picking
mod Words
mod Blocks
mod Lines
mod Counting
mod Starting
mod Going
mod Reading
