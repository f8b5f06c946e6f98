mod Boxes
mod Called
mod Noting
