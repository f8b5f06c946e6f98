mod EntryLines
mod Objecting
mod Somes
