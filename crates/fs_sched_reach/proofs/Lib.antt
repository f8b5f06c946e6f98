mod Adding
mod Joining
mod Looking
mod Seeking
