mod Making
mod Reading
