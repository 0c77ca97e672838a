-- The definitions on worked inputs, proved or refuted.
mod CopyRows
mod Writes
