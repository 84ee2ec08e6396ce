mod Short
mod Fileable
mod OneFile
