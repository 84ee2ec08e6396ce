pub mod Points
pub mod Unread
pub mod Gathering
pub mod Texted
pub mod Drawn
pub mod Short
pub mod OneAnswer
mod OneReading
mod OneFile
mod OneDrawing
mod ExactReadings
mod SomeDrawing
pub mod Frames
pub mod Lowest
pub mod Framed
pub mod FrameAnswers
mod EdgeLines
mod StripFiles
mod PlainTexts
mod PatternText
