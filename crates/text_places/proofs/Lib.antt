pub mod LinesOfText
pub mod Walking
pub mod LineBorders
mod CountedCharacters
