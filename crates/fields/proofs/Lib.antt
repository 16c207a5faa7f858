pub mod FigureLists
pub mod InPlace
pub mod JoinFacts
pub mod Steps
