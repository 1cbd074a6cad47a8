pub mod Classifications
pub mod Headline
pub mod Lives
pub mod NumberWords
pub mod NumbersTold
pub mod OneOutput
pub mod TypeNumbers
pub mod UnreadLines
