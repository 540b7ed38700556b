pub mod PieceLaws
pub mod LineTexts
pub mod LineLaws
pub mod ItemLaws
